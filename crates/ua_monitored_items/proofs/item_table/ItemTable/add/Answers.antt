use Rattle.std.proofs.Common.{◌≡◌, ◌+◌, arith, sym, ap, subst, ◌∙◌}
use Rattle.std.specs.BTreeMap.{is_at}
use Rattle.std.specs.Map.{remove_entry}
use Rattle.std.specs.Ordering.{nat_cmp}
use Rattle.ua_types.specs.NodeIdOrder.{id_cmp}
use Rattle.ua_monitored_items.specs.ItemTables.{NumberedItems, TableState, is_of, is_on, IsTable, IsPut, IsTakenOut}
use Rattle.ua_monitored_items.specs.declared.item.Item.{Item}
use Rattle.ua_monitored_items.proofs.Following.{none_yet}
use Rattle.ua_monitored_items.proofs.Tables.{table_put, table_put_back, put_and_taken, put_and_removed}
use Rattle.ua_monitored_items.proofs.item_table.ItemTable.add.Goals as goal

pub insert-requires : goal.insert-requires
insert-requires c = none_yet c.self.inside.made (c.self.inside.made + 1) (omega arith) c.self.inside.items c.self.invariant.within

pub invariant_of-self : goal.invariant_of-self
invariant_of-self c =
    let t = c.self.inside in
    table_put_back t.made t.items t.of_subscription t.on_node c.self.invariant c.args.item c.index_item.new.of_subscription c.index_item.new.on_node
    c.in_err-index_item.ensures.err_subscriptions c.in_err-index_item.ensures.err_nodes

pub invariant_of-self-in-Ok : goal.invariant_of-self-in-Ok
invariant_of-self-in-Ok c =
    let t = c.self.inside in
    subst (λ (es : NumberedItems). IsTable (t.made + 1) es c.index_item.new.of_subscription c.index_item.new.on_node) (sym c.in-Ok.ensures.ok)
    (table_put t.made t.items t.of_subscription t.on_node c.self.invariant c.args.item c.index_item.new.of_subscription c.index_item.new.on_node
    c.requires.disabled c.in_ok-index_item.ensures.subscriptions c.in_ok-index_item.ensures.nodes)

pub invariant_of-self-in-Err : goal.invariant_of-self-in-Err
invariant_of-self-in-Err c =
    let t = c.self.inside in
    let is : c.in-Err.item ≡ c.args.item = c.in-Err.ensures.back in
    let out_sub : IsTakenOut nat_cmp c.index_item.new.of_subscription c.unindex_item.new.of_subscription (λ q. is_of q c.in-Err.item) (t.made + 1) = c.unindex_item.ensures.subscriptions in
    let out_node : IsTakenOut id_cmp c.index_item.new.on_node c.unindex_item.new.on_node (λ id. is_on id c.in-Err.item) (t.made + 1) = c.unindex_item.ensures.nodes in
    let in_sub = subst (λ (i : Item). IsPut nat_cmp t.of_subscription c.index_item.new.of_subscription (λ q. is_of q i) (t.made + 1)) (sym is) c.in_ok-index_item.ensures.subscriptions in
    let in_node = subst (λ (i : Item). IsPut id_cmp t.on_node c.index_item.new.on_node (λ id. is_on id i) (t.made + 1)) (sym is) c.in_ok-index_item.ensures.nodes in
    subst (λ (es : NumberedItems). IsTable t.made es c.unindex_item.new.of_subscription c.unindex_item.new.on_node) (sym c.in-Err.ensures.err)
    (table_put_back t.made t.items t.of_subscription t.on_node c.self.invariant c.args.item c.unindex_item.new.of_subscription c.unindex_item.new.on_node
    (put_and_taken nat_cmp t.of_subscription c.index_item.new.of_subscription c.unindex_item.new.of_subscription (λ q. is_of q c.in-Err.item) (t.made + 1) in_sub out_sub)
    (put_and_taken id_cmp t.on_node c.index_item.new.on_node c.unindex_item.new.on_node (λ id. is_on id c.in-Err.item) (t.made + 1) in_node out_node))

pub returns-in-Ok-clause-back : goal.returns-in-Ok-clause-back
returns-in-Ok-clause-back c =
    let t = c.self.inside in
    subst (λ (s : TableState). remove_entry (is_at (nat_cmp (s.made + 1))) c.insert.new.self ≡ s.items) c.self.view_is
    (ap (remove_entry (is_at (nat_cmp (t.made + 1)))) c.in-Ok.ensures.ok ∙ put_and_removed t.made c.args.item t.items c.self.invariant.within)
