use Rattle.std.proofs.Common.{◌≡◌, ◌∷◌, [], ap, subst}
use Rattle.std.specs.Prelude.{OnOk, OnErr}
use Rattle.ua_read_write.specs.declared.writing.Change.{Change}
use Rattle.ua_monitored_items.specs.ItemTables.{NumberedItems}
use Rattle.ua_monitored_items.specs.Items.{visits_of, VisitedSome}
use Rattle.ua_monitored_items.specs.Releases.{shown_one}
use Rattle.ua_monitored_items.proofs.Showing.{table_after, ok_after, visits_are, one_shown}
use Rattle.ua_monitored_items.proofs.item_table.ItemTable.show.Goals as goal

pub invariant_of-self : goal.invariant_of-self
invariant_of-self c =
    let t = c.self.inside in
    let change : Change = record { node_id = c.args.node_id.now; value = c.args.value.now } in
    table_after t.made t.of_subscription t.on_node t.items c.self.invariant c.show_node.new.items (change ∷ []) c.show_node.result c.show_node.ensures.ok
    (one_shown t.on_node t.items c.show_node.new.items change c.show_node.result c.show_node.ensures.err)

pub returns-clause-ok : goal.returns-clause-ok
returns-clause-ok c =
    let t = c.self.inside in
    let change : Change = record { node_id = c.args.node_id.now; value = c.args.value.now } in
    subst (λ (es : NumberedItems). OnOk c.show_node.result (c.show_node.new.items ≡ shown_one es change)) (ap (λ s. s.items) c.self.view_is)
    (ok_after t.made t.of_subscription t.on_node t.items c.self.invariant c.show_node.new.items (change ∷ []) c.show_node.result c.show_node.ensures.ok)

pub returns-clause-err : goal.returns-clause-err
returns-clause-err c =
    let t = c.self.inside in
    let change : Change = record { node_id = c.args.node_id.now; value = c.args.value.now } in
    subst (λ (es : NumberedItems). OnErr c.show_node.result (VisitedSome es c.show_node.new.items (visits_of es change))) (ap (λ s. s.items) c.self.view_is)
    (visits_are t.made t.of_subscription t.on_node t.items c.show_node.new.items change c.show_node.result c.self.invariant c.show_node.ensures.err)
