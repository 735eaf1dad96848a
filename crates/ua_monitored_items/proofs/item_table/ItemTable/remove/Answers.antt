use Rattle.std.proofs.Common.{sym, subst}
use Rattle.ua_monitored_items.specs.ItemTables.{NumberedItems, IsTable}
use Rattle.ua_monitored_items.proofs.Tables.{table_removed}
use Rattle.ua_monitored_items.proofs.item_table.ItemTable.remove.Goals as goal

pub invariant_of-self : goal.invariant_of-self
invariant_of-self c =
    let t = c.self.inside in
    subst (λ (es : NumberedItems). IsTable t.made es c.unindex_item.new.of_subscription c.unindex_item.new.on_node) (sym c.remove.ensures.items)
    (table_removed t.made t.items t.of_subscription t.on_node c.self.invariant c.in-Some.item c.unindex_item.new.of_subscription c.unindex_item.new.on_node
    c.args.number (sym c.in-Some.ensures.item) c.unindex_item.ensures.subscriptions c.unindex_item.ensures.nodes)
