use Rattle.std.proofs.Common.{sym, subst}
use Rattle.ua_monitored_items.specs.ItemTables.{NumberedItems, IsTable}
use Rattle.ua_monitored_items.proofs.Releasing.{table_released}
use Rattle.ua_monitored_items.proofs.item_table.ItemTable.release.Goals as goal

pub invariant_of-self : goal.invariant_of-self
invariant_of-self c =
    let t = c.self.inside in
    subst (λ (es : NumberedItems). IsTable t.made es t.of_subscription t.on_node) (sym c.release_all.ensures)
    (table_released t.made t.of_subscription t.on_node t.items c.args.releases.now c.self.invariant)
