use Rattle.std.proofs.Common.{sym, subst}
use Rattle.ua_monitored_items.specs.Editing.{edited}
use Rattle.ua_monitored_items.specs.ItemTables.{NumberedItems, IsTable}
use Rattle.ua_monitored_items.proofs.Editing.{empty_edited, may_edit, there_edited}
use Rattle.ua_monitored_items.proofs.Tables.{table_changed}
use Rattle.ua_monitored_items.proofs.item_table.ItemTable.edit.Goals as goal

pub edit-requires : goal.edit-requires
edit-requires c = may_edit c.args.edit c.args.number c.self.inside.items c.self.invariant.disabled

pub invariant_of-self : goal.invariant_of-self
invariant_of-self c =
    let t = c.self.inside in
    subst (λ (es : NumberedItems). IsTable t.made es t.of_subscription t.on_node) (sym c.edit.ensures)
    (table_changed t.made t.items t.of_subscription t.on_node c.self.invariant c.args.number (edited c.args.edit) (there_edited c.args.edit) (empty_edited c.args.edit))
