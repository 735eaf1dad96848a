use Rattle.std.proofs.Common.{subst}
use Rattle.collections.proofs.NumberMaps.{lent_found}
use Rattle.ua_monitored_items.specs.Editing.{edited, MayEdit}
use Rattle.ua_monitored_items.specs.ItemTables.{item_at}
use Rattle.ua_monitored_items.proofs.Edits.{changed_there}
use Rattle.ua_monitored_items.proofs.counted_items.edit_at.Goals as goal

pub edit-requires : goal.edit-requires
edit-requires c =
    subst (MayEdit c.args.edit) (lent_found c.get_mut.result (item_at c.args.number c.args.items.now) c.in_ok-item.item c.in_ok-item.was c.get_mut.ensures.value) c.requires

pub returns-clause-items : goal.returns-clause-items
returns-clause-items c =
    changed_there c.args.number (edited c.args.edit) c.args.items.now (c.get_mut.follows.lender c.edit-2.new.self) c.get_mut.result c.in_ok-item.item c.edit-2.new.self
    c.in_ok-item.was c.get_mut.ensures.value (c.get_mut.follows.holds c.edit-2.new.self) c.edit-2.ensures
