-- An item that is changed where it stands is still there, and one that is disabled still holds nothing.
use Rattle.std.proofs.Common.{ℕ}
use Rattle.ua_monitored_items.specs.Editing.{edited, MayEdit}
use Rattle.ua_monitored_items.specs.ItemTables.{NumberedItems, item_at, DisabledAreEmpty}
use Rattle.ua_monitored_items.specs.declared.item.Item.{Item}
use Rattle.ua_monitored_items.specs.declared.edit.Edit.{Edit}
use Rattle.ua_monitored_items.specs.declared.edit.Edit.TheVariants.{Modify, SetMode, Release, SetLinks}
use Rattle.ua_monitored_items.proofs.DisabledItems.{KeepsEmpty, empty_found, empty_modified, empty_moded, empty_released}
use Rattle.ua_monitored_items.proofs.Releasing.{there_linked, there_released}
use Rattle.ua_monitored_items.proofs.Tables.{IsThere, there_moded, there_modified_with}

pub there_edited : (edit : Edit) (item : Item) → IsThere item (edited edit item)
there_edited (Modify modification) = there_modified_with modification
there_edited (SetMode mode first) = there_moded mode first
there_edited (Release subscription) = there_released subscription
there_edited (SetLinks links) = there_linked links

pub empty_edited : (edit : Edit) → KeepsEmpty (edited edit)
empty_edited (Modify modification) = empty_modified modification
empty_edited (SetMode mode first) = empty_moded mode first
empty_edited (Release subscription) = empty_released subscription
empty_edited (SetLinks links) = λ item none. none

pub may_edit : (edit : Edit) (number : ℕ) (items : NumberedItems) → DisabledAreEmpty items → MayEdit edit (item_at number items)
may_edit (Modify modification) number items empty = tt
may_edit (SetMode mode first) number items empty = empty_found number items empty
may_edit (Release subscription) number items empty = tt
may_edit (SetLinks links) number items empty = tt
