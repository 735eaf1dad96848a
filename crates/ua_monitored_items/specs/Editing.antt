-- What changes an item where it stands.
use Rattle.std.specs.Prelude.{⊤, Option, IfSome}
use Rattle.ua_item_queue.specs.ItemQueue.{resized}
use Rattle.ua_monitored_items.specs.Item.{released_in, with_links}
use Rattle.ua_monitored_items.specs.ItemTables.{DisabledIsEmpty}
use Rattle.ua_monitored_items.specs.Preparing.{moded_from}
use Rattle.ua_monitored_items.specs.declared.item.Item.{Item}
use Rattle.ua_monitored_items.specs.declared.edit.Modification.{Modification}
use Rattle.ua_monitored_items.specs.declared.edit.Edit.{Edit}
use Rattle.ua_monitored_items.specs.declared.edit.Edit.TheVariants.{Modify, SetMode, Release, SetLinks}

-- other parameters, with the trigger and the size that were judged
abbrev pub modified_with : Modification → Item → Item
modified_with modification item = record item {
  client_handle = modification.client_handle;
  timestamps = modification.timestamps;
  trigger = modification.trigger;
  queue = resized item.queue modification.size modification.discard_oldest;
}

abbrev pub edited : Edit → Item → Item
edited (Modify modification) item = modified_with modification item
edited (SetMode mode first) item = moded_from mode first item
edited (Release subscription) item = released_in subscription item
edited (SetLinks links) item = with_links links item

-- a mode is set where a disabled item holds nothing
abbrev pub MayEdit : Edit → Option Item → Type 0
MayEdit (SetMode mode first) found = IfSome found DisabledIsEmpty
MayEdit edit found = ⊤
