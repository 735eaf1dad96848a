-- An item that is made disabled has no value.
use Rattle.std.proofs.Common.{◌≡◌, true, [], sym, ◌∙◌}
use Rattle.std.proofs.lemmas.Bool.{false≢true}
use Rattle.ua_monitored_items.specs.Item.{is_enabled}
use Rattle.ua_monitored_items.specs.ItemTables.{DisabledIsEmpty}
use Rattle.ua_monitored_items.specs.declared.item.Item.{Item}

pub enabled_may_hold : (item : Item) → is_enabled item.mode ≡ true → DisabledIsEmpty item
enabled_may_hold item is off = absurd (false≢true (sym off ∙ is))

pub none_is_empty : (item : Item) → item.queue.entries ≡ [] → DisabledIsEmpty item
none_is_empty item none off = none
