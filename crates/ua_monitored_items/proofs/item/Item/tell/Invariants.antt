use Rattle.std.proofs.Common.{◌≡◌, take}
use Rattle.ua_subscription_messages.specs.DataChangeMessages.{with_notes}
use Rattle.ua_monitored_items.specs.Item.{notes_of}
use Rattle.ua_monitored_items.proofs.item.Item.tell.Given as goal

-- so many values were told
abbrev pub invariant-loop-index : goal.invariant-loop-index
invariant-loop-index l = l.message ≡ with_notes l.fn.message (take l.index (notes_of l.self))
