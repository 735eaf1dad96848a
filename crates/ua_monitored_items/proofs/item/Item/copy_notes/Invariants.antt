use Rattle.std.proofs.Common.{◌≡◌, ◌++◌, take}
use Rattle.ua_monitored_items.specs.Item.{notes_of}
use Rattle.ua_monitored_items.proofs.item.Item.copy_notes.Given as goal

-- so many values were copied
abbrev pub invariant-loop-index : goal.invariant-loop-index
invariant-loop-index l = l.notes.items ≡ l.fn.notes.items ++ take l.index (notes_of l.self)
