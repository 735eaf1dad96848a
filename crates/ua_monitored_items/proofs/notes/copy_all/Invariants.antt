use Rattle.std.proofs.Common.{◌≡◌, ◌++◌, take}
use Rattle.ua_monitored_items.specs.Taking.{told_by}
use Rattle.ua_monitored_items.proofs.notes.copy_all.Given as goal

-- what was copied, and what the other items have to tell of what is wanted yet
abbrev pub invariant-loop-number : goal.invariant-loop-number
invariant-loop-number l =
    (goal.iterator-loop-number).can_next l.number-iterator × (goal.iterator-loop-number).is_finite l.number-iterator
    × (l.notes.items ++ take l.left (told_by l.items l.number-iterator) ≡ take l.count (told_by l.items l.numbers.keys))
