use Rattle.std.proofs.Common.{◌≡◌, ◌++◌, List, ℕ}
use Rattle.ua_monitored_items.specs.Items.{taken_of}
use Rattle.ua_monitored_items.proofs.notes.send_all.Given as goal

-- the first items have sent theirs, and the others are left
abbrev pub invariant-loop-number : goal.invariant-loop-number
invariant-loop-number l =
    (goal.iterator-loop-number).can_next l.number-iterator × (goal.iterator-loop-number).is_finite l.number-iterator
    × (front : List ℕ) × (front ++ l.number-iterator ≡ l.numbers.keys)
    × (l.items ≡ (taken_of l.fn.items l.count front).items)
    × (l.left ≡ (taken_of l.fn.items l.count front).left)
