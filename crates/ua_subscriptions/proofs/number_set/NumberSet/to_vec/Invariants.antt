use Rattle.std.proofs.Common.{◌≡◌, ◌++◌}
use Rattle.ua_subscriptions.proofs.number_set.NumberSet.to_vec.Given as goal

-- the numbers so far, and those to come
abbrev pub invariant-loop-number : goal.invariant-loop-number
invariant-loop-number l =
    (goal.iterator-loop-number).can_next l.number-iterator × (goal.iterator-loop-number).is_finite l.number-iterator
    × (l.numbers.items ++ l.number-iterator ≡ l.self)
