use Rattle.std.proofs.Common.{◌≡◌, ◌++◌}
use Rattle.std.specs.Prelude.{map}
use Rattle.ua_subscriptions.specs.Ranks.{number_of}
use Rattle.ua_subscriptions.proofs.ranks.Ranks.numbers.Given as goal

-- the numbers so far, and those to come
abbrev pub invariant-loop-rank : goal.invariant-loop-rank
invariant-loop-rank l =
    (goal.iterator-loop-rank).can_next l.rank-iterator × (goal.iterator-loop-rank).is_finite l.rank-iterator
    × (l.numbers.items ++ map number_of l.rank-iterator ≡ map number_of l.self)
