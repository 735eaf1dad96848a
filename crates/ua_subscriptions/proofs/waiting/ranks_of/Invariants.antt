use Rattle.std.proofs.Common.{◌≡◌, fold}
use Rattle.ua_subscriptions.specs.DueLists.{with_rank_at, ranks_at}
use Rattle.ua_subscriptions.proofs.waiting.ranks_of.Given as goal

-- with those of the numbers that are left all are there
abbrev pub invariant-loop-number : goal.invariant-loop-number
invariant-loop-number l =
    (goal.iterator-loop-number).can_next l.number-iterator × (goal.iterator-loop-number).is_finite l.number-iterator
    × (fold (with_rank_at l.subscriptions.entries) l.ranks l.number-iterator ≡ ranks_at l.subscriptions.entries l.numbers.keys)
