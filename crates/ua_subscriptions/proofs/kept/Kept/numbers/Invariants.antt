use Rattle.std.proofs.Common.{◌≡◌, ◌++◌}
use Rattle.std.specs.Prelude.{map}
use Rattle.ua_subscriptions.specs.Answers.{number_of}
use Rattle.ua_subscriptions.proofs.kept.Kept.numbers.Given as goal

-- the numbers so far, and those to come
abbrev pub invariant-loop-message : goal.invariant-loop-message
invariant-loop-message l =
    (goal.iterator-loop-message).can_next l.message-iterator × (goal.iterator-loop-message).is_finite l.message-iterator
    × (l.numbers.items ++ map number_of l.message-iterator ≡ map number_of l.self)
