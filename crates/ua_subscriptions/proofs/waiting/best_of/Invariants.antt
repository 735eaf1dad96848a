use Rattle.std.proofs.Common.{◌≡◌, take}
use Rattle.ua_subscriptions.specs.Queues.{first_of}
use Rattle.ua_subscriptions.specs.Ranks.{waiting_of}
use Rattle.ua_subscriptions.proofs.waiting.best_of.Given as goal

-- the best of those so far
abbrev pub invariant-loop-number : goal.invariant-loop-number
invariant-loop-number l = l.best ≡ first_of (waiting_of l.subscriptions.entries (take l.number-index l.numbers))
