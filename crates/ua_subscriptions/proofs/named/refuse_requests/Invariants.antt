use Rattle.std.proofs.Common.{◌≡◌, [], length}
use Rattle.std.specs.Prelude.{map}
use Rattle.ua_subscriptions.specs.Answers.{refused_of}
use Rattle.ua_subscriptions.specs.Named.{with_replies}
use Rattle.ua_subscriptions.proofs.named.refuse_requests.Given as goal

-- with the refusals to come all are there, and none is left where there was none
abbrev pub invariant-loop-call : goal.invariant-loop-call
invariant-loop-call l =
    (with_replies l.round (map (refused_of l.round.clock l.status) l.requests) ≡ with_replies l.fn.round (map (refused_of l.fn.round.clock l.status) l.fn.requests))
    × (l.fn.requests ≡ [] → l.requests ≡ [])

abbrev pub decreases-loop-call : goal.decreases-loop-call
decreases-loop-call l = length l.requests
