use Rattle.std.proofs.Common.{◌≡◌, []}
use Rattle.std.specs.Prelude.{map}
use Rattle.std.specs.Map.{values_of}
use Rattle.ua_subscriptions.specs.Answers.{refused_of}
use Rattle.ua_subscriptions.specs.Ending.{all_requests}
use Rattle.ua_subscriptions.specs.Named.{with_replies}
use Rattle.ua_subscriptions.proofs.ending.refuse_sessions.Given as goal

-- with the refusals of the sessions to come all are there, and none waits in these where none waited
abbrev pub invariant-loop-part : goal.invariant-loop-part
invariant-loop-part l =
    (with_replies l.round (map (refused_of l.round.clock l.status) (all_requests l.part-iterator))
    ≡ with_replies l.fn.round (map (refused_of l.fn.round.clock l.status) (all_requests (values_of l.fn.sessions.entries))))
    × (all_requests (values_of l.fn.sessions.entries) ≡ [] → all_requests l.part-iterator ≡ [])
