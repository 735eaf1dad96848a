use Rattle.std.proofs.Common.{◌≡◌, length}
use Rattle.ua_subscriptions.specs.Scenes.{noting, rest_sent, note_sent}
use Rattle.ua_subscriptions.proofs.acting.send_notes.Given as goal

-- what is sent from here on completes what is to be sent
abbrev pub invariant-loop-subscription : goal.invariant-loop-subscription
invariant-loop-subscription l =
    rest_sent l.requests (noting l.round l.subscription l.items) ≡ rest_sent l.fn.requests (note_sent (noting l.fn.round l.fn.subscription l.fn.items))

abbrev pub decreases-loop-subscription : goal.decreases-loop-subscription
decreases-loop-subscription l = length l.requests
