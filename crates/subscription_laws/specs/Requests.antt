-- Publish requests: how many of some came, were answered, and wait (IEC 62541-4, "Publish").
use Rattle.std.specs.Prelude.{ℕ, ◌+◌, Bool, true, false, List, [], ◌∷◌}
use Rattle.server_messages.specs.declared.origin.Origin.{Origin}
use Rattle.server_messages.specs.declared.reply.Reply.{Reply}
use Rattle.ua_subscriptions.specs.declared.publish_call.PublishCall.{PublishCall}
use Rattle.ua_subscriptions.specs.declared.session_part.SessionSubscriptions.{SessionSubscriptions}
use Rattle.subscription_laws.specs.Runs.{Move}

abbrev pub one_if : Bool → ℕ
one_if true = 1
one_if false = 0

-- of such requests so many are among these
abbrev pub such_calls : (Origin → Bool) → List PublishCall → ℕ
such_calls such [] = 0
such_calls such (call ∷ calls) = one_if (such call.origin) + such_calls such calls

-- so many wait, in all sessions
abbrev pub such_waiting : (Origin → Bool) → List (ℕ × SessionSubscriptions) → ℕ
such_waiting such [] = 0
such_waiting such (e ∷ sessions) = such_calls such e.1.requests + such_waiting such sessions

-- so many were answered
abbrev pub such_answers : (Origin → Bool) → List Reply → ℕ
such_answers such [] = 0
such_answers such (reply ∷ replies) = one_if (such reply.origin) + such_answers such replies

-- and so many came
abbrev pub came_by : (Origin → Bool) → Move → ℕ
came_by such (Move.Publish clock session asked acks) = one_if (such asked.origin)
came_by such move = 0

abbrev pub such_came : (Origin → Bool) → List Move → ℕ
such_came such [] = 0
such_came such (m ∷ ms) = came_by such m + such_came such ms
