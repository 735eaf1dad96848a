-- The service Republish.
use Rattle.std.specs.Prelude.{ℕ, List, [], ◌∷◌, Result, Ok, Err}
use Rattle.ua_types.specs.declared.status.Status.{Status}
use Rattle.ua_messages.specs.Headers.{plain_header}
use Rattle.ua_messages.specs.ServiceFaults.{fault_body}
use Rattle.server_messages.specs.declared.setting.Setting.{Setting}
use Rattle.ua_subscription_messages.specs.KeptMessages.{republish_body_around}
use Rattle.ua_subscription_messages.specs.declared.publishing.RepublishRequest.{RepublishRequest}
use Rattle.ua_subscriptions.specs.Making.{republished}
use Rattle.ua_subscriptions.specs.SubscriptionCalls.{said}
use Rattle.ua_services.specs.ServicesState.{Services}
use Rattle.ua_services.specs.Serving.{Serving, reply_of}
use Rattle.ua_services.specs.SubServing.{called, stage_at}
use Rattle.ua_services.specs.declared.caller.Caller.{Caller}

-- the message's bytes as they were made, or why there are none
abbrev pub republish_answer : Setting → Caller → Result (List ℕ) Status → List ℕ
republish_answer setting caller (Ok message) = republish_body_around (plain_header caller.origin.handle (record { 0 = 0 }) setting.clock) message
republish_answer setting caller (Err code) = fault_body caller.origin.handle code setting.clock

-- a message of the session's subscription, once more
abbrev pub republish_meaning : Setting → Caller → ℕ → RepublishRequest → Services → Serving
republish_meaning setting caller session request state =
    called state (λ answer. reply_of caller (republish_answer setting caller answer) ∷ [])
    (said state.subscriptions (republished session request.subscription_id request.retransmit_sequence_number (stage_at setting state)))
