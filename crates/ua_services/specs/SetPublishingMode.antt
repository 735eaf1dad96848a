-- The service SetPublishingMode.
use Rattle.std.specs.Prelude.{ℕ, Bool, List, [], ◌∷◌, Result, Ok, Err}
use Rattle.ua_types.specs.declared.status.Status.{Status}
use Rattle.ua_messages.specs.declared.type_ids.TheConstants.{SET_PUBLISHING_MODE_RESPONSE}
use Rattle.server_messages.specs.declared.setting.Setting.{Setting}
use Rattle.ua_subscription_messages.specs.declared.subscriptions.SetPublishingModeRequest.{SetPublishingModeRequest}
use Rattle.ua_subscriptions.specs.Named.{named_all}
use Rattle.ua_subscriptions.specs.SubscriptionCalls.{said}
use Rattle.ua_subscriptions.specs.declared.call.Call.TheVariants.{SetMode}
use Rattle.ua_services.specs.Operations.{operations_of}
use Rattle.ua_services.specs.ServicesState.{Services}
use Rattle.ua_services.specs.Serving.{Serving, reply_of, faulted}
use Rattle.ua_services.specs.StatusResults.{statuses_body}
use Rattle.ua_services.specs.SubServing.{called, stage_at}
use Rattle.ua_services.specs.declared.caller.Caller.{Caller}

abbrev pub set_publishing_listed : Setting → Caller → ℕ → Bool → Services → Result (List ℕ) Status → Serving
set_publishing_listed setting caller session enabled state (Ok numbers) =
    called state (λ statuses. reply_of caller (statuses_body SET_PUBLISHING_MODE_RESPONSE setting caller statuses) ∷ [])
    (said state.subscriptions (named_all session (SetMode enabled) (stage_at setting state) numbers))
set_publishing_listed setting caller session enabled state (Err code) = faulted state caller code setting.clock

-- the list is judged first; then the notifications of each subscription are switched on or off
abbrev pub set_publishing_mode_meaning : Setting → Caller → ℕ → SetPublishingModeRequest → Services → Serving
set_publishing_mode_meaning setting caller session request state =
    set_publishing_listed setting caller session request.publishing_enabled state (operations_of setting.config request.subscription_ids)
