-- The service DeleteSubscriptions.
use Rattle.std.specs.Prelude.{ℕ, List, [], ◌∷◌, Result, Ok, Err}
use Rattle.ua_types.specs.declared.status.Status.{Status}
use Rattle.ua_messages.specs.declared.type_ids.TheConstants.{DELETE_SUBSCRIPTIONS_RESPONSE}
use Rattle.server_messages.specs.declared.setting.Setting.{Setting}
use Rattle.ua_subscription_messages.specs.declared.subscriptions.DeleteSubscriptionsRequest.{DeleteSubscriptionsRequest}
use Rattle.ua_subscriptions.specs.Named.{deleted}
use Rattle.ua_subscriptions.specs.SubscriptionCalls.{said}
use Rattle.ua_services.specs.Operations.{operations_of}
use Rattle.ua_services.specs.ServicesState.{Services}
use Rattle.ua_services.specs.Serving.{Serving, reply_of, faulted}
use Rattle.ua_services.specs.StatusResults.{statuses_body}
use Rattle.ua_services.specs.SubServing.{called, stage_at}
use Rattle.ua_services.specs.declared.caller.Caller.{Caller}

abbrev pub delete_subscriptions_listed : Setting → Caller → ℕ → Services → Result (List ℕ) Status → Serving
delete_subscriptions_listed setting caller session state (Ok numbers) =
    called state (λ statuses. reply_of caller (statuses_body DELETE_SUBSCRIPTIONS_RESPONSE setting caller statuses) ∷ [])
    (said state.subscriptions (deleted session (stage_at setting state) numbers))
delete_subscriptions_listed setting caller session state (Err code) = faulted state caller code setting.clock

-- the list is judged first; then each subscription goes. Where the session has none left, its Publish requests are answered
-- after this one
abbrev pub delete_subscriptions_meaning : Setting → Caller → ℕ → DeleteSubscriptionsRequest → Services → Serving
delete_subscriptions_meaning setting caller session request state =
    delete_subscriptions_listed setting caller session state (operations_of setting.config request.subscription_ids)
