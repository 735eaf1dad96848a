-- The service CreateSubscription.
use Rattle.std.specs.Prelude.{ℕ, List, [], ◌∷◌, Result, Ok, Err}
use Rattle.ua_types.specs.declared.status.Status.{Status}
use Rattle.ua_messages.specs.Bodies.{body_encoding}
use Rattle.ua_messages.specs.Headers.{plain_header}
use Rattle.ua_messages.specs.ServiceFaults.{fault_body}
use Rattle.ua_messages.specs.declared.type_ids.TheConstants.{CREATE_SUBSCRIPTION_RESPONSE}
use Rattle.server_messages.specs.declared.setting.Setting.{Setting}
use Rattle.ua_subscription_messages.specs.Subscriptions.{create_subscription_response_encoding}
use Rattle.ua_subscription_messages.specs.declared.subscriptions.CreateSubscriptionRequest.{CreateSubscriptionRequest}
use Rattle.ua_subscriptions.specs.SubscriptionCalls.{created}
use Rattle.ua_subscriptions.specs.declared.settings.Settings.{Settings}
use Rattle.ua_subscriptions.specs.declared.subscriptions.Created.{Created}
use Rattle.ua_services.specs.ServicesState.{Services}
use Rattle.ua_services.specs.Serving.{Serving, reply_of}
use Rattle.ua_services.specs.SubServing.{called}
use Rattle.ua_services.specs.declared.caller.Caller.{Caller}

-- what the client asks of its subscription; the publishing interval is the server's
abbrev pub settings_asked : CreateSubscriptionRequest → Settings
settings_asked request = record {
  keep_alive_count = request.requested_max_keep_alive_count;
  lifetime_count = request.requested_lifetime_count;
  notifications = request.max_notifications_per_publish;
  priority = request.priority;
}

-- what it is told of it, or why there is none
abbrev pub create_subscription_body : Setting → Caller → Result Created Status → List ℕ
create_subscription_body setting caller (Ok created) =
    body_encoding create_subscription_response_encoding CREATE_SUBSCRIPTION_RESPONSE (record {
      response_header = plain_header caller.origin.handle (record { 0 = 0 }) setting.clock;
      subscription_id = created.number;
      revised_publishing_interval = setting.config.publish_duration;
      revised_lifetime_count = created.revised.lifetime_count;
      revised_max_keep_alive_count = created.revised.keep_alive_count;
    })
create_subscription_body setting caller (Err code) = fault_body caller.origin.handle code setting.clock

-- a subscription for the session
abbrev pub create_subscription_meaning : Setting → Caller → ℕ → CreateSubscriptionRequest → Services → Serving
create_subscription_meaning setting caller session request state =
    called state (λ answer. reply_of caller (create_subscription_body setting caller answer) ∷ [])
    (created session (settings_asked request) request.publishing_enabled state.subscriptions state.items setting.clock)
