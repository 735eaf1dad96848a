-- The service ModifySubscription.
use Rattle.std.specs.Prelude.{ℕ, List, [], ◌∷◌, Result, Ok, Err}
use Rattle.ua_types.specs.declared.status.Status.{Status}
use Rattle.ua_messages.specs.Bodies.{body_encoding}
use Rattle.ua_messages.specs.Headers.{plain_header}
use Rattle.ua_messages.specs.ServiceFaults.{fault_body}
use Rattle.ua_messages.specs.declared.type_ids.TheConstants.{MODIFY_SUBSCRIPTION_RESPONSE}
use Rattle.server_messages.specs.declared.setting.Setting.{Setting}
use Rattle.ua_subscription_messages.specs.Subscriptions.{modify_subscription_response_encoding}
use Rattle.ua_subscription_messages.specs.declared.subscriptions.ModifySubscriptionRequest.{ModifySubscriptionRequest}
use Rattle.ua_subscriptions.specs.Making.{modified}
use Rattle.ua_subscriptions.specs.SubscriptionCalls.{said}
use Rattle.ua_subscriptions.specs.declared.making.Revised.{Revised}
use Rattle.ua_subscriptions.specs.declared.settings.Settings.{Settings}
use Rattle.ua_services.specs.ServicesState.{Services}
use Rattle.ua_services.specs.Serving.{Serving, reply_of}
use Rattle.ua_services.specs.SubServing.{called, stage_at}
use Rattle.ua_services.specs.declared.caller.Caller.{Caller}

-- what the client asks of its subscription from now on
abbrev pub settings_wanted : ModifySubscriptionRequest → Settings
settings_wanted request = record {
  keep_alive_count = request.requested_max_keep_alive_count;
  lifetime_count = request.requested_lifetime_count;
  notifications = request.max_notifications_per_publish;
  priority = request.priority;
}

-- what it is told of it, or why nothing changed
abbrev pub modify_subscription_body : Setting → Caller → Result Revised Status → List ℕ
modify_subscription_body setting caller (Ok revised) =
    body_encoding modify_subscription_response_encoding MODIFY_SUBSCRIPTION_RESPONSE (record {
      response_header = plain_header caller.origin.handle (record { 0 = 0 }) setting.clock;
      revised_publishing_interval = setting.config.publish_duration;
      revised_lifetime_count = revised.lifetime_count;
      revised_max_keep_alive_count = revised.keep_alive_count;
    })
modify_subscription_body setting caller (Err code) = fault_body caller.origin.handle code setting.clock

-- the session's subscription gets other counts, another size of messages and another priority
abbrev pub modify_subscription_meaning : Setting → Caller → ℕ → ModifySubscriptionRequest → Services → Serving
modify_subscription_meaning setting caller session request state =
    called state (λ answer. reply_of caller (modify_subscription_body setting caller answer) ∷ [])
    (said state.subscriptions (modified session request.subscription_id (settings_wanted request) (stage_at setting state)))
