-- The service Publish.
use Rattle.std.specs.Prelude.{ℕ, List, [], length, nat_lt, if◌then◌else◌}
use Rattle.ua_types.specs.declared.status.TheConstants.Status as status
use Rattle.server_messages.specs.declared.setting.Setting.{Setting}
use Rattle.ua_views.specs.Views.{or_none}
use Rattle.ua_subscription_messages.specs.declared.publishing.PublishRequest.{PublishRequest}
use Rattle.ua_subscription_messages.specs.declared.publishing.SubscriptionAcknowledgement.{SubscriptionAcknowledgement}
use Rattle.ua_subscriptions.specs.Publishing.{published}
use Rattle.ua_subscriptions.specs.declared.publish_call.PublishCall.{PublishCall}
use Rattle.ua_services.specs.ServicesState.{Services}
use Rattle.ua_services.specs.Serving.{Serving, faulted}
use Rattle.ua_services.specs.SubServing.{called_alone, stage_at}
use Rattle.ua_services.specs.declared.caller.Caller.{Caller}

-- the request as it waits, before its acknowledgements are applied
abbrev pub publish_call : Caller → PublishCall
publish_call caller = record { origin = caller.origin; results = [] }

abbrev pub publish_acknowledged : Setting → Caller → ℕ → Services → List SubscriptionAcknowledgement → Serving
publish_acknowledged setting caller session state acks =
    if nat_lt setting.config.operations (length acks) then faulted state caller status.BAD_TOO_MANY_OPERATIONS setting.clock
    else called_alone state (published session (publish_call caller) acks (stage_at setting state))

-- the acknowledgements may be none; the answer comes now, or waits
abbrev pub publish_meaning : Setting → Caller → ℕ → PublishRequest → Services → Serving
publish_meaning setting caller session request state =
    publish_acknowledged setting caller session state (or_none request.subscription_acknowledgements)
