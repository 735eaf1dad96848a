-- The services that make, change and delete subscriptions (IEC 62541-4, section 5, Subscription
-- Service Set).
use Rattle.std.specs.Prelude.{ℕ, List, ◌++◌}
use Rattle.std.specs.Int.{w32}
use Rattle.ua_subscription_messages.specs.declared.subscriptions.CreateSubscriptionRequest.{CreateSubscriptionRequest}
use Rattle.ua_subscription_messages.specs.declared.subscriptions.CreateSubscriptionResponse.{CreateSubscriptionResponse}
use Rattle.ua_subscription_messages.specs.declared.subscriptions.ModifySubscriptionRequest.{ModifySubscriptionRequest}
use Rattle.ua_subscription_messages.specs.declared.subscriptions.ModifySubscriptionResponse.{ModifySubscriptionResponse}
use Rattle.ua_subscription_messages.specs.declared.subscriptions.SetPublishingModeRequest.{SetPublishingModeRequest}
use Rattle.ua_subscription_messages.specs.declared.subscriptions.DeleteSubscriptionsRequest.{DeleteSubscriptionsRequest}
use Rattle.ua_binary.specs.Reading.{Reading, ◌>>=◌, done}
use Rattle.ua_binary.specs.Numbers.{boolean_reading, byte_reading, number_reading, boolean_encoding, byte_encoding, number_encoding}
use Rattle.ua_binary.specs.Arrays.{array_reading, array_encoding}
use Rattle.ua_binary.specs.Scalars.{duration_reading, duration_encoding}
use Rattle.ua_messages.specs.Headers.{response_header_reading, response_header_encoding}

unfoldable pub create_subscription_request_reading : Reading CreateSubscriptionRequest
create_subscription_request_reading = do
  requested_publishing_interval ← duration_reading
  requested_lifetime_count ← number_reading w32
  requested_max_keep_alive_count ← number_reading w32
  max_notifications_per_publish ← number_reading w32
  publishing_enabled ← boolean_reading
  priority ← byte_reading
  done (record {
    requested_publishing_interval = requested_publishing_interval;
    requested_lifetime_count = requested_lifetime_count;
    requested_max_keep_alive_count = requested_max_keep_alive_count;
    max_notifications_per_publish = max_notifications_per_publish;
    publishing_enabled = publishing_enabled;
    priority = priority;
  })

unfoldable pub create_subscription_request_encoding : CreateSubscriptionRequest → List ℕ
create_subscription_request_encoding v =
    duration_encoding v.requested_publishing_interval
    ++ number_encoding w32 v.requested_lifetime_count
    ++ number_encoding w32 v.requested_max_keep_alive_count
    ++ number_encoding w32 v.max_notifications_per_publish
    ++ boolean_encoding v.publishing_enabled
    ++ byte_encoding v.priority

unfoldable pub create_subscription_response_reading : Reading CreateSubscriptionResponse
create_subscription_response_reading = do
  response_header ← response_header_reading
  subscription_id ← number_reading w32
  revised_publishing_interval ← duration_reading
  revised_lifetime_count ← number_reading w32
  revised_max_keep_alive_count ← number_reading w32
  done (record {
    response_header = response_header;
    subscription_id = subscription_id;
    revised_publishing_interval = revised_publishing_interval;
    revised_lifetime_count = revised_lifetime_count;
    revised_max_keep_alive_count = revised_max_keep_alive_count;
  })

unfoldable pub create_subscription_response_encoding : CreateSubscriptionResponse → List ℕ
create_subscription_response_encoding v =
    response_header_encoding v.response_header
    ++ number_encoding w32 v.subscription_id
    ++ duration_encoding v.revised_publishing_interval
    ++ number_encoding w32 v.revised_lifetime_count
    ++ number_encoding w32 v.revised_max_keep_alive_count

unfoldable pub modify_subscription_request_reading : Reading ModifySubscriptionRequest
modify_subscription_request_reading = do
  subscription_id ← number_reading w32
  requested_publishing_interval ← duration_reading
  requested_lifetime_count ← number_reading w32
  requested_max_keep_alive_count ← number_reading w32
  max_notifications_per_publish ← number_reading w32
  priority ← byte_reading
  done (record {
    subscription_id = subscription_id;
    requested_publishing_interval = requested_publishing_interval;
    requested_lifetime_count = requested_lifetime_count;
    requested_max_keep_alive_count = requested_max_keep_alive_count;
    max_notifications_per_publish = max_notifications_per_publish;
    priority = priority;
  })

unfoldable pub modify_subscription_request_encoding : ModifySubscriptionRequest → List ℕ
modify_subscription_request_encoding v =
    number_encoding w32 v.subscription_id
    ++ duration_encoding v.requested_publishing_interval
    ++ number_encoding w32 v.requested_lifetime_count
    ++ number_encoding w32 v.requested_max_keep_alive_count
    ++ number_encoding w32 v.max_notifications_per_publish
    ++ byte_encoding v.priority

unfoldable pub modify_subscription_response_reading : Reading ModifySubscriptionResponse
modify_subscription_response_reading = do
  response_header ← response_header_reading
  revised_publishing_interval ← duration_reading
  revised_lifetime_count ← number_reading w32
  revised_max_keep_alive_count ← number_reading w32
  done (record {
    response_header = response_header;
    revised_publishing_interval = revised_publishing_interval;
    revised_lifetime_count = revised_lifetime_count;
    revised_max_keep_alive_count = revised_max_keep_alive_count;
  })

unfoldable pub modify_subscription_response_encoding : ModifySubscriptionResponse → List ℕ
modify_subscription_response_encoding v =
    response_header_encoding v.response_header
    ++ duration_encoding v.revised_publishing_interval
    ++ number_encoding w32 v.revised_lifetime_count
    ++ number_encoding w32 v.revised_max_keep_alive_count

unfoldable pub set_publishing_mode_request_reading : Reading SetPublishingModeRequest
set_publishing_mode_request_reading = do
  publishing_enabled ← boolean_reading
  subscription_ids ← array_reading (number_reading w32)
  done (record {
    publishing_enabled = publishing_enabled;
    subscription_ids = subscription_ids;
  })

unfoldable pub set_publishing_mode_request_encoding : SetPublishingModeRequest → List ℕ
set_publishing_mode_request_encoding v =
    boolean_encoding v.publishing_enabled
    ++ array_encoding (number_encoding w32) v.subscription_ids

unfoldable pub delete_subscriptions_request_reading : Reading DeleteSubscriptionsRequest
delete_subscriptions_request_reading = do
  subscription_ids ← array_reading (number_reading w32)
  done (record { subscription_ids = subscription_ids })

unfoldable pub delete_subscriptions_request_encoding : DeleteSubscriptionsRequest → List ℕ
delete_subscriptions_request_encoding v =
    array_encoding (number_encoding w32) v.subscription_ids
