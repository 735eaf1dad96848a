-- The services Publish and Republish (IEC 62541-4, section 5, Subscription Service Set), and the
-- messages that they bring (section 7).
use Rattle.std.specs.Prelude.{ℕ, List, ◌++◌}
use Rattle.std.specs.Int.{w32}
use Rattle.ua_subscription_messages.specs.declared.publishing.SubscriptionAcknowledgement.{SubscriptionAcknowledgement}
use Rattle.ua_subscription_messages.specs.declared.publishing.PublishRequest.{PublishRequest}
use Rattle.ua_subscription_messages.specs.declared.publishing.NotificationMessage.{NotificationMessage}
use Rattle.ua_subscription_messages.specs.declared.publishing.PublishResponse.{PublishResponse}
use Rattle.ua_subscription_messages.specs.declared.publishing.MonitoredItemNotification.{MonitoredItemNotification}
use Rattle.ua_subscription_messages.specs.declared.publishing.DataChangeNotification.{DataChangeNotification}
use Rattle.ua_subscription_messages.specs.declared.publishing.StatusChangeNotification.{StatusChangeNotification}
use Rattle.ua_subscription_messages.specs.declared.publishing.RepublishRequest.{RepublishRequest}
use Rattle.ua_subscription_messages.specs.declared.publishing.RepublishResponse.{RepublishResponse}
use Rattle.ua_binary.specs.Reading.{Reading, ◌>>=◌, done}
use Rattle.ua_binary.specs.Numbers.{boolean_reading, number_reading, boolean_encoding, number_encoding}
use Rattle.ua_binary.specs.Arrays.{array_reading, array_encoding}
use Rattle.ua_binary.specs.Scalars.{moment_reading, status_reading, moment_encoding, status_encoding}
use Rattle.ua_binary.specs.ExtensionObjects.{extension_object_reading, extension_object_encoding}
use Rattle.ua_binary.specs.DataValues.{data_value_reading, data_value_encoding}
use Rattle.ua_messages.specs.Diagnostics.{diagnostic_info_reading, diagnostic_infos_reading, diagnostic_info_encoding, diagnostic_infos_encoding}
use Rattle.ua_messages.specs.Headers.{response_header_reading, response_header_encoding}

unfoldable pub subscription_acknowledgement_reading : Reading SubscriptionAcknowledgement
subscription_acknowledgement_reading = do
  subscription_id ← number_reading w32
  sequence_number ← number_reading w32
  done (record { subscription_id = subscription_id; sequence_number = sequence_number })

unfoldable pub subscription_acknowledgement_encoding : SubscriptionAcknowledgement → List ℕ
subscription_acknowledgement_encoding v =
    number_encoding w32 v.subscription_id
    ++ number_encoding w32 v.sequence_number

unfoldable pub publish_request_reading : Reading PublishRequest
publish_request_reading = do
  subscription_acknowledgements ← array_reading subscription_acknowledgement_reading
  done (record { subscription_acknowledgements = subscription_acknowledgements })

unfoldable pub publish_request_encoding : PublishRequest → List ℕ
publish_request_encoding v =
    array_encoding subscription_acknowledgement_encoding v.subscription_acknowledgements

unfoldable pub notification_message_reading : Reading NotificationMessage
notification_message_reading = do
  sequence_number ← number_reading w32
  publish_time ← moment_reading
  notification_data ← array_reading extension_object_reading
  done (record {
    sequence_number = sequence_number;
    publish_time = publish_time;
    notification_data = notification_data;
  })

unfoldable pub notification_message_encoding : NotificationMessage → List ℕ
notification_message_encoding v =
    number_encoding w32 v.sequence_number
    ++ moment_encoding v.publish_time
    ++ array_encoding extension_object_encoding v.notification_data

unfoldable pub publish_response_reading : Reading PublishResponse
publish_response_reading = do
  response_header ← response_header_reading
  subscription_id ← number_reading w32
  available_sequence_numbers ← array_reading (number_reading w32)
  more_notifications ← boolean_reading
  notification_message ← notification_message_reading
  results ← array_reading status_reading
  diagnostic_infos ← diagnostic_infos_reading
  done (record {
    response_header = response_header;
    subscription_id = subscription_id;
    available_sequence_numbers = available_sequence_numbers;
    more_notifications = more_notifications;
    notification_message = notification_message;
    results = results;
    diagnostic_infos = diagnostic_infos;
  })

unfoldable pub publish_response_encoding : PublishResponse → List ℕ
publish_response_encoding v =
    response_header_encoding v.response_header
    ++ number_encoding w32 v.subscription_id
    ++ array_encoding (number_encoding w32) v.available_sequence_numbers
    ++ boolean_encoding v.more_notifications
    ++ notification_message_encoding v.notification_message
    ++ array_encoding status_encoding v.results
    ++ diagnostic_infos_encoding v.diagnostic_infos

unfoldable pub monitored_item_notification_reading : Reading MonitoredItemNotification
monitored_item_notification_reading = do
  client_handle ← number_reading w32
  value ← data_value_reading
  done (record { client_handle = client_handle; value = value })

unfoldable pub monitored_item_notification_encoding : MonitoredItemNotification → List ℕ
monitored_item_notification_encoding v =
    number_encoding w32 v.client_handle
    ++ data_value_encoding v.value

unfoldable pub data_change_notification_reading : Reading DataChangeNotification
data_change_notification_reading = do
  monitored_items ← array_reading monitored_item_notification_reading
  diagnostic_infos ← diagnostic_infos_reading
  done (record { monitored_items = monitored_items; diagnostic_infos = diagnostic_infos })

unfoldable pub data_change_notification_encoding : DataChangeNotification → List ℕ
data_change_notification_encoding v =
    array_encoding monitored_item_notification_encoding v.monitored_items
    ++ diagnostic_infos_encoding v.diagnostic_infos

unfoldable pub status_change_notification_reading : Reading StatusChangeNotification
status_change_notification_reading = do
  status ← status_reading
  diagnostic_info ← diagnostic_info_reading
  done (record { status = status; diagnostic_info = diagnostic_info })

unfoldable pub status_change_notification_encoding : StatusChangeNotification → List ℕ
status_change_notification_encoding v =
    status_encoding v.status
    ++ diagnostic_info_encoding v.diagnostic_info

unfoldable pub republish_request_reading : Reading RepublishRequest
republish_request_reading = do
  subscription_id ← number_reading w32
  retransmit_sequence_number ← number_reading w32
  done (record {
    subscription_id = subscription_id;
    retransmit_sequence_number = retransmit_sequence_number;
  })

unfoldable pub republish_request_encoding : RepublishRequest → List ℕ
republish_request_encoding v =
    number_encoding w32 v.subscription_id
    ++ number_encoding w32 v.retransmit_sequence_number

unfoldable pub republish_response_reading : Reading RepublishResponse
republish_response_reading = do
  response_header ← response_header_reading
  notification_message ← notification_message_reading
  done (record { response_header = response_header; notification_message = notification_message })

unfoldable pub republish_response_encoding : RepublishResponse → List ℕ
republish_response_encoding v =
    response_header_encoding v.response_header
    ++ notification_message_encoding v.notification_message
