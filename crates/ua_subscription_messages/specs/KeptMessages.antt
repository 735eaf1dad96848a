-- Bodies of Publish and Republish responses round the bytes of a message.
use Rattle.std.specs.Prelude.{ℕ, Bool, List, ◌++◌, Some}
use Rattle.std.specs.Int.{w32}
use Rattle.ua_types.specs.declared.status.Status.{Status}
use Rattle.ua_types.specs.NodeIds.{numeric_id}
use Rattle.ua_binary.specs.Numbers.{boolean_encoding, number_encoding}
use Rattle.ua_binary.specs.Arrays.{array_encoding}
use Rattle.ua_binary.specs.Scalars.{status_encoding}
use Rattle.ua_binary.specs.NodeIds.{node_id_encoding}
use Rattle.ua_messages.specs.declared.headers.ResponseHeader.{ResponseHeader}
use Rattle.ua_messages.specs.declared.type_ids.TheConstants.{PUBLISH_RESPONSE, REPUBLISH_RESPONSE}
use Rattle.ua_messages.specs.Headers.{response_header_encoding}
use Rattle.ua_messages.specs.Diagnostics.{diagnostic_infos_encoding}
use Rattle.ua_subscription_messages.specs.declared.publishing.NotificationMessage.{NotificationMessage}
use Rattle.ua_subscription_messages.specs.declared.publishing.PublishResponse.{PublishResponse}
use Rattle.ua_subscription_messages.specs.declared.publishing.RepublishResponse.{RepublishResponse}

-- a Publish response whose lists aren't null, with no diagnostic infos
abbrev pub publish_response_of : ResponseHeader → ℕ → List ℕ → Bool → NotificationMessage → List Status → PublishResponse
publish_response_of header subscription numbers more message results = record {
  response_header = header;
  subscription_id = subscription;
  available_sequence_numbers = Some numbers;
  more_notifications = more;
  notification_message = message;
  results = Some results;
  diagnostic_infos = record {};
}

-- its body, with the message's bytes as they are
unfoldable pub publish_body_around : ResponseHeader → ℕ → List ℕ → Bool → List ℕ → List Status → List ℕ
publish_body_around header subscription numbers more message results =
    node_id_encoding (numeric_id 0 PUBLISH_RESPONSE)
    ++ (response_header_encoding header
    ++ number_encoding w32 subscription
    ++ array_encoding (number_encoding w32) (Some numbers)
    ++ boolean_encoding more
    ++ message
    ++ array_encoding status_encoding (Some results)
    ++ diagnostic_infos_encoding (record {}))

abbrev pub republish_response_of : ResponseHeader → NotificationMessage → RepublishResponse
republish_response_of header message = record { response_header = header; notification_message = message }

unfoldable pub republish_body_around : ResponseHeader → List ℕ → List ℕ
republish_body_around header message =
    node_id_encoding (numeric_id 0 REPUBLISH_RESPONSE) ++ (response_header_encoding header ++ message)
