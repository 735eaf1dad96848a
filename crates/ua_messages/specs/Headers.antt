-- What requests and responses begin with (RequestHeader and ResponseHeader, IEC 62541-4, section 7).
use Rattle.std.specs.Prelude.{ℕ, List, ◌++◌, None}
use Rattle.std.specs.Int.{w32}
use Rattle.ua_types.specs.declared.moment.Moment.{Moment}
use Rattle.ua_types.specs.declared.status.Status.{Status}
use Rattle.ua_types.specs.declared.extension_object.ExtensionObjectBody.TheVariants.{Absent}
use Rattle.ua_types.specs.NodeIds.{numeric_id}
use Rattle.ua_messages.specs.declared.headers.RequestHeader.{RequestHeader}
use Rattle.ua_messages.specs.declared.headers.ResponseHeader.{ResponseHeader}
use Rattle.ua_binary.specs.Reading.{Reading, ◌>>=◌, done}
use Rattle.ua_binary.specs.Numbers.{number_reading, number_encoding}
use Rattle.ua_binary.specs.Texts.{text_reading, text_encoding}
use Rattle.ua_binary.specs.Arrays.{array_reading, array_encoding}
use Rattle.ua_binary.specs.Scalars.{moment_reading, status_reading, moment_encoding, status_encoding}
use Rattle.ua_binary.specs.NodeIds.{node_id_reading, node_id_encoding}
use Rattle.ua_binary.specs.ExtensionObjects.{extension_object_reading, extension_object_encoding}
use Rattle.ua_messages.specs.Diagnostics.{diagnostic_info_reading, diagnostic_info_encoding}

unfoldable pub request_header_reading : Reading RequestHeader
request_header_reading = do
  authentication_token ← node_id_reading
  timestamp ← moment_reading
  request_handle ← number_reading w32
  return_diagnostics ← number_reading w32
  audit_entry_id ← text_reading
  timeout_hint ← number_reading w32
  additional_header ← extension_object_reading
  done (record {
    authentication_token = authentication_token;
    timestamp = timestamp;
    request_handle = request_handle;
    return_diagnostics = return_diagnostics;
    audit_entry_id = audit_entry_id;
    timeout_hint = timeout_hint;
    additional_header = additional_header;
  })

unfoldable pub request_header_encoding : RequestHeader → List ℕ
request_header_encoding v =
    node_id_encoding v.authentication_token
    ++ moment_encoding v.timestamp
    ++ number_encoding w32 v.request_handle
    ++ number_encoding w32 v.return_diagnostics
    ++ text_encoding v.audit_entry_id
    ++ number_encoding w32 v.timeout_hint
    ++ extension_object_encoding v.additional_header

unfoldable pub response_header_reading : Reading ResponseHeader
response_header_reading = do
  timestamp ← moment_reading
  request_handle ← number_reading w32
  service_result ← status_reading
  service_diagnostics ← diagnostic_info_reading
  string_table ← array_reading text_reading
  additional_header ← extension_object_reading
  done (record {
    timestamp = timestamp;
    request_handle = request_handle;
    service_result = service_result;
    service_diagnostics = service_diagnostics;
    string_table = string_table;
    additional_header = additional_header;
  })

unfoldable pub response_header_encoding : ResponseHeader → List ℕ
response_header_encoding v =
    moment_encoding v.timestamp
    ++ number_encoding w32 v.request_handle
    ++ status_encoding v.service_result
    ++ diagnostic_info_encoding v.service_diagnostics
    ++ array_encoding text_encoding v.string_table
    ++ extension_object_encoding v.additional_header

-- a header of a response with nothing beside the outcome
abbrev pub plain_header : ℕ → Status → Moment → ResponseHeader
plain_header handle status moment = record {
  timestamp = moment;
  request_handle = handle;
  service_result = status;
  service_diagnostics = record {};
  string_table = None;
  additional_header = record { type_id = numeric_id 0 0; body = Absent };
}
