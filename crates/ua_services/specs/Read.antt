-- The service Read.
use Rattle.std.specs.Prelude.{ℕ, List, Option, Some, None, Result, Ok, Err}
use Rattle.ua_types.specs.declared.status.Status.{Status}
use Rattle.ua_types.specs.declared.status.TheConstants.Status as status
use Rattle.ua_binary.specs.DataValues.{data_value_encoding}
use Rattle.ua_messages.specs.Bodies.{body_encoding}
use Rattle.ua_messages.specs.Headers.{plain_header}
use Rattle.ua_messages.specs.ResultLists.{results_encoding, results_of}
use Rattle.ua_messages.specs.declared.read_value_ids.ReadValueId.{ReadValueId}
use Rattle.ua_messages.specs.declared.type_ids.TheConstants.{READ_RESPONSE}
use Rattle.ua_service_messages.specs.declared.reading.ReadRequest.{ReadRequest}
use Rattle.ua_read_write.specs.Reading.{all_read}
use Rattle.ua_read_write.specs.Timestamps.{timestamps_of}
use Rattle.ua_read_write.specs.declared.timestamps.Timestamps.{Timestamps}
use Rattle.server_messages.specs.declared.setting.Setting.{Setting}
use Rattle.ua_services.specs.Operations.{operations_of}
use Rattle.ua_services.specs.ServicesState.{Services}
use Rattle.ua_services.specs.Serving.{Serving, answered_at_once, faulted}
use Rattle.ua_services.specs.declared.caller.Caller.{Caller}

-- the value of each attribute, in the order of the request
abbrev pub read_response_body : Setting → Caller → Services → Timestamps → List ReadValueId → List ℕ
read_response_body setting caller state timestamps nodes =
    body_encoding (results_encoding data_value_encoding) READ_RESPONSE
    (results_of (plain_header caller.origin.handle (record { 0 = 0 }) setting.clock) (all_read state.space.nodes setting.clock timestamps nodes))

abbrev pub read_listed : Setting → Caller → Services → Timestamps → Result (List ReadValueId) Status → Serving
read_listed setting caller state timestamps (Ok nodes) = answered_at_once state caller (read_response_body setting caller state timestamps nodes)
read_listed setting caller state timestamps (Err code) = faulted state caller code setting.clock

abbrev pub read_timed : Setting → Caller → Services → Option (List ReadValueId) → Option Timestamps → Serving
read_timed setting caller state nodes None = faulted state caller status.BAD_TIMESTAMPS_TO_RETURN_INVALID setting.clock
read_timed setting caller state nodes (Some timestamps) = read_listed setting caller state timestamps (operations_of setting.config nodes)

-- the times that are wanted are judged first, then the list, then each attribute
abbrev pub read_meaning : Setting → Caller → ℕ → ReadRequest → Services → Serving
read_meaning setting caller session request state = read_timed setting caller state request.nodes_to_read (timestamps_of request.timestamps_to_return)
