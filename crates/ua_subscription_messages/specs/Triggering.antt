-- The service SetTriggering (IEC 62541-4, section 5, MonitoredItem Service Set).
use Rattle.std.specs.Prelude.{ℕ, List, ◌++◌}
use Rattle.std.specs.Int.{w32}
use Rattle.ua_subscription_messages.specs.declared.triggering.SetTriggeringRequest.{SetTriggeringRequest}
use Rattle.ua_subscription_messages.specs.declared.triggering.SetTriggeringResponse.{SetTriggeringResponse}
use Rattle.ua_binary.specs.Reading.{Reading, ◌>>=◌, done}
use Rattle.ua_binary.specs.Numbers.{number_reading, number_encoding}
use Rattle.ua_binary.specs.Arrays.{array_reading, array_encoding}
use Rattle.ua_binary.specs.Scalars.{status_reading, status_encoding}
use Rattle.ua_messages.specs.Diagnostics.{diagnostic_infos_reading, diagnostic_infos_encoding}
use Rattle.ua_messages.specs.Headers.{response_header_reading, response_header_encoding}

unfoldable pub set_triggering_request_reading : Reading SetTriggeringRequest
set_triggering_request_reading = do
  subscription_id ← number_reading w32
  triggering_item_id ← number_reading w32
  links_to_add ← array_reading (number_reading w32)
  links_to_remove ← array_reading (number_reading w32)
  done (record {
    subscription_id = subscription_id;
    triggering_item_id = triggering_item_id;
    links_to_add = links_to_add;
    links_to_remove = links_to_remove;
  })

unfoldable pub set_triggering_request_encoding : SetTriggeringRequest → List ℕ
set_triggering_request_encoding v =
    number_encoding w32 v.subscription_id
    ++ number_encoding w32 v.triggering_item_id
    ++ array_encoding (number_encoding w32) v.links_to_add
    ++ array_encoding (number_encoding w32) v.links_to_remove

unfoldable pub set_triggering_response_reading : Reading SetTriggeringResponse
set_triggering_response_reading = do
  response_header ← response_header_reading
  add_results ← array_reading status_reading
  add_diagnostic_infos ← diagnostic_infos_reading
  remove_results ← array_reading status_reading
  remove_diagnostic_infos ← diagnostic_infos_reading
  done (record {
    response_header = response_header;
    add_results = add_results;
    add_diagnostic_infos = add_diagnostic_infos;
    remove_results = remove_results;
    remove_diagnostic_infos = remove_diagnostic_infos;
  })

unfoldable pub set_triggering_response_encoding : SetTriggeringResponse → List ℕ
set_triggering_response_encoding v =
    response_header_encoding v.response_header
    ++ array_encoding status_encoding v.add_results
    ++ diagnostic_infos_encoding v.add_diagnostic_infos
    ++ array_encoding status_encoding v.remove_results
    ++ diagnostic_infos_encoding v.remove_diagnostic_infos
