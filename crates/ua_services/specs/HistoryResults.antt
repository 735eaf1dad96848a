-- What HistoryRead answers of each node (HistoryReadResult, IEC 62541-4, section 5, HistoryRead).
use Rattle.std.specs.Prelude.{◌≡◌, ◌≤◌, ◌++◌, ℕ, List, length, map, All, Option, None, Some, option_map, Result, Ok, Err, if◌then◌else◌}
use Rattle.std.specs.Int.{w64, to_le_bytes}
use Rattle.std.specs.List.{flat_map}
use Rattle.ua_types.specs.NodeIds.{numeric_id}
use Rattle.ua_types.specs.declared.extension_object.ExtensionObject.{ExtensionObject}
use Rattle.ua_types.specs.declared.extension_object.ExtensionObjectBody.TheVariants.{Absent}
use Rattle.ua_types.specs.declared.moment.Moment.{Moment}
use Rattle.ua_types.specs.declared.status.Status.{Status}
use Rattle.ua_types.specs.declared.status.TheConstants.Status as status
use Rattle.ua_types.specs.declared.data_value.DataValue.{DataValue}
use Rattle.ua_binary.specs.DataValues.{data_value_reading, data_value_encoding}
use Rattle.ua_binary.specs.Reading.{IsReadAgain}
use Rattle.ua_messages.specs.Structures.{object_around}
use Rattle.ua_messages.specs.declared.type_ids.TheConstants.{HISTORY_DATA}
use Rattle.ua_service_messages.specs.History.{history_data_encoding}
use Rattle.ua_service_messages.specs.declared.history.HistoryData.{HistoryData}
use Rattle.ua_service_messages.specs.declared.history.HistoryReadResult.{HistoryReadResult}
use Rattle.ua_read_write.specs.Reading.{source_time_of}
use Rattle.ua_read_write.specs.Timestamps.{has_server}
use Rattle.ua_read_write.specs.declared.timestamps.Timestamps.{Timestamps}
use Rattle.ua_history.specs.Histories.{Values}
use Rattle.ua_history.specs.Reading.{RawPage}

abbrev pub stored_time_of : Timestamps → DataValue → Option Moment
stored_time_of timestamps v = if has_server timestamps then v.server_time else None

-- a value that was kept, with those of its times that are wanted
abbrev pub shown : Timestamps → DataValue → DataValue
shown timestamps v = record { value = v.value; status = v.status; source_time = source_time_of timestamps v; server_time = stored_time_of timestamps v }

abbrev pub all_shown : Timestamps → Values → List DataValue
all_shown timestamps values = map (λ e. shown timestamps e.1) values

-- the HistoryData of values, also of none
abbrev pub history_data_of : Timestamps → Values → HistoryData
history_data_of timestamps values = record { data_values = Some (all_shown timestamps values) }

-- the object that holds it
abbrev pub history_object_of : Timestamps → Values → ExtensionObject
history_object_of timestamps values = object_around HISTORY_DATA (history_data_encoding (history_data_of timestamps values))

abbrev pub no_data : ExtensionObject
no_data = record { type_id = numeric_id 0 0; body = Absent }

-- a status and nothing else
abbrev pub status_alone : Status → HistoryReadResult
status_alone code = record { status_code = code; continuation_point = None; history_data = no_data }

-- a page with the point for the next one; what is refused has its status alone
abbrev pub history_result_of : Timestamps → Result RawPage Status → HistoryReadResult
history_result_of timestamps (Ok page) =
    record { status_code = page.status; continuation_point = option_map (to_le_bytes w64) page.point; history_data = history_object_of timestamps page.values }
history_result_of timestamps (Err code) = status_alone code

-- a point that was given up
abbrev pub release_result_of : Result (Unit {0}) Status → HistoryReadResult
release_result_of (Ok done) = status_alone status.GOOD
release_result_of (Err code) = status_alone code

-- ---- words of the contracts

-- these values are written behind what was there, each takes a byte at least, and each of them is read again
pub record AreWritten (before after : List ℕ) (values : List DataValue) : Type 0 where
  pub written : after ≡ before ++ flat_map data_value_encoding values
  pub some : length values ≤ length (flat_map data_value_encoding values)
  pub again : All (IsReadAgain data_value_reading data_value_encoding) values
