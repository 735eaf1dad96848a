-- The service HistoryRead (IEC 62541-4, section 5, Attribute Service Set), and the reading of raw values
-- by it (IEC 62541-11, section 6).
use Rattle.std.specs.Prelude.{ℕ, List, ◌++◌}
use Rattle.std.specs.Int.{w32}
use Rattle.ua_service_messages.specs.declared.history.ReadRawModifiedDetails.{ReadRawModifiedDetails}
use Rattle.ua_service_messages.specs.declared.history.HistoryData.{HistoryData}
use Rattle.ua_service_messages.specs.declared.history.HistoryReadValueId.{HistoryReadValueId}
use Rattle.ua_service_messages.specs.declared.history.HistoryReadRequest.{HistoryReadRequest}
use Rattle.ua_service_messages.specs.declared.history.HistoryReadResult.{HistoryReadResult}
use Rattle.ua_binary.specs.Reading.{Reading, ◌>>=◌, done}
use Rattle.ua_binary.specs.Numbers.{boolean_reading, boolean_encoding, number_reading, number_encoding}
use Rattle.ua_binary.specs.Scalars.{moment_reading, moment_encoding, status_reading, status_encoding}
use Rattle.ua_binary.specs.Texts.{text_reading, text_encoding, byte_string_reading, byte_string_encoding}
use Rattle.ua_binary.specs.Arrays.{array_reading, array_encoding}
use Rattle.ua_binary.specs.NodeIds.{node_id_reading, node_id_encoding}
use Rattle.ua_binary.specs.QualifiedNames.{qualified_name_reading, qualified_name_encoding}
use Rattle.ua_binary.specs.ExtensionObjects.{extension_object_reading, extension_object_encoding}
use Rattle.ua_binary.specs.DataValues.{data_value_reading, data_value_encoding}
use Rattle.ua_messages.specs.Enumerations.{timestamps_to_return_reading, timestamps_to_return_encoding}

unfoldable pub read_raw_modified_details_reading : Reading ReadRawModifiedDetails
read_raw_modified_details_reading = do
  is_read_modified ← boolean_reading
  start_time ← moment_reading
  end_time ← moment_reading
  num_values_per_node ← number_reading w32
  return_bounds ← boolean_reading
  done (record {
    is_read_modified = is_read_modified;
    start_time = start_time;
    end_time = end_time;
    num_values_per_node = num_values_per_node;
    return_bounds = return_bounds;
  })

unfoldable pub read_raw_modified_details_encoding : ReadRawModifiedDetails → List ℕ
read_raw_modified_details_encoding v =
    boolean_encoding v.is_read_modified
    ++ moment_encoding v.start_time
    ++ moment_encoding v.end_time
    ++ number_encoding w32 v.num_values_per_node
    ++ boolean_encoding v.return_bounds

unfoldable pub history_data_reading : Reading HistoryData
history_data_reading = do
  data_values ← array_reading data_value_reading
  done (record { data_values = data_values })

unfoldable pub history_data_encoding : HistoryData → List ℕ
history_data_encoding v = array_encoding data_value_encoding v.data_values

unfoldable pub history_read_value_id_reading : Reading HistoryReadValueId
history_read_value_id_reading = do
  node_id ← node_id_reading
  index_range ← text_reading
  data_encoding ← qualified_name_reading
  continuation_point ← byte_string_reading
  done (record {
    node_id = node_id;
    index_range = index_range;
    data_encoding = data_encoding;
    continuation_point = continuation_point;
  })

unfoldable pub history_read_value_id_encoding : HistoryReadValueId → List ℕ
history_read_value_id_encoding v =
    node_id_encoding v.node_id
    ++ text_encoding v.index_range
    ++ qualified_name_encoding v.data_encoding
    ++ byte_string_encoding v.continuation_point

unfoldable pub history_read_request_reading : Reading HistoryReadRequest
history_read_request_reading = do
  history_read_details ← extension_object_reading
  timestamps_to_return ← timestamps_to_return_reading
  release_continuation_points ← boolean_reading
  nodes_to_read ← array_reading history_read_value_id_reading
  done (record {
    history_read_details = history_read_details;
    timestamps_to_return = timestamps_to_return;
    release_continuation_points = release_continuation_points;
    nodes_to_read = nodes_to_read;
  })

unfoldable pub history_read_request_encoding : HistoryReadRequest → List ℕ
history_read_request_encoding v =
    extension_object_encoding v.history_read_details
    ++ timestamps_to_return_encoding v.timestamps_to_return
    ++ boolean_encoding v.release_continuation_points
    ++ array_encoding history_read_value_id_encoding v.nodes_to_read

unfoldable pub history_read_result_reading : Reading HistoryReadResult
history_read_result_reading = do
  status_code ← status_reading
  continuation_point ← byte_string_reading
  history_data ← extension_object_reading
  done (record {
    status_code = status_code;
    continuation_point = continuation_point;
    history_data = history_data;
  })

unfoldable pub history_read_result_encoding : HistoryReadResult → List ℕ
history_read_result_encoding v =
    status_encoding v.status_code
    ++ byte_string_encoding v.continuation_point
    ++ extension_object_encoding v.history_data
