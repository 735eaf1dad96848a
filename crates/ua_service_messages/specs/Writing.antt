-- The service Write (IEC 62541-4, section 5, Attribute Service Set).
use Rattle.std.specs.Prelude.{ℕ, List, ◌++◌}
use Rattle.std.specs.Int.{w32}
use Rattle.ua_service_messages.specs.declared.writing.WriteValue.{WriteValue}
use Rattle.ua_service_messages.specs.declared.writing.WriteRequest.{WriteRequest}
use Rattle.ua_binary.specs.Reading.{Reading, ◌>>=◌, done}
use Rattle.ua_binary.specs.Numbers.{number_reading, number_encoding}
use Rattle.ua_binary.specs.Texts.{text_reading, text_encoding}
use Rattle.ua_binary.specs.Arrays.{array_reading, array_encoding}
use Rattle.ua_binary.specs.NodeIds.{node_id_reading, node_id_encoding}
use Rattle.ua_binary.specs.DataValues.{data_value_reading, data_value_encoding}

unfoldable pub write_value_reading : Reading WriteValue
write_value_reading = do
  node_id ← node_id_reading
  attribute_id ← number_reading w32
  index_range ← text_reading
  value ← data_value_reading
  done (record {
    node_id = node_id;
    attribute_id = attribute_id;
    index_range = index_range;
    value = value;
  })

unfoldable pub write_value_encoding : WriteValue → List ℕ
write_value_encoding v =
    node_id_encoding v.node_id
    ++ number_encoding w32 v.attribute_id
    ++ text_encoding v.index_range
    ++ data_value_encoding v.value

unfoldable pub write_request_reading : Reading WriteRequest
write_request_reading = do
  nodes_to_write ← array_reading write_value_reading
  done (record { nodes_to_write = nodes_to_write })

unfoldable pub write_request_encoding : WriteRequest → List ℕ
write_request_encoding v = array_encoding write_value_encoding v.nodes_to_write
