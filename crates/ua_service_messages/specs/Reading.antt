-- The service Read (IEC 62541-4, section 5, Attribute Service Set).
use Rattle.std.specs.Prelude.{ℕ, List, ◌++◌}
use Rattle.ua_service_messages.specs.declared.reading.ReadRequest.{ReadRequest}
use Rattle.ua_binary.specs.Reading.{Reading, ◌>>=◌, done}
use Rattle.ua_binary.specs.Scalars.{duration_reading, duration_encoding}
use Rattle.ua_binary.specs.Arrays.{array_reading, array_encoding}
use Rattle.ua_messages.specs.Enumerations.{timestamps_to_return_reading, timestamps_to_return_encoding}
use Rattle.ua_messages.specs.ReadValueIds.{read_value_id_reading, read_value_id_encoding}

unfoldable pub read_request_reading : Reading ReadRequest
read_request_reading = do
  max_age ← duration_reading
  timestamps_to_return ← timestamps_to_return_reading
  nodes_to_read ← array_reading read_value_id_reading
  done (record {
    max_age = max_age;
    timestamps_to_return = timestamps_to_return;
    nodes_to_read = nodes_to_read;
  })

unfoldable pub read_request_encoding : ReadRequest → List ℕ
read_request_encoding v =
    duration_encoding v.max_age
    ++ timestamps_to_return_encoding v.timestamps_to_return
    ++ array_encoding read_value_id_encoding v.nodes_to_read
