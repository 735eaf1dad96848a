-- What is read of a node (ReadValueId, IEC 62541-4, section 7).
use Rattle.std.specs.Prelude.{ℕ, List, ◌++◌}
use Rattle.std.specs.Int.{w32}
use Rattle.ua_messages.specs.declared.read_value_ids.ReadValueId.{ReadValueId}
use Rattle.ua_binary.specs.Reading.{Reading, ◌>>=◌, done}
use Rattle.ua_binary.specs.Numbers.{number_reading, number_encoding}
use Rattle.ua_binary.specs.Texts.{text_reading, text_encoding}
use Rattle.ua_binary.specs.NodeIds.{node_id_reading, node_id_encoding}
use Rattle.ua_binary.specs.QualifiedNames.{qualified_name_reading, qualified_name_encoding}

unfoldable pub read_value_id_reading : Reading ReadValueId
read_value_id_reading = do
  node_id ← node_id_reading
  attribute_id ← number_reading w32
  index_range ← text_reading
  data_encoding ← qualified_name_reading
  done (record {
    node_id = node_id;
    attribute_id = attribute_id;
    index_range = index_range;
    data_encoding = data_encoding;
  })

unfoldable pub read_value_id_encoding : ReadValueId → List ℕ
read_value_id_encoding v =
    node_id_encoding v.node_id
    ++ number_encoding w32 v.attribute_id
    ++ text_encoding v.index_range
    ++ qualified_name_encoding v.data_encoding
