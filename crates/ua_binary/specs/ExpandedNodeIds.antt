-- Ids of nodes that may be of another server (IEC 62541-6, 5.2.2.10): a node id whose first byte may
-- have two flags; 0x80: the namespace's URI follows, 0x40: then the server's number.
-- An absent URI is null, and an absent number is 0.
use Rattle.std.specs.Prelude.{ℕ, not, ◌*◌, ◌+◌, ◌/◌, ◌%◌, List, ◌++◌, None, ◌==◌, is_some}
use Rattle.std.specs.Int.{w32}
use Rattle.ua_types.specs.declared.node_id.ExpandedNodeId.{ExpandedNodeId}
use Rattle.ua_types.specs.declared.node_id.NodeId.{NodeId}
use Rattle.ua_binary.specs.Reading.{Reading, ◌>>=◌, done}
use Rattle.ua_binary.specs.Numbers.{number_reading, byte_reading, byte_encoding}
use Rattle.ua_binary.specs.Texts.{text_reading}
use Rattle.ua_binary.specs.NodeIds.{after_form_reading, after_form_encoding, form_of}
use Rattle.ua_binary.specs.Parts.{where_set, flag, text_unless_null, number_unless_0}

unfoldable pub expanded_node_id_reading : Reading ExpandedNodeId
expanded_node_id_reading = do
  form ← byte_reading
  node_id ← after_form_reading (form % 64)
  namespace_uri ← where_set (form / 128) None text_reading
  server_index ← where_set (form / 64 % 2) 0 (number_reading w32)
  done (record { node_id = node_id; namespace_uri = namespace_uri; server_index = server_index })

unfoldable pub expanded_node_id_encoding : ExpandedNodeId → List ℕ
expanded_node_id_encoding v =
    byte_encoding (form_of v.node_id.namespace v.node_id.identifier + 64 * flag (not (v.server_index == 0)) + 128 * flag (is_some v.namespace_uri))
    ++ after_form_encoding v.node_id.namespace v.node_id.identifier ++ text_unless_null v.namespace_uri ++ number_unless_0 v.server_index

-- the id of a node of this server
abbrev pub local_id : NodeId → ExpandedNodeId
local_id id = record { node_id = id; namespace_uri = None; server_index = 0 }
