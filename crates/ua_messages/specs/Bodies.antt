-- Bodies (IEC 62541-6, 5.2.9): the id of the message's encoding, and then the message's fields.
use Rattle.std.specs.Prelude.{ℕ, List, ◌++◌, Result, Ok, Err, ◌==◌, if◌then◌else◌}
use Rattle.ua_types.specs.declared.node_id.Identifier.{Identifier}
use Rattle.ua_types.specs.declared.node_id.Identifier.TheVariants.{Numeric}
use Rattle.ua_types.specs.NodeIds.{numeric_id}
use Rattle.ua_binary.specs.declared.fault.TakeFault.{TakeFault}
use Rattle.ua_binary.specs.Reading.{Reading, ◌>>=◌, done}
use Rattle.ua_binary.specs.NodeIds.{node_id_reading, node_id_encoding}

-- what is read, and not what is left
abbrev pub only_value : {A : Type 0} → Result (A × List ℕ) TakeFault → Result A TakeFault
only_value (Ok x) = Ok x.0
only_value (Err e) = Err e

-- the number of an id in namespace 0, and 0 for all other ids
abbrev pub standard_number : ℕ → Identifier → ℕ
standard_number namespace (Numeric n) = if namespace == 0 then n else 0
standard_number namespace other = 0

-- the number of the id that a body begins with
unfoldable pub message_id_of : List ℕ → Result ℕ TakeFault
message_id_of body = only_value ((do
  id ← node_id_reading
  done (standard_number id.namespace id.identifier)) body)

-- a body's message, whose bytes after the last field are ignored
unfoldable pub message_of : {A : Type 0} → Reading A → List ℕ → Result A TakeFault
message_of fields body = only_value ((do
  id ← node_id_reading
  message ← fields
  done message) body)

abbrev pub body_encoding : {A : Type 0} → (A → List ℕ) → ℕ → A → List ℕ
body_encoding encoding type_id message = node_id_encoding (numeric_id 0 type_id) ++ encoding message
