-- Structures inside ExtensionObjects (IEC 62541-6, 5.2.2.15): the type id tells which structure the body
-- is, and its bytes after the last field are ignored.
use Rattle.std.specs.Prelude.{ℕ, Bool, false, ◌==◌, ◌&&◌, List, Option, Some, None, Result, Ok, Err, if◌then◌else◌}
use Rattle.ua_types.specs.declared.node_id.Identifier.{Identifier}
use Rattle.ua_types.specs.declared.node_id.Identifier.TheVariants.{Numeric}
use Rattle.ua_types.specs.declared.node_id.NodeId.{NodeId}
use Rattle.ua_types.specs.declared.extension_object.ExtensionObjectBody.{ExtensionObjectBody}
use Rattle.ua_types.specs.declared.extension_object.ExtensionObjectBody.TheVariants.{Absent, Binary, Xml}
use Rattle.ua_types.specs.declared.extension_object.ExtensionObject.{ExtensionObject}
use Rattle.ua_types.specs.NodeIds.{numeric_id}
use Rattle.ua_binary.specs.declared.fault.TakeFault.{TakeFault}
use Rattle.ua_binary.specs.Reading.{Reading}
use Rattle.ua_messages.specs.declared.structures.StructureFault.{StructureFault}
use Rattle.ua_messages.specs.declared.structures.StructureFault.TheVariants.{OtherType, Unreadable}

abbrev pub is_number : ℕ → Identifier → Bool
is_number number (Numeric own) = own == number
is_number number other = false

-- the id with this number in namespace 0
abbrev pub is_id : ℕ → NodeId → Bool
is_id number id = id.namespace == 0 && is_number number id.identifier

-- the bytes of a body in the binary encoding
abbrev pub binary_body : ExtensionObjectBody → Option (List ℕ)
binary_body Absent = None
binary_body (Binary bytes) = bytes
binary_body (Xml bytes) = None

abbrev pub value_or_unreadable : {A : Type 0} → Result (A × List ℕ) TakeFault → Result A StructureFault
value_or_unreadable (Ok x) = Ok x.0
value_or_unreadable (Err e) = Err Unreadable

abbrev pub read_in : {A : Type 0} → Reading A → Option (List ℕ) → Result A StructureFault
read_in fields None = Err Unreadable
read_in fields (Some bytes) = value_or_unreadable (fields bytes)

-- the structure of this type that an object holds
unfoldable pub structure_of : {A : Type 0} → Reading A → ℕ → ExtensionObject → Result A StructureFault
structure_of fields type_id object = if is_id type_id object.type_id then read_in fields (binary_body object.body) else Err OtherType

-- an object that holds the structure of this type with this encoding
abbrev pub object_around : ℕ → List ℕ → ExtensionObject
object_around type_id bytes = record { type_id = numeric_id 0 type_id; body = Binary (Some bytes) }
