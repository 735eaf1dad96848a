-- The types of the values that a text can say: their names and their numbers (IEC 62541-6, 5.1.2).
use Rattle.std.specs.Prelude.{ℕ, List, codes, Option, Some, None, if◌then◌else◌}
use Rattle.std.specs.Str.{bytes_eq}
use Rattle.ua_types.specs.declared.value_type.ValueType.{ValueType}
use Rattle.ua_types.specs.declared.value_type.ValueType.TheVariants as types

-- the type of numbers that a word names
unfoldable pub number_type_named : List ℕ → Option ValueType
number_type_named word =
    if bytes_eq word (codes "SByte") then Some types.SByte else
    if bytes_eq word (codes "Byte") then Some types.Byte else
    if bytes_eq word (codes "Int16") then Some types.Int16 else
    if bytes_eq word (codes "UInt16") then Some types.UInt16 else
    if bytes_eq word (codes "Int32") then Some types.Int32 else
    if bytes_eq word (codes "UInt32") then Some types.UInt32 else
    if bytes_eq word (codes "Int64") then Some types.Int64 else
    if bytes_eq word (codes "UInt64") then Some types.UInt64 else
    None

-- the type that a word names
unfoldable pub value_type_named : List ℕ → Option ValueType
value_type_named word =
    if bytes_eq word (codes "Boolean") then Some types.Boolean else
    if bytes_eq word (codes "String") then Some types.String else
    if bytes_eq word (codes "DateTime") then Some types.DateTime else
    if bytes_eq word (codes "Guid") then Some types.Guid else
    if bytes_eq word (codes "ByteString") then Some types.ByteString else
    if bytes_eq word (codes "NodeId") then Some types.NodeId else
    if bytes_eq word (codes "StatusCode") then Some types.StatusCode else
    number_type_named word

-- the numbers of the types
abbrev pub type_number : ValueType → ℕ
type_number types.Boolean = 1
type_number types.SByte = 2
type_number types.Byte = 3
type_number types.Int16 = 4
type_number types.UInt16 = 5
type_number types.Int32 = 6
type_number types.UInt32 = 7
type_number types.Int64 = 8
type_number types.UInt64 = 9
type_number types.String = 12
type_number types.DateTime = 13
type_number types.Guid = 14
type_number types.ByteString = 15
type_number types.NodeId = 17
type_number types.StatusCode = 19
