-- The number of a value's type (IEC 62541-6, 5.1.2), and 0 for no value.
use Rattle.std.specs.Prelude.{ℕ}
use Rattle.ua_types.specs.declared.variant.Variant.{Variant}
use Rattle.ua_types.specs.declared.variant.Variant.TheVariants as variants

abbrev pub type_number : Variant → ℕ
type_number variants.Null = 0
type_number (variants.Boolean content) = 1
type_number (variants.SByte content) = 2
type_number (variants.Byte content) = 3
type_number (variants.Int16 content) = 4
type_number (variants.UInt16 content) = 5
type_number (variants.Int32 content) = 6
type_number (variants.UInt32 content) = 7
type_number (variants.Int64 content) = 8
type_number (variants.UInt64 content) = 9
type_number (variants.Float content) = 10
type_number (variants.Double content) = 11
type_number (variants.String content) = 12
type_number (variants.DateTime content) = 13
type_number (variants.Guid content) = 14
type_number (variants.ByteString content) = 15
type_number (variants.XmlElement content) = 16
type_number (variants.NodeId content) = 17
type_number (variants.ExpandedNodeId content) = 18
type_number (variants.StatusCode content) = 19
type_number (variants.QualifiedName content) = 20
type_number (variants.LocalizedText content) = 21
type_number (variants.ExtensionObject content) = 22
