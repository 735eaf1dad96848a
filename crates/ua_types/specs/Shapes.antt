-- What a value is made of: one value, a list, or a list with dimensions.
use Rattle.ua_types.specs.declared.content.Content.{Content}
use Rattle.ua_types.specs.declared.content.Content.TheVariants as contents
use Rattle.ua_types.specs.declared.shape.Shape.{Shape}
use Rattle.ua_types.specs.declared.shape.Shape.TheVariants.{Null, Scalar, List, Matrix}
use Rattle.ua_types.specs.declared.variant.Variant.{Variant}
use Rattle.ua_types.specs.declared.variant.Variant.TheVariants as variants

abbrev pub shape_in : {A : Type 0} → Content A → Shape
shape_in (contents.Scalar x) = Scalar
shape_in (contents.Array elements) = List
shape_in (contents.Matrix m) = Matrix

abbrev pub shape_of : Variant → Shape
shape_of variants.Null = Null
shape_of (variants.Boolean content) = shape_in content
shape_of (variants.SByte content) = shape_in content
shape_of (variants.Byte content) = shape_in content
shape_of (variants.Int16 content) = shape_in content
shape_of (variants.UInt16 content) = shape_in content
shape_of (variants.Int32 content) = shape_in content
shape_of (variants.UInt32 content) = shape_in content
shape_of (variants.Int64 content) = shape_in content
shape_of (variants.UInt64 content) = shape_in content
shape_of (variants.Float content) = shape_in content
shape_of (variants.Double content) = shape_in content
shape_of (variants.String content) = shape_in content
shape_of (variants.DateTime content) = shape_in content
shape_of (variants.Guid content) = shape_in content
shape_of (variants.ByteString content) = shape_in content
shape_of (variants.XmlElement content) = shape_in content
shape_of (variants.NodeId content) = shape_in content
shape_of (variants.ExpandedNodeId content) = shape_in content
shape_of (variants.StatusCode content) = shape_in content
shape_of (variants.QualifiedName content) = shape_in content
shape_of (variants.LocalizedText content) = shape_in content
shape_of (variants.ExtensionObject content) = shape_in content
