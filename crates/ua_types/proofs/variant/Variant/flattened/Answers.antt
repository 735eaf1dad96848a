use Rattle.std.proofs.Common.{sym, ap, ◌∙◌}
use Rattle.ua_types.specs.Parts.{flattened}
use Rattle.ua_types.specs.declared.variant.Variant.TheVariants as variants
use Rattle.ua_types.proofs.variant.Variant.flattened.Goals as goal

pub returns-in-Boolean : goal.returns-in-Boolean
returns-in-Boolean c = ap variants.Boolean c.flattened.ensures ∙ ap flattened (sym c.in-Boolean.is)

pub returns-in-SByte : goal.returns-in-SByte
returns-in-SByte c = ap variants.SByte c.flattened-in-SByte.ensures ∙ ap flattened (sym c.in-SByte.is)

pub returns-in-Byte : goal.returns-in-Byte
returns-in-Byte c = ap variants.Byte c.flattened-in-Byte.ensures ∙ ap flattened (sym c.in-Byte.is)

pub returns-in-Int16 : goal.returns-in-Int16
returns-in-Int16 c = ap variants.Int16 c.flattened-in-Int16.ensures ∙ ap flattened (sym c.in-Int16.is)

pub returns-in-UInt16 : goal.returns-in-UInt16
returns-in-UInt16 c = ap variants.UInt16 c.flattened-in-UInt16.ensures ∙ ap flattened (sym c.in-UInt16.is)

pub returns-in-Int32 : goal.returns-in-Int32
returns-in-Int32 c = ap variants.Int32 c.flattened-in-Int32.ensures ∙ ap flattened (sym c.in-Int32.is)

pub returns-in-UInt32 : goal.returns-in-UInt32
returns-in-UInt32 c = ap variants.UInt32 c.flattened-in-UInt32.ensures ∙ ap flattened (sym c.in-UInt32.is)

pub returns-in-Int64 : goal.returns-in-Int64
returns-in-Int64 c = ap variants.Int64 c.flattened-in-Int64.ensures ∙ ap flattened (sym c.in-Int64.is)

pub returns-in-UInt64 : goal.returns-in-UInt64
returns-in-UInt64 c = ap variants.UInt64 c.flattened-in-UInt64.ensures ∙ ap flattened (sym c.in-UInt64.is)

pub returns-in-Float : goal.returns-in-Float
returns-in-Float c = ap variants.Float c.flattened-in-Float.ensures ∙ ap flattened (sym c.in-Float.is)

pub returns-in-Double : goal.returns-in-Double
returns-in-Double c = ap variants.Double c.flattened-in-Double.ensures ∙ ap flattened (sym c.in-Double.is)

pub returns-in-String : goal.returns-in-String
returns-in-String c = ap variants.String c.flattened-in-String.ensures ∙ ap flattened (sym c.in-String.is)

pub returns-in-DateTime : goal.returns-in-DateTime
returns-in-DateTime c = ap variants.DateTime c.flattened-in-DateTime.ensures ∙ ap flattened (sym c.in-DateTime.is)

pub returns-in-Guid : goal.returns-in-Guid
returns-in-Guid c = ap variants.Guid c.flattened-in-Guid.ensures ∙ ap flattened (sym c.in-Guid.is)

pub returns-in-ByteString : goal.returns-in-ByteString
returns-in-ByteString c = ap variants.ByteString c.flattened-in-ByteString.ensures ∙ ap flattened (sym c.in-ByteString.is)

pub returns-in-XmlElement : goal.returns-in-XmlElement
returns-in-XmlElement c = ap variants.XmlElement c.flattened-in-XmlElement.ensures ∙ ap flattened (sym c.in-XmlElement.is)

pub returns-in-NodeId : goal.returns-in-NodeId
returns-in-NodeId c = ap variants.NodeId c.flattened-in-NodeId.ensures ∙ ap flattened (sym c.in-NodeId.is)

pub returns-in-StatusCode : goal.returns-in-StatusCode
returns-in-StatusCode c = ap variants.StatusCode c.flattened-in-StatusCode.ensures ∙ ap flattened (sym c.in-StatusCode.is)

pub returns-in-QualifiedName : goal.returns-in-QualifiedName
returns-in-QualifiedName c = ap variants.QualifiedName c.flattened-in-QualifiedName.ensures ∙ ap flattened (sym c.in-QualifiedName.is)
