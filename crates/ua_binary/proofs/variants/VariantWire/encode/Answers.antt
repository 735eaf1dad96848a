use Rattle.std.proofs.Common.{refl, arith}
use Rattle.ua_types.specs.declared.variant.Variant.TheVariants as variants
use Rattle.ua_binary.specs.Variants.{typed_reading, variant_encoding}
use Rattle.ua_binary.proofs.Typed.{typed_again}
use Rattle.ua_binary.proofs.variants.VariantWire.encode.Goals as goal

pub returns-in-Boolean-clause-again : goal.returns-in-Boolean-clause-again
unfolding typed_reading variant_encoding
returns-in-Boolean-clause-again c = typed_again 1 variants.Boolean _ _ _ (omega arith) refl refl c.in-Boolean.is c.encode_typed.result c.encode_typed.ensures.again

pub returns-in-SByte-clause-again : goal.returns-in-SByte-clause-again
unfolding typed_reading variant_encoding
returns-in-SByte-clause-again c = typed_again 2 variants.SByte _ _ _ (omega arith) refl refl c.in-SByte.is c.encode_typed-in-SByte.result c.encode_typed-in-SByte.ensures.again

pub returns-in-Byte-clause-again : goal.returns-in-Byte-clause-again
unfolding typed_reading variant_encoding
returns-in-Byte-clause-again c = typed_again 3 variants.Byte _ _ _ (omega arith) refl refl c.in-Byte.is c.encode_typed-in-Byte.result c.encode_typed-in-Byte.ensures.again

pub returns-in-Int16-clause-again : goal.returns-in-Int16-clause-again
unfolding typed_reading variant_encoding
returns-in-Int16-clause-again c = typed_again 4 variants.Int16 _ _ _ (omega arith) refl refl c.in-Int16.is c.encode_typed-in-Int16.result c.encode_typed-in-Int16.ensures.again

pub returns-in-UInt16-clause-again : goal.returns-in-UInt16-clause-again
unfolding typed_reading variant_encoding
returns-in-UInt16-clause-again c = typed_again 5 variants.UInt16 _ _ _ (omega arith) refl refl c.in-UInt16.is c.encode_typed-in-UInt16.result c.encode_typed-in-UInt16.ensures.again

pub returns-in-Int32-clause-again : goal.returns-in-Int32-clause-again
unfolding typed_reading variant_encoding
returns-in-Int32-clause-again c = typed_again 6 variants.Int32 _ _ _ (omega arith) refl refl c.in-Int32.is c.encode_typed-in-Int32.result c.encode_typed-in-Int32.ensures.again

pub returns-in-UInt32-clause-again : goal.returns-in-UInt32-clause-again
unfolding typed_reading variant_encoding
returns-in-UInt32-clause-again c = typed_again 7 variants.UInt32 _ _ _ (omega arith) refl refl c.in-UInt32.is c.encode_typed-in-UInt32.result c.encode_typed-in-UInt32.ensures.again

pub returns-in-Int64-clause-again : goal.returns-in-Int64-clause-again
unfolding typed_reading variant_encoding
returns-in-Int64-clause-again c = typed_again 8 variants.Int64 _ _ _ (omega arith) refl refl c.in-Int64.is c.encode_typed-in-Int64.result c.encode_typed-in-Int64.ensures.again

pub returns-in-UInt64-clause-again : goal.returns-in-UInt64-clause-again
unfolding typed_reading variant_encoding
returns-in-UInt64-clause-again c = typed_again 9 variants.UInt64 _ _ _ (omega arith) refl refl c.in-UInt64.is c.encode_typed-in-UInt64.result c.encode_typed-in-UInt64.ensures.again

pub returns-in-Float-clause-again : goal.returns-in-Float-clause-again
unfolding typed_reading variant_encoding
returns-in-Float-clause-again c = typed_again 10 variants.Float _ _ _ (omega arith) refl refl c.in-Float.is c.encode_typed-in-Float.result c.encode_typed-in-Float.ensures.again

pub returns-in-Double-clause-again : goal.returns-in-Double-clause-again
unfolding typed_reading variant_encoding
returns-in-Double-clause-again c = typed_again 11 variants.Double _ _ _ (omega arith) refl refl c.in-Double.is c.encode_typed-in-Double.result c.encode_typed-in-Double.ensures.again

pub returns-in-String-clause-again : goal.returns-in-String-clause-again
unfolding typed_reading variant_encoding
returns-in-String-clause-again c = typed_again 12 variants.String _ _ _ (omega arith) refl refl c.in-String.is c.encode_typed-in-String.result c.encode_typed-in-String.ensures.again

pub returns-in-DateTime-clause-again : goal.returns-in-DateTime-clause-again
unfolding typed_reading variant_encoding
returns-in-DateTime-clause-again c = typed_again 13 variants.DateTime _ _ _ (omega arith) refl refl c.in-DateTime.is c.encode_typed-in-DateTime.result c.encode_typed-in-DateTime.ensures.again

pub returns-in-Guid-clause-again : goal.returns-in-Guid-clause-again
unfolding typed_reading variant_encoding
returns-in-Guid-clause-again c = typed_again 14 variants.Guid _ _ _ (omega arith) refl refl c.in-Guid.is c.encode_typed-in-Guid.result c.encode_typed-in-Guid.ensures.again

pub returns-in-ByteString-clause-again : goal.returns-in-ByteString-clause-again
unfolding typed_reading variant_encoding
returns-in-ByteString-clause-again c = typed_again 15 variants.ByteString _ _ _ (omega arith) refl refl c.in-ByteString.is c.encode_typed-in-ByteString.result c.encode_typed-in-ByteString.ensures.again

pub returns-in-XmlElement-clause-again : goal.returns-in-XmlElement-clause-again
unfolding typed_reading variant_encoding
returns-in-XmlElement-clause-again c = typed_again 16 variants.XmlElement _ _ _ (omega arith) refl refl c.in-XmlElement.is c.encode_typed-in-XmlElement.result c.encode_typed-in-XmlElement.ensures.again

pub returns-in-NodeId-clause-again : goal.returns-in-NodeId-clause-again
unfolding typed_reading variant_encoding
returns-in-NodeId-clause-again c = typed_again 17 variants.NodeId _ _ _ (omega arith) refl refl c.in-NodeId.is c.encode_typed-in-NodeId.result c.encode_typed-in-NodeId.ensures.again

pub returns-in-StatusCode-clause-again : goal.returns-in-StatusCode-clause-again
unfolding typed_reading variant_encoding
returns-in-StatusCode-clause-again c = typed_again 19 variants.StatusCode _ _ _ (omega arith) refl refl c.in-StatusCode.is c.encode_typed-in-StatusCode.result c.encode_typed-in-StatusCode.ensures.again

pub returns-in-QualifiedName-clause-again : goal.returns-in-QualifiedName-clause-again
unfolding typed_reading variant_encoding
returns-in-QualifiedName-clause-again c = typed_again 20 variants.QualifiedName _ _ _ (omega arith) refl refl c.in-QualifiedName.is c.encode_typed-in-QualifiedName.result c.encode_typed-in-QualifiedName.ensures.again
