use Rattle.std.proofs.Common.{ap, refl, arith}
use Rattle.ua_types.specs.Parts.{part_of}
use Rattle.ua_types.specs.declared.variant.Variant.TheVariants as variants
use Rattle.ua_binary.specs.Variants.{typed_reading, variant_encoding}
use Rattle.ua_binary.proofs.Typed.{typed_again}
use Rattle.ua_binary.proofs.borrowed.write_part.Goals as goal

pub returns-in-Boolean-clause-again : goal.returns-in-Boolean-clause-again
unfolding typed_reading variant_encoding
returns-in-Boolean-clause-again c = typed_again 1 variants.Boolean _ _ _ (omega arith) refl refl (ap (part_of c.args.from c.args.count) c.in-Boolean.is) c.write_typed_part.result c.write_typed_part.ensures.again

pub returns-in-SByte-clause-again : goal.returns-in-SByte-clause-again
unfolding typed_reading variant_encoding
returns-in-SByte-clause-again c = typed_again 2 variants.SByte _ _ _ (omega arith) refl refl (ap (part_of c.args.from c.args.count) c.in-SByte.is) c.write_typed_part-in-SByte.result c.write_typed_part-in-SByte.ensures.again

pub returns-in-Byte-clause-again : goal.returns-in-Byte-clause-again
unfolding typed_reading variant_encoding
returns-in-Byte-clause-again c = typed_again 3 variants.Byte _ _ _ (omega arith) refl refl (ap (part_of c.args.from c.args.count) c.in-Byte.is) c.write_typed_part-in-Byte.result c.write_typed_part-in-Byte.ensures.again

pub returns-in-Int16-clause-again : goal.returns-in-Int16-clause-again
unfolding typed_reading variant_encoding
returns-in-Int16-clause-again c = typed_again 4 variants.Int16 _ _ _ (omega arith) refl refl (ap (part_of c.args.from c.args.count) c.in-Int16.is) c.write_typed_part-in-Int16.result c.write_typed_part-in-Int16.ensures.again

pub returns-in-UInt16-clause-again : goal.returns-in-UInt16-clause-again
unfolding typed_reading variant_encoding
returns-in-UInt16-clause-again c = typed_again 5 variants.UInt16 _ _ _ (omega arith) refl refl (ap (part_of c.args.from c.args.count) c.in-UInt16.is) c.write_typed_part-in-UInt16.result c.write_typed_part-in-UInt16.ensures.again

pub returns-in-Int32-clause-again : goal.returns-in-Int32-clause-again
unfolding typed_reading variant_encoding
returns-in-Int32-clause-again c = typed_again 6 variants.Int32 _ _ _ (omega arith) refl refl (ap (part_of c.args.from c.args.count) c.in-Int32.is) c.write_typed_part-in-Int32.result c.write_typed_part-in-Int32.ensures.again

pub returns-in-UInt32-clause-again : goal.returns-in-UInt32-clause-again
unfolding typed_reading variant_encoding
returns-in-UInt32-clause-again c = typed_again 7 variants.UInt32 _ _ _ (omega arith) refl refl (ap (part_of c.args.from c.args.count) c.in-UInt32.is) c.write_typed_part-in-UInt32.result c.write_typed_part-in-UInt32.ensures.again

pub returns-in-Int64-clause-again : goal.returns-in-Int64-clause-again
unfolding typed_reading variant_encoding
returns-in-Int64-clause-again c = typed_again 8 variants.Int64 _ _ _ (omega arith) refl refl (ap (part_of c.args.from c.args.count) c.in-Int64.is) c.write_typed_part-in-Int64.result c.write_typed_part-in-Int64.ensures.again

pub returns-in-UInt64-clause-again : goal.returns-in-UInt64-clause-again
unfolding typed_reading variant_encoding
returns-in-UInt64-clause-again c = typed_again 9 variants.UInt64 _ _ _ (omega arith) refl refl (ap (part_of c.args.from c.args.count) c.in-UInt64.is) c.write_typed_part-in-UInt64.result c.write_typed_part-in-UInt64.ensures.again

pub returns-in-Float-clause-again : goal.returns-in-Float-clause-again
unfolding typed_reading variant_encoding
returns-in-Float-clause-again c = typed_again 10 variants.Float _ _ _ (omega arith) refl refl (ap (part_of c.args.from c.args.count) c.in-Float.is) c.write_typed_part-in-Float.result c.write_typed_part-in-Float.ensures.again

pub returns-in-Double-clause-again : goal.returns-in-Double-clause-again
unfolding typed_reading variant_encoding
returns-in-Double-clause-again c = typed_again 11 variants.Double _ _ _ (omega arith) refl refl (ap (part_of c.args.from c.args.count) c.in-Double.is) c.write_typed_part-in-Double.result c.write_typed_part-in-Double.ensures.again

pub returns-in-String-clause-again : goal.returns-in-String-clause-again
unfolding typed_reading variant_encoding
returns-in-String-clause-again c = typed_again 12 variants.String _ _ _ (omega arith) refl refl (ap (part_of c.args.from c.args.count) c.in-String.is) c.write_typed_part-in-String.result c.write_typed_part-in-String.ensures.again

pub returns-in-DateTime-clause-again : goal.returns-in-DateTime-clause-again
unfolding typed_reading variant_encoding
returns-in-DateTime-clause-again c = typed_again 13 variants.DateTime _ _ _ (omega arith) refl refl (ap (part_of c.args.from c.args.count) c.in-DateTime.is) c.write_typed_part-in-DateTime.result c.write_typed_part-in-DateTime.ensures.again

pub returns-in-Guid-clause-again : goal.returns-in-Guid-clause-again
unfolding typed_reading variant_encoding
returns-in-Guid-clause-again c = typed_again 14 variants.Guid _ _ _ (omega arith) refl refl (ap (part_of c.args.from c.args.count) c.in-Guid.is) c.write_typed_part-in-Guid.result c.write_typed_part-in-Guid.ensures.again

pub returns-in-ByteString-clause-again : goal.returns-in-ByteString-clause-again
unfolding typed_reading variant_encoding
returns-in-ByteString-clause-again c = typed_again 15 variants.ByteString _ _ _ (omega arith) refl refl (ap (part_of c.args.from c.args.count) c.in-ByteString.is) c.write_typed_part-in-ByteString.result c.write_typed_part-in-ByteString.ensures.again

pub returns-in-XmlElement-clause-again : goal.returns-in-XmlElement-clause-again
unfolding typed_reading variant_encoding
returns-in-XmlElement-clause-again c = typed_again 16 variants.XmlElement _ _ _ (omega arith) refl refl (ap (part_of c.args.from c.args.count) c.in-XmlElement.is) c.write_typed_part-in-XmlElement.result c.write_typed_part-in-XmlElement.ensures.again

pub returns-in-NodeId-clause-again : goal.returns-in-NodeId-clause-again
unfolding typed_reading variant_encoding
returns-in-NodeId-clause-again c = typed_again 17 variants.NodeId _ _ _ (omega arith) refl refl (ap (part_of c.args.from c.args.count) c.in-NodeId.is) c.write_typed_part-in-NodeId.result c.write_typed_part-in-NodeId.ensures.again

pub returns-in-StatusCode-clause-again : goal.returns-in-StatusCode-clause-again
unfolding typed_reading variant_encoding
returns-in-StatusCode-clause-again c = typed_again 19 variants.StatusCode _ _ _ (omega arith) refl refl (ap (part_of c.args.from c.args.count) c.in-StatusCode.is) c.write_typed_part-in-StatusCode.result c.write_typed_part-in-StatusCode.ensures.again

pub returns-in-QualifiedName-clause-again : goal.returns-in-QualifiedName-clause-again
unfolding typed_reading variant_encoding
returns-in-QualifiedName-clause-again c = typed_again 20 variants.QualifiedName _ _ _ (omega arith) refl refl (ap (part_of c.args.from c.args.count) c.in-QualifiedName.is) c.write_typed_part-in-QualifiedName.result c.write_typed_part-in-QualifiedName.ensures.again
