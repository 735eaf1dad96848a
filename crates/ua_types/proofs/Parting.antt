-- What becomes of a value's type, shape and length as parts of it are taken or replaced.
use Rattle.std.proofs.Common.{◌≡◌, ℕ, ◌+◌, ◌≤◌, List, [], ◌∷◌, ◌++◌, length, take, drop, Some, None, arith, length-take, append_assoc, refl, ap, ◌∙◌}
use Rattle.std.proofs.lemmas.List.{take_at, drop_at}
use Rattle.ua_types.specs.Parts.{list_len_in, part_in, flat_len_of, flat_list, flat_len_in, flattened_in, with_part_in, list_len, part_of, flat_len, flattened, with_part, HasRoom}
use Rattle.ua_types.specs.Shapes.{shape_in, shape_of}
use Rattle.ua_types.specs.Variants.{type_number}
use Rattle.ua_types.specs.declared.content.Content.{Content}
use Rattle.ua_types.specs.declared.content.Content.TheVariants.{Scalar, Array, Matrix}
use Rattle.ua_types.specs.declared.shape.Shape.TheVariants as shapes
use Rattle.ua_types.specs.declared.variant.Variant.{Variant}
use Rattle.ua_types.specs.declared.variant.Variant.TheVariants as variants

-- ---- flat lists

module _ {A : Type 0} where
  list_of_flat : (elements : List A) (dimensions : List ℕ) (n : ℕ) → flat_len_of elements dimensions ≡ Some n
      → (list_len_in (flat_list elements dimensions) ≡ Some n) × (shape_in (flat_list elements dimensions) ≡ shapes.List)
  list_of_flat elements [] n is = (is, refl)
  list_of_flat elements (d ∷ []) n is = (is, refl)
  list_of_flat elements (d ∷ e ∷ ds) n is = absurd cc

  of_flat_content : (content : Content A) (n : ℕ) → flat_len_in content ≡ Some n
      → (list_len_in (flattened_in content) ≡ Some n) × (shape_in (flattened_in content) ≡ shapes.List)
  of_flat_content (Scalar x) n is = absurd cc
  of_flat_content (Array None) n is = absurd cc
  of_flat_content (Array (Some elements)) n is = (is, refl)
  of_flat_content (Matrix m) n is = list_of_flat m.0 m.1 n is

of_flat : (value : Variant) (n : ℕ) → flat_len value ≡ Some n → (list_len (flattened value) ≡ Some n) × (shape_of (flattened value) ≡ shapes.List)
of_flat variants.Null n is = absurd cc
of_flat (variants.Boolean content) n is = of_flat_content content n is
of_flat (variants.SByte content) n is = of_flat_content content n is
of_flat (variants.Byte content) n is = of_flat_content content n is
of_flat (variants.Int16 content) n is = of_flat_content content n is
of_flat (variants.UInt16 content) n is = of_flat_content content n is
of_flat (variants.Int32 content) n is = of_flat_content content n is
of_flat (variants.UInt32 content) n is = of_flat_content content n is
of_flat (variants.Int64 content) n is = of_flat_content content n is
of_flat (variants.UInt64 content) n is = of_flat_content content n is
of_flat (variants.Float content) n is = of_flat_content content n is
of_flat (variants.Double content) n is = of_flat_content content n is
of_flat (variants.String content) n is = of_flat_content content n is
of_flat (variants.DateTime content) n is = of_flat_content content n is
of_flat (variants.Guid content) n is = of_flat_content content n is
of_flat (variants.ByteString content) n is = of_flat_content content n is
of_flat (variants.XmlElement content) n is = of_flat_content content n is
of_flat (variants.NodeId content) n is = of_flat_content content n is
of_flat (variants.ExpandedNodeId content) n is = of_flat_content content n is
of_flat (variants.StatusCode content) n is = of_flat_content content n is
of_flat (variants.QualifiedName content) n is = of_flat_content content n is
of_flat (variants.LocalizedText content) n is = of_flat_content content n is
of_flat (variants.ExtensionObject content) n is = of_flat_content content n is

-- a flat list that was flattened has as many elements
pub len_flattened : (value : Variant) (n : ℕ) → flat_len value ≡ Some n → list_len (flattened value) ≡ Some n
len_flattened value n is = (of_flat value n is).0

pub shape_flattened : (value : Variant) (n : ℕ) → flat_len value ≡ Some n → shape_of (flattened value) ≡ shapes.List
shape_flattened value n is = (of_flat value n is).1

pub type_flattened : (value : Variant) → type_number (flattened value) ≡ type_number value
type_flattened variants.Null = refl
type_flattened (variants.Boolean content) = refl
type_flattened (variants.SByte content) = refl
type_flattened (variants.Byte content) = refl
type_flattened (variants.Int16 content) = refl
type_flattened (variants.UInt16 content) = refl
type_flattened (variants.Int32 content) = refl
type_flattened (variants.UInt32 content) = refl
type_flattened (variants.Int64 content) = refl
type_flattened (variants.UInt64 content) = refl
type_flattened (variants.Float content) = refl
type_flattened (variants.Double content) = refl
type_flattened (variants.String content) = refl
type_flattened (variants.DateTime content) = refl
type_flattened (variants.Guid content) = refl
type_flattened (variants.ByteString content) = refl
type_flattened (variants.XmlElement content) = refl
type_flattened (variants.NodeId content) = refl
type_flattened (variants.ExpandedNodeId content) = refl
type_flattened (variants.StatusCode content) = refl
type_flattened (variants.QualifiedName content) = refl
type_flattened (variants.LocalizedText content) = refl
type_flattened (variants.ExtensionObject content) = refl

-- ---- lists with other elements

module _ {A : Type 0} where
  shape_kept : (from : ℕ) (part whole : Content A) → shape_in (with_part_in from part whole) ≡ shape_in whole
  shape_kept from (Array (Some part)) (Array (Some whole)) = refl
  shape_kept from part whole = refl

pub type_with_part : (from : ℕ) (part whole : Variant) → type_number (with_part from part whole) ≡ type_number whole
unfolding with_part
type_with_part from (variants.Boolean part) (variants.Boolean whole) = refl
type_with_part from (variants.SByte part) (variants.SByte whole) = refl
type_with_part from (variants.Byte part) (variants.Byte whole) = refl
type_with_part from (variants.Int16 part) (variants.Int16 whole) = refl
type_with_part from (variants.UInt16 part) (variants.UInt16 whole) = refl
type_with_part from (variants.Int32 part) (variants.Int32 whole) = refl
type_with_part from (variants.UInt32 part) (variants.UInt32 whole) = refl
type_with_part from (variants.Int64 part) (variants.Int64 whole) = refl
type_with_part from (variants.UInt64 part) (variants.UInt64 whole) = refl
type_with_part from (variants.Float part) (variants.Float whole) = refl
type_with_part from (variants.Double part) (variants.Double whole) = refl
type_with_part from (variants.String part) (variants.String whole) = refl
type_with_part from (variants.DateTime part) (variants.DateTime whole) = refl
type_with_part from (variants.Guid part) (variants.Guid whole) = refl
type_with_part from (variants.ByteString part) (variants.ByteString whole) = refl
type_with_part from (variants.XmlElement part) (variants.XmlElement whole) = refl
type_with_part from (variants.NodeId part) (variants.NodeId whole) = refl
type_with_part from (variants.ExpandedNodeId part) (variants.ExpandedNodeId whole) = refl
type_with_part from (variants.StatusCode part) (variants.StatusCode whole) = refl
type_with_part from (variants.QualifiedName part) (variants.QualifiedName whole) = refl
type_with_part from (variants.LocalizedText part) (variants.LocalizedText whole) = refl
type_with_part from (variants.ExtensionObject part) (variants.ExtensionObject whole) = refl
type_with_part from part whole = refl

pub shape_with_part : (from : ℕ) (part whole : Variant) → shape_of (with_part from part whole) ≡ shape_of whole
unfolding with_part
shape_with_part from (variants.Boolean part) (variants.Boolean whole) = shape_kept from part whole
shape_with_part from (variants.SByte part) (variants.SByte whole) = shape_kept from part whole
shape_with_part from (variants.Byte part) (variants.Byte whole) = shape_kept from part whole
shape_with_part from (variants.Int16 part) (variants.Int16 whole) = shape_kept from part whole
shape_with_part from (variants.UInt16 part) (variants.UInt16 whole) = shape_kept from part whole
shape_with_part from (variants.Int32 part) (variants.Int32 whole) = shape_kept from part whole
shape_with_part from (variants.UInt32 part) (variants.UInt32 whole) = shape_kept from part whole
shape_with_part from (variants.Int64 part) (variants.Int64 whole) = shape_kept from part whole
shape_with_part from (variants.UInt64 part) (variants.UInt64 whole) = shape_kept from part whole
shape_with_part from (variants.Float part) (variants.Float whole) = shape_kept from part whole
shape_with_part from (variants.Double part) (variants.Double whole) = shape_kept from part whole
shape_with_part from (variants.String part) (variants.String whole) = shape_kept from part whole
shape_with_part from (variants.DateTime part) (variants.DateTime whole) = shape_kept from part whole
shape_with_part from (variants.Guid part) (variants.Guid whole) = shape_kept from part whole
shape_with_part from (variants.ByteString part) (variants.ByteString whole) = shape_kept from part whole
shape_with_part from (variants.XmlElement part) (variants.XmlElement whole) = shape_kept from part whole
shape_with_part from (variants.NodeId part) (variants.NodeId whole) = shape_kept from part whole
shape_with_part from (variants.ExpandedNodeId part) (variants.ExpandedNodeId whole) = shape_kept from part whole
shape_with_part from (variants.StatusCode part) (variants.StatusCode whole) = shape_kept from part whole
shape_with_part from (variants.QualifiedName part) (variants.QualifiedName whole) = shape_kept from part whole
shape_with_part from (variants.LocalizedText part) (variants.LocalizedText whole) = shape_kept from part whole
shape_with_part from (variants.ExtensionObject part) (variants.ExtensionObject whole) = shape_kept from part whole
shape_with_part from part whole = refl

-- ---- what was put into a list is a part of it

module _ {A : Type 0} where
  elements_again : (from n : ℕ) (part whole : List A) → length part ≡ n → from + n ≤ length whole
      → take n (drop from (take from whole ++ part ++ drop (from + length part) whole)) ≡ part
  elements_again from n part whole count room =
      let front : length (take from whole) ≡ from = omega (arith, length-take from whole) in
      let rest = drop (from + length part) whole in
      ap (λ (xs : List A). take n (drop from xs)) (append_assoc (take from whole) part rest)
      ∙ ap (take n) (drop_at (take from whole) (part ++ rest) from front)
      ∙ take_at part rest n count

  content_again : (from n : ℕ) (part whole : Content A) → 1 ≤ n → list_len_in part ≡ Some n → HasRoom from (Some n) (list_len_in whole)
      → part_in from n (with_part_in from part whole) ≡ part
  content_again from n (Scalar x) whole some is room = absurd cc
  content_again from n (Array None) whole some is room = let none : 0 ≡ n = cc in absurd (omega arith)
  content_again from n (Array (Some part)) (Scalar x) some is room = absurd room
  content_again from n (Array (Some part)) (Array None) some is room = absurd (omega arith)
  content_again from n (Array (Some part)) (Array (Some whole)) some is room =
      let count : length part ≡ n = cc in
      ap (λ (xs : List A). Array (Some xs)) (elements_again from n part whole count room)
  content_again from n (Array (Some part)) (Matrix m) some is room = absurd room
  content_again from n (Matrix m) whole some is room = absurd cc

-- a list that was put into another of its type is what is there then
pub part_again : (from n : ℕ) (part whole : Variant) → 1 ≤ n → type_number part ≡ type_number whole → list_len part ≡ Some n → HasRoom from (Some n) (list_len whole)
    → part_of from n (with_part from part whole) ≡ part
unfolding with_part
part_again from n variants.Null whole some same is room = absurd cc
part_again from n (variants.Boolean part) (variants.Boolean whole) some same is room = ap variants.Boolean (content_again from n part whole some is room)
part_again from n (variants.SByte part) (variants.SByte whole) some same is room = ap variants.SByte (content_again from n part whole some is room)
part_again from n (variants.Byte part) (variants.Byte whole) some same is room = ap variants.Byte (content_again from n part whole some is room)
part_again from n (variants.Int16 part) (variants.Int16 whole) some same is room = ap variants.Int16 (content_again from n part whole some is room)
part_again from n (variants.UInt16 part) (variants.UInt16 whole) some same is room = ap variants.UInt16 (content_again from n part whole some is room)
part_again from n (variants.Int32 part) (variants.Int32 whole) some same is room = ap variants.Int32 (content_again from n part whole some is room)
part_again from n (variants.UInt32 part) (variants.UInt32 whole) some same is room = ap variants.UInt32 (content_again from n part whole some is room)
part_again from n (variants.Int64 part) (variants.Int64 whole) some same is room = ap variants.Int64 (content_again from n part whole some is room)
part_again from n (variants.UInt64 part) (variants.UInt64 whole) some same is room = ap variants.UInt64 (content_again from n part whole some is room)
part_again from n (variants.Float part) (variants.Float whole) some same is room = ap variants.Float (content_again from n part whole some is room)
part_again from n (variants.Double part) (variants.Double whole) some same is room = ap variants.Double (content_again from n part whole some is room)
part_again from n (variants.String part) (variants.String whole) some same is room = ap variants.String (content_again from n part whole some is room)
part_again from n (variants.DateTime part) (variants.DateTime whole) some same is room = ap variants.DateTime (content_again from n part whole some is room)
part_again from n (variants.Guid part) (variants.Guid whole) some same is room = ap variants.Guid (content_again from n part whole some is room)
part_again from n (variants.ByteString part) (variants.ByteString whole) some same is room = ap variants.ByteString (content_again from n part whole some is room)
part_again from n (variants.XmlElement part) (variants.XmlElement whole) some same is room = ap variants.XmlElement (content_again from n part whole some is room)
part_again from n (variants.NodeId part) (variants.NodeId whole) some same is room = ap variants.NodeId (content_again from n part whole some is room)
part_again from n (variants.ExpandedNodeId part) (variants.ExpandedNodeId whole) some same is room = ap variants.ExpandedNodeId (content_again from n part whole some is room)
part_again from n (variants.StatusCode part) (variants.StatusCode whole) some same is room = ap variants.StatusCode (content_again from n part whole some is room)
part_again from n (variants.QualifiedName part) (variants.QualifiedName whole) some same is room = ap variants.QualifiedName (content_again from n part whole some is room)
part_again from n (variants.LocalizedText part) (variants.LocalizedText whole) some same is room = ap variants.LocalizedText (content_again from n part whole some is room)
part_again from n (variants.ExtensionObject part) (variants.ExtensionObject whole) some same is room = ap variants.ExtensionObject (content_again from n part whole some is room)
part_again from n part whole some same is room = absurd (omega arith)
