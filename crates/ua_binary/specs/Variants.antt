-- Values of any type (IEC 62541-6, 5.2.2.16): a byte, and what it announces. Its low six bits are the
-- number of the type, and 0 means no value. 128 says that a list follows in place of one value, and 64
-- that dimensions follow the list.
use Rattle.std.specs.Prelude.{◌≡◌, ◌⊎◌, ℕ, ◌≤◌, ◌*◌, ◌+◌, ◌/◌, ◌%◌, List, [], ◌∷◌, ◌++◌, length, Option, Some, None, ◌==◌, if◌then◌else◌}
use Rattle.std.specs.Int.{w16, w32, w64}
use Rattle.ua_types.specs.declared.content.Content.{Content}
use Rattle.ua_types.specs.declared.content.Content.TheVariants.{Scalar, Array, Matrix}
use Rattle.ua_types.specs.declared.variant.Variant.{Variant}
use Rattle.ua_types.specs.declared.variant.Variant.TheVariants as variants
use Rattle.ua_types.specs.Matrices.{is_shape, or_none}
use Rattle.ua_binary.specs.declared.fault.TakeFault.TheVariants.{Form, Kind}
use Rattle.ua_binary.specs.Reading.{Reading, ◌>>=◌, done, refuse}
use Rattle.ua_binary.specs.Numbers.{boolean_reading, boolean_encoding, byte_reading, byte_encoding, sbyte_reading, sbyte_encoding, number_reading, number_encoding, signed_reading, signed_encoding}
use Rattle.ua_binary.specs.Floats.{float_reading, float_encoding, double_reading, double_encoding}
use Rattle.ua_binary.specs.Texts.{text_reading, text_encoding, byte_string_reading, byte_string_encoding, ClaimsTooMany}
use Rattle.ua_binary.specs.Arrays.{array_reading, array_encoding}
use Rattle.ua_binary.specs.Scalars.{moment_reading, moment_encoding, status_reading, status_encoding}
use Rattle.ua_binary.specs.Guids.{guid_reading, guid_encoding}
use Rattle.ua_binary.specs.NodeIds.{node_id_reading, node_id_encoding, SaysNumberOrGuid}
use Rattle.ua_binary.specs.ExpandedNodeIds.{expanded_node_id_reading, expanded_node_id_encoding}
use Rattle.ua_binary.specs.QualifiedNames.{qualified_name_reading, qualified_name_encoding}
use Rattle.ua_binary.specs.LocalizedTexts.{localized_text_reading, localized_text_encoding}
use Rattle.ua_binary.specs.ExtensionObjects.{extension_object_reading, extension_object_encoding}

-- ---- reading

-- a list with dimensions isn't null, and has as many elements as they say
abbrev pub in_dimensions : {A : Type 0} → Option (List A) → List ℕ → Reading (Content A)
in_dimensions None dimensions = refuse Form
in_dimensions (Some elements) dimensions = if is_shape dimensions (length elements) then done (Matrix (elements, dimensions)) else refuse Form

-- what follows the flags 0 (a value), 2 (a list) and 3 (a list with dimensions)
unfoldable pub content_reading : {A : Type 0} → Reading A → ℕ → Reading (Content A)
content_reading element flags =
    if flags == 0 then (do
      x ← element
      done (Scalar x))
    else if flags == 2 then (do
      elements ← array_reading element
      done (Array elements))
    else if flags == 3 then (do
      elements ← array_reading element
      dimensions ← array_reading (number_reading w32)
      in_dimensions elements (or_none dimensions))
    else refuse Form

-- a variant of one type
abbrev pub variant_of : {A : Type 0} → (Content A → Variant) → Reading A → ℕ → Reading Variant
variant_of variant element flags = do
  content ← content_reading element flags
  done (variant content)

-- what follows a first byte with this number and these flags
unfoldable pub typed_reading : ℕ → ℕ → Reading Variant
typed_reading number flags =
    if number == 0 then (if flags == 0 then done variants.Null else refuse Form)
    else if number == 1 then variant_of variants.Boolean boolean_reading flags
    else if number == 2 then variant_of variants.SByte sbyte_reading flags
    else if number == 3 then variant_of variants.Byte byte_reading flags
    else if number == 4 then variant_of variants.Int16 (signed_reading w16) flags
    else if number == 5 then variant_of variants.UInt16 (number_reading w16) flags
    else if number == 6 then variant_of variants.Int32 (signed_reading w32) flags
    else if number == 7 then variant_of variants.UInt32 (number_reading w32) flags
    else if number == 8 then variant_of variants.Int64 (signed_reading w64) flags
    else if number == 9 then variant_of variants.UInt64 (number_reading w64) flags
    else if number == 10 then variant_of variants.Float float_reading flags
    else if number == 11 then variant_of variants.Double double_reading flags
    else if number == 12 then variant_of variants.String text_reading flags
    else if number == 13 then variant_of variants.DateTime moment_reading flags
    else if number == 14 then variant_of variants.Guid guid_reading flags
    else if number == 15 then variant_of variants.ByteString byte_string_reading flags
    else if number == 16 then variant_of variants.XmlElement byte_string_reading flags
    else if number == 17 then variant_of variants.NodeId node_id_reading flags
    else if number == 18 then variant_of variants.ExpandedNodeId expanded_node_id_reading flags
    else if number == 19 then variant_of variants.StatusCode status_reading flags
    else if number == 20 then variant_of variants.QualifiedName qualified_name_reading flags
    else if number == 21 then variant_of variants.LocalizedText localized_text_reading flags
    else if number == 22 then variant_of variants.ExtensionObject extension_object_reading flags
    else refuse Kind

unfoldable pub variant_reading : Reading Variant
variant_reading = do
  first ← byte_reading
  typed_reading (first % 64) (first / 64)

-- a first byte that announces a list, whose length is above the number of bytes after it
abbrev pub ClaimsTooManyElements : List ℕ → Type 0
ClaimsTooManyElements [] = ⊥
ClaimsTooManyElements (first ∷ rest) = (128 ≤ first) × ClaimsTooMany rest

-- the numbers of the types of fixed size: Boolean, numbers, moments, Guids and statuses
abbrev pub HasFixedSize : ℕ → Type 0
HasFixedSize number = (number ≤ 11) ⊎ ((number ≡ 13) ⊎ ((number ≡ 14) ⊎ (number ≡ 19)))

-- behind a first byte with this number and these flags stands no value, or one of fixed size, or an id that is a number or a
-- Guid
unfoldable pub IsPlainBehind : ℕ → ℕ → List ℕ → Type 0
IsPlainBehind number flags bytes = (number ≡ 0) ⊎ ((flags ≡ 0) × (HasFixedSize number ⊎ ((number ≡ 17) × SaysNumberOrGuid bytes)))

abbrev pub AnnouncesPlain : List ℕ → Type 0
AnnouncesPlain [] = ⊥
AnnouncesPlain (first ∷ rest) = IsPlainBehind (first % 64) (first / 64) rest

-- ---- writing

abbrev pub flags_of : {A : Type 0} → Content A → ℕ
flags_of (Scalar x) = 0
flags_of (Array elements) = 2
flags_of (Matrix m) = 3

unfoldable pub content_encoding : {A : Type 0} → (A → List ℕ) → Content A → List ℕ
content_encoding element (Scalar x) = element x
content_encoding element (Array elements) = array_encoding element elements
content_encoding element (Matrix m) = array_encoding element (Some m.0) ++ array_encoding (number_encoding w32) (Some m.1)

-- the first byte, and what it announces
abbrev pub typed_encoding : {A : Type 0} → ℕ → (A → List ℕ) → Content A → List ℕ
typed_encoding number element content = byte_encoding (number + 64 * flags_of content) ++ content_encoding element content

unfoldable pub variant_encoding : Variant → List ℕ
variant_encoding variants.Null = byte_encoding 0
variant_encoding (variants.Boolean content) = typed_encoding 1 boolean_encoding content
variant_encoding (variants.SByte content) = typed_encoding 2 sbyte_encoding content
variant_encoding (variants.Byte content) = typed_encoding 3 byte_encoding content
variant_encoding (variants.Int16 content) = typed_encoding 4 (signed_encoding w16) content
variant_encoding (variants.UInt16 content) = typed_encoding 5 (number_encoding w16) content
variant_encoding (variants.Int32 content) = typed_encoding 6 (signed_encoding w32) content
variant_encoding (variants.UInt32 content) = typed_encoding 7 (number_encoding w32) content
variant_encoding (variants.Int64 content) = typed_encoding 8 (signed_encoding w64) content
variant_encoding (variants.UInt64 content) = typed_encoding 9 (number_encoding w64) content
variant_encoding (variants.Float content) = typed_encoding 10 float_encoding content
variant_encoding (variants.Double content) = typed_encoding 11 double_encoding content
variant_encoding (variants.String content) = typed_encoding 12 text_encoding content
variant_encoding (variants.DateTime content) = typed_encoding 13 moment_encoding content
variant_encoding (variants.Guid content) = typed_encoding 14 guid_encoding content
variant_encoding (variants.ByteString content) = typed_encoding 15 byte_string_encoding content
variant_encoding (variants.XmlElement content) = typed_encoding 16 byte_string_encoding content
variant_encoding (variants.NodeId content) = typed_encoding 17 node_id_encoding content
variant_encoding (variants.ExpandedNodeId content) = typed_encoding 18 expanded_node_id_encoding content
variant_encoding (variants.StatusCode content) = typed_encoding 19 status_encoding content
variant_encoding (variants.QualifiedName content) = typed_encoding 20 qualified_name_encoding content
variant_encoding (variants.LocalizedText content) = typed_encoding 21 localized_text_encoding content
variant_encoding (variants.ExtensionObject content) = typed_encoding 22 extension_object_encoding content
