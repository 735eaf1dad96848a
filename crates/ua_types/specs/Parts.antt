-- Parts of lists: so many elements from one on, and others in their place. Elements are numbered from 0.
use Rattle.std.specs.Prelude.{ℕ, ◌+◌, ◌≤◌, List, [], ◌∷◌, ◌++◌, length, take, drop, Option, Some, None}
use Rattle.ua_types.specs.declared.content.Content.{Content}
use Rattle.ua_types.specs.declared.content.Content.TheVariants.{Scalar, Array, Matrix}
use Rattle.ua_types.specs.declared.variant.Variant.{Variant}
use Rattle.ua_types.specs.declared.variant.Variant.TheVariants as variants

-- ---- of contents

-- how many elements a list without dimensions has; a null one has none
abbrev pub list_len_in : {A : Type 0} → Content A → Option ℕ
list_len_in (Scalar x) = None
list_len_in (Array None) = Some 0
list_len_in (Array (Some elements)) = Some (length elements)
list_len_in (Matrix m) = None

-- the list of so many elements from one on
abbrev pub part_in : {A : Type 0} → ℕ → ℕ → Content A → Content A
part_in from count (Scalar x) = Scalar x
part_in from count (Array None) = Array None
part_in from count (Array (Some elements)) = Array (Some (take count (drop from elements)))
part_in from count (Matrix m) = Matrix m

abbrev pub flat_list : {A : Type 0} → List A → List ℕ → Content A
flat_list elements [] = Array (Some elements)
flat_list elements (d ∷ []) = Array (Some elements)
flat_list elements (d ∷ e ∷ ds) = Matrix (elements, d ∷ e ∷ ds)

-- a list with at most one dimension is the list without dimensions
abbrev pub flattened_in : {A : Type 0} → Content A → Content A
flattened_in (Scalar x) = Scalar x
flattened_in (Array elements) = Array elements
flattened_in (Matrix m) = flat_list m.0 m.1

abbrev pub flat_len_of : {A : Type 0} → List A → List ℕ → Option ℕ
flat_len_of elements [] = Some (length elements)
flat_len_of elements (d ∷ []) = Some (length elements)
flat_len_of elements (d ∷ e ∷ ds) = None

-- how many elements a flat list has: one that isn't null, with at most one dimension
abbrev pub flat_len_in : {A : Type 0} → Content A → Option ℕ
flat_len_in (Scalar x) = None
flat_len_in (Array None) = None
flat_len_in (Array (Some elements)) = Some (length elements)
flat_len_in (Matrix m) = flat_len_of m.0 m.1

-- ---- of values

-- the same for the content of any type, and for no value what is said first
abbrev pub of_content : {B : Type 0} → B → ((A : Type 0) → Content A → B) → Variant → B
of_content absent f variants.Null = absent
of_content absent f (variants.Boolean content) = f _ content
of_content absent f (variants.SByte content) = f _ content
of_content absent f (variants.Byte content) = f _ content
of_content absent f (variants.Int16 content) = f _ content
of_content absent f (variants.UInt16 content) = f _ content
of_content absent f (variants.Int32 content) = f _ content
of_content absent f (variants.UInt32 content) = f _ content
of_content absent f (variants.Int64 content) = f _ content
of_content absent f (variants.UInt64 content) = f _ content
of_content absent f (variants.Float content) = f _ content
of_content absent f (variants.Double content) = f _ content
of_content absent f (variants.String content) = f _ content
of_content absent f (variants.DateTime content) = f _ content
of_content absent f (variants.Guid content) = f _ content
of_content absent f (variants.ByteString content) = f _ content
of_content absent f (variants.XmlElement content) = f _ content
of_content absent f (variants.NodeId content) = f _ content
of_content absent f (variants.ExpandedNodeId content) = f _ content
of_content absent f (variants.StatusCode content) = f _ content
of_content absent f (variants.QualifiedName content) = f _ content
of_content absent f (variants.LocalizedText content) = f _ content
of_content absent f (variants.ExtensionObject content) = f _ content

-- a value with another content of the same type
abbrev pub mapped : ((A : Type 0) → Content A → Content A) → Variant → Variant
mapped f variants.Null = variants.Null
mapped f (variants.Boolean content) = variants.Boolean (f _ content)
mapped f (variants.SByte content) = variants.SByte (f _ content)
mapped f (variants.Byte content) = variants.Byte (f _ content)
mapped f (variants.Int16 content) = variants.Int16 (f _ content)
mapped f (variants.UInt16 content) = variants.UInt16 (f _ content)
mapped f (variants.Int32 content) = variants.Int32 (f _ content)
mapped f (variants.UInt32 content) = variants.UInt32 (f _ content)
mapped f (variants.Int64 content) = variants.Int64 (f _ content)
mapped f (variants.UInt64 content) = variants.UInt64 (f _ content)
mapped f (variants.Float content) = variants.Float (f _ content)
mapped f (variants.Double content) = variants.Double (f _ content)
mapped f (variants.String content) = variants.String (f _ content)
mapped f (variants.DateTime content) = variants.DateTime (f _ content)
mapped f (variants.Guid content) = variants.Guid (f _ content)
mapped f (variants.ByteString content) = variants.ByteString (f _ content)
mapped f (variants.XmlElement content) = variants.XmlElement (f _ content)
mapped f (variants.NodeId content) = variants.NodeId (f _ content)
mapped f (variants.ExpandedNodeId content) = variants.ExpandedNodeId (f _ content)
mapped f (variants.StatusCode content) = variants.StatusCode (f _ content)
mapped f (variants.QualifiedName content) = variants.QualifiedName (f _ content)
mapped f (variants.LocalizedText content) = variants.LocalizedText (f _ content)
mapped f (variants.ExtensionObject content) = variants.ExtensionObject (f _ content)

-- how many elements a list without dimensions has; a null one has none
abbrev pub list_len : Variant → Option ℕ
list_len value = of_content None (λ A. list_len_in {A = A}) value

-- of a list without dimensions the list of so many of its elements from one on; all else stays as it is
abbrev pub part_of : ℕ → ℕ → Variant → Variant
part_of from count value = mapped (λ A. part_in {A = A} from count) value

-- how many elements a flat list has: one that isn't null, with at most one dimension
abbrev pub flat_len : Variant → Option ℕ
flat_len value = of_content None (λ A. flat_len_in {A = A}) value

-- a list with at most one dimension is the list without dimensions; all else stays as it is
abbrev pub flattened : Variant → Variant
flattened value = mapped (λ A. flattened_in {A = A}) value

-- ---- other elements

-- a list with those of another list in the place of as many of its elements, from one on
abbrev pub with_part_in : {A : Type 0} → ℕ → Content A → Content A → Content A
with_part_in from (Array (Some part)) (Array (Some whole)) = Array (Some (take from whole ++ part ++ drop (from + length part) whole))
with_part_in from part whole = whole

-- the same for two values of one type; others stay as they are
unfoldable pub with_part : ℕ → Variant → Variant → Variant
with_part from (variants.Boolean part) (variants.Boolean whole) = variants.Boolean (with_part_in from part whole)
with_part from (variants.SByte part) (variants.SByte whole) = variants.SByte (with_part_in from part whole)
with_part from (variants.Byte part) (variants.Byte whole) = variants.Byte (with_part_in from part whole)
with_part from (variants.Int16 part) (variants.Int16 whole) = variants.Int16 (with_part_in from part whole)
with_part from (variants.UInt16 part) (variants.UInt16 whole) = variants.UInt16 (with_part_in from part whole)
with_part from (variants.Int32 part) (variants.Int32 whole) = variants.Int32 (with_part_in from part whole)
with_part from (variants.UInt32 part) (variants.UInt32 whole) = variants.UInt32 (with_part_in from part whole)
with_part from (variants.Int64 part) (variants.Int64 whole) = variants.Int64 (with_part_in from part whole)
with_part from (variants.UInt64 part) (variants.UInt64 whole) = variants.UInt64 (with_part_in from part whole)
with_part from (variants.Float part) (variants.Float whole) = variants.Float (with_part_in from part whole)
with_part from (variants.Double part) (variants.Double whole) = variants.Double (with_part_in from part whole)
with_part from (variants.String part) (variants.String whole) = variants.String (with_part_in from part whole)
with_part from (variants.DateTime part) (variants.DateTime whole) = variants.DateTime (with_part_in from part whole)
with_part from (variants.Guid part) (variants.Guid whole) = variants.Guid (with_part_in from part whole)
with_part from (variants.ByteString part) (variants.ByteString whole) = variants.ByteString (with_part_in from part whole)
with_part from (variants.XmlElement part) (variants.XmlElement whole) = variants.XmlElement (with_part_in from part whole)
with_part from (variants.NodeId part) (variants.NodeId whole) = variants.NodeId (with_part_in from part whole)
with_part from (variants.ExpandedNodeId part) (variants.ExpandedNodeId whole) = variants.ExpandedNodeId (with_part_in from part whole)
with_part from (variants.StatusCode part) (variants.StatusCode whole) = variants.StatusCode (with_part_in from part whole)
with_part from (variants.QualifiedName part) (variants.QualifiedName whole) = variants.QualifiedName (with_part_in from part whole)
with_part from (variants.LocalizedText part) (variants.LocalizedText whole) = variants.LocalizedText (with_part_in from part whole)
with_part from (variants.ExtensionObject part) (variants.ExtensionObject whole) = variants.ExtensionObject (with_part_in from part whole)
with_part from part whole = whole

-- a list has room for another from one of its elements on
abbrev pub HasRoom : ℕ → Option ℕ → Option ℕ → Type 0
HasRoom from (Some part) (Some whole) = from + part ≤ whole
HasRoom from part whole = ⊥
