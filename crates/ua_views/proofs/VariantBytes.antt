-- The first byte of a Variant that can be read announces its type and its shape.
use Rattle.std.proofs.Common.{◌≡◌, ℕ, ◌/◌, ◌%◌, Bool, true, false, eqb, cond, List, Option, Some, None, Result, Ok, Err, refl, sym, subst, length, ◌∙◌}
use Rattle.std.proofs.lemmas.Bool.{eqb-true}
use Rattle.std.specs.Int.{w32}
use Rattle.std.specs.Prelude.{IsOk}
use Rattle.ua_types.specs.Matrices.{is_shape}
use Rattle.ua_types.specs.Shapes.{shape_in, shape_of}
use Rattle.ua_types.specs.Variants.{type_number}
use Rattle.ua_types.specs.declared.content.Content.{Content}
use Rattle.ua_types.specs.declared.content.Content.TheVariants.{Scalar, Array, Matrix}
use Rattle.ua_types.specs.declared.shape.Shape.{Shape}
use Rattle.ua_types.specs.declared.shape.Shape.TheVariants as shapes
use Rattle.ua_types.specs.declared.variant.Variant.{Variant}
use Rattle.ua_types.specs.declared.variant.Variant.TheVariants as variants
use Rattle.ua_binary.specs.declared.fault.TakeFault.{TakeFault}
use Rattle.ua_binary.specs.declared.fault.TakeFault.TheVariants.{Form}
use Rattle.ua_binary.specs.Reading.{Reading, go_on, done, refuse}
use Rattle.ua_binary.specs.Arrays.{array_reading}
use Rattle.ua_binary.specs.Numbers.{byte_reading, number_reading}
use Rattle.ua_types.specs.Matrices.{or_none}
use Rattle.ua_binary.specs.Variants.{in_dimensions, content_reading, variant_of, typed_reading, variant_reading}
use Rattle.ua_views.specs.Views.{value_or}
use Rattle.ua_views.specs.VariantBytes.{shape_flagged, shape_announced}

-- ---- contents, by their flags

-- what was read, if anything, has this shape
abbrev pub HasShape : {A : Type 0} → Shape → Result (Content A × List ℕ) TakeFault → Type 0
HasShape shape (Ok x) = shape_in x.0 ≡ shape
HasShape shape (Err e) = Unit {0}

module _ {A : Type 0} where
  of_scalar : (r : Result (A × List ℕ) TakeFault) → HasShape shapes.Scalar (go_on r (λ x rest. Ok (Scalar x, rest)))
  of_scalar (Ok x) = refl
  of_scalar (Err e) = tt

  of_list : (r : Result (Option (List A) × List ℕ) TakeFault) → HasShape shapes.List (go_on r (λ x rest. Ok (Array x, rest)))
  of_list (Ok x) = refl
  of_list (Err e) = tt

  where_shaped : (b : Bool) (elements : List A) (dimensions rest : List ℕ) → HasShape shapes.Matrix (cond b (done (Matrix (elements, dimensions))) (refuse Form) rest)
  where_shaped true elements dimensions rest = refl
  where_shaped false elements dimensions rest = tt

  of_dimensions : (elements : Option (List A)) (dimensions rest : List ℕ) → HasShape shapes.Matrix (in_dimensions elements dimensions rest)
  of_dimensions None dimensions rest = tt
  of_dimensions (Some elements) dimensions rest = where_shaped (is_shape dimensions (length elements)) elements dimensions rest

  behind : (elements : Option (List A)) (r : Result (Option (List ℕ) × List ℕ) TakeFault)
      → HasShape shapes.Matrix (go_on r (λ dimensions. in_dimensions elements (or_none dimensions)))
  behind elements (Ok x) = of_dimensions elements (or_none x.0) x.1
  behind elements (Err e) = tt

  of_matrix : (r : Result (Option (List A) × List ℕ) TakeFault) (next : Reading (Option (List ℕ)))
      → HasShape shapes.Matrix (go_on r (λ elements rest. go_on (next rest) (λ dimensions. in_dimensions elements (or_none dimensions))))
  of_matrix (Ok x) next = behind x.0 (next x.1)
  of_matrix (Err e) next = tt

  by_flags : (a b c : Bool) (scalar list matrix : Reading (Content A)) (bytes : List ℕ)
      → HasShape shapes.Scalar (scalar bytes) → HasShape shapes.List (list bytes) → HasShape shapes.Matrix (matrix bytes)
      → HasShape (cond a shapes.Scalar (cond b shapes.List shapes.Matrix)) (cond a scalar (cond b list (cond c matrix (refuse Form))) bytes)
  by_flags true b c scalar list matrix bytes s l m = s
  by_flags false true c scalar list matrix bytes s l m = l
  by_flags false false true scalar list matrix bytes s l m = m
  by_flags false false false scalar list matrix bytes s l m = tt

  pub flagged : (element : Reading A) (flags : ℕ) (bytes : List ℕ)
      → HasShape (cond (eqb flags 0) shapes.Scalar (cond (eqb flags 2) shapes.List shapes.Matrix)) (content_reading element flags bytes)
  unfolding content_reading
  flagged element flags bytes = by_flags (eqb flags 0) (eqb flags 2) (eqb flags 3) _ _ _ bytes (of_scalar (element bytes)) (of_list (array_reading element bytes)) (of_matrix (array_reading element bytes) (array_reading (number_reading w32)))

-- ---- values, by the number of their type and by their flags

-- what was read, if anything, is of this type and shape
abbrev IsOf : ℕ → Shape → Result (Variant × List ℕ) TakeFault → Type 0
IsOf number shape (Ok x) = (type_number x.0 ≡ number) × (shape_of x.0 ≡ shape)
IsOf number shape (Err e) = Unit {0}

null : (b : Bool) (bytes : List ℕ) → IsOf 0 shapes.Null (cond b (done variants.Null) (refuse Form) bytes)
null true bytes = (refl, refl)
null false bytes = tt

module _ {A : Type 0} (number : ℕ) (variant : Content A → Variant) (numbered : (content : Content A) → type_number (variant content) ≡ number)
    (shaped : (content : Content A) → shape_of (variant content) ≡ shape_in content) where
  with_content : (shape : Shape) (r : Result (Content A × List ℕ) TakeFault) → HasShape shape r
      → IsOf number shape (go_on r (λ content rest. Ok (variant content, rest)))
  with_content shape (Ok x) h = (numbered x.0, shaped x.0 ∙ h)
  with_content shape (Err e) h = tt

  one : (element : Reading A) (flags : ℕ) (bytes : List ℕ)
      → IsOf number (cond (eqb flags 0) shapes.Scalar (cond (eqb flags 2) shapes.List shapes.Matrix)) (variant_of variant element flags bytes)
  one element flags bytes = with_content _ (content_reading element flags bytes) (flagged element flags bytes)

module _ (number flags : ℕ) (bytes : List ℕ) where
  -- of the type with this number, or of another
  either : (k : ℕ) (b : Bool) (this others : Reading Variant) → eqb number k ≡ b → IsOf k (shape_flagged k flags) (this bytes)
      → IsOf number (shape_flagged number flags) (others bytes) → IsOf number (shape_flagged number flags) (cond b this others bytes)
  either k true this others e h rest = subst (λ n. IsOf n (shape_flagged n flags) (this bytes)) (sym (eqb-true number k e)) h
  either k false this others e h rest = rest

  type_or : (k : ℕ) (this others : Reading Variant) → IsOf k (shape_flagged k flags) (this bytes)
      → IsOf number (shape_flagged number flags) (others bytes) → IsOf number (shape_flagged number flags) (cond (eqb number k) this others bytes)
  type_or k this others h rest = either k (eqb number k) this others refl h rest

  typed : IsOf number (shape_flagged number flags) (typed_reading number flags bytes)
  unfolding typed_reading
  typed =
      type_or 0 _ _ (null (eqb flags 0) bytes)
      (type_or 1 _ _ (one 1 variants.Boolean (λ c. refl) (λ c. refl) _ flags bytes)
      (type_or 2 _ _ (one 2 variants.SByte (λ c. refl) (λ c. refl) _ flags bytes)
      (type_or 3 _ _ (one 3 variants.Byte (λ c. refl) (λ c. refl) _ flags bytes)
      (type_or 4 _ _ (one 4 variants.Int16 (λ c. refl) (λ c. refl) _ flags bytes)
      (type_or 5 _ _ (one 5 variants.UInt16 (λ c. refl) (λ c. refl) _ flags bytes)
      (type_or 6 _ _ (one 6 variants.Int32 (λ c. refl) (λ c. refl) _ flags bytes)
      (type_or 7 _ _ (one 7 variants.UInt32 (λ c. refl) (λ c. refl) _ flags bytes)
      (type_or 8 _ _ (one 8 variants.Int64 (λ c. refl) (λ c. refl) _ flags bytes)
      (type_or 9 _ _ (one 9 variants.UInt64 (λ c. refl) (λ c. refl) _ flags bytes)
      (type_or 10 _ _ (one 10 variants.Float (λ c. refl) (λ c. refl) _ flags bytes)
      (type_or 11 _ _ (one 11 variants.Double (λ c. refl) (λ c. refl) _ flags bytes)
      (type_or 12 _ _ (one 12 variants.String (λ c. refl) (λ c. refl) _ flags bytes)
      (type_or 13 _ _ (one 13 variants.DateTime (λ c. refl) (λ c. refl) _ flags bytes)
      (type_or 14 _ _ (one 14 variants.Guid (λ c. refl) (λ c. refl) _ flags bytes)
      (type_or 15 _ _ (one 15 variants.ByteString (λ c. refl) (λ c. refl) _ flags bytes)
      (type_or 16 _ _ (one 16 variants.XmlElement (λ c. refl) (λ c. refl) _ flags bytes)
      (type_or 17 _ _ (one 17 variants.NodeId (λ c. refl) (λ c. refl) _ flags bytes)
      (type_or 18 _ _ (one 18 variants.ExpandedNodeId (λ c. refl) (λ c. refl) _ flags bytes)
      (type_or 19 _ _ (one 19 variants.StatusCode (λ c. refl) (λ c. refl) _ flags bytes)
      (type_or 20 _ _ (one 20 variants.QualifiedName (λ c. refl) (λ c. refl) _ flags bytes)
      (type_or 21 _ _ (one 21 variants.LocalizedText (λ c. refl) (λ c. refl) _ flags bytes)
      (type_or 22 _ _ (one 22 variants.ExtensionObject (λ c. refl) (λ c. refl) _ flags bytes) tt))))))))))))))))))))))

-- ---- the first byte

of_read : (number : ℕ) (shape : Shape) (r : Result (Variant × List ℕ) TakeFault) → IsOk r → IsOf number shape r
    → (type_number (value_or variants.Null r) ≡ number) × (shape_of (value_or variants.Null r) ≡ shape)
of_read number shape (Ok x) ok h = h
of_read number shape (Err e) ok h = absurd (cc)

announced : (bytes rest : List ℕ) (first : ℕ) → byte_reading bytes ≡ Ok (first, rest) → IsOk (variant_reading bytes)
    → (type_number (value_or variants.Null (variant_reading bytes)) ≡ first % 64) × (shape_of (value_or variants.Null (variant_reading bytes)) ≡ shape_announced first)
unfolding variant_reading shape_announced
announced bytes rest first h ok =
    let read : variant_reading bytes ≡ typed_reading (first % 64) (first / 64) rest = rw h refl in
    rw read (of_read (first % 64) (shape_announced first) (typed_reading (first % 64) (first / 64) rest) (rw read at ok) (typed (first % 64) (first / 64) rest))

pub type_is_announced : (bytes rest : List ℕ) (first : ℕ) → byte_reading bytes ≡ Ok (first, rest) → IsOk (variant_reading bytes)
    → type_number (value_or variants.Null (variant_reading bytes)) ≡ first % 64
type_is_announced bytes rest first h ok = (announced bytes rest first h ok).0

pub shape_is_announced : (bytes rest : List ℕ) (first : ℕ) → byte_reading bytes ≡ Ok (first, rest) → IsOk (variant_reading bytes)
    → shape_of (value_or variants.Null (variant_reading bytes)) ≡ shape_announced first
shape_is_announced bytes rest first h ok = (announced bytes rest first h ok).1

pub has_a_first_byte : (bytes : List ℕ) (e : TakeFault) → byte_reading bytes ≡ Err e → IsOk (variant_reading bytes) → ⊥
unfolding variant_reading
has_a_first_byte bytes e h ok = let faulty : variant_reading bytes ≡ Err e = rw h refl in absurd (cc)
