-- A plain value that can be read is announced by its first byte, and an id by the byte after it.
use Rattle.std.proofs.Common.{◌≡◌, ◌≢◌, inl, inr, ℕ, ◌/◌, ◌%◌, ◌∙◌, Bool, true, false, eqb, cond, List, [], ◌∷◌, Option, Result, Ok, Err, refl, sym, subst, arith}
use Rattle.std.proofs.lemmas.Bool.{eqb-true}
use Rattle.std.specs.Int.{w16}
use Rattle.std.specs.Prelude.{⊤, IsOk}
use Rattle.ua_types.specs.NodeIds.{IsPlainId}
use Rattle.ua_types.specs.declared.node_id.NodeId.{NodeId}
use Rattle.ua_types.specs.declared.node_id.Identifier.{Identifier}
use Rattle.ua_types.specs.declared.node_id.Identifier.TheVariants as identifiers
use Rattle.ua_types.specs.Plain.{IsOne, IsScalar, IsPlainValue}
use Rattle.ua_types.specs.Shapes.{shape_in}
use Rattle.ua_types.specs.declared.content.Content.{Content}
use Rattle.ua_types.specs.declared.content.Content.TheVariants.{Scalar, Array, Matrix}
use Rattle.ua_types.specs.declared.shape.Shape.{Shape}
use Rattle.ua_types.specs.declared.shape.Shape.TheVariants as shapes
use Rattle.ua_types.specs.declared.variant.Variant.{Variant}
use Rattle.ua_types.specs.declared.variant.Variant.TheVariants as variants
use Rattle.ua_binary.specs.declared.fault.TakeFault.{TakeFault}
use Rattle.ua_binary.specs.declared.fault.TakeFault.TheVariants.{Form}
use Rattle.ua_binary.specs.Reading.{Reading, go_on, done, refuse}
use Rattle.ua_binary.specs.Numbers.{number_reading}
use Rattle.ua_binary.specs.NodeIds.{id, after_form_reading, node_id_reading, SaysNumberOrGuid}
use Rattle.ua_binary.specs.Texts.{text_reading, byte_string_reading}
use Rattle.ua_binary.specs.Variants.{content_reading, variant_of, typed_reading, variant_reading, HasFixedSize, IsPlainBehind, AnnouncesPlain}
use Rattle.ua_views.specs.Views.{value_or}
use Rattle.ua_views.proofs.VariantBytes.{HasShape, flagged}

-- ---- ids

-- what was read, if anything, is neither a number nor a Guid
abbrev NeverPlain : Result (NodeId × List ℕ) TakeFault → Type 0
NeverPlain (Ok x) = IsPlainId x.0 → ⊥
NeverPlain (Err e) = Unit {0}

abbrev AnyNull : Type 0
AnyNull = Option (List ℕ)

module _ (kind : AnyNull → Identifier) (never : (value : AnyNull) (namespace : ℕ) → IsPlainId (id namespace (kind value)) → ⊥) where
  named : (namespace : ℕ) (r : Result (AnyNull × List ℕ) TakeFault) → NeverPlain (go_on r (λ value rest. Ok (id namespace (kind value), rest)))
  named namespace (Ok x) = never x.0 namespace
  named namespace (Err e) = tt

  spaced : (r : Result (ℕ × List ℕ) TakeFault) (element : Reading AnyNull)
      → NeverPlain (go_on r (λ namespace rest. go_on (element rest) (λ value rest. Ok (id namespace (kind value), rest))))
  spaced (Ok x) element = named x.0 (element x.1)
  spaced (Err e) element = tt

of_text : (bytes : List ℕ) → NeverPlain (after_form_reading 3 bytes)
unfolding after_form_reading
of_text bytes = spaced identifiers.String (λ value namespace h. h) (number_reading w16 bytes) text_reading

of_bytes : (bytes : List ℕ) → NeverPlain (after_form_reading 5 bytes)
unfolding after_form_reading
of_bytes bytes = spaced identifiers.Opaque (λ value namespace h. h) (number_reading w16 bytes) byte_string_reading

-- what was read, if it is a number or a Guid, was said so
abbrev IsSaid : List ℕ → Result (NodeId × List ℕ) TakeFault → Type 0
IsSaid bytes (Ok x) = IsPlainId x.0 → SaysNumberOrGuid bytes
IsSaid bytes (Err e) = Unit {0}

by_form : (form : ℕ) (rest : List ℕ) (r : Result (NodeId × List ℕ) TakeFault) → (form ≡ 3 → NeverPlain r) → (form ≡ 5 → NeverPlain r) → IsSaid (form ∷ rest) r
by_form form rest (Ok x) text bytes = λ plain. ((λ e. text e plain), (λ e. bytes e plain))
by_form form rest (Err e) text bytes = tt

id_is_said : (bytes : List ℕ) → IsSaid bytes (node_id_reading bytes)
unfolding node_id_reading
id_is_said [] = tt
id_is_said (form ∷ rest) =
    let P : ℕ → Type 0 = λ f. NeverPlain (after_form_reading f rest) in
    by_form form rest (after_form_reading form rest) (λ e. subst P (sym e) (of_text rest)) (λ e. subst P (sym e) (of_bytes rest))

-- ---- values, by the number of their type and by their flags

-- what was read, if it is plain, was announced so
abbrev IsAnnounced : ℕ → ℕ → List ℕ → Result (Variant × List ℕ) TakeFault → Type 0
IsAnnounced number flags bytes (Ok x) = IsPlainValue x.0 → IsPlainBehind number flags bytes
IsAnnounced number flags bytes (Err e) = Unit {0}

scalar_flag : (b c : Bool) → cond b shapes.Scalar (cond c shapes.List shapes.Matrix) ≡ shapes.Scalar → b ≡ true
scalar_flag true c e = refl
scalar_flag false true e = cc e
scalar_flag false false e = cc e

module _ {A : Type 0} (kind : A → Type 0) where
  one_is_scalar : (content : Content A) → IsOne kind content → shape_in content ≡ shapes.Scalar
  one_is_scalar (Scalar x) one = refl
  one_is_scalar (Array elements) one = absurd one
  one_is_scalar (Matrix m) one = absurd one

  -- one value has the flags 0
  one_flag : (flags : ℕ) (content : Content A) → shape_in content ≡ cond (eqb flags 0) shapes.Scalar (cond (eqb flags 2) shapes.List shapes.Matrix)
      → IsOne kind content → flags ≡ 0
  one_flag flags content shaped one = eqb-true flags 0 (scalar_flag (eqb flags 0) (eqb flags 2) (sym shaped ∙ one_is_scalar content one))

module _ {A : Type 0} (number : ℕ) (variant : Content A → Variant) where
  fixed_content : (flags : ℕ) (bytes : List ℕ) (r : Result (Content A × List ℕ) TakeFault) → HasFixedSize number
      → ((content : Content A) → IsPlainValue (variant content) → IsScalar content)
      → HasShape (cond (eqb flags 0) shapes.Scalar (cond (eqb flags 2) shapes.List shapes.Matrix)) r
      → IsAnnounced number flags bytes (go_on r (λ content rest. Ok (variant content, rest)))
  unfolding IsPlainBehind
  fixed_content flags bytes (Ok x) sized plain shaped = λ h. inr (one_flag (λ _. ⊤) flags x.0 shaped (plain x.0 h), inl sized)
  fixed_content flags bytes (Err e) sized plain shaped = tt

  fixed : (element : Reading A) (flags : ℕ) (bytes : List ℕ) → HasFixedSize number
      → ((content : Content A) → IsPlainValue (variant content) → IsScalar content)
      → IsAnnounced number flags bytes (variant_of variant element flags bytes)
  fixed element flags bytes sized plain = fixed_content flags bytes (content_reading element flags bytes) sized plain (flagged element flags bytes)

  other_content : (flags : ℕ) (bytes : List ℕ) (r : Result (Content A × List ℕ) TakeFault) → ((content : Content A) → IsPlainValue (variant content) → ⊥)
      → IsAnnounced number flags bytes (go_on r (λ content rest. Ok (variant content, rest)))
  other_content flags bytes (Ok x) never = λ h. absurd (never x.0 h)
  other_content flags bytes (Err e) never = tt

  other : (element : Reading A) (flags : ℕ) (bytes : List ℕ) → ((content : Content A) → IsPlainValue (variant content) → ⊥)
      → IsAnnounced number flags bytes (variant_of variant element flags bytes)
  other element flags bytes never = other_content flags bytes (content_reading element flags bytes) never

-- an id, where the flags are 0
single_id : (bytes : List ℕ) (r : Result (NodeId × List ℕ) TakeFault) → IsSaid bytes r
    → IsAnnounced 17 0 bytes (go_on (go_on r (λ x rest. Ok (Scalar x, rest))) (λ content rest. Ok (variants.NodeId content, rest)))
unfolding IsPlainBehind
single_id bytes (Ok x) said = λ plain. inr (refl, inr (refl, said plain))
single_id bytes (Err e) said = tt

-- several ids
more_ids : (flags : ℕ) (bytes : List ℕ) (r : Result (Content NodeId × List ℕ) TakeFault) → (flags ≢ 0)
    → HasShape (cond (eqb flags 0) shapes.Scalar (cond (eqb flags 2) shapes.List shapes.Matrix)) r
    → IsAnnounced 17 flags bytes (go_on r (λ content rest. Ok (variants.NodeId content, rest)))
more_ids flags bytes (Ok x) several shaped = λ plain. absurd (several (one_flag IsPlainId flags x.0 shaped plain))
more_ids flags bytes (Err e) several shaped = tt

by_flag : (flags : ℕ) (bytes : List ℕ) (b : Bool) → eqb flags 0 ≡ b → IsAnnounced 17 flags bytes (variant_of variants.NodeId node_id_reading flags bytes)
unfolding content_reading
by_flag flags bytes true e =
    subst (λ f. IsAnnounced 17 f bytes (variant_of variants.NodeId node_id_reading f bytes)) (sym (eqb-true flags 0 e)) (single_id bytes (node_id_reading bytes) (id_is_said bytes))
by_flag flags bytes false e =
    more_ids flags bytes (content_reading node_id_reading flags bytes) (λ none. let t : eqb flags 0 ≡ true = rw none refl in absurd (cc)) (flagged node_id_reading flags bytes)

ids : (flags : ℕ) (bytes : List ℕ) → IsAnnounced 17 flags bytes (variant_of variants.NodeId node_id_reading flags bytes)
ids flags bytes = by_flag flags bytes (eqb flags 0) refl

null : (flags : ℕ) (b : Bool) (bytes : List ℕ) → IsAnnounced 0 flags bytes (cond b (done variants.Null) (refuse Form) bytes)
unfolding IsPlainBehind
null flags true bytes = λ _. inl refl
null flags false bytes = tt

module _ (number flags : ℕ) (bytes : List ℕ) where
  -- of the type with this number, or of another
  either : (k : ℕ) (b : Bool) (this others : Reading Variant) → eqb number k ≡ b → IsAnnounced k flags bytes (this bytes)
      → IsAnnounced number flags bytes (others bytes) → IsAnnounced number flags bytes (cond b this others bytes)
  either k true this others e h rest = subst (λ n. IsAnnounced n flags bytes (this bytes)) (sym (eqb-true number k e)) h
  either k false this others e h rest = rest

  type_or : (k : ℕ) (this others : Reading Variant) → IsAnnounced k flags bytes (this bytes)
      → IsAnnounced number flags bytes (others bytes) → IsAnnounced number flags bytes (cond (eqb number k) this others bytes)
  type_or k this others h rest = either k (eqb number k) this others refl h rest

  typed : IsAnnounced number flags bytes (typed_reading number flags bytes)
  unfolding typed_reading
  typed =
      type_or 0 _ _ (null flags (eqb flags 0) bytes)
      (type_or 1 _ _ (fixed 1 variants.Boolean _ flags bytes (inl (omega arith)) (λ c h. h))
      (type_or 2 _ _ (fixed 2 variants.SByte _ flags bytes (inl (omega arith)) (λ c h. h))
      (type_or 3 _ _ (fixed 3 variants.Byte _ flags bytes (inl (omega arith)) (λ c h. h))
      (type_or 4 _ _ (fixed 4 variants.Int16 _ flags bytes (inl (omega arith)) (λ c h. h))
      (type_or 5 _ _ (fixed 5 variants.UInt16 _ flags bytes (inl (omega arith)) (λ c h. h))
      (type_or 6 _ _ (fixed 6 variants.Int32 _ flags bytes (inl (omega arith)) (λ c h. h))
      (type_or 7 _ _ (fixed 7 variants.UInt32 _ flags bytes (inl (omega arith)) (λ c h. h))
      (type_or 8 _ _ (fixed 8 variants.Int64 _ flags bytes (inl (omega arith)) (λ c h. h))
      (type_or 9 _ _ (fixed 9 variants.UInt64 _ flags bytes (inl (omega arith)) (λ c h. h))
      (type_or 10 _ _ (fixed 10 variants.Float _ flags bytes (inl (omega arith)) (λ c h. h))
      (type_or 11 _ _ (fixed 11 variants.Double _ flags bytes (inl (omega arith)) (λ c h. h))
      (type_or 12 _ _ (other 12 variants.String _ flags bytes (λ c h. h))
      (type_or 13 _ _ (fixed 13 variants.DateTime _ flags bytes (inr (inl refl)) (λ c h. h))
      (type_or 14 _ _ (fixed 14 variants.Guid _ flags bytes (inr (inr (inl refl))) (λ c h. h))
      (type_or 15 _ _ (other 15 variants.ByteString _ flags bytes (λ c h. h))
      (type_or 16 _ _ (other 16 variants.XmlElement _ flags bytes (λ c h. h))
      (type_or 17 _ _ (ids flags bytes)
      (type_or 18 _ _ (other 18 variants.ExpandedNodeId _ flags bytes (λ c h. h))
      (type_or 19 _ _ (fixed 19 variants.StatusCode _ flags bytes (inr (inr (inr refl))) (λ c h. h))
      (type_or 20 _ _ (other 20 variants.QualifiedName _ flags bytes (λ c h. h))
      (type_or 21 _ _ (other 21 variants.LocalizedText _ flags bytes (λ c h. h))
      (type_or 22 _ _ (other 22 variants.ExtensionObject _ flags bytes (λ c h. h)) tt))))))))))))))))))))))

-- ---- the first byte

of_read : (number flags : ℕ) (bytes : List ℕ) (r : Result (Variant × List ℕ) TakeFault) → IsOk r → IsAnnounced number flags bytes r
    → IsPlainValue (value_or variants.Null r) → IsPlainBehind number flags bytes
of_read number flags bytes (Ok x) ok h plain = h plain
of_read number flags bytes (Err e) ok h plain = absurd (cc)

pub plain_is_announced : (bytes : List ℕ) → IsOk (variant_reading bytes) → IsPlainValue (value_or variants.Null (variant_reading bytes)) → AnnouncesPlain bytes
unfolding variant_reading
plain_is_announced [] ok plain = absurd (cc)
plain_is_announced (first ∷ rest) ok plain = of_read (first % 64) (first / 64) rest (typed_reading (first % 64) (first / 64) rest) ok (typed (first % 64) (first / 64) rest) plain
