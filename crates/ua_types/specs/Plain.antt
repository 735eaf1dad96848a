-- Values that hold no text, no bytes and no list.
use Rattle.std.specs.Prelude.{⊤}
use Rattle.ua_types.specs.NodeIds.{IsPlainId}
use Rattle.ua_types.specs.declared.content.Content.{Content}
use Rattle.ua_types.specs.declared.content.Content.TheVariants.{Scalar, Array, Matrix}
use Rattle.ua_types.specs.declared.variant.Variant.{Variant}
use Rattle.ua_types.specs.declared.variant.Variant.TheVariants as variants

-- no list, and of this kind
abbrev pub IsOne : {A : Type 0} → (A → Type 0) → Content A → Type 0
IsOne kind (Scalar x) = kind x
IsOne kind (Array elements) = ⊥
IsOne kind (Matrix m) = ⊥

-- whatever it is, no list
abbrev pub IsScalar : {A : Type 0} → Content A → Type 0
IsScalar content = IsOne (λ _. ⊤) content

-- no value, or one number, truth value, moment, Guid, status, or id that is a number or a Guid
abbrev pub IsPlainValue : Variant → Type 0
IsPlainValue variants.Null = ⊤
IsPlainValue (variants.Boolean content) = IsScalar content
IsPlainValue (variants.SByte content) = IsScalar content
IsPlainValue (variants.Byte content) = IsScalar content
IsPlainValue (variants.Int16 content) = IsScalar content
IsPlainValue (variants.UInt16 content) = IsScalar content
IsPlainValue (variants.Int32 content) = IsScalar content
IsPlainValue (variants.UInt32 content) = IsScalar content
IsPlainValue (variants.Int64 content) = IsScalar content
IsPlainValue (variants.UInt64 content) = IsScalar content
IsPlainValue (variants.Float content) = IsScalar content
IsPlainValue (variants.Double content) = IsScalar content
IsPlainValue (variants.String content) = ⊥
IsPlainValue (variants.DateTime content) = IsScalar content
IsPlainValue (variants.Guid content) = IsScalar content
IsPlainValue (variants.ByteString content) = ⊥
IsPlainValue (variants.XmlElement content) = ⊥
IsPlainValue (variants.NodeId content) = IsOne IsPlainId content
IsPlainValue (variants.ExpandedNodeId content) = ⊥
IsPlainValue (variants.StatusCode content) = IsScalar content
IsPlainValue (variants.QualifiedName content) = ⊥
IsPlainValue (variants.LocalizedText content) = ⊥
IsPlainValue (variants.ExtensionObject content) = ⊥
