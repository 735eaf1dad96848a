-- Where memory may be wanting: before what is there, and never before what is only claimed.
use Rattle.std.specs.Prelude.{◌≡◌, ◌⊎◌, ⊤, ℕ, List, Ok}
use Rattle.ua_types.specs.declared.content.Content.{Content}
use Rattle.ua_types.specs.declared.variant.Variant.{Variant}
use Rattle.ua_types.specs.declared.variant.Variant.TheVariants as variants
use Rattle.ua_binary.specs.Reading.{Reading}
use Rattle.ua_binary.specs.Texts.{IsBacked}
use Rattle.ua_binary.specs.Variants.{content_reading, typed_reading, variant_reading}

-- a value of one of the three types whose contents have blocks of their own
abbrev pub IsBoxed : Variant → Type 0
IsBoxed (variants.ExpandedNodeId content) = ⊤
IsBoxed (variants.LocalizedText content) = ⊤
IsBoxed (variants.ExtensionObject content) = ⊤
IsBoxed value = ⊥

-- Such a Variant stands here, whole.
pub record IsBoxedVariant (bytes : List ℕ) : Type 0 where
  pub value : Variant
  pub rest : List ℕ
  pub read : variant_reading bytes ≡ Ok (value, rest)
  pub boxed : IsBoxed value

-- A length and at least so many bytes after it, or a whole Variant of one of the three types.
unfoldable pub IsBackedOrBoxed : List ℕ → Type 0
IsBackedOrBoxed bytes = IsBacked bytes ⊎ IsBoxedVariant bytes

-- ---- while a Variant is read

-- A content stands here, whole.
pub record IsContent {A : Type 0} (element : Reading A) (flags : ℕ) (bytes : List ℕ) : Type 0 where
  pub content : Content A
  pub rest : List ℕ
  pub read : content_reading element flags bytes ≡ Ok (content, rest)

-- What follows a first byte with this number and these flags stands here, whole, and is of one of the three types.
pub record IsBoxedContent (number flags : ℕ) (bytes : List ℕ) : Type 0 where
  pub value : Variant
  pub rest : List ℕ
  pub read : typed_reading number flags bytes ≡ Ok (value, rest)
  pub boxed : IsBoxed value

-- The cursor stands before a length that is backed, or again at the Variant's first byte, since its block found no room.
unfoldable pub FoundNoRoom : List ℕ → Type 0 → List ℕ → Type 0
FoundNoRoom start boxed new = IsBacked new ⊎ ((new ≡ start) × boxed)
