-- What may want memory.
use Rattle.std.proofs.Common.{ℕ, List, Ok, ◌≡◌, ◌%◌, ◌/◌, inl, inr, refl, sym, subst}
use Rattle.ua_types.specs.declared.content.Content.{Content}
use Rattle.ua_types.specs.declared.variant.Variant.TheVariants as variants
use Rattle.ua_binary.specs.Reading.{Reading}
use Rattle.ua_binary.specs.Texts.{IsBacked}
use Rattle.ua_binary.specs.Numbers.{byte_reading}
use Rattle.ua_binary.specs.ExpandedNodeIds.{expanded_node_id_reading}
use Rattle.ua_binary.specs.LocalizedTexts.{localized_text_reading}
use Rattle.ua_binary.specs.ExtensionObjects.{extension_object_reading}
use Rattle.ua_binary.specs.Backing.{IsBackedOrBoxed, IsBoxedVariant, IsContent, IsBoxedContent, FoundNoRoom}
use Rattle.ua_binary.specs.Variants.{content_reading, typed_reading, variant_reading}

pub length_is_backed : (bytes : List ℕ) → IsBacked bytes → IsBackedOrBoxed bytes
unfolding IsBackedOrBoxed
length_is_backed bytes backed = inl backed

pub length_found_no_room : (start : List ℕ) (boxed : Type 0) (new : List ℕ) → IsBacked new → FoundNoRoom start boxed new
unfolding FoundNoRoom
length_found_no_room start boxed new backed = inl backed

-- a content that was read whole, at whose block the cursor was put back
pub content_found_no_room : {A : Type 0} (element : Reading A) (flags : ℕ) (start bytes : List ℕ) (content : Content A) (rest : List ℕ)
    → content_reading element flags bytes ≡ Ok (content, rest) → FoundNoRoom start (IsContent element flags bytes) start
unfolding FoundNoRoom
content_found_no_room element flags start bytes content rest read = inr (refl, record { content = content; rest = rest; read = read })

pub expanded_node_id_is_boxed : (flags : ℕ) (start bytes new : List ℕ)
    → FoundNoRoom start (IsContent expanded_node_id_reading flags bytes) new → FoundNoRoom start (IsBoxedContent 18 flags bytes) new
unfolding FoundNoRoom typed_reading
expanded_node_id_is_boxed flags start bytes new (inl backed) = inl backed
expanded_node_id_is_boxed flags start bytes new (inr (at, c)) = inr (at, record { value = variants.ExpandedNodeId c.content; rest = c.rest; read = rw c.read refl; boxed = tt })

pub localized_text_is_boxed : (flags : ℕ) (start bytes new : List ℕ)
    → FoundNoRoom start (IsContent localized_text_reading flags bytes) new → FoundNoRoom start (IsBoxedContent 21 flags bytes) new
unfolding FoundNoRoom typed_reading
localized_text_is_boxed flags start bytes new (inl backed) = inl backed
localized_text_is_boxed flags start bytes new (inr (at, c)) = inr (at, record { value = variants.LocalizedText c.content; rest = c.rest; read = rw c.read refl; boxed = tt })

pub extension_object_is_boxed : (flags : ℕ) (start bytes new : List ℕ)
    → FoundNoRoom start (IsContent extension_object_reading flags bytes) new → FoundNoRoom start (IsBoxedContent 22 flags bytes) new
unfolding FoundNoRoom typed_reading
extension_object_is_boxed flags start bytes new (inl backed) = inl backed
extension_object_is_boxed flags start bytes new (inr (at, c)) = inr (at, record { value = variants.ExtensionObject c.content; rest = c.rest; read = rw c.read refl; boxed = tt })

-- after the first byte stands what it announces
pub variant_found_no_room : (bytes rest : List ℕ) (first : ℕ) (new : List ℕ) → byte_reading bytes ≡ Ok (first, rest)
    → FoundNoRoom bytes (IsBoxedContent (first % 64) (first / 64) rest) new → IsBackedOrBoxed new
unfolding FoundNoRoom IsBackedOrBoxed variant_reading
variant_found_no_room bytes rest first new byte (inl backed) = inl backed
variant_found_no_room bytes rest first new byte (inr (at, c)) = inr (subst IsBoxedVariant (sym at) (record { value = c.value; rest = c.rest; read = rw (byte, c.read) refl; boxed = c.boxed }))
