-- A value of one type, whose content is read again.
use Rattle.std.proofs.Common.{◌≡◌, ℕ, ◌<◌, List, ◌++◌, Result, Ok, Err, refl}
use Rattle.std.specs.Prelude.{OnOk}
use Rattle.ua_types.specs.declared.content.Content.{Content}
use Rattle.ua_types.specs.declared.variant.Variant.{Variant}
use Rattle.ua_binary.specs.Reading.{IsReadAgain, Reading}
use Rattle.ua_binary.specs.Variants.{content_encoding, content_reading, flags_of, typed_encoding, typed_reading, variant_encoding, variant_of, variant_reading}
use Rattle.ua_binary.proofs.TypeBytes.{flags_are, number_is}

abbrev IsAgain : {A : Type 0} → Reading A → (A → List ℕ) → Content A → Type 0
IsAgain reading encoding content = (x : List ℕ) → content_reading reading (flags_of content) (content_encoding encoding content ++ x) ≡ Ok (content, x)

whole_again : {A : Type 0} (number : ℕ) (make : Content A → Variant) (reading : Reading A) (encoding : A → List ℕ) (content : Content A) → number < 64
    → typed_reading number (flags_of content) ≡ variant_of make reading (flags_of content) → IsAgain reading encoding content
    → (x : List ℕ) → variant_reading (typed_encoding number encoding content ++ x) ≡ Ok (make content, x)
unfolding variant_reading
whole_again number make reading encoding content small picked again x =
    rw (number_is number (flags_of content) small, flags_are number (flags_of content) small, picked, again x) refl

pub typed_again : {A E : Type 0} (number : ℕ) (make : Content A → Variant) (reading : Reading A) (encoding : A → List ℕ) (content : Content A) {value : Variant} → number < 64
    → typed_reading number (flags_of content) ≡ variant_of make reading (flags_of content) → variant_encoding (make content) ≡ typed_encoding number encoding content
    → value ≡ make content → (r : Result (Unit {0}) E) → OnOk r (IsAgain reading encoding content) → OnOk r (IsReadAgain variant_reading variant_encoding value)
typed_again number make reading encoding content small picked written is (Ok _) again = λ x. rw (is, written) (whole_again number make reading encoding content small picked again x)
typed_again number make reading encoding content small picked written is (Err _) again = tt
