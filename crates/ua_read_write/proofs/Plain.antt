-- A data value that is good and has no source time, as it is written field by field.
use Rattle.std.proofs.Common.{◌≡◌, ℕ, ℤ, Bool, ◌+◌, ◌*◌, List, [], ◌++◌, Option, Some, None, Ok, refl, ap, ◌∙◌}
use Rattle.std.proofs.lemmas.List.{append-nil}
use Rattle.std.specs.Int.{w32}
use Rattle.std.specs.Prelude.{is_some}
use Rattle.ua_types.specs.declared.localized_text.LocalizedText.{LocalizedText}
use Rattle.ua_types.specs.declared.moment.Moment.{Moment}
use Rattle.ua_types.specs.declared.node_id.NodeId.{NodeId}
use Rattle.ua_types.specs.declared.qualified_name.QualifiedName.{QualifiedName}
use Rattle.ua_types.specs.declared.status.TheConstants.Status as status
use Rattle.ua_types.specs.declared.content.Content.TheVariants.{Scalar}
use Rattle.ua_types.specs.declared.data_value.DataValue.{DataValue}
use Rattle.ua_types.specs.declared.variant.Variant.{Variant}
use Rattle.ua_types.specs.declared.variant.Variant.TheVariants as variants
use Rattle.ua_binary.specs.Reading.{IsReadAgain}
use Rattle.ua_binary.specs.Numbers.{boolean_reading, boolean_encoding, byte_reading, byte_encoding, number_reading, number_encoding, signed_reading, signed_encoding}
use Rattle.ua_binary.specs.Parts.{flag}
use Rattle.ua_binary.specs.Scalars.{moment_reading, moment_encoding}
use Rattle.ua_binary.specs.NodeIds.{node_id_reading, node_id_encoding}
use Rattle.ua_binary.specs.QualifiedNames.{qualified_name_reading, qualified_name_encoding}
use Rattle.ua_binary.specs.LocalizedTexts.{localized_text_reading, localized_text_encoding}
use Rattle.ua_binary.specs.Variants.{variant_reading, variant_encoding, typed_reading, content_reading, content_encoding}
use Rattle.ua_binary.specs.DataValues.{optional_reading, optional_encoding, data_value_reading, data_value_encoding}
use Rattle.ua_binary.proofs.Masks.{data_value_again}
use Rattle.ua_read_write.specs.Answers.{scalar_encoding}

abbrev plain : Variant → Option Moment → DataValue
plain value time = record { value = Some value; status = status.GOOD; source_time = None; server_time = time }

-- a time that is read again
abbrev IsTimeAgain : Option Moment → Type 0
IsTimeAgain time = (x : List ℕ) → optional_reading (flag (is_some time)) moment_reading (optional_encoding moment_encoding time ++ x) ≡ Ok (time, x)

plain_encoding : (v : Variant) (time : Option Moment)
    → data_value_encoding (plain v time) ≡ (byte_encoding (1 + 8 * flag (is_some time)) ++ variant_encoding v) ++ optional_encoding moment_encoding time
unfolding data_value_encoding optional_encoding
plain_encoding v time =
    let written = variant_encoding v in
    let alone : (written ++ []) ++ [] ≡ written = append-nil (written ++ []) ∙ append-nil written in
    ap (λ (b : List ℕ). (byte_encoding (1 + 8 * flag (is_some time)) ++ b) ++ optional_encoding moment_encoding time) alone

plain_again : (v : Variant) (time : Option Moment) → IsReadAgain variant_reading variant_encoding v → IsTimeAgain time → IsReadAgain data_value_reading data_value_encoding (plain v time)
unfolding optional_reading optional_encoding
plain_again v time value_again time_again = data_value_again (plain v time) (λ x. rw (value_again x) refl) (λ x. refl) (λ x. refl) time_again

-- ---- ids, names and texts

pub id_encoded : (id : NodeId) (time : Option Moment) → data_value_encoding (plain (variants.NodeId (Scalar id)) time) ≡ scalar_encoding 17 node_id_encoding id time
unfolding variant_encoding content_encoding
id_encoded id time = plain_encoding (variants.NodeId (Scalar id)) time

pub id_again : (id : NodeId) (time : Option Moment) → IsReadAgain node_id_reading node_id_encoding id → IsTimeAgain time → IsReadAgain data_value_reading data_value_encoding (plain (variants.NodeId (Scalar id)) time)
unfolding variant_reading variant_encoding typed_reading content_reading content_encoding
id_again id time again time_again = plain_again (variants.NodeId (Scalar id)) time (λ x. rw (again x) refl) time_again

pub name_encoded : (name : QualifiedName) (time : Option Moment) → data_value_encoding (plain (variants.QualifiedName (Scalar name)) time) ≡ scalar_encoding 20 qualified_name_encoding name time
unfolding variant_encoding content_encoding
name_encoded name time = plain_encoding (variants.QualifiedName (Scalar name)) time

pub name_again : (name : QualifiedName) (time : Option Moment) → IsReadAgain qualified_name_reading qualified_name_encoding name → IsTimeAgain time → IsReadAgain data_value_reading data_value_encoding (plain (variants.QualifiedName (Scalar name)) time)
unfolding variant_reading variant_encoding typed_reading content_reading content_encoding
name_again name time again time_again = plain_again (variants.QualifiedName (Scalar name)) time (λ x. rw (again x) refl) time_again

pub words_encoded : (words : LocalizedText) (time : Option Moment) → data_value_encoding (plain (variants.LocalizedText (Scalar words)) time) ≡ scalar_encoding 21 localized_text_encoding words time
unfolding variant_encoding content_encoding
words_encoded words time = plain_encoding (variants.LocalizedText (Scalar words)) time

pub words_again : (words : LocalizedText) (time : Option Moment) → IsReadAgain localized_text_reading localized_text_encoding words → IsTimeAgain time → IsReadAgain data_value_reading data_value_encoding (plain (variants.LocalizedText (Scalar words)) time)
unfolding variant_reading variant_encoding typed_reading content_reading content_encoding
words_again words time again time_again = plain_again (variants.LocalizedText (Scalar words)) time (λ x. rw (again x) refl) time_again

-- ---- numbers and truth values

pub boolean_encoded : (x : Bool) (time : Option Moment) → data_value_encoding (plain (variants.Boolean (Scalar x)) time) ≡ scalar_encoding 1 boolean_encoding x time
unfolding variant_encoding content_encoding
boolean_encoded x time = plain_encoding (variants.Boolean (Scalar x)) time

pub boolean_again : (x : Bool) (time : Option Moment) → IsReadAgain boolean_reading boolean_encoding x → IsTimeAgain time → IsReadAgain data_value_reading data_value_encoding (plain (variants.Boolean (Scalar x)) time)
unfolding variant_reading variant_encoding typed_reading content_reading content_encoding
boolean_again x time again time_again = plain_again (variants.Boolean (Scalar x)) time (λ y. rw (again y) refl) time_again

pub byte_encoded : (x : ℕ) (time : Option Moment) → data_value_encoding (plain (variants.Byte (Scalar x)) time) ≡ scalar_encoding 3 byte_encoding x time
unfolding variant_encoding content_encoding
byte_encoded x time = plain_encoding (variants.Byte (Scalar x)) time

pub byte_again : (x : ℕ) (time : Option Moment) → IsReadAgain byte_reading byte_encoding x → IsTimeAgain time → IsReadAgain data_value_reading data_value_encoding (plain (variants.Byte (Scalar x)) time)
unfolding variant_reading variant_encoding typed_reading content_reading content_encoding
byte_again x time again time_again = plain_again (variants.Byte (Scalar x)) time (λ y. refl) time_again

pub int32_encoded : (x : ℤ) (time : Option Moment) → data_value_encoding (plain (variants.Int32 (Scalar x)) time) ≡ scalar_encoding 6 (signed_encoding w32) x time
unfolding variant_encoding content_encoding
int32_encoded x time = plain_encoding (variants.Int32 (Scalar x)) time

pub int32_again : (x : ℤ) (time : Option Moment) → IsReadAgain (signed_reading w32) (signed_encoding w32) x → IsTimeAgain time → IsReadAgain data_value_reading data_value_encoding (plain (variants.Int32 (Scalar x)) time)
unfolding variant_reading variant_encoding typed_reading content_reading content_encoding
int32_again x time again time_again = plain_again (variants.Int32 (Scalar x)) time (λ y. rw (again y) refl) time_again

pub uint32_encoded : (x : ℕ) (time : Option Moment) → data_value_encoding (plain (variants.UInt32 (Scalar x)) time) ≡ scalar_encoding 7 (number_encoding w32) x time
unfolding variant_encoding content_encoding
uint32_encoded x time = plain_encoding (variants.UInt32 (Scalar x)) time

pub uint32_again : (x : ℕ) (time : Option Moment) → IsReadAgain (number_reading w32) (number_encoding w32) x → IsTimeAgain time → IsReadAgain data_value_reading data_value_encoding (plain (variants.UInt32 (Scalar x)) time)
unfolding variant_reading variant_encoding typed_reading content_reading content_encoding
uint32_again x time again time_again = plain_again (variants.UInt32 (Scalar x)) time (λ y. rw (again y) refl) time_again

pub ruleset plain_answers = (id_encoded, id_again, name_encoded, name_again, words_encoded, words_again, boolean_encoded, boolean_again, byte_encoded, byte_again, int32_encoded, int32_again, uint32_encoded, uint32_again)
