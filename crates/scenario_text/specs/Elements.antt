-- What a text says as one value of a type, and as a list of values with commas between them.
use Rattle.std.specs.Prelude.{ℕ, ℤ, ◌+◌, ◌-◌, ◌^◌, List, [], ◌∷◌, length, codes, Bool, true, false, ◌==◌, Option, Some, option_map, Result, Ok, Err, if◌then◌else◌}
use Rattle.std.specs.List.{slice_split}
use Rattle.std.specs.Option.{ok_or}
use Rattle.std.specs.Str.{bytes_eq}
use Rattle.hex.specs.Hex.{decode_of}
use Rattle.hex.specs.declared.error.FromHexError.{FromHexError}
use Rattle.ua_types.specs.Answers.{◌>>=◌}
use Rattle.ua_types.specs.Guids.{guid_said}
use Rattle.ua_types.specs.IdTexts.{number_of}
use Rattle.ua_types.specs.declared.guid.Guid.{Guid}
use Rattle.ua_types.specs.declared.moment.Moment.{Moment}
use Rattle.ua_types.specs.declared.node_id.NodeId.{NodeId}
use Rattle.ua_types.specs.declared.status.Status.{Status}
use Rattle.ua_types.specs.declared.content.Content.{Content}
use Rattle.ua_types.specs.declared.content.Content.TheVariants.{Scalar, Array}
use Rattle.scenario_text.specs.Numbers.{signed_of, truth_of, named_id}
use Rattle.scenario_text.specs.declared.fault.Cause.{Cause}
use Rattle.scenario_text.specs.declared.fault.Cause.TheVariants.{Value}

-- what is made of what was read
abbrev pub seen : {A B : Type 0} → (A → B) → Result A Cause → Result B Cause
seen f (Ok x) = Ok (f x)
seen f (Err e) = Err e

-- the bytes that hex digits stand for
abbrev pub octets_of : Result (List ℕ) FromHexError → Result (List ℕ) Cause
octets_of (Ok bytes) = Ok bytes
octets_of (Err e) = Err Value

-- ---- one value of a type, by its text

unfoldable pub boolean_of : List ℕ → Result Bool Cause
boolean_of t = ok_or (truth_of t) Value

unfoldable pub sbyte_of : List ℕ → Result ℤ Cause
sbyte_of t = ok_or (signed_of 0x80 0x7f t) Value

unfoldable pub byte_of : List ℕ → Result ℕ Cause
byte_of t = ok_or (number_of (0xff + 1) t) Value

unfoldable pub int16_of : List ℕ → Result ℤ Cause
int16_of t = ok_or (signed_of 0x8000 0x7fff t) Value

unfoldable pub uint16_of : List ℕ → Result ℕ Cause
uint16_of t = ok_or (number_of (0xffff + 1) t) Value

unfoldable pub int32_of : List ℕ → Result ℤ Cause
int32_of t = ok_or (signed_of 0x8000_0000 0x7fff_ffff t) Value

unfoldable pub uint32_of : List ℕ → Result ℕ Cause
uint32_of t = ok_or (number_of (0xffff_ffff + 1) t) Value

unfoldable pub int64_of : List ℕ → Result ℤ Cause
int64_of t = ok_or (signed_of (2 ^ 63) (2 ^ 63 - 1) t) Value

unfoldable pub uint64_of : List ℕ → Result ℕ Cause
uint64_of t = ok_or (number_of (2 ^ 64 - 1 + 1) t) Value

unfoldable pub moment_of : List ℕ → Result Moment Cause
moment_of t = ok_or (option_map (λ n. record { 0 = n }) (signed_of (2 ^ 63) (2 ^ 63 - 1) t)) Value

unfoldable pub guid_of : List ℕ → Result Guid Cause
guid_of t = ok_or (guid_said t) Value

unfoldable pub byte_string_of : List ℕ → Result (Option (List ℕ)) Cause
byte_string_of t = seen Some (octets_of (decode_of t))

unfoldable pub node_id_of : List ℕ → Result NodeId Cause
node_id_of t = named_id Value t

unfoldable pub status_of : List ℕ → Result Status Cause
status_of t = ok_or (option_map (λ n. record { 0 = n }) (number_of (0xffff_ffff + 1) t)) Value

-- ---- lists, with commas between their elements

-- the texts between the commas; `-` has none
unfoldable pub element_texts : List ℕ → List (List ℕ)
element_texts t = if bytes_eq t (codes "-") then [] else slice_split (λ b. b == 44) t

-- an element isn't empty
abbrev pub element_of : {A : Type 0} → (List ℕ → Result A Cause) → List ℕ → Result A Cause
element_of one t = if length t == 0 then Err Value else one t

-- each of the texts, up to the first bad one
unfoldable pub all_of : {A : Type 0} → (List ℕ → Result A Cause) → List (List ℕ) → Result (List A) Cause
all_of one [] = Ok []
all_of one (t ∷ ts) = do
  x ← one t
  xs ← all_of one ts
  Ok (x ∷ xs)

-- one value, or a list of values
unfoldable pub content_of : {A : Type 0} → (List ℕ → Result A Cause) → Bool → List ℕ → Result (Content A) Cause
content_of one false t = seen Scalar (one t)
content_of one true t = seen (λ xs. Array (Some xs)) (all_of (element_of one) (element_texts t))
