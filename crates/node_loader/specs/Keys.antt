-- What a part of the file says at a key.
use Rattle.std.specs.Prelude.{ℕ, ℤ, pos, negsuc, int_le, ◌^◌, List, Bool, true, false, ◌&&◌, nat_le, nat_lt, length, Option, Some, None, Result, Ok, Err, if◌then◌else◌, unwrap_or}
use Rattle.std.specs.List.{list_any}
use Rattle.std.specs.Str.{bytes_eq}
use Rattle.toml.specs.Data.{Data, Members, no_members, member, get_member, as_str, as_integer, as_bool, as_array, Items, no_items}
use Rattle.ua_types.specs.Answers.{◌>>=◌}
use Rattle.ua_types.specs.declared.number_range.NumberRange.{NumberRange}
use Rattle.node_loader.specs.declared.fault.Cause.{Cause}
use Rattle.node_loader.specs.declared.fault.Cause.TheVariants.{MissingKey, WrongKind, UnknownKey, OutOfRange}

-- each key passes the test
abbrev pub all_keys : (List ℕ → Bool) → Members → Bool
all_keys known no_members = true
all_keys known (member k d ms) = known k && all_keys known ms

-- the text is one of these
abbrev pub is_among : List (List ℕ) → List ℕ → Bool
is_among texts t = list_any (λ x. bytes_eq x t) texts

-- the part has no other keys than these
abbrev pub only : List (List ℕ) → Members → Result (Unit {0}) Cause
only known ms = if all_keys (is_among known) ms then Ok tt else Err UnknownKey

-- a value that is there has to be of the kind
abbrev pub right_kind : {A : Type 0} → Option A → Result (Option A) Cause
right_kind (Some x) = Ok (Some x)
right_kind None = Err WrongKind

-- a value of one kind; where there is none, nothing
abbrev pub of_kind : {A : Type 0} → (Data → Option A) → Option Data → Result (Option A) Cause
of_kind read None = Ok None
of_kind read (Some d) = right_kind (read d)

-- a value that the part must have
abbrev pub required : {A : Type 0} → Option A → Result A Cause
required None = Err MissingKey
required (Some x) = Ok x

abbrev pub word_at : List ℕ → Members → Result (Option (List ℕ)) Cause
word_at key ms = of_kind as_str (get_member key ms)

abbrev pub integer_at : List ℕ → Members → Result (Option ℤ) Cause
integer_at key ms = of_kind as_integer (get_member key ms)

-- a text of the protocol has fewer than 2^31 bytes
abbrev pub short : Option (List ℕ) → Result (Option (List ℕ)) Cause
short None = Ok None
short (Some t) = if nat_lt (length t) (2 ^ 31) then Ok (Some t) else Err OutOfRange

unfoldable pub text_at : List ℕ → Members → Result (Option (List ℕ)) Cause
text_at key ms = do
  found ← word_at key ms
  short found

-- a text, or the default
unfoldable pub text_or : List ℕ → List ℕ → Members → Result (Option (List ℕ)) Cause
text_or key fallback ms = do
  found ← text_at key ms
  Ok (Some (unwrap_or found fallback))

-- from 0 to this number
abbrev pub up_to : ℕ → NumberRange
up_to most = record { least = 0; most = most }

-- an unsigned number within its range, or the default
abbrev pub within : NumberRange → ℤ → Result ℕ Cause
within range (pos n) = if nat_le range.least n && nat_le n range.most then Ok n else Err OutOfRange
within range (negsuc n) = Err OutOfRange

abbrev pub number_or : ℕ → NumberRange → Option ℤ → Result ℕ Cause
number_or fallback range None = Ok fallback
number_or fallback range (Some z) = within range z

unfoldable pub number_at : List ℕ → ℕ → NumberRange → Members → Result ℕ Cause
number_at key fallback range ms = do
  found ← integer_at key ms
  number_or fallback range found

-- characters that the part must have
unfoldable pub required_word : List ℕ → Members → Result (List ℕ) Cause
required_word key ms = do
  found ← word_at key ms
  required found

-- a text that the part must have
unfoldable pub required_text : List ℕ → Members → Result (List ℕ) Cause
required_text key ms = do
  found ← text_at key ms
  required found

-- a truth value that the part must have
unfoldable pub required_boolean : List ℕ → Members → Result Bool Cause
required_boolean key ms = do
  found ← of_kind as_bool (get_member key ms)
  required found

-- a truth value, or false
unfoldable pub boolean_at : List ℕ → Members → Result Bool Cause
boolean_at key ms = do
  found ← of_kind as_bool (get_member key ms)
  Ok (unwrap_or found false)

-- an integer that the part must have
unfoldable pub required_integer : List ℕ → Members → Result ℤ Cause
required_integer key ms = do
  found ← integer_at key ms
  required found

-- an unsigned number that the part must have, within its range
unfoldable pub required_number : List ℕ → NumberRange → Members → Result ℕ Cause
required_number key range ms = do
  number ← required_integer key ms
  within range number

-- up to the highest
abbrev pub unsigned_at : List ℕ → ℕ → Members → Result ℕ Cause
unsigned_at key high ms = required_number key (up_to high) ms

-- a signed number that the part must have, within its range
abbrev pub signed_within : ℤ → ℤ → ℤ → Result ℤ Cause
signed_within low high number = if int_le low number && int_le number high then Ok number else Err OutOfRange

unfoldable pub signed_at : List ℕ → ℤ → ℤ → Members → Result ℤ Cause
signed_at key low high ms = do
  number ← required_integer key ms
  signed_within low high number

-- a list, empty where there is none
unfoldable pub list_at : List ℕ → Members → Result Items Cause
list_at key ms = do
  found ← of_kind as_array (get_member key ms)
  Ok (unwrap_or found no_items)
