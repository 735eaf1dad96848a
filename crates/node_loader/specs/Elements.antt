-- What is read as an element of a list.
use Rattle.std.specs.Prelude.{ℕ, ℤ, ◌^◌, nat_lt, List, length, Bool, Option, Some, None, Result, Ok, Err, if◌then◌else◌}
use Rattle.std.specs.Option.{ok_or}
use Rattle.hex.specs.Hex.{decode_of}
use Rattle.hex.specs.declared.error.FromHexError.{FromHexError}
use Rattle.toml.specs.Data.{Data, Items, as_bool, as_integer, as_str}
use Rattle.ua_types.specs.Answers.{◌>>=◌}
use Rattle.ua_types.specs.Guids.{guid_said}
use Rattle.ua_types.specs.declared.guid.Guid.{Guid}
use Rattle.ua_types.specs.declared.moment.Moment.{Moment}
use Rattle.ua_types.specs.declared.node_id.NodeId.{NodeId}
use Rattle.ua_types.specs.declared.status.Status.{Status}
use Rattle.node_loader.specs.Ids.{id_within}
use Rattle.node_loader.specs.Keys.{signed_within, up_to, within}
use Rattle.node_loader.specs.Lists.{each}
use Rattle.node_loader.specs.declared.fault.Cause.{Cause}
use Rattle.node_loader.specs.declared.fault.Cause.TheVariants.{WrongKind, OutOfRange}

-- all of a list, or the first fault
abbrev pub elements : {A : Type 0} → (Data → Result A Cause) → Items → Result (List A) Cause
elements read ds = each (λ _ d. read d) 1 ds

-- a value of the kind
abbrev pub kind_or_fault : {A : Type 0} → Option A → Result A Cause
kind_or_fault None = Err WrongKind
kind_or_fault (Some x) = Ok x

abbrev pub truth_of : Data → Result Bool Cause
truth_of d = kind_or_fault (as_bool d)

abbrev pub integer_of : Data → Result ℤ Cause
integer_of d = kind_or_fault (as_integer d)

abbrev pub word_of : Data → Result (List ℕ) Cause
word_of d = kind_or_fault (as_str d)

-- an unsigned number up to the highest, and a signed one within its range
unfoldable pub unsigned_of : ℕ → Data → Result ℕ Cause
unsigned_of high d = do
  number ← integer_of d
  within (up_to high) number

unfoldable pub signed_of : ℤ → ℤ → Data → Result ℤ Cause
signed_of low high d = do
  number ← integer_of d
  signed_within low high number

-- a text of the protocol has fewer than 2^31 bytes
abbrev pub short_text : List ℕ → Result (Option (List ℕ)) Cause
short_text t = if nat_lt (length t) (2 ^ 31) then Ok (Some t) else Err OutOfRange

unfoldable pub text_of : Data → Result (Option (List ℕ)) Cause
text_of d = do
  word ← word_of d
  short_text word

unfoldable pub moment_of : Data → Result Moment Cause
moment_of d = do
  steps ← integer_of d
  Ok (record { 0 = steps })

unfoldable pub guid_of : Data → Result Guid Cause
guid_of d = do
  word ← word_of d
  ok_or (guid_said word) OutOfRange

-- a byte string holds fewer than 2^31 bytes
abbrev pub bytes_of : Result (List ℕ) FromHexError → Result (Option (List ℕ)) Cause
bytes_of (Ok bytes) = if nat_lt (length bytes) (2 ^ 31) then Ok (Some bytes) else Err OutOfRange
bytes_of (Err e) = Err OutOfRange

unfoldable pub octets_of : Data → Result (Option (List ℕ)) Cause
octets_of d = do
  word ← word_of d
  bytes_of (decode_of word)

unfoldable pub id_of : ℕ → Data → Result NodeId Cause
id_of highest d = do
  word ← word_of d
  id_within highest word

unfoldable pub status_of : Data → Result Status Cause
status_of d = do
  code ← unsigned_of 4294967295 d
  Ok (record { 0 = code })
