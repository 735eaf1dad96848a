-- Numbers, moments, truth values and ids.
use Rattle.std.specs.Prelude.{ℕ, ℤ, pos, neg_ℤ, ◌+◌, ◌-◌, ◌^◌, List, Bool, true, false, codes, Option, Some, None, option_map, Result, Ok, Err, if◌then◌else◌}
use Rattle.std.specs.Str.{bytes_eq}
use Rattle.ua_types.specs.IdTexts.{behind, or_else, number_of, id_of}
use Rattle.ua_types.specs.declared.id_texts.IdFault.{IdFault}
use Rattle.ua_types.specs.declared.moment.Moment.{Moment}
use Rattle.ua_types.specs.declared.node_id.NodeId.{NodeId}
use Rattle.std.specs.Option.{ok_or}
use Rattle.scenario_text.specs.Readings.{Reading, ◌>>=◌, done, judged}
use Rattle.scenario_text.specs.Words.{word}
use Rattle.scenario_text.specs.declared.fault.Cause.{Cause}
use Rattle.scenario_text.specs.declared.fault.Cause.TheVariants.{Word, Number, Id}

-- decimal digits of a number up to the highest, or a minus sign and digits up to the lowest
unfoldable pub signed_of : ℕ → ℕ → List ℕ → Option ℤ
signed_of lowest highest t =
    or_else (behind (codes "-") t)
    (λ digits. option_map (λ n. neg_ℤ (pos n)) (number_of (lowest + 1) digits))
    (option_map pos (number_of (highest + 1) t))

abbrev pub truth_of : List ℕ → Option Bool
truth_of t = if bytes_eq t (codes "true") then Some true else if bytes_eq t (codes "false") then Some false else None

abbrev pub id_or : Cause → Result NodeId IdFault → Result NodeId Cause
id_or cause (Ok id) = Ok id
id_or cause (Err e) = Err cause

-- the id that a text says
abbrev pub named_id : Cause → List ℕ → Result NodeId Cause
named_id cause t = id_or cause (id_of t)

-- ---- as words of a line

unfoldable pub unsigned_reading : ℕ → Reading ℕ
unsigned_reading highest = do
  t ← word
  judged (ok_or (number_of (highest + 1) t) Number)

unfoldable pub signed_reading : ℕ → ℕ → Reading ℤ
signed_reading lowest highest = do
  t ← word
  judged (ok_or (signed_of lowest highest t) Number)

-- a Byte, a UInt32, a UInt64
unfoldable pub byte_reading : Reading ℕ
byte_reading = unsigned_reading 255

unfoldable pub number_reading : Reading ℕ
number_reading = unsigned_reading 0xffff_ffff

unfoldable pub long_number_reading : Reading ℕ
long_number_reading = unsigned_reading (2 ^ 64 - 1)

-- an Int32
unfoldable pub signed_number_reading : Reading ℤ
signed_number_reading = signed_reading 0x8000_0000 0x7fff_ffff

unfoldable pub moment_reading : Reading Moment
moment_reading = do
  steps ← signed_reading (2 ^ 63) (2 ^ 63 - 1)
  done (record { 0 = steps })

unfoldable pub truth_reading : Reading Bool
truth_reading = do
  t ← word
  judged (ok_or (truth_of t) Word)

unfoldable pub id_reading : Reading NodeId
id_reading = do
  t ← word
  judged (named_id Id t)
