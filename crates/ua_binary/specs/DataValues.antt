-- Values with their status and times (IEC 62541-6, 5.2.2.17): a byte says which parts follow. 1 is the
-- value, 2 the status, 4 the source's time, 8 the server's, and 16 and 32 the picoseconds of these
-- two, which are read and dropped. Other bits have no meaning.
use Rattle.std.specs.Prelude.{ℕ, ◌*◌, ◌+◌, ◌/◌, ◌%◌, List, [], ◌++◌, Option, Some, None, ◌==◌, if◌then◌else◌, is_some}
use Rattle.std.specs.Int.{w16}
use Rattle.ua_types.specs.declared.status.Status.{Status}
use Rattle.ua_types.specs.declared.data_value.DataValue.{DataValue}
use Rattle.ua_binary.specs.Reading.{Reading, ◌>>=◌, done}
use Rattle.ua_binary.specs.Numbers.{byte_reading, byte_encoding, number_reading}
use Rattle.ua_binary.specs.Scalars.{moment_reading, moment_encoding, status_reading, status_encoding}
use Rattle.ua_binary.specs.Parts.{flag}
use Rattle.ua_binary.specs.Variants.{variant_reading, variant_encoding}

-- a part that is there where its bit is set
unfoldable pub optional_reading : {A : Type 0} → ℕ → Reading A → Reading (Option A)
optional_reading bit part = if bit == 0 then done None else (do
  x ← part
  done (Some x))

unfoldable pub optional_encoding : {A : Type 0} → (A → List ℕ) → Option A → List ℕ
optional_encoding part None = []
optional_encoding part (Some x) = part x

-- an absent status is good
abbrev pub or_good : Option Status → Status
or_good None = record { 0 = 0 }
or_good (Some status) = status

abbrev pub unless_good : Status → Option Status
unless_good status = if status.0 == 0 then None else Some status

unfoldable pub data_value_reading : Reading DataValue
data_value_reading = do
  mask ← byte_reading
  value ← optional_reading (mask % 2) variant_reading
  status ← optional_reading (mask / 2 % 2) status_reading
  source_time ← optional_reading (mask / 4 % 2) moment_reading
  source_picoseconds ← optional_reading (mask / 16 % 2) (number_reading w16)
  server_time ← optional_reading (mask / 8 % 2) moment_reading
  server_picoseconds ← optional_reading (mask / 32 % 2) (number_reading w16)
  done (record { value = value; status = or_good status; source_time = source_time; server_time = server_time })

abbrev pub mask_of : DataValue → ℕ
mask_of v = flag (is_some v.value) + 2 * flag (is_some (unless_good v.status)) + 4 * flag (is_some v.source_time) + 8 * flag (is_some v.server_time)

-- picoseconds are never written
unfoldable pub data_value_encoding : DataValue → List ℕ
data_value_encoding v =
    byte_encoding (mask_of v)
    ++ optional_encoding variant_encoding v.value
    ++ optional_encoding status_encoding (unless_good v.status)
    ++ optional_encoding moment_encoding v.source_time
    ++ optional_encoding moment_encoding v.server_time
