-- Moments, status codes and spans of time (IEC 62541-6, 5.2.2.5, 5.2.2.11 and 5.2.2.3).
use Rattle.std.specs.Prelude.{List, ℕ}
use Rattle.std.specs.Int.{w32, w64}
use Rattle.ua_types.specs.declared.moment.Moment.{Moment}
use Rattle.ua_types.specs.declared.status.Status.{Status}
use Rattle.ua_types.specs.declared.duration.Duration.{Duration}
use Rattle.ua_binary.specs.Reading.{Reading, ◌>>=◌, done}
use Rattle.ua_binary.specs.Numbers.{octets_reading, octets_encoding, number_reading, signed_reading, number_encoding, signed_encoding}

unfoldable pub moment_reading : Reading Moment
moment_reading = do
  n ← signed_reading w64
  done (record { 0 = n })

unfoldable pub moment_encoding : Moment → List ℕ
moment_encoding m = signed_encoding w64 m.0

unfoldable pub status_reading : Reading Status
status_reading = do
  n ← number_reading w32
  done (record { 0 = n })

unfoldable pub status_encoding : Status → List ℕ
status_encoding s = number_encoding w32 s.0

-- the eight bytes of a double, as they stand
unfoldable pub duration_reading : Reading Duration
duration_reading = do
  front ← octets_reading 8
  done (record { 0 = front })

unfoldable pub duration_encoding : Duration → List ℕ
duration_encoding d = octets_encoding d.0
