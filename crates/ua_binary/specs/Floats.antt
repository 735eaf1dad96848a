-- Floating-point numbers (IEC 62541-6, 5.2.2.3): their bytes, as they stand.
use Rattle.std.specs.Prelude.{ℕ, List}
use Rattle.ua_types.specs.declared.float.Float.{Float}
use Rattle.ua_types.specs.declared.float.Double.{Double}
use Rattle.ua_binary.specs.Reading.{Reading, ◌>>=◌, done}
use Rattle.ua_binary.specs.Numbers.{octets_reading, octets_encoding}

unfoldable pub float_reading : Reading Float
float_reading = do
  front ← octets_reading 4
  done (record { 0 = front })

unfoldable pub float_encoding : Float → List ℕ
float_encoding f = octets_encoding f.0

unfoldable pub double_reading : Reading Double
double_reading = do
  front ← octets_reading 8
  done (record { 0 = front })

unfoldable pub double_encoding : Double → List ℕ
double_encoding d = octets_encoding d.0
