-- Globally unique ids (IEC 62541-6, 5.2.2.6).
use Rattle.std.specs.Prelude.{ℕ, List, ◌++◌}
use Rattle.std.specs.Int.{w16, w32}
use Rattle.ua_types.specs.declared.guid.Guid.{Guid}
use Rattle.ua_binary.specs.Reading.{Reading, ◌>>=◌, done}
use Rattle.ua_binary.specs.Numbers.{octets_reading, octets_encoding, number_reading, number_encoding}

unfoldable pub guid_reading : Reading Guid
guid_reading = do
  data1 ← number_reading w32
  data2 ← number_reading w16
  data3 ← number_reading w16
  data4 ← octets_reading 8
  done (record { data1 = data1; data2 = data2; data3 = data3; data4 = data4 })

unfoldable pub guid_encoding : Guid → List ℕ
guid_encoding g = number_encoding w32 g.data1 ++ number_encoding w16 g.data2 ++ number_encoding w16 g.data3 ++ octets_encoding g.data4
