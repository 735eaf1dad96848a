-- Diagnostic infos (IEC 62541-6, 5.2.2.12), of which none is read and none written.
use Rattle.std.specs.Prelude.{ℕ, List, nat_le, ◌==◌, ◌||◌, ◌^◌, if◌then◌else◌}
use Rattle.std.specs.Int.{w32}
use Rattle.ua_messages.specs.declared.diagnostics.DiagnosticInfo.{DiagnosticInfo}
use Rattle.ua_messages.specs.declared.diagnostics.DiagnosticInfos.{DiagnosticInfos}
use Rattle.ua_binary.specs.declared.fault.TakeFault.TheVariants.{Form}
use Rattle.ua_binary.specs.Reading.{Reading, ◌>>=◌, done, refuse}
use Rattle.ua_binary.specs.Numbers.{byte_reading, number_reading, byte_encoding, number_encoding}
use Rattle.ua_binary.specs.Arrays.{claimed}

-- a byte 0 says nothing; any other byte announces an info
unfoldable pub diagnostic_info_reading : Reading DiagnosticInfo
diagnostic_info_reading = do
  mask ← byte_reading
  if mask == 0 then done (record {}) else refuse Form

unfoldable pub diagnostic_info_encoding : DiagnosticInfo → List ℕ
diagnostic_info_encoding v = byte_encoding 0

-- a length of 0 or less means null; more are refused, as too many where they are above the bytes left
unfoldable pub diagnostic_infos_reading : Reading DiagnosticInfos
diagnostic_infos_reading = do
  n ← number_reading w32
  if n == 0 || nat_le (2 ^ 31) n then done (record {}) else claimed n (refuse Form)

unfoldable pub diagnostic_infos_encoding : DiagnosticInfos → List ℕ
diagnostic_infos_encoding v = number_encoding w32 0xffff_ffff
