-- Numbers and truth values (IEC 62541-6, 5.2.2.1 and 5.2.2.2), and bytes as they stand.
use Rattle.std.specs.Prelude.{ℕ, ℤ, Bool, not, List, [], ◌∷◌, length, take, drop, Ok, Err, nat_lt, ◌==◌, if◌then◌else◌}
use Rattle.std.specs.Int.{Width, w8, byte_len, from_le_bytes, to_le_bytes, cast_signed, cast_unsigned}
use Rattle.ua_binary.specs.declared.fault.TakeFault.TheVariants.{Short}
use Rattle.ua_binary.specs.Reading.{Reading, ◌>>=◌, done}

-- so many bytes
abbrev pub bytes_reading : ℕ → Reading (List ℕ)
bytes_reading n bytes = if nat_lt (length bytes) n then Err Short else Ok (take n bytes, drop n bytes)

-- a field of so many bytes, as they stand
unfoldable pub octets_reading : ℕ → Reading (List ℕ)
octets_reading n = bytes_reading n

abbrev pub octets_encoding : List ℕ → List ℕ
octets_encoding bytes = bytes

-- a number, its lowest byte first
unfoldable pub number_reading : Width → Reading ℕ
number_reading w = do
  front ← bytes_reading (byte_len w)
  done (from_le_bytes w front)

unfoldable pub number_encoding : Width → ℕ → List ℕ
number_encoding w n = to_le_bytes w n

-- a number with a sign, as two's complement
unfoldable pub signed_reading : Width → Reading ℤ
signed_reading w = do
  n ← number_reading w
  done (cast_signed w n)

unfoldable pub signed_encoding : Width → ℤ → List ℕ
signed_encoding w z = number_encoding w (cast_unsigned w z)

abbrev pub byte_reading : Reading ℕ
byte_reading [] = Err Short
byte_reading (b ∷ rest) = Ok (b, rest)

abbrev pub byte_encoding : ℕ → List ℕ
byte_encoding b = b ∷ []

-- a byte with a sign
unfoldable pub sbyte_reading : Reading ℤ
sbyte_reading = do
  b ← byte_reading
  done (cast_signed w8 b)

unfoldable pub sbyte_encoding : ℤ → List ℕ
sbyte_encoding z = byte_encoding (cast_unsigned w8 z)

-- 0 is false, and any other byte is true
unfoldable pub boolean_reading : Reading Bool
boolean_reading = do
  b ← byte_reading
  done (not (b == 0))

unfoldable pub boolean_encoding : Bool → List ℕ
boolean_encoding b = byte_encoding (if b then 1 else 0)
