-- Texts and byte strings (IEC 62541-6, 5.2.2.4 and 5.2.2.7): an Int32 length, and so many bytes.
-- A negative length, which is 2 ^ 31 or more as an unsigned one, means null; null is written as -1.
use Rattle.std.specs.Prelude.{ℕ, ◌^◌, ◌<◌, ◌≤◌, ◌≡◌, List, ◌++◌, length, Option, Some, None, Ok, nat_le, if◌then◌else◌}
use Rattle.std.specs.Int.{w32}
use Rattle.std.specs.Str.{is_utf8}
use Rattle.ua_binary.specs.declared.fault.TakeFault.TheVariants.{Utf8}
use Rattle.ua_binary.specs.Reading.{Reading, ◌>>=◌, done, refuse}
use Rattle.ua_binary.specs.Numbers.{bytes_reading, number_reading, number_encoding}

unfoldable pub byte_string_reading : Reading (Option (List ℕ))
byte_string_reading = do
  n ← number_reading w32
  if nat_le (2 ^ 31) n then done None else (do
    bytes ← bytes_reading n
    done (Some bytes))

abbrev pub utf8_or_null : Option (List ℕ) → Reading (Option (List ℕ))
utf8_or_null None = done None
utf8_or_null (Some text) = if is_utf8 text then done (Some text) else refuse Utf8

-- a byte string that is UTF-8
unfoldable pub text_reading : Reading (Option (List ℕ))
text_reading = do
  bytes ← byte_string_reading
  utf8_or_null bytes

unfoldable pub byte_string_encoding : Option (List ℕ) → List ℕ
byte_string_encoding None = number_encoding w32 0xffff_ffff
byte_string_encoding (Some bytes) = number_encoding w32 (length bytes) ++ bytes

-- a text is written as its bytes are
abbrev pub text_encoding : Option (List ℕ) → List ℕ
text_encoding = byte_string_encoding

-- A length stands here, and at least so many bytes after it.
pub record IsBacked (bytes : List ℕ) : Type 0 where
  pub count : ℕ
  pub rest : List ℕ
  pub read : number_reading w32 bytes ≡ Ok (count, rest)
  pub there : count ≤ length rest

-- A length stands here, is not that of null, and is above the number of bytes after it.
pub record ClaimsTooMany (bytes : List ℕ) : Type 0 where
  pub count : ℕ
  pub rest : List ℕ
  pub read : number_reading w32 bytes ≡ Ok (count, rest)
  pub not_null : count < 2 ^ 31
  pub above : length rest < count
