-- Enumerations (IEC 62541-6, 5.2.4): an Int32, of which any value is read.
use Rattle.std.specs.Prelude.{ℕ, ℤ, List}
use Rattle.std.specs.Int.{w32}
use Rattle.ua_binary.specs.Reading.{Reading, ◌>>=◌, done}
use Rattle.ua_binary.specs.Numbers.{signed_reading, signed_encoding}

unfoldable pub enumeration_reading : {A : Type 0} → (ℤ → A) → Reading A
enumeration_reading of_number = do
  n ← signed_reading w32
  done (of_number n)

unfoldable pub enumeration_encoding : {A : Type 0} → (A → ℤ) → A → List ℕ
enumeration_encoding number_of v = signed_encoding w32 (number_of v)
