-- Lists (IEC 62541-6, 5.2.5): an Int32 length, and so many elements. A negative length means null.
use Rattle.std.specs.Prelude.{ℕ, zero, suc, ◌^◌, List, [], ◌∷◌, ◌++◌, length, Option, Some, None, Err, nat_lt, nat_le, if◌then◌else◌}
use Rattle.std.specs.List.{flat_map}
use Rattle.std.specs.Int.{w32}
use Rattle.ua_binary.specs.declared.fault.TakeFault.TheVariants.{Length}
use Rattle.ua_binary.specs.Reading.{Reading, ◌>>=◌, done}
use Rattle.ua_binary.specs.Numbers.{number_reading, number_encoding}

-- so many elements
unfoldable pub elements_reading : {A : Type 0} → Reading A → ℕ → Reading (List A)
elements_reading element zero = done []
elements_reading element (suc n) = do
  x ← element
  xs ← elements_reading element n
  done (x ∷ xs)

-- a claim of more elements than bytes are left is refused
abbrev pub claimed : {A : Type 0} → ℕ → Reading A → Reading A
claimed n p bytes = if nat_lt (length bytes) n then Err Length else p bytes

unfoldable pub array_reading : {A : Type 0} → Reading A → Reading (Option (List A))
array_reading element = do
  n ← number_reading w32
  if nat_le (2 ^ 31) n then done None else claimed n (do
    items ← elements_reading element n
    done (Some items))

unfoldable pub array_encoding : {A : Type 0} → (A → List ℕ) → Option (List A) → List ℕ
array_encoding element None = number_encoding w32 0xffff_ffff
array_encoding element (Some items) = number_encoding w32 (length items) ++ flat_map element items
