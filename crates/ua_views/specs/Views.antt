-- Lists and values that stand at some bytes, and are read as they are asked for.
use Rattle.std.specs.Prelude.{⊤, ℕ, ◌<◌, ◌^◌, List, [], ◌∷◌, Option, Some, None, Result, Ok, Err, IsOk}
use Rattle.ua_binary.specs.declared.fault.TakeFault.{TakeFault}
use Rattle.ua_binary.specs.Reading.{Reading}
use Rattle.ua_binary.specs.Arrays.{elements_reading}

-- the value that was read, and another where none was
abbrev pub value_or : {A : Type 0} → A → Result (A × List ℕ) TakeFault → A
value_or other (Ok x) = x.0
value_or other (Err e) = other

-- so many elements that stand there, or null
abbrev pub elements_at : {A : Type 0} → Reading A → Option ℕ → List ℕ → Option (List A)
elements_at element None bytes = None
elements_at element (Some n) bytes = Some (value_or [] (elements_reading element n bytes))

-- they can be read, and are as many as a list may have
abbrev pub AreThere : {A : Type 0} → Reading A → Option ℕ → List ℕ → Type 0
AreThere element None bytes = ⊤
AreThere element (Some n) bytes = (n < 2 ^ 31) × IsOk (elements_reading element n bytes)

-- the elements of a list, and none of null
abbrev pub or_none : {A : Type 0} → Option (List A) → List A
or_none None = []
or_none (Some xs) = xs

abbrev pub first_of : {A : Type 0} → List A → Option A
first_of [] = None
first_of (x ∷ xs) = Some x

-- the first element, where there is one
abbrev pub first_in : {A : Type 0} → Option (List A) → Option A
first_in list = first_of (or_none list)
