-- What reading gives: a value and the bytes after it, or the first fault.
use Rattle.std.specs.Prelude.{◌≡◌, ◌≢◌, ℕ, List, ◌++◌, length, take, Result, Ok, Err}
use Rattle.ua_binary.specs.declared.fault.TakeFault.{TakeFault}
use Rattle.ua_binary.specs.declared.fault.TakeFault.TheVariants.{Memory}

abbrev pub Reading : Type 0 → Type 0
Reading A = List ℕ → Result (A × List ℕ) TakeFault

-- what comes after a value that was read
abbrev pub go_on : {A B : Type 0} → Result (A × List ℕ) TakeFault → (A → List ℕ → Result (B × List ℕ) TakeFault) → Result (B × List ℕ) TakeFault
go_on (Ok x) f = f x.0 x.1
go_on (Err e) f = Err e

-- one field, and then others
infixl 10 ◌>>=◌
abbrev pub ◌>>=◌ : {A B : Type 0} → Reading A → (A → Reading B) → Reading B
◌>>=◌ p f bytes = go_on (p bytes) f

-- nothing more
abbrev pub done : {A : Type 0} → A → Reading A
done x bytes = Ok (x, bytes)

abbrev pub refuse : {A : Type 0} → TakeFault → Reading A
refuse e bytes = Err e

-- ---- words of the contracts

-- What a function returned, and the bytes left after it, are what reading gives, unless memory ran out.
abbrev pub Reads : {A : Type 0} → Result A TakeFault → List ℕ → Result (A × List ℕ) TakeFault → Type 0
Reads (Ok v) rest reading = reading ≡ Ok (v, rest)
Reads (Err e) rest reading = e ≢ Memory → reading ≡ Err e

-- what a function returned, seen by a view, and the bytes left after it
abbrev pub ReadsAs : {A B : Type 0} → (A → B) → Result A TakeFault → List ℕ → Result (B × List ℕ) TakeFault → Type 0
ReadsAs view (Ok v) rest reading = reading ≡ Ok (view v, rest)
ReadsAs view (Err e) rest reading = e ≢ Memory → reading ≡ Err e

-- What a function put into a place, and the bytes left after it, are what reading gives, unless memory ran out.
abbrev pub ReadsInto : {A B : Type 0} → Result B TakeFault → A → List ℕ → Result (A × List ℕ) TakeFault → Type 0
ReadsInto (Ok _) place rest reading = reading ≡ Ok (place, rest)
ReadsInto (Err e) place rest reading = e ≢ Memory → reading ≡ Err e

-- the new list begins with the old one
abbrev pub Extends : List ℕ → List ℕ → Type 0
Extends old new = take (length old) new ≡ old

-- what is written for a value is read again, whatever follows it
abbrev pub IsReadAgain : {A : Type 0} → Reading A → (A → List ℕ) → A → Type 0
IsReadAgain reading encoding v = (x : List ℕ) → reading (encoding v ++ x) ≡ Ok (v, x)
