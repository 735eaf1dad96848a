-- What reading gives: a value and the rest of the line, or what is wrong with the first bad word.
use Rattle.std.specs.Prelude.{◌≡◌, ◌≢◌, ℕ, List, Result, Ok, Err}
use Rattle.scenario_text.specs.declared.fault.Cause.{Cause}
use Rattle.scenario_text.specs.declared.fault.Cause.TheVariants.{Memory}

abbrev pub Reading : Type 0 → Type 0
Reading A = List ℕ → Result (A × List ℕ) Cause

-- what comes after a value that was read
abbrev pub go_on : {A B : Type 0} → Result (A × List ℕ) Cause → (A → List ℕ → Result (B × List ℕ) Cause) → Result (B × List ℕ) Cause
go_on (Ok x) f = f x.0 x.1
go_on (Err e) f = Err e

-- one after another, up to the first bad word
infixl 10 ◌>>=◌
abbrev pub ◌>>=◌ : {A B : Type 0} → Reading A → (A → Reading B) → Reading B
◌>>=◌ p f line = go_on (p line) f

-- nothing more
abbrev pub done : {A : Type 0} → A → Reading A
done x line = Ok (x, line)

abbrev pub refuse : {A : Type 0} → Cause → Reading A
refuse e line = Err e

-- what was read already says
abbrev pub judged : {A : Type 0} → Result A Cause → Reading A
judged (Ok x) line = Ok (x, line)
judged (Err e) line = Err e

-- ---- words of the contracts

-- what a function that takes no memory returned, and the line left after it, are what reading gives
abbrev pub Finds : {A : Type 0} → Result A Cause → List ℕ → Result (A × List ℕ) Cause → Type 0
Finds (Ok v) rest reading = reading ≡ Ok (v, rest)
Finds (Err e) rest reading = reading ≡ Err e

-- what it returned, seen by a view, and the line left after it
abbrev pub FindsAs : {A B : Type 0} → (A → B) → Result A Cause → List ℕ → Result (B × List ℕ) Cause → Type 0
FindsAs view (Ok v) rest reading = reading ≡ Ok (view v, rest)
FindsAs view (Err e) rest reading = reading ≡ Err e

-- What a function returned, and the line left after it, are what reading gives, unless memory ran out.
abbrev pub Reads : {A : Type 0} → Result A Cause → List ℕ → Result (A × List ℕ) Cause → Type 0
Reads (Ok v) rest reading = reading ≡ Ok (v, rest)
Reads (Err e) rest reading = e ≢ Memory → reading ≡ Err e

-- what a function returned, seen by a view, and the line left after it
abbrev pub ReadsAs : {A B : Type 0} → (A → B) → Result A Cause → List ℕ → Result (B × List ℕ) Cause → Type 0
ReadsAs view (Ok v) rest reading = reading ≡ Ok (view v, rest)
ReadsAs view (Err e) rest reading = e ≢ Memory → reading ≡ Err e
