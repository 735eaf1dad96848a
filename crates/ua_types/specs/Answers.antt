-- What a call answers, where want of memory is one of its errors.
use Rattle.std.specs.Prelude.{◌≡◌, ◌≢◌, Result, Ok, Err}

-- one step after another, up to the first fault
infixl 10 ◌>>=◌
abbrev pub ◌>>=◌ : {A B E : Type 0} → Result A E → (A → Result B E) → Result B E
(Ok x) >>= f = f x
(Err e) >>= f = Err e

-- a call gives what is said of it, unless memory ran out
abbrev pub Gives : {A E : Type 0} → E → Result A E → Result A E → Type 0
Gives memory (Ok x) said = said ≡ Ok x
Gives memory (Err e) said = e ≢ memory → said ≡ Err e

-- what a call gives, seen by view, is what is said of it, unless memory ran out
abbrev pub GivesAs : {X Y E : Type 0} → E → (X → Y) → Result X E → Result Y E → Type 0
GivesAs memory view (Ok x) said = said ≡ Ok (view x)
GivesAs memory view (Err e) said = e ≢ memory → said ≡ Err e

-- an answer, and the state after it
pub record Step (A E S : Type 0) : Type 0 where
  pub answer : Result A E
  pub state : S

abbrev pub step : {A E S : Type 0} → Result A E → S → Step A E S
step answer state = record { answer = answer; state = state }

-- a call takes the step that is said of it, unless memory ran out, where the state is the old one
abbrev pub Takes : {A E S : Type 0} → E → Result A E → S → S → Step A E S → Type 0
Takes memory (Ok x) old new said = said ≡ step (Ok x) new
Takes memory (Err e) old new said = (e ≢ memory → said ≡ step (Err e) new) × (e ≡ memory → new ≡ old)
