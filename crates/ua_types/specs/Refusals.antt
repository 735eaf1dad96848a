-- What a call answers that refuses by a status.
use Rattle.std.specs.Prelude.{◌≡◌, ⊤, Result, Ok, Err}
use Rattle.ua_types.specs.Answers.{Step, step}
use Rattle.ua_types.specs.declared.refusal.Refusal.{Refusal}
use Rattle.ua_types.specs.declared.refusal.Refusal.TheVariants.{Service, Memory, Exhausted}
use Rattle.ua_types.specs.declared.status.Status.{Status}

-- a call gives what is said of it, or is refused with the status that is said, unless memory ran out
abbrev pub GivesOrRefuses : {A : Type 0} → Result A Refusal → Result A Status → Type 0
GivesOrRefuses (Ok x) said = said ≡ Ok x
GivesOrRefuses (Err (Service status)) said = said ≡ Err status
GivesOrRefuses (Err Memory) said = ⊤
GivesOrRefuses (Err Exhausted) said = ⊥

-- a call takes the step that is said of it, unless memory ran out, where the state is the old one
abbrev pub TakesOrRefuses : {A S : Type 0} → Result A Refusal → S → S → Step A Status S → Type 0
TakesOrRefuses (Ok x) old new said = said ≡ step (Ok x) new
TakesOrRefuses (Err (Service status)) old new said = said ≡ step (Err status) new
TakesOrRefuses (Err Memory) old new said = new ≡ old
TakesOrRefuses (Err Exhausted) old new said = ⊥
