-- A line whose statement was read begins well.
use Rattle.std.proofs.Common.{◌≡◌, true, List, ℕ, Result, Ok, Err, IfErr}
use Rattle.scenario_text.specs.Statements.{asker_reading, front_reading}
use Rattle.scenario_text.specs.Verbs.{verb_of}
use Rattle.scenario_text.specs.Words.{has_more, word}
use Rattle.scenario_text.specs.declared.fault.Cause.{Cause}
use Rattle.scenario_text.specs.declared.known.Known.{Known}
use Rattle.scenario_text.specs.declared.verbs.Verb.{Verb}

well : {A B E : Type 0} (read : Result A E) (x : B) (P : E → Type 0) → IfErr read (λ e. ◌≡◌ {A = Result B E} (Ok x) (Err e)) → IfErr read P
well (Ok a) x P h = tt
well (Err e) x P h = absurd (cc h)

pub begins_well : {B : Type 0} (known : Known) (line rest t : List ℕ) (verb : Verb) (x : B) (P : Cause → Type 0) → has_more line ≡ true → word line ≡ Ok (t, rest) → Ok verb ≡ verb_of t →
    IfErr (asker_reading known verb rest) (λ cause. ◌≡◌ {A = Result B Cause} (Ok x) (Err cause)) → IfErr (front_reading known line) P
unfolding front_reading
begins_well known line rest t verb x P more first known_verb asked = rw (more, first, ← known_verb) (well (asker_reading known verb rest) x P asked)
