-- Lines are read one after the other, as a loop does.
use Rattle.std.proofs.Common.{◌≡◌, ℕ, ◌+◌, ◌<◌, ◌≤◌, List, ◌∷◌, ◌++◌, length, get_or, drop, map, Bor, Option, Some, None, Ok, Err, refl, sym, ap, ◌∙◌, append_assoc, add-one, drop-cons}
use Rattle.std.proofs.lemmas.List.{append-nil, drop_all}
use Rattle.scenario_text.specs.declared.fault.Cause.{Cause}
use Rattle.scenario_text.specs.declared.known.Known.{Known}
use Rattle.scenario_text.specs.declared.scenario.Line.{Line}
use Rattle.scenario_text.specs.declared.scenario.Scenario.{Scenario}
use Rattle.scenario_text.specs.declared.statement.Statement.{Statement}
use Rattle.scenario_text.specs.Scenarios.{listed, preceded, scenario_from}
use Rattle.scenario_text.specs.Statements.{statement_of, after_line}

-- the characters of the lines from a place on
abbrev pub from_place : ℕ → List (Bor (List ℕ)) → List (List ℕ)
from_place i ts = map (λ t. t.now) (drop i ts)

pub next_place : (ts : List (Bor (List ℕ))) (i : ℕ) (d : Bor (List ℕ)) → i < length ts → from_place i ts ≡ (get_or ts i d).now ∷ from_place (i + 1) ts
next_place ts i d lt = ap (map (λ x. x.now)) (drop-cons ts i d lt) ∙ rw add-one refl

regroup : (front more : List Line) (others : Scenario) → preceded front (preceded more others) ≡ preceded (front ++ more) others
regroup front more others = rw append_assoc refl

pub goes_on : (k : Known) (front : List Line) (ts : List (Bor (List ℕ))) (i : ℕ) (d : Bor (List ℕ)) (said : Option Statement) (total : Scenario) → i < length ts
    → statement_of k (get_or ts i d).now ≡ Ok said → preceded front (scenario_from k (i + 1) (from_place i ts)) ≡ total
    → preceded (front ++ listed (i + 1) said) (scenario_from (after_line k said) (i + 1 + 1) (from_place (i + 1) ts)) ≡ total
unfolding scenario_from
goes_on k front ts i d said total lt good so_far =
    let one : preceded front (scenario_from k (i + 1) (from_place i ts)) ≡ preceded (front ++ listed (i + 1) said) (scenario_from (after_line k said) (i + 1 + 1) (from_place (i + 1) ts)) =
    rw (next_place ts i d lt, good) (regroup front (listed (i + 1) said) (scenario_from (after_line k said) (i + 1 + 1) (from_place (i + 1) ts))) in
    sym one ∙ so_far

pub fails : (k : Known) (front : List Line) (ts : List (Bor (List ℕ))) (i : ℕ) (d : Bor (List ℕ)) (cause : Cause) (total : Scenario) → i < length ts
    → statement_of k (get_or ts i d).now ≡ Err cause → preceded front (scenario_from k (i + 1) (from_place i ts)) ≡ total
    → record { lines = front; fault = Some (record { cause = cause; line = i + 1 }) } ≡ total
unfolding scenario_from
fails k front ts i d cause total lt bad so_far =
    let one : preceded front (scenario_from k (i + 1) (from_place i ts)) ≡ record { lines = front; fault = Some (record { cause = cause; line = i + 1 }) } =
    rw (next_place ts i d lt, bad, append-nil front) refl in
    sym one ∙ so_far

pub ends : (k : Known) (front : List Line) (ts : List (Bor (List ℕ))) (i : ℕ) (total : Scenario) → length ts ≤ i
    → preceded front (scenario_from k (i + 1) (from_place i ts)) ≡ total → record { lines = front; fault = None } ≡ total
unfolding scenario_from
ends k front ts i total le so_far =
    let one : preceded front (scenario_from k (i + 1) (from_place i ts)) ≡ record { lines = front; fault = None } =
    rw (drop_all i ts le, append-nil front) refl in
    sym one ∙ so_far
