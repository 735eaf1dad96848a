-- Elements of lists are read one after the other, as a loop does.
use Rattle.std.proofs.Common.{◌≡◌, ℕ, ◌+◌, ◌<◌, ◌≤◌, List, [], ◌∷◌, ◌++◌, length, get_or, Bor, Result, Ok, Err, refl, sym, ◌∙◌, append_assoc}
use Rattle.std.proofs.lemmas.List.{append-nil, drop_all}
use Rattle.ua_types.specs.Answers.{◌>>=◌}
use Rattle.scenario_text.specs.Elements.{all_of}
use Rattle.scenario_text.specs.declared.fault.Cause.{Cause}
use Rattle.scenario_text.proofs.Lines.{from_place, next_place}

-- the elements that were read before these
abbrev pub with_front : {A : Type 0} → List A → Result (List A) Cause → Result (List A) Cause
with_front front said = said >>= λ xs. Ok (front ++ xs)

regroup : {A : Type 0} (front : List A) (x : A) (said : Result (List A) Cause) → with_front front (said >>= λ xs. Ok (x ∷ xs)) ≡ with_front (front ++ x ∷ []) said
regroup front x (Ok xs) = rw append_assoc refl
regroup front x (Err e) = refl

pub begins : {A : Type 0} (said : Result (List A) Cause) → with_front [] said ≡ said
begins (Ok xs) = refl
begins (Err e) = refl

pub goes_on : {A : Type 0} (one : List ℕ → Result A Cause) (front : List A) (ts : List (Bor (List ℕ))) (i : ℕ) (d : Bor (List ℕ)) (x : A) (total : Result (List A) Cause)
    → i < length ts → one (get_or ts i d).now ≡ Ok x → with_front front (all_of one (from_place i ts)) ≡ total
    → with_front (front ++ x ∷ []) (all_of one (from_place (i + 1) ts)) ≡ total
unfolding all_of
goes_on one front ts i d x total lt good so_far =
    let step : with_front front (all_of one (from_place i ts)) ≡ with_front (front ++ x ∷ []) (all_of one (from_place (i + 1) ts)) =
    rw (next_place ts i d lt, good) (regroup front x (all_of one (from_place (i + 1) ts))) in
    sym step ∙ so_far

pub fails : {A : Type 0} (one : List ℕ → Result A Cause) (front : List A) (ts : List (Bor (List ℕ))) (i : ℕ) (d : Bor (List ℕ)) (e : Cause) (total : Result (List A) Cause)
    → i < length ts → one (get_or ts i d).now ≡ Err e → with_front front (all_of one (from_place i ts)) ≡ total → total ≡ Err e
unfolding all_of
fails one front ts i d e total lt bad so_far =
    let step : with_front front (all_of one (from_place i ts)) ≡ Err e = rw (next_place ts i d lt, bad) refl in
    sym so_far ∙ step

pub ends : {A : Type 0} (one : List ℕ → Result A Cause) (front : List A) (ts : List (Bor (List ℕ))) (i : ℕ) (total : Result (List A) Cause)
    → length ts ≤ i → with_front front (all_of one (from_place i ts)) ≡ total → total ≡ Ok front
unfolding all_of
ends one front ts i total le so_far =
    let step : with_front front (all_of one (from_place i ts)) ≡ Ok front = rw (drop_all i ts le, append-nil front) refl in
    sym so_far ∙ step
