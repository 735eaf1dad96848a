-- Entries are read one by one.
use Rattle.std.proofs.Common.{◌≡◌, ℕ, suc, ◌+◌, ◌-◌, ◌<◌, ◌≤◌, List, [], ◌∷◌, ◌++◌, Result, Ok, Err, refl, sym, ◌∙◌, append_assoc, arith, true, false}
use Rattle.std.proofs.lemmas.List.{append-nil}
use Rattle.scenario_text.specs.declared.fault.Cause.{Cause}
use Rattle.scenario_text.specs.Readings.{go_on}
use Rattle.scenario_text.specs.Words.{has_more}
use Rattle.scenario_text.specs.Entries.{entries_within}

-- the entries that were read before these
abbrev pub with_front : {A : Type 0} → List A → Result (List A × List ℕ) Cause → Result (List A × List ℕ) Cause
with_front front reading = go_on reading (λ xs rest. Ok (front ++ xs, rest))

regroup : {A : Type 0} (front : List A) (x : A) (reading : Result (List A × List ℕ) Cause)
    → with_front front (go_on reading (λ xs rest. Ok (x ∷ xs, rest))) ≡ with_front (front ++ x ∷ []) reading
regroup front x (Ok y) = rw append_assoc refl
regroup front x (Err e) = refl

pub begins : {A : Type 0} (reading : Result (List A × List ℕ) Cause) → with_front [] reading ≡ reading
begins (Ok y) = refl
begins (Err e) = refl

pub goes_on : {A : Type 0} (entry : List ℕ → Result (A × List ℕ) Cause) (front : List A) (most i : ℕ) (line : List ℕ) (x : A) (rest : List ℕ) (total : Result (List A × List ℕ) Cause)
    → i < most → has_more line ≡ true → entry line ≡ Ok (x, rest) → with_front front (entries_within (most - i) entry line) ≡ total
    → with_front (front ++ x ∷ []) (entries_within (most - (i + 1)) entry rest) ≡ total
unfolding entries_within
goes_on entry front most i line x rest total lt more h so_far =
    let k : most - i ≡ suc (most - (i + 1)) = omega arith in
    let one : with_front front (entries_within (most - i) entry line) ≡ with_front (front ++ x ∷ []) (entries_within (most - (i + 1)) entry rest) = rw (k, more, h) (regroup front x (entries_within (most - (i + 1)) entry rest)) in
    sym one ∙ so_far

pub fails : {A : Type 0} (entry : List ℕ → Result (A × List ℕ) Cause) (front : List A) (most i : ℕ) (line : List ℕ) (e : Cause) (total : Result (List A × List ℕ) Cause)
    → i < most → has_more line ≡ true → entry line ≡ Err e → with_front front (entries_within (most - i) entry line) ≡ total → total ≡ Err e
unfolding entries_within
fails entry front most i line e total lt more h so_far =
    let k : most - i ≡ suc (most - (i + 1)) = omega arith in
    let one : with_front front (entries_within (most - i) entry line) ≡ Err e = rw (k, more, h) refl in
    sym so_far ∙ one

pub stops : {A : Type 0} (entry : List ℕ → Result (A × List ℕ) Cause) (front : List A) (most i : ℕ) (line : List ℕ) (total : Result (List A × List ℕ) Cause)
    → i < most → has_more line ≡ false → with_front front (entries_within (most - i) entry line) ≡ total → total ≡ Ok (front, line)
unfolding entries_within
stops entry front most i line total lt none so_far =
    let k : most - i ≡ suc (most - (i + 1)) = omega arith in
    let one : with_front front (entries_within (most - i) entry line) ≡ Ok (front, line) = rw (k, none, append-nil front) refl in
    sym so_far ∙ one

pub is_done : {A : Type 0} (entry : List ℕ → Result (A × List ℕ) Cause) (front : List A) (most i : ℕ) (line : List ℕ) (total : Result (List A × List ℕ) Cause)
    → most ≤ i → with_front front (entries_within (most - i) entry line) ≡ total → total ≡ Ok (front, line)
unfolding entries_within
is_done entry front most i line total le so_far =
    let k : most - i ≡ 0 = omega arith in
    let one : with_front front (entries_within (most - i) entry line) ≡ Ok (front, line) = rw (k, append-nil front) refl in
    sym so_far ∙ one
