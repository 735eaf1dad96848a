-- The first values of runs, and the last of these.
use Rattle.std.proofs.Common.{◌≡◌, ◌<◌, ◌≤◌, ◌+◌, ◌-◌, ℕ, zero, suc, ℤ, Bool, true, false, min, List, [], ◌∷◌, ◌++◌, length, reverse, take, drop, slice_get, option_map, Option, Some, None, refl, sym, ap, ◌∙◌, arith, append_assoc, append-nil, length-append, length-drop}
use Rattle.std.proofs.Math.Seq.{take-append_seam, take-append-add}
use Rattle.std.proofs.lemmas.Bool.{lt-ltb}
use Rattle.std.proofs.lemmas.List.{take-append-drop, take-append-le, take_min, take_all, reverse-append, length-reverse, flat_map_more}
use Rattle.std.specs.Borrow.{Bor}
use Rattle.std.specs.Option.{option_or}
use Rattle.ua_types.specs.declared.data_value.DataValue.{DataValue}
use Rattle.ua_history.specs.Histories.{Values}
use Rattle.ua_history.specs.Intervals.{in_order}
use Rattle.ua_history.specs.Pages.{is_more_than, last_time}
use Rattle.ua_history.specs.Runs.{told}

-- the last values of a run, turned round, are the first of the run turned round
pub first_turned : (most : ℕ) (run : Values) (count : ℕ) → count ≡ min most (length run) → reverse (drop (length run - count) run) ≡ take most (reverse run)
first_turned most run count is =
    let front = take (length run - count) run in
    let back = drop (length run - count) run in
    let rest : length run - (length run - count) ≡ count = omega (arith, is) in
    let same : length (reverse back) ≡ count = length-reverse back ∙ length-drop (length run - count) run ∙ rest in
    let turned : reverse run ≡ reverse back ++ reverse front = ap reverse (sym (take-append-drop (length run - count) run)) ∙ reverse-append front back in
    sym (sym (take_min most (reverse run))
    ∙ ap (λ (n : ℕ). take (min most n) (reverse run)) (length-reverse run)
    ∙ ap (λ (n : ℕ). take n (reverse run)) (sym is ∙ sym same)
    ∙ ap (take (length (reverse back))) turned
    ∙ take-append_seam (reverse back) (reverse front))

pub length_in_order : (is_falling : Bool) (es : Values) → length (in_order is_falling es) ≡ length es
length_in_order true es = length-reverse es
length_in_order false es = refl

-- ---- one more run

told_more : (is_falling : Bool) (runs : List (Bor Values)) (given : Bor Values) → told is_falling (runs ++ given ∷ []) ≡ told is_falling runs ++ in_order is_falling given.now
told_more is_falling runs given = sym (flat_map_more (λ (run : Bor Values). in_order is_falling run.now) [] runs given)

module _ (is_falling : Bool) (size len : ℕ) (runs : List (Bor Values)) (given : Bor Values) (is_len : len ≡ length (told is_falling runs)) where
  pub told_by : (more : Values) → len ≤ size → in_order is_falling given.now ≡ take (size - len) more → told is_falling (runs ++ given ∷ []) ≡ take size (told is_falling runs ++ more)
  told_by more fits is =
      let before = told is_falling runs in
      let room : length before + (size - len) ≡ size = omega (arith, is_len, fits) in
      told_more is_falling runs given ∙ ap (λ (l : Values). before ++ l) is ∙ sym (ap (λ (n : ℕ). take n (before ++ more)) (sym room) ∙ take-append-add before more (size - len))

  pub told_length : len + length given.now ≡ length (told is_falling (runs ++ given ∷ []))
  told_length =
      let all = ap length (told_more is_falling runs given) in
      let sum = length-append (told is_falling runs) (in_order is_falling given.now) in
      let same = length_in_order is_falling given.now in
      omega (arith, all, sum, same, is_len)

-- ---- the last time

after : (xs ys : Values) (k m : ℕ) → m ≡ length xs + k → slice_get (xs ++ ys) m ≡ slice_get ys k
after [] ys k m is = ap (slice_get ys) (omega (arith, is))
after (x ∷ xs) ys k zero is = absurd (omega (arith, is))
after (x ∷ xs) ys k (suc m) is = after xs ys k m (omega (arith, is))

there : (es : Values) (k : ℕ) → k < length es → slice_get es k ≡ None → ⊥
there [] k few e = omega (arith, few)
there (x ∷ xs) zero few e = cc
there (x ∷ xs) (suc k) few e = there xs k (omega (arith, few)) e

last_joined : (xs ys : Values) → option_or (last_time ys) (last_time xs) ≡ last_time (xs ++ ys)
last_joined xs [] = ap last_time (sym (append-nil xs))
last_joined xs (y ∷ ys) =
    let end : length (xs ++ y ∷ ys) - 1 ≡ length xs + (length (y ∷ ys) - 1) = let sum = length-append xs (y ∷ ys) in omega (arith, sum) in
    by (slice_get (y ∷ ys) (length (y ∷ ys) - 1)) refl ∙ sym (ap (option_map (λ e. record { 0 = e.0 })) (after xs (y ∷ ys) (length (y ∷ ys) - 1) (length (xs ++ y ∷ ys) - 1) end))
  where
    by : (found : Option (ℤ × DataValue)) → slice_get (y ∷ ys) (length (y ∷ ys) - 1) ≡ found →
        option_or (option_map (λ e. record { 0 = e.0 }) found) (last_time xs) ≡ option_map (λ e. record { 0 = e.0 }) found
    by None at = absurd (there (y ∷ ys) (length (y ∷ ys) - 1) (omega arith) at)
    by (Some e) at = refl

pub told_last : (is_falling : Bool) (runs : List (Bor Values)) (given : Bor Values) → option_or (last_time (in_order is_falling given.now)) (last_time (told is_falling runs)) ≡ last_time (told is_falling (runs ++ given ∷ []))
told_last is_falling runs given = last_joined (told is_falling runs) (in_order is_falling given.now) ∙ ap last_time (sym (told_more is_falling runs given))

-- ---- a rising page

-- with more values than it may have it has the first of all, and all are more than these
pub ends_within : (size : ℕ) (values more rest all : Values) → values ++ (more ++ rest) ≡ all → size < length values + length more →
    record { values : take size (values ++ more) ≡ take size all; is_more : is_more_than size all ≡ true }
ends_within size values more rest all is few =
    let apart : (values ++ more) ++ rest ≡ all = append_assoc values more rest ∙ is in
    let sum = length-append values more in
    let total = length-append (values ++ more) rest in
    let same = ap length apart in
    record {
      values = sym (take-append-le size (values ++ more) rest (omega (arith, sum, few))) ∙ ap (take size) apart;
      is_more = lt-ltb size (length all) (omega (arith, sum, total, same, few));
    }

-- with no more than it may have all of these stand in it
pub goes_on : (size : ℕ) (values more rest all : Values) → values ++ (more ++ rest) ≡ all → length values + length more ≤ size → take size (values ++ more) ++ rest ≡ all
goes_on size values more rest all is few =
    let sum = length-append values more in
    ap (λ (l : Values). l ++ rest) (take_all size (values ++ more) (omega (arith, sum, few))) ∙ append_assoc values more rest ∙ is
