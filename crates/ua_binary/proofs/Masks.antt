-- A byte that says which parts are there.
use Rattle.std.proofs.Common.{◌≡◌, ℕ, ◌+◌, ◌*◌, ◌/◌, ◌%◌, ◌<◌, Bool, true, false, List, ◌∷◌, ◌++◌, Ok, refl, ap, ◌∙◌, append_assoc, arith, inl, inr}
use Rattle.std.proofs.lemmas.Bool.{cases_eq, ne_eqb}
use Rattle.std.specs.Prelude.{is_some}
use Rattle.ua_types.specs.declared.status.Status.{Status}
use Rattle.ua_types.specs.declared.data_value.DataValue.{DataValue}
use Rattle.ua_binary.specs.Reading.{IsReadAgain}
use Rattle.ua_binary.specs.Parts.{flag}
use Rattle.ua_binary.specs.Scalars.{moment_reading, moment_encoding, status_reading, status_encoding}
use Rattle.ua_binary.specs.Variants.{variant_reading, variant_encoding}
use Rattle.ua_binary.specs.DataValues.{optional_reading, optional_encoding, or_good, unless_good, data_value_reading, data_value_encoding}

flag_small : (b : Bool) → flag b < 2
flag_small true = omega arith
flag_small false = omega arith

good_zero : (status : Status) → status.0 ≡ 0 → or_good (unless_good status) ≡ status
good_zero status e = rw e refl

-- a status that isn't written is good
pub good_again : (status : Status) → or_good (unless_good status) ≡ status
good_again status =
    elim (cases_eq status.0 0) [
      | inl same ↦ good_zero status same
      | inr other ↦ rw (ne_eqb status.0 0 other) refl
    ]

pub data_value_again : (v : DataValue)
    → ((x : List ℕ) → optional_reading (flag (is_some v.value)) variant_reading (optional_encoding variant_encoding v.value ++ x) ≡ Ok (v.value, x))
    → ((x : List ℕ) → optional_reading (flag (is_some (unless_good v.status))) status_reading (optional_encoding status_encoding (unless_good v.status) ++ x) ≡ Ok (unless_good v.status, x))
    → ((x : List ℕ) → optional_reading (flag (is_some v.source_time)) moment_reading (optional_encoding moment_encoding v.source_time ++ x) ≡ Ok (v.source_time, x))
    → ((x : List ℕ) → optional_reading (flag (is_some v.server_time)) moment_reading (optional_encoding moment_encoding v.server_time ++ x) ≡ Ok (v.server_time, x))
    → IsReadAgain data_value_reading data_value_encoding v
unfolding data_value_reading data_value_encoding optional_reading
data_value_again v value status source_time server_time x =
    let a = flag (is_some v.value) in
    let b = flag (is_some (unless_good v.status)) in
    let c = flag (is_some v.source_time) in
    let d = flag (is_some v.server_time) in
    let a_small : a < 2 = flag_small (is_some v.value) in
    let b_small : b < 2 = flag_small (is_some (unless_good v.status)) in
    let c_small : c < 2 = flag_small (is_some v.source_time) in
    let d_small : d < 2 = flag_small (is_some v.server_time) in
    let m = a + 2 * b + 4 * c + 8 * d in
    let is_a : m % 2 ≡ a = omega arith in
    let is_b : m / 2 % 2 ≡ b = omega arith in
    let is_c : m / 4 % 2 ≡ c = omega arith in
    let is_d : m / 8 % 2 ≡ d = omega arith in
    let no_source : m / 16 % 2 ≡ 0 = omega arith in
    let no_server : m / 32 % 2 ≡ 0 = omega arith in
    let p = optional_encoding variant_encoding v.value in
    let q = optional_encoding status_encoding (unless_good v.status) in
    let r = optional_encoding moment_encoding v.source_time in
    let s = optional_encoding moment_encoding v.server_time in
    let regrouped : (((p ++ q) ++ r) ++ s) ++ x ≡ p ++ (q ++ (r ++ (s ++ x))) = append_assoc ((p ++ q) ++ r) s x ∙ append_assoc (p ++ q) r (s ++ x) ∙ append_assoc p q (r ++ (s ++ x)) in
    ap (λ (rest : List ℕ). data_value_reading (m ∷ rest)) regrouped ∙ (rw (is_a, is_b, is_c, is_d, no_source, no_server, value, status, source_time, server_time, good_again v.status) refl)
