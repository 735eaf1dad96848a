-- Whether elements lie in dimensions is told one dimension after another.
use Rattle.std.proofs.Common.{◌≡◌, ◌<◌, ◌*◌, ◌^◌, ◌-◌, ◌&&◌, ◌==◌, ℕ, List, [], ◌∷◌, Bool, Option, Some, None, true, false, min, ltb, eqb, cond, zero, suc, ◌+◌, ◌≤◌, arith, inl, inr, refl, sym, ap, ◌∙◌}
use Rattle.std.proofs.Math.Nat.{mul_assoc, mul-suc}
use Rattle.std.proofs.lemmas.Bool.{cases_lt}
use Rattle.std.proofs.lemmas.Bool.Decides.{nat_tests}
use Rattle.std.specs.List.{list_all}
use Rattle.ua_types.specs.Matrices.{product, is_shape}
use Rattle.ua_views.specs.Shapes.{with_dimension}

-- the dimensions to come make of this size so many elements
abbrev pub in_shape : Option ℕ → ℕ → List ℕ → Bool
in_shape None count ds = false
in_shape (Some size) count ds = list_all (λ d. ltb d (2 ^ 31)) ds && (min (size * product ds) (2 ^ 64 - 1) == count)

-- ---- products up to a greatest number, as in `ua_types`, which keeps these to itself

grows : (p top d : ℕ) → top ≤ p → min (p * suc d) top ≡ top
grows p top d le = let more : p * suc d ≡ p * d + p = mul-suc p d in omega arith

above : (p d top : ℕ) → top ≤ p → min (top * d) top ≡ min (p * d) top
above p zero top le = omega arith
above p (suc d) top le = grows top top d (omega arith) ∙ sym (grows p top d le)

min_times : (p d top : ℕ) → min (min p top * d) top ≡ min (p * d) top
min_times p d top =
    elim (cases_lt p top) [
      | inl lt ↦ let same : min p top ≡ p = omega arith in rw same refl
      | inr le ↦ let same : min p top ≡ top = omega arith in rw same (above p d top le)
    ]

capped : (p count : ℕ) → count < 2 ^ 64 - 1 → eqb (min p (2 ^ 64 - 1)) count ≡ eqb p count
capped p count lt = grind (arith, nat_tests)

-- ---- one dimension more

one_more : (size d count : ℕ) (ds : List ℕ) (small : Bool) → ltb d (2 ^ 31) ≡ small
    → in_shape (Some size) count (d ∷ ds) ≡ in_shape (cond small (Some (min (size * d) (2 ^ 64 - 1))) None) count ds
one_more size d count ds true h =
    let cut : min (min (size * d) (2 ^ 64 - 1) * product ds) (2 ^ 64 - 1) ≡ min (size * (d * product ds)) (2 ^ 64 - 1) =
    min_times (size * d) (product ds) (2 ^ 64 - 1) ∙ ap (λ (n : ℕ). min n (2 ^ 64 - 1)) (mul_assoc size d (product ds)) in
    rw (h, cut) refl
one_more size d count ds false h = rw h refl

pub one_dimension : (size : Option ℕ) (d count : ℕ) (ds : List ℕ) → in_shape size count (d ∷ ds) ≡ in_shape (with_dimension size d) count ds
one_dimension None d count ds = refl
one_dimension (Some size) d count ds = one_more size d count ds (ltb d (2 ^ 31)) refl

-- at the first dimension
pub whole_shape : (count : ℕ) (ds : List ℕ) → count < 2 ^ 32 → in_shape (Some 1) count ds ≡ is_shape ds count
whole_shape count ds lt =
    let one : 1 * product ds ≡ product ds = omega arith in
    rw one (ap (λ b. list_all (λ d. ltb d (2 ^ 31)) ds && b) (capped (product ds) count (omega arith)))

-- after the last one
pub no_dimension : (size count : ℕ) → count < 2 ^ 32 → in_shape (Some size) count [] ≡ eqb size count
no_dimension size count lt = let one : size * 1 ≡ size = omega arith in rw one (capped size count (omega arith))
