-- Products of dimensions, up to a greatest number.
use Rattle.std.proofs.Common.{◌≡◌, ℕ, zero, suc, ◌+◌, ◌*◌, ◌≤◌, List, [], ◌∷◌, ◌++◌, min, refl, sym, ap, ◌∙◌, arith, inl, inr}
use Rattle.std.proofs.Math.Nat.{mul_assoc, mul_comm, mul-suc}
use Rattle.std.proofs.lemmas.Bool.{cases_lt}
use Rattle.ua_types.specs.Matrices.{product}

pub product_last : (ds : List ℕ) (d : ℕ) → product (ds ++ d ∷ []) ≡ product ds * d
product_last [] d = mul_comm d 1
product_last (e ∷ ds) d = ap (λ n. e * n) (product_last ds d) ∙ sym (mul_assoc e (product ds) d)

grows : (p top d : ℕ) → top ≤ p → min (p * suc d) top ≡ top
grows p top d le = let more : p * suc d ≡ p * d + p = mul-suc p d in omega arith

above : (p d top : ℕ) → top ≤ p → min (top * d) top ≡ min (p * d) top
above p zero top le = omega arith
above p (suc d) top le = grows top top d (omega arith) ∙ sym (grows p top d le)

-- a product that was cut at a greatest number is cut there again
pub min_times : (p d top : ℕ) → min (min p top * d) top ≡ min (p * d) top
min_times p d top =
    elim (cases_lt p top) [
      | inl lt ↦ let same : min p top ≡ p = omega arith in rw same refl
      | inr le ↦ let same : min p top ≡ top = omega arith in rw same (above p d top le)
    ]
