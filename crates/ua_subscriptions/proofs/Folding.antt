-- A number that only rises while things are done one after the other.
use Rattle.std.proofs.Common.{◌≤◌, ◌<◌, ◌++◌, ℕ, zero, suc, List, [], ◌∷◌, length, take, fold, slice_index_or, arith}

module _ {S A : Type 0} (f : S → A → S) (height : S → ℕ) (rises : (s : S) (x : A) → height s ≤ height (f s x)) where
  pub fold_rises : (xs : List A) (s : S) → height s ≤ height (fold f s xs)
  fold_rises [] s = grind arith
  fold_rises (x ∷ xs) s = grind (arith, rises s x, fold_rises xs (f s x))

  -- what is reached on the way is reached in the end
  pub reaches : (xs : List A) (i : ℕ) (s : S) (d : A) (most : ℕ) → i < length xs → most ≤ height (f (fold f s (take i xs)) (slice_index_or xs i d)) → most ≤ height (fold f s xs)
  reaches [] i s d most lt h = absurd (grind (arith, lt))
  reaches (x ∷ xs) zero s d most lt h = grind (arith, h, fold_rises xs (f s x))
  reaches (x ∷ xs) (suc i) s d most lt h = reaches xs i (f s x) d most (grind (arith, lt)) h

  -- the same where what is done and what is left are named
  pub reaches_on : (done : List A) (x : A) (rest : List A) (s : S) (most : ℕ) → most ≤ height (f (fold f s done) x) → most ≤ height (fold f s (done ++ x ∷ rest))
  reaches_on [] x rest s most h = grind (arith, h, fold_rises rest (f s x))
  reaches_on (d ∷ done) x rest s most h = reaches_on done x rest (f s d) most h
