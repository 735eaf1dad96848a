-- How many entries of a segment lie before a bound of times, and which segments have some from it on.
use Rattle.std.specs.Prelude.{◌≡◌, ◌≤◌, ℕ, ℤ, true, false, List, length, take, drop}
use Rattle.std.specs.BTreeMap.Range.{IsLeBy, IsLtBy, is_from_start, is_past_end}
use Rattle.std.specs.List.{AllByRecursion}
use Rattle.std.specs.Ordering.{int_cmp}
use Rattle.std.specs.declared.collections.VecDeque.{VecDeque}
use Rattle.std.specs.declared.ops.Bound.{Bound}
use Rattle.std.specs.Range.Bound.{IsForward}
use Rattle.collections.specs.Laid.{AllFrom, AllBefore}

module _ {V : Type 0} where
  -- how many entries lie before a time, and how many before it or at it
  abbrev pub IsCountBefore : ℤ → List (ℤ × V) → ℕ → Type 0
  IsCountBefore time es n = (n ≤ length es) × AllBefore time (take n es) × AllFrom time (drop n es)

  abbrev pub IsCountUpTo : ℤ → List (ℤ × V) → ℕ → Type 0
  IsCountUpTo time es n = (n ≤ length es) × AllByRecursion (λ e. IsLeBy int_cmp e.0 time) (take n es) × AllByRecursion (λ e. IsLtBy int_cmp time e.0) (drop n es)

  -- how many lie before a start, and how many up to an end
  abbrev pub IsStartIn : Bound ℤ → List (ℤ × V) → ℕ → Type 0
  IsStartIn low es n = (n ≤ length es) × AllByRecursion (λ e. is_from_start int_cmp low e.0 ≡ false) (take n es) × AllByRecursion (λ e. is_from_start int_cmp low e.0 ≡ true) (drop n es)

  abbrev pub IsEndIn : Bound ℤ → List (ℤ × V) → ℕ → Type 0
  IsEndIn high es n = (n ≤ length es) × AllByRecursion (λ e. is_past_end int_cmp high e.0 ≡ false) (take n es) × AllByRecursion (λ e. is_past_end int_cmp high e.0 ≡ true) (drop n es)

-- the segments under this bound or later ones have all entries from a start on
pub record IsFirstFor {V Z : Type 0} (low : Bound ℤ) (ss : List (ℤ × VecDeque (ℤ × V) Z)) (first : Bound ℤ) : Type 0 where
  pub skips : AllByRecursion (λ s. is_from_start int_cmp first s.0 ≡ false → AllByRecursion (λ e. is_from_start int_cmp low e.0 ≡ false) s.1.items) ss
  pub forward : (high : Bound ℤ) → IsForward (IsLeBy int_cmp) (IsLtBy int_cmp) low high → IsForward (IsLeBy int_cmp) (IsLtBy int_cmp) first high
