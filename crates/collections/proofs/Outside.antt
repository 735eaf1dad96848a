-- How many entries lie before a time or up to it, where the first or the last of them tells.
use Rattle.std.proofs.Common.{◌≡◌, ◌-◌, ◌<◌, ℤ, List, [], ◌∷◌, ◌++◌, length, get_or, sym, subst, arith}
use Rattle.std.proofs.Math.Seq.{take-length, drop-length}
use Rattle.std.specs.BTreeMap.Range.{IsLeBy, IsLtBy}
use Rattle.std.specs.List.{AllByRecursion}
use Rattle.std.specs.List.Sorted.{IsStrictlySortedBy}
use Rattle.std.specs.Map.{keys_of}
use Rattle.std.specs.Ordering.{int_cmp}
use Rattle.collections.proofs.Ends.{last_got}
use Rattle.collections.proofs.Lists.{all_joined, all_so}
use Rattle.collections.proofs.Segmented.{after_from_keys, sorted_before}
use Rattle.collections.proofs.Times.{less_le, lt_le, le_lt, lt_lt}
use Rattle.collections.specs.Laid.{AllBefore, AllFrom}
use Rattle.collections.specs.Parts.{IsCountBefore, IsCountUpTo}

module _ {V : Type 0} (time : ℤ) where
  pub from_first : (es : List (ℤ × V)) (first : ℤ × V) → 0 < length es → first ≡ get_or es 0 first → IsStrictlySortedBy int_cmp (keys_of es) → IsLeBy int_cmp time first.0 → IsCountBefore time es 0
  unfolding IsStrictlySortedBy
  from_first [] first some is s h = absurd (omega (arith, some))
  from_first (e ∷ es) first some is s h =
      let here : IsLeBy int_cmp time e.0 = subst (λ (d : ℤ × V). IsLeBy int_cmp time d.0) is h in
      (omega arith, tt, (here, all_so (λ f. IsLtBy int_cmp e.0 f.0) (λ f. IsLeBy int_cmp time f.0) (λ f k. less_le time f.0 (le_lt time e.0 f.0 here k)) es (after_from_keys e.0 es s.0)))

  pub past_first : (es : List (ℤ × V)) (first : ℤ × V) → 0 < length es → first ≡ get_or es 0 first → IsStrictlySortedBy int_cmp (keys_of es) → IsLtBy int_cmp time first.0 → IsCountUpTo time es 0
  unfolding IsStrictlySortedBy
  past_first [] first some is s h = absurd (omega (arith, some))
  past_first (e ∷ es) first some is s h =
      let here : IsLtBy int_cmp time e.0 = subst (λ (d : ℤ × V). IsLtBy int_cmp time d.0) is h in
      (omega arith, tt, (here, all_so (λ f. IsLtBy int_cmp e.0 f.0) (λ f. IsLtBy int_cmp time f.0) (λ f k. lt_lt time e.0 f.0 here k) es (after_from_keys e.0 es s.0)))

  -- what holds of the last holds of those before it, if it holds of all that lie before one of which it holds
  all_to_last : (P : ℤ × V → Type 0) (es : List (ℤ × V)) (last : ℤ × V) → 0 < length es → last ≡ get_or es (length es - 1) last → IsStrictlySortedBy int_cmp (keys_of es)
      → P last → ((f : ℤ × V) → IsLtBy int_cmp f.0 last.0 → P f) → AllByRecursion P es
  all_to_last P es last some is s h before =
      let y = last_got es last some is in
      let order : IsStrictlySortedBy int_cmp (keys_of (y.0 ++ last ∷ [])) = subst (λ (l : List (ℤ × V)). IsStrictlySortedBy int_cmp (keys_of l)) y.1 s in
      subst (AllByRecursion P) (sym y.1) (all_joined P y.0 (last ∷ []) (all_so (λ f. IsLtBy int_cmp f.0 last.0) P before y.0 (sorted_before y.0 last [] order)) (h, tt))

  pub before_last : (es : List (ℤ × V)) (last : ℤ × V) → 0 < length es → last ≡ get_or es (length es - 1) last → IsStrictlySortedBy int_cmp (keys_of es) → IsLtBy int_cmp last.0 time → IsCountBefore time es (length es)
  before_last es last some is s h = (
    omega arith,
    subst (AllBefore time) (sym (take-length es)) (all_to_last (λ f. IsLtBy int_cmp f.0 time) es last some is s h (λ f k. lt_lt f.0 last.0 time k h)),
    subst (AllFrom time) (sym (drop-length es)) tt,
  )

  pub up_to_last : (es : List (ℤ × V)) (last : ℤ × V) → 0 < length es → last ≡ get_or es (length es - 1) last → IsStrictlySortedBy int_cmp (keys_of es) → IsLeBy int_cmp last.0 time → IsCountUpTo time es (length es)
  up_to_last es last some is s h = (
    omega arith,
    subst (AllByRecursion (λ f. IsLeBy int_cmp f.0 time)) (sym (take-length es)) (all_to_last (λ f. IsLeBy int_cmp f.0 time) es last some is s h (λ f k. less_le f.0 time (lt_le f.0 last.0 time k h))),
    subst (AllByRecursion (λ f. IsLtBy int_cmp time f.0)) (sym (drop-length es)) tt,
  )
