-- How many entries lie before a time or up to it, and the part between two bounds.
use Rattle.std.proofs.Common.{◌≡◌, ◌-◌, ℕ, zero, suc, ℤ, true, false, List, [], ◌∷◌, ◌++◌, length, take, drop, refl, sym, ap, subst, ◌∙◌, arith}
use Rattle.std.proofs.Math.Seq.{drop-nil}
use Rattle.std.specs.BTreeMap.Range.{IsLeBy, IsLtBy, entries_between, is_from_start, is_past_end}
use Rattle.std.specs.List.{AllByRecursion}
use Rattle.std.specs.List.Sorted.{IsStrictlySortedBy}
use Rattle.std.specs.Map.{keys_of}
use Rattle.std.specs.Ordering.{int_cmp}
use Rattle.std.specs.declared.ops.Bound.{Bound}
use Rattle.std.specs.declared.ops.Bound.TheVariants.{Included, Excluded, Unbounded}
use Rattle.collections.proofs.Entries.{tail_at, tail_gap, head_before}
use Rattle.collections.proofs.Lists.{all_so}
use Rattle.collections.proofs.Segmented.{after_from_keys}
use Rattle.collections.proofs.Times.{le_self, less_le, greater_flips}
use Rattle.collections.specs.Laid.{AllFrom, AllBefore}
use Rattle.collections.specs.Parts.{IsCountBefore, IsCountUpTo, IsStartIn, IsEndIn}
use Rattle.collections.specs.Places.{IsAt, IsGapFor}

-- ---- bounds at one time

from_at : (time t : ℤ) → IsLeBy int_cmp time t → is_from_start int_cmp (Included time) t ≡ true
from_at time t h = grind (arith, h)

not_from_at : (time t : ℤ) → IsLtBy int_cmp t time → is_from_start int_cmp (Included time) t ≡ false
not_from_at time t h = grind (arith, h)

from_past : (time t : ℤ) → IsLtBy int_cmp time t → is_from_start int_cmp (Excluded time) t ≡ true
from_past time t h = grind (arith, h)

not_from_past : (time t : ℤ) → IsLeBy int_cmp t time → is_from_start int_cmp (Excluded time) t ≡ false
not_from_past time t h = grind (arith, h)

past_at : (time t : ℤ) → IsLtBy int_cmp time t → is_past_end int_cmp (Included time) t ≡ true
past_at time t h = grind (arith, h)

not_past_at : (time t : ℤ) → IsLeBy int_cmp t time → is_past_end int_cmp (Included time) t ≡ false
not_past_at time t h = grind (arith, h)

past_before : (time t : ℤ) → IsLeBy int_cmp time t → is_past_end int_cmp (Excluded time) t ≡ true
past_before time t h = grind (arith, h)

not_past_before : (time t : ℤ) → IsLtBy int_cmp t time → is_past_end int_cmp (Excluded time) t ≡ false
not_past_before time t h = grind (arith, h)

module _ {V : Type 0} where
  -- ---- of a place

  gap_taken : (time : ℤ) (es : List (ℤ × V)) (i : ℕ) → IsGapFor time es i → AllBefore time (take i es)
  gap_taken time es zero p = tt
  gap_taken time [] (suc i) p = tt
  gap_taken time (e ∷ es) (suc i) p = (p.before zero e (omega arith) (omega arith), gap_taken time es i (tail_gap time e es i p))

  all_after : (time : ℤ) (es : List (ℤ × V)) → IsGapFor time es zero → AllByRecursion (λ e. IsLtBy int_cmp time e.0) es
  all_after time [] p = tt
  all_after time (e ∷ es) p = (
    p.after zero e (omega arith) (omega arith),
    all_after time es (record { in_range = omega arith; before = λ k d low high. absurd (omega (arith, high)); after = λ k d low high. p.after (suc k) d (omega arith) (omega (arith, high)) }),
  )

  gap_dropped : (time : ℤ) (es : List (ℤ × V)) (i : ℕ) → IsGapFor time es i → AllByRecursion (λ e. IsLtBy int_cmp time e.0) (drop i es)
  gap_dropped time es zero p = all_after time es p
  gap_dropped time [] (suc i) p = tt
  gap_dropped time (e ∷ es) (suc i) p = gap_dropped time es i (tail_gap time e es i p)

  pub gap_before : (time : ℤ) (es : List (ℤ × V)) (i : ℕ) → IsGapFor time es i → IsCountBefore time es i
  gap_before time es i p = (p.in_range, gap_taken time es i p, all_so (λ e. IsLtBy int_cmp time e.0) (λ e. IsLeBy int_cmp time e.0) (λ e h. less_le time e.0 h) (drop i es) (gap_dropped time es i p))

  pub gap_up_to : (time : ℤ) (es : List (ℤ × V)) (i : ℕ) → IsGapFor time es i → IsCountUpTo time es i
  gap_up_to time es i p = (p.in_range, all_so (λ e. IsLtBy int_cmp e.0 time) (λ e. IsLeBy int_cmp e.0 time) (λ e h. less_le e.0 time h) (take i es) (gap_taken time es i p), gap_dropped time es i p)

  at_taken : (time : ℤ) (es : List (ℤ × V)) (i : ℕ) → IsStrictlySortedBy int_cmp (keys_of es) → IsAt time es i → AllBefore time (take i es)
  unfolding IsStrictlySortedBy
  at_taken time es zero s p = tt
  at_taken time [] (suc i) s p = tt
  at_taken time (e ∷ es) (suc i) s p = (greater_flips time e.0 (head_before time e es i s p), at_taken time es i s.1 (tail_at time e es i p))

  at_dropped : (time : ℤ) (es : List (ℤ × V)) (i : ℕ) → IsStrictlySortedBy int_cmp (keys_of es) → IsAt time es i → AllFrom time (drop i es)
  unfolding IsStrictlySortedBy
  at_dropped time [] zero s p = tt
  at_dropped time (e ∷ es) zero s p =
      let same : e.0 ≡ time = p.has_time e in (
        subst (λ (t : ℤ). IsLeBy int_cmp time t) (sym same) (le_self time),
        all_so (λ f. IsLtBy int_cmp e.0 f.0) (λ f. IsLeBy int_cmp time f.0) (λ f h. less_le time f.0 (subst (λ (t : ℤ). IsLtBy int_cmp t f.0) same h)) es (after_from_keys e.0 es s.0),
      )
  at_dropped time [] (suc i) s p = tt
  at_dropped time (e ∷ es) (suc i) s p = at_dropped time es i s.1 (tail_at time e es i p)

  past_taken : (time : ℤ) (es : List (ℤ × V)) (i : ℕ) → IsStrictlySortedBy int_cmp (keys_of es) → IsAt time es i → AllByRecursion (λ e. IsLeBy int_cmp e.0 time) (take (suc i) es)
  unfolding IsStrictlySortedBy
  past_taken time [] i s p = tt
  past_taken time (e ∷ es) zero s p = (subst (λ (t : ℤ). IsLeBy int_cmp t time) (sym (p.has_time e)) (le_self time), tt)
  past_taken time (e ∷ es) (suc i) s p = (less_le e.0 time (greater_flips time e.0 (head_before time e es i s p)), past_taken time es i s.1 (tail_at time e es i p))

  past_dropped : (time : ℤ) (es : List (ℤ × V)) (i : ℕ) → IsStrictlySortedBy int_cmp (keys_of es) → IsAt time es i → AllByRecursion (λ e. IsLtBy int_cmp time e.0) (drop (suc i) es)
  unfolding IsStrictlySortedBy
  past_dropped time [] i s p = tt
  past_dropped time (e ∷ es) zero s p = all_so (λ f. IsLtBy int_cmp e.0 f.0) (λ f. IsLtBy int_cmp time f.0) (λ f h. subst (λ (t : ℤ). IsLtBy int_cmp t f.0) (p.has_time e) h) es (after_from_keys e.0 es s.0)
  past_dropped time (e ∷ es) (suc i) s p = past_dropped time es i s.1 (tail_at time e es i p)

  pub at_before : (time : ℤ) (es : List (ℤ × V)) (i : ℕ) → IsStrictlySortedBy int_cmp (keys_of es) → IsAt time es i → IsCountBefore time es i
  at_before time es i s p = (let h = p.in_range in omega (arith, h), at_taken time es i s p, at_dropped time es i s p)

  pub at_up_to : (time : ℤ) (es : List (ℤ × V)) (i n : ℕ) → IsStrictlySortedBy int_cmp (keys_of es) → IsAt time es i → n ≡ suc i → IsCountUpTo time es n
  at_up_to time es i n s p is = subst (IsCountUpTo time es) (sym is) (let h = p.in_range in omega (arith, h), past_taken time es i s p, past_dropped time es i s p)

  -- ---- of a bound

  pub start_included : (time : ℤ) (es : List (ℤ × V)) (n : ℕ) → IsCountBefore time es n → IsStartIn (Included time) es n
  start_included time es n h = (
    h.0,
    all_so (λ e. IsLtBy int_cmp e.0 time) (λ e. is_from_start int_cmp (Included time) e.0 ≡ false) (λ e k. not_from_at time e.0 k) (take n es) h.1,
    all_so (λ e. IsLeBy int_cmp time e.0) (λ e. is_from_start int_cmp (Included time) e.0 ≡ true) (λ e k. from_at time e.0 k) (drop n es) h.2,
  )

  pub start_excluded : (time : ℤ) (es : List (ℤ × V)) (n : ℕ) → IsCountUpTo time es n → IsStartIn (Excluded time) es n
  start_excluded time es n h = (
    h.0,
    all_so (λ e. IsLeBy int_cmp e.0 time) (λ e. is_from_start int_cmp (Excluded time) e.0 ≡ false) (λ e k. not_from_past time e.0 k) (take n es) h.1,
    all_so (λ e. IsLtBy int_cmp time e.0) (λ e. is_from_start int_cmp (Excluded time) e.0 ≡ true) (λ e k. from_past time e.0 k) (drop n es) h.2,
  )

  all_from : (es : List (ℤ × V)) → AllByRecursion (λ e. is_from_start int_cmp Unbounded e.0 ≡ true) es
  all_from [] = tt
  all_from (e ∷ es) = (refl, all_from es)

  pub start_unbounded : (es : List (ℤ × V)) → IsStartIn Unbounded es 0
  start_unbounded es = (omega arith, tt, all_from es)

  pub end_included : (time : ℤ) (es : List (ℤ × V)) (n : ℕ) → IsCountUpTo time es n → IsEndIn (Included time) es n
  end_included time es n h = (
    h.0,
    all_so (λ e. IsLeBy int_cmp e.0 time) (λ e. is_past_end int_cmp (Included time) e.0 ≡ false) (λ e k. not_past_at time e.0 k) (take n es) h.1,
    all_so (λ e. IsLtBy int_cmp time e.0) (λ e. is_past_end int_cmp (Included time) e.0 ≡ true) (λ e k. past_at time e.0 k) (drop n es) h.2,
  )

  pub end_excluded : (time : ℤ) (es : List (ℤ × V)) (n : ℕ) → IsCountBefore time es n → IsEndIn (Excluded time) es n
  end_excluded time es n h = (
    h.0,
    all_so (λ e. IsLtBy int_cmp e.0 time) (λ e. is_past_end int_cmp (Excluded time) e.0 ≡ false) (λ e k. not_past_before time e.0 k) (take n es) h.1,
    all_so (λ e. IsLeBy int_cmp time e.0) (λ e. is_past_end int_cmp (Excluded time) e.0 ≡ true) (λ e k. past_before time e.0 k) (drop n es) h.2,
  )

  none_past : (es : List (ℤ × V)) → AllByRecursion (λ e. is_past_end int_cmp Unbounded e.0 ≡ false) (take (length es) es)
  none_past [] = tt
  none_past (e ∷ es) = (refl, none_past es)

  none_over : (es : List (ℤ × V)) → AllByRecursion (λ e. is_past_end int_cmp Unbounded e.0 ≡ true) (drop (length es) es)
  none_over [] = tt
  none_over (e ∷ es) = none_over es

  pub end_unbounded : (es : List (ℤ × V)) (n : ℕ) → n ≡ length es → IsEndIn Unbounded es n
  end_unbounded es n is = subst (IsEndIn Unbounded es) (sym is) (omega arith, none_past es, none_over es)

  -- ---- between two bounds

  pub cut : (low high : Bound ℤ) (es : List (ℤ × V)) (i j : ℕ) →
      AllByRecursion (λ e. is_from_start int_cmp low e.0 ≡ false) (take i es) → AllByRecursion (λ e. is_from_start int_cmp low e.0 ≡ true) (drop i es) →
      AllByRecursion (λ e. is_past_end int_cmp high e.0 ≡ false) (take j es) → AllByRecursion (λ e. is_past_end int_cmp high e.0 ≡ true) (drop j es) →
      drop i (take j es) ≡ entries_between int_cmp low high es
  cut low high [] zero zero p q r s = refl
  cut low high [] zero (suc j) p q r s = refl
  cut low high [] (suc i) zero p q r s = refl
  cut low high [] (suc i) (suc j) p q r s = refl
  cut low high (e ∷ es) (suc i) zero p q r s = rw p.0 (sym (drop-nil i) ∙ cut low high es i zero p.1 q r s.1)
  cut low high (e ∷ es) (suc i) (suc j) p q r s = rw p.0 (cut low high es i j p.1 q r.1 s)
  cut low high (e ∷ es) zero zero p q r s = rw (q.0, s.0) (cut low high es zero zero p q.1 r s.1)
  cut low high (e ∷ es) zero (suc j) p q r s = rw (q.0, r.0) (ap (λ (l : List (ℤ × V)). e ∷ l) (cut low high es zero j p q.1 r.1 s))

  -- in two parts
  pub cut_apart : (es fs : List (ℤ × V)) (i j k m : ℕ) → k ≡ i - length es → m ≡ j - length es → drop i (take j es) ++ drop k (take m fs) ≡ drop i (take j (es ++ fs))
  cut_apart [] fs i zero k m p q =
      let none : m ≡ zero = omega (arith, q) in
      rw (none, drop-nil i, drop-nil k) refl
  cut_apart [] fs i (suc j) k m p q =
      let from : k ≡ i = omega (arith, p) in
      let to : m ≡ suc j = omega (arith, q) in
      rw (from, to, drop-nil i) refl
  cut_apart (e ∷ es) fs i zero k m p q =
      let none : m ≡ zero = omega (arith, q) in
      rw (none, drop-nil i, drop-nil k) refl
  cut_apart (e ∷ es) fs zero (suc j) k m p q = ap (λ (l : List (ℤ × V)). e ∷ l) (cut_apart es fs zero j k m (omega (arith, p)) (omega (arith, q)))
  cut_apart (e ∷ es) fs (suc i) (suc j) k m p q = cut_apart es fs i j k m (omega (arith, p)) (omega (arith, q))
