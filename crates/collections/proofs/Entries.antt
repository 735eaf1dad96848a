-- Entries by rising time: where one stands, and what an insertion does.
use Rattle.std.proofs.Common.{◌≡◌, ◌<◌, ◌≤◌, ℕ, zero, suc, ℤ, List, [], ◌∷◌, length, get_or, set, Some, None, IsSome, Result, Ok, Err, MatchResult, refl, sym, ap, subst, arith}
use Rattle.std.specs.BTreeMap.{insert_entry, is_at}
use Rattle.std.specs.BTreeMap.Range.{IsLtBy}
use Rattle.std.specs.List.{AllByRecursion, insert}
use Rattle.std.specs.List.Sorted.{IsStrictlySortedBy, IsSearchInRange, IsBinarySearchResult, IsNonDecreasingBy}
use Rattle.std.specs.Map.{keys_of, lookup}
use Rattle.std.specs.Ordering.{int_cmp, ordering_index}
use Rattle.std.specs.declared.cmp.Ordering.TheVariants.{Less, Greater}
use Rattle.collections.proofs.Times.{same_equal, equal_same, less_flips, greater_flips}
use Rattle.collections.specs.Places.{IsAt, IsGapFor}

-- comparisons with a time rise as the times do, as a binary search asks
rank_rises : (a b time : ℤ) → IsLtBy int_cmp a b → ordering_index (int_cmp a time) ≤ ordering_index (int_cmp b time)
rank_rises a b time h = grind (arith, h)

module _ {V : Type 0} where
  -- the entries after the first lie after it
  later : (time : ℤ) (es : List (ℤ × V)) (i : ℕ) (d : ℤ × V) → AllByRecursion (λ t. IsLtBy int_cmp time t) (keys_of es) → i < length es → IsLtBy int_cmp time (get_or es i d).0
  later time [] i d h few = absurd (omega (arith, few))
  later time (e ∷ es) zero d h few = h.0
  later time (e ∷ es) (suc i) d h few = later time es i d h.1 (omega (arith, few))

  pub tail_at : (time : ℤ) (e : ℤ × V) (es : List (ℤ × V)) (i : ℕ) → IsAt time (e ∷ es) (suc i) → IsAt time es i
  tail_at time e es i p = record { in_range = let h = p.in_range in omega (arith, h); has_time = λ d. p.has_time d }

  pub tail_gap : (time : ℤ) (e : ℤ × V) (es : List (ℤ × V)) (i : ℕ) → IsGapFor time (e ∷ es) (suc i) → IsGapFor time es i
  tail_gap time e es i p = record {
    in_range = let h = p.in_range in omega (arith, h);
    before = λ k d low high. p.before (suc k) d (omega arith) (omega (arith, high));
    after = λ k d low high. p.after (suc k) d (omega (arith, low)) (omega (arith, high));
  }

  pub head_before : (time : ℤ) (e : ℤ × V) (es : List (ℤ × V)) (i : ℕ) → IsStrictlySortedBy int_cmp (keys_of (e ∷ es)) → IsAt time (e ∷ es) (suc i) → int_cmp time e.0 ≡ Greater
  unfolding IsStrictlySortedBy
  head_before time e es i s p =
      let few : i < length es = let h = p.in_range in omega (arith, h) in
      less_flips e.0 time (subst (λ (t : ℤ). IsLtBy int_cmp e.0 t) (p.has_time e) (later e.0 es i e s.0 few))

  pub found_at : (time : ℤ) (es : List (ℤ × V)) (i : ℕ) (d : ℤ × V) → IsStrictlySortedBy int_cmp (keys_of es) → IsAt time es i → lookup (is_at (int_cmp time)) es ≡ Some (get_or es i d).1
  unfolding IsStrictlySortedBy
  found_at time [] i d s p = absurd (let h = p.in_range in omega (arith, h))
  found_at time (e ∷ es) zero d s p = rw (same_equal time e.0 (sym (p.has_time e))) refl
  found_at time (e ∷ es) (suc i) d s p = rw (head_before time e es i s p) (found_at time es i d s.1 (tail_at time e es i p))

  pub has_entry : (time : ℤ) (es : List (ℤ × V)) (i : ℕ) → IsStrictlySortedBy int_cmp (keys_of es) → IsAt time es i → IsSome (lookup (is_at (int_cmp time)) es)
  has_entry time [] i s p = absurd (let h = p.in_range in omega (arith, h))
  has_entry time (e ∷ es) i s p = rw (found_at time (e ∷ es) i e s p) refl

  pub set_at : (time : ℤ) (value : V) (es : List (ℤ × V)) (i : ℕ) (d : ℤ × V) → IsStrictlySortedBy int_cmp (keys_of es) → IsAt time es i → set es i ((get_or es i d).0, value) ≡ insert_entry int_cmp es time value
  unfolding IsStrictlySortedBy
  set_at time value [] i d s p = absurd (let h = p.in_range in omega (arith, h))
  set_at time value (e ∷ es) zero d s p = rw (same_equal time e.0 (sym (p.has_time e))) refl
  set_at time value (e ∷ es) (suc i) d s p = rw (head_before time e es i s p) (ap (λ (l : List (ℤ × V)). e ∷ l) (set_at time value es i d s.1 (tail_at time e es i p)))

  first_greater : (time : ℤ) (e : ℤ × V) (es : List (ℤ × V)) (i : ℕ) → IsGapFor time (e ∷ es) (suc i) → int_cmp time e.0 ≡ Greater
  first_greater time e es i p = less_flips e.0 time (p.before zero e (omega arith) (omega arith))

  pub absent_at : (time : ℤ) (es : List (ℤ × V)) (i : ℕ) → IsGapFor time es i → lookup (is_at (int_cmp time)) es ≡ None
  absent_at time [] i p = refl
  absent_at time (e ∷ es) zero p =
      let first : int_cmp time e.0 ≡ Less = p.after zero e (omega arith) (omega arith) in
      rw first (absent_at time es zero (record { in_range = omega arith; before = λ k d low high. absurd (omega (arith, high)); after = λ k d low high. p.after (suc k) d (omega arith) (omega (arith, high)) }))
  absent_at time (e ∷ es) (suc i) p = rw (first_greater time e es i p) (absent_at time es i (tail_gap time e es i p))

  pub inserted_at : (time : ℤ) (value : V) (es : List (ℤ × V)) (i : ℕ) → IsGapFor time es i → insert es i (time, value) ≡ insert_entry int_cmp es time value
  inserted_at time value [] zero p = refl
  inserted_at time value [] (suc i) p = absurd (let h = p.in_range in omega (arith, h))
  inserted_at time value (e ∷ es) zero p =
      let first : int_cmp time e.0 ≡ Less = p.after zero e (omega arith) (omega arith) in rw first refl
  inserted_at time value (e ∷ es) (suc i) p = rw (first_greater time e es i p) (ap (λ (l : List (ℤ × V)). e ∷ l) (inserted_at time value es i (tail_gap time e es i p)))

  ranks_rise : (time : ℤ) (es : List (ℤ × V)) → IsStrictlySortedBy int_cmp (keys_of es) → IsNonDecreasingBy (λ e. ordering_index (int_cmp e.0 time)) es
  unfolding IsStrictlySortedBy
  ranks_rise time [] s i j d le few = absurd (omega (arith, few))
  ranks_rise time (e ∷ es) s zero zero d le few = omega arith
  ranks_rise time (e ∷ es) s zero (suc j) d le few = rank_rises e.0 (get_or es j d).0 time (later e.0 es j d s.0 (omega (arith, few)))
  ranks_rise time (e ∷ es) s (suc i) zero d le few = absurd (omega (arith, le))
  ranks_rise time (e ∷ es) s (suc i) (suc j) d le few = ranks_rise time es s.1 i j d (omega (arith, le)) (omega (arith, few))

  pub searched : (time : ℤ) (es : List (ℤ × V)) → IsStrictlySortedBy int_cmp (keys_of es) → (r : Result ℕ ℕ) → IsSearchInRange r (length es) → IsBinarySearchResult (λ e. int_cmp e.0 time) es r → MatchResult r (IsAt time es) (IsGapFor time es)
  searched time es s (Ok i) range is = record { in_range = range; has_time = λ d. equal_same (get_or es i d).0 time (is d) }
  searched time es s (Err i) range is = let parts = is (ranks_rise time es s) in record { in_range = range; before = parts.0; after = λ k d low high. greater_flips (get_or es k d).0 time (parts.1 k d low high) }
