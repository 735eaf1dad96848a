-- The segments that have the entries between two bounds, and what is left of these as they are read.
use Rattle.std.proofs.Common.{◌≡◌, ℤ, Bool, true, false, not, ◌&&◌, List, [], ◌∷◌, ◌++◌, filter, refl, sym, ap, subst, ◌∙◌, inl, inr, arith, append_assoc, append-nil}
use Rattle.std.proofs.lemmas.Bool.{cases_Bool}
use Rattle.std.proofs.lemmas.List.Elements.{filter-append}
use Rattle.std.specs.BTreeMap.Range.{IsLeBy, IsLtBy, entries_between, range_contains, is_from_start, is_past_end}
use Rattle.std.specs.List.{AllByRecursion}
use Rattle.std.specs.List.Sorted.{IsStrictlySortedBy}
use Rattle.std.specs.Map.{keys_of}
use Rattle.std.specs.Ordering.{int_cmp}
use Rattle.std.specs.Range.Bound.{IsForward}
use Rattle.std.specs.declared.collections.VecDeque.{VecDeque}
use Rattle.std.specs.declared.ops.Bound.{Bound}
use Rattle.std.specs.declared.ops.Bound.TheVariants.{Included, Excluded, Unbounded}
use Rattle.collections.proofs.Lists.{all_joined, all_left, all_right, all_so}
use Rattle.collections.proofs.Segmented.{after_from_keys, keys_after, sorted_left, sorted_right, sorted_after, joined-append, laid_ordered}
use Rattle.collections.proofs.Times.{less_le, lt_le, le_le, le_lt}
use Rattle.collections.specs.Laid.{AllBefore, joined, IsLaid}
use Rattle.collections.specs.Parts.{IsFirstFor}
use Rattle.collections.specs.Places.{BelongsTo}

-- ---- the first segment

before_included : (time t : ℤ) → IsLtBy int_cmp t time → is_from_start int_cmp (Included time) t ≡ false
before_included time t h = grind (arith, h)

before_excluded : (time t : ℤ) → IsLtBy int_cmp t time → is_from_start int_cmp (Excluded time) t ≡ false
before_excluded time t h = grind (arith, h)

not_before : (start t : ℤ) → IsLeBy int_cmp start t → is_from_start int_cmp (Included start) t ≡ false → ⊥
not_before start t h e = grind (arith, h, e)

equal_le : (a : ℤ) → IsLeBy int_cmp a a
equal_le a = grind arith

module _ {V Z : Type 0} where
  before_start : (ss : List (ℤ × VecDeque (ℤ × V) Z)) (s : ℤ × VecDeque (ℤ × V) Z) (rs : List (ℤ × VecDeque (ℤ × V) Z)) → IsLaid (ss ++ s ∷ rs) → AllByRecursion (λ x. AllBefore s.0 x.1.items) ss
  before_start [] s rs l = tt
  before_start (x ∷ ss) s rs l = ((all_right (λ later. AllBefore later.0 x.1.items) ss (s ∷ rs) l.1).0, before_start ss s rs l.2)

  module _ (low : Bound ℤ) (time : ℤ) (before : (t : ℤ) → IsLtBy int_cmp t time → is_from_start int_cmp low t ≡ false) (ss : List (ℤ × VecDeque (ℤ × V) Z)) (start : ℤ) (b : BelongsTo time ss start) (laid : IsLaid ss) where
    pub skips : AllByRecursion (λ s. is_from_start int_cmp (Included start) s.0 ≡ false → AllByRecursion (λ e. is_from_start int_cmp low e.0 ≡ false) s.1.items) ss
    skips =
        let there : IsLaid (b.before ++ (start, b.segment) ∷ b.after) = subst IsLaid b.is laid in
        let later = sorted_after b.before (start, b.segment) b.after (laid_ordered (b.before ++ (start, b.segment) ∷ b.after) there) in
        let Skips : ℤ × VecDeque (ℤ × V) Z → Type 0 = λ s. is_from_start int_cmp (Included start) s.0 ≡ false → AllByRecursion (λ e. is_from_start int_cmp low e.0 ≡ false) s.1.items in
        subst (AllByRecursion Skips) (sym b.is)
        (all_joined Skips b.before ((start, b.segment) ∷ b.after)
        (all_so (λ x. AllBefore start x.1.items) Skips
        (λ x h e. all_so (λ f. IsLtBy int_cmp f.0 start) (λ f. is_from_start int_cmp low f.0 ≡ false) (λ f k. before f.0 (lt_le f.0 start time k b.from)) x.1.items h) b.before
        (before_start b.before (start, b.segment) b.after there))
        ((λ e. absurd (not_before start start (equal_le start) e)), all_so (λ s. IsLtBy int_cmp start s.0) Skips (λ s h e. absurd (not_before start s.0 (less_le start s.0 h) e)) b.after later))

  pub first_at : (time : ℤ) (ss : List (ℤ × VecDeque (ℤ × V) Z)) (start : ℤ) → BelongsTo time ss start → IsLaid ss → IsFirstFor (Included time) ss (Included start)
  first_at time ss start b laid = record { skips = skips (Included time) time (λ t h. before_included time t h) ss start b laid; forward = forward }
    where
      forward : (high : Bound ℤ) → IsForward (IsLeBy int_cmp) (IsLtBy int_cmp) (Included time) high → IsForward (IsLeBy int_cmp) (IsLtBy int_cmp) (Included start) high
      forward Unbounded h = tt
      forward (Included q) h = le_le start time q b.from h
      forward (Excluded q) h = le_le start time q b.from h

  pub first_past : (time : ℤ) (ss : List (ℤ × VecDeque (ℤ × V) Z)) (start : ℤ) → BelongsTo time ss start → IsLaid ss → IsFirstFor (Excluded time) ss (Included start)
  first_past time ss start b laid = record { skips = skips (Excluded time) time (λ t h. before_excluded time t h) ss start b laid; forward = forward }
    where
      forward : (high : Bound ℤ) → IsForward (IsLeBy int_cmp) (IsLtBy int_cmp) (Excluded time) high → IsForward (IsLeBy int_cmp) (IsLtBy int_cmp) (Included start) high
      forward Unbounded h = tt
      forward (Included q) h = le_le start time q b.from h
      forward (Excluded q) h = less_le start q (le_lt start time q b.from h)

-- ---- the segments between two bounds

still_past : (high : Bound ℤ) (a t : ℤ) → is_past_end int_cmp high a ≡ true → IsLeBy int_cmp a t → is_past_end int_cmp high t ≡ true
still_past Unbounded a t h k = absurd cc
still_past (Included b) a t h k = grind (arith, h, k)
still_past (Excluded b) a t h k = grind (arith, h, k)

outside : (first high : Bound ℤ) (a : ℤ) → range_contains int_cmp first high a ≡ false → is_from_start int_cmp first a ≡ true → is_past_end int_cmp high a ≡ true
outside first high a h k = by (is_from_start int_cmp first a) (is_past_end int_cmp high a) h k
  where
    by : (f p : Bool) → f && not p ≡ false → f ≡ true → p ≡ true
    by true true e k = refl
    by true false e k = absurd cc
    by false p e k = absurd cc

ends : (f p : Bool) → p ≡ true → f && not p ≡ false
ends true true e = refl
ends false true e = refl
ends f false e = absurd cc

module _ {V : Type 0} where
  none_between : (low high : Bound ℤ) (es : List (ℤ × V)) → AllByRecursion (λ e. is_from_start int_cmp low e.0 ≡ false) es → entries_between int_cmp low high es ≡ []
  none_between low high [] h = refl
  none_between low high (e ∷ es) h = rw h.0 (none_between low high es h.1)

  none_before_end : (low high : Bound ℤ) (es : List (ℤ × V)) → AllByRecursion (λ e. is_past_end int_cmp high e.0 ≡ true) es → entries_between int_cmp low high es ≡ []
  none_before_end low high [] h = refl
  none_before_end low high (e ∷ es) h = rw (ends (is_from_start int_cmp low e.0) (is_past_end int_cmp high e.0) h.0) (none_before_end low high es h.1)

  pub between-append : (low high : Bound ℤ) (es fs : List (ℤ × V)) → entries_between int_cmp low high (es ++ fs) ≡ entries_between int_cmp low high es ++ entries_between int_cmp low high fs
  between-append low high es fs = filter-append (λ e. range_contains int_cmp low high e.0) es fs

  -- an end that has some of the entries
  sorted_rest : (es fs gs : List (ℤ × V)) → IsStrictlySortedBy int_cmp (keys_of (es ++ fs)) → IsStrictlySortedBy int_cmp (keys_of gs) → ((P : ℤ × V → Type 0) → AllByRecursion P fs → AllByRecursion P gs) → IsStrictlySortedBy int_cmp (keys_of (es ++ gs))
  unfolding IsStrictlySortedBy
  sorted_rest [] fs gs s t f = t
  sorted_rest (e ∷ es) fs gs s t f =
      let after = after_from_keys e.0 (es ++ fs) s.0 in (
        keys_after e.0 (es ++ gs)
            (all_joined (λ x. IsLtBy int_cmp e.0 x.0) es gs (all_left (λ x. IsLtBy int_cmp e.0 x.0) es fs after) (f (λ x. IsLtBy int_cmp e.0 x.0) (all_right (λ x. IsLtBy int_cmp e.0 x.0) es fs after))),
        sorted_rest es fs gs s.1 t f,
      )

module _ {V Z : Type 0} where
  pub same_between : (low high first : Bound ℤ) (ss : List (ℤ × VecDeque (ℤ × V) Z)) → IsLaid ss →
      AllByRecursion (λ s. is_from_start int_cmp first s.0 ≡ false → AllByRecursion (λ e. is_from_start int_cmp low e.0 ≡ false) s.1.items) ss →
      entries_between int_cmp low high (joined (entries_between int_cmp first high ss)) ≡ entries_between int_cmp low high (joined ss)
  same_between low high first [] l h = refl
  same_between low high first (s ∷ ss) l h =
      let rest = same_between low high first ss l.2 h.1 in
      let parts = between-append low high s.1.items (joined ss) in
      elim (cases_Bool (range_contains int_cmp first high s.0)) [
        | inl inside ↦
            rw inside
            (between-append low high s.1.items (joined (entries_between int_cmp first high ss))
            ∙ ap (λ (l : List (ℤ × V)). entries_between int_cmp low high s.1.items ++ l) rest ∙ sym parts)
        | inr out ↦ rw out (rest ∙ sym (parts ∙ ap (λ (l : List (ℤ × V)). l ++ entries_between int_cmp low high (joined ss)) (none out)))
      ]
    where
      none : range_contains int_cmp first high s.0 ≡ false → entries_between int_cmp low high s.1.items ≡ []
      none out = elim (cases_Bool (is_from_start int_cmp first s.0)) [
        | inl from ↦
            none_before_end low high s.1.items
            (all_so (λ e. IsLeBy int_cmp s.0 e.0) (λ e. is_past_end int_cmp high e.0 ≡ true) (λ e k. still_past high s.0 e.0 (outside first high s.0 out from) k) s.1.items l.0.2)
        | inr before ↦ none_between low high s.1.items (h.0 before)
      ]

  all_of_some : (P : ℤ × V → Type 0) (p : ℤ → Bool) (ss : List (ℤ × VecDeque (ℤ × V) Z)) → AllByRecursion P (joined ss) → AllByRecursion P (joined (filter (λ s. p s.0) ss))
  all_of_some P p [] h = tt
  all_of_some P p (s ∷ ss) h = elim (cases_Bool (p s.0)) [
    | inl pass ↦ rw pass (all_joined P s.1.items (joined (filter (λ x. p x.0) ss)) (all_left P s.1.items (joined ss) h) (all_of_some P p ss (all_right P s.1.items (joined ss) h)))
    | inr fails ↦ rw fails (all_of_some P p ss (all_right P s.1.items (joined ss) h))
  ]

  pub sorted_of_some : (p : ℤ → Bool) (ss : List (ℤ × VecDeque (ℤ × V) Z)) → IsStrictlySortedBy int_cmp (keys_of (joined ss)) → IsStrictlySortedBy int_cmp (keys_of (joined (filter (λ s. p s.0) ss)))
  sorted_of_some p [] s = s
  sorted_of_some p (x ∷ ss) s =
      let rest = sorted_of_some p ss (sorted_right x.1.items (joined ss) s) in
      elim (cases_Bool (p x.0)) [
        | inl pass ↦ rw pass (sorted_rest x.1.items (joined ss) (joined (filter (λ y. p y.0) ss)) s rest (λ P h. all_of_some P p ss h))
        | inr fails ↦ rw fails rest
      ]

  -- ---- reading them

  module _ (low high : Bound ℤ) (self : List (ℤ × V)) (s : ℤ × VecDeque (ℤ × V) Z) (ss rs : List (ℤ × VecDeque (ℤ × V) Z)) where
    pub first_none : (back : List (ℤ × V)) → entries_between int_cmp low high (joined ss) ++ back ≡ self → ss ≡ s ∷ rs → entries_between int_cmp low high s.1.items ≡ [] →
        entries_between int_cmp low high (joined rs) ++ back ≡ self
    first_none back left is e =
        sym (ap (λ (l : List (ℤ × VecDeque (ℤ × V) Z)). entries_between int_cmp low high (joined l) ++ back) is
        ∙ ap (λ (l : List (ℤ × V)). l ++ back) (between-append low high s.1.items (joined rs))
        ∙ ap (λ (l : List (ℤ × V)). (l ++ entries_between int_cmp low high (joined rs)) ++ back) e) ∙ left

    last_joined : ss ≡ rs ++ s ∷ [] → joined ss ≡ joined rs ++ s.1.items
    last_joined is = ap joined is ∙ joined-append rs (s ∷ []) ∙ ap (λ (l : List (ℤ × V)). joined rs ++ l) (append-nil s.1.items)

    pub last_some : (front f run : List (ℤ × V)) → front ++ entries_between int_cmp low high (joined ss) ≡ self → ss ≡ rs ++ s ∷ [] → entries_between int_cmp low high s.1.items ≡ f ++ run →
        self ≡ ((front ++ entries_between int_cmp low high (joined rs)) ++ f) ++ run
    last_some front f run left is e =
        sym left ∙ ap (λ (l : List (ℤ × V)). front ++ entries_between int_cmp low high l) (last_joined is)
        ∙ ap (λ (l : List (ℤ × V)). front ++ l) (between-append low high (joined rs) s.1.items)
        ∙ ap (λ (l : List (ℤ × V)). front ++ (entries_between int_cmp low high (joined rs) ++ l)) e
        ∙ sym (append_assoc front (entries_between int_cmp low high (joined rs)) (f ++ run))
        ∙ sym (append_assoc (front ++ entries_between int_cmp low high (joined rs)) f run)

    pub last_none : (front : List (ℤ × V)) → front ++ entries_between int_cmp low high (joined ss) ≡ self → ss ≡ rs ++ s ∷ [] → entries_between int_cmp low high s.1.items ≡ [] →
        front ++ entries_between int_cmp low high (joined rs) ≡ self
    last_none front left is e =
        sym (ap (λ (l : List (ℤ × V)). front ++ entries_between int_cmp low high l) (last_joined is)
        ∙ ap (λ (l : List (ℤ × V)). front ++ l) (between-append low high (joined rs) s.1.items)
        ∙ ap (λ (l : List (ℤ × V)). front ++ (entries_between int_cmp low high (joined rs) ++ l)) e
        ∙ ap (λ (l : List (ℤ × V)). front ++ l) (append-nil (entries_between int_cmp low high (joined rs)))) ∙ left

    module _ (sorted : IsStrictlySortedBy int_cmp (keys_of (joined ss))) where
      pub first_sorted : ss ≡ s ∷ rs → IsStrictlySortedBy int_cmp (keys_of s.1.items)
      first_sorted is = sorted_left s.1.items (joined rs) (subst (λ (l : List (ℤ × VecDeque (ℤ × V) Z)). IsStrictlySortedBy int_cmp (keys_of (joined l))) is sorted)

      pub rest_sorted : ss ≡ s ∷ rs → IsStrictlySortedBy int_cmp (keys_of (joined rs))
      rest_sorted is = sorted_right s.1.items (joined rs) (subst (λ (l : List (ℤ × VecDeque (ℤ × V) Z)). IsStrictlySortedBy int_cmp (keys_of (joined l))) is sorted)

      pub last_sorted : ss ≡ rs ++ s ∷ [] → IsStrictlySortedBy int_cmp (keys_of s.1.items)
      last_sorted is = sorted_right (joined rs) s.1.items (subst (λ (l : List (ℤ × V)). IsStrictlySortedBy int_cmp (keys_of l)) (last_joined is) sorted)

      pub others_sorted : ss ≡ rs ++ s ∷ [] → IsStrictlySortedBy int_cmp (keys_of (joined rs))
      others_sorted is = sorted_left (joined rs) s.1.items (subst (λ (l : List (ℤ × V)). IsStrictlySortedBy int_cmp (keys_of l)) (last_joined is) sorted)
