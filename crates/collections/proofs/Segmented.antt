-- Segments, the one to which a time belongs, and what they have together.
use Rattle.std.proofs.Common.{◌≡◌, ◌≤◌, ◌<◌, ◌+◌, ℕ, ℤ, true, false, cond, not, inl, inr, List, [], ◌∷◌, ◌++◌, length, Option, Some, None, is_some, IsSome, IfSome, ◌⊎◌, refl, sym, ap, subst, ◌∙◌, arith, append_assoc}
use Rattle.std.proofs.lemmas.Bool.{cases_Bool}
use Rattle.std.specs.BTreeMap.{insert_entry, is_at}
use Rattle.std.specs.BTreeMap.Range.{IsLeBy, IsLtBy, entries_between}
use Rattle.std.specs.List.{AllByRecursion}
use Rattle.std.specs.List.Sorted.{IsStrictlySortedBy}
use Rattle.std.specs.Map.{keys_of, lookup, set_value}
use Rattle.std.specs.Ordering.{int_cmp, is_eq, is_lt, match_ordering}
use Rattle.std.specs.declared.collections.VecDeque.{VecDeque}
use Rattle.std.specs.declared.cmp.Ordering.{Ordering}
use Rattle.std.specs.declared.cmp.Ordering.TheVariants.{Less, Equal, Greater}
use Rattle.std.specs.declared.ops.Bound.TheVariants.{Included, Unbounded}
use Rattle.collections.proofs.Lists.{all_joined, all_left, all_right, all_so}
use Rattle.collections.proofs.Times.{le_self, same_equal, less_flips, greater_flips, less_le, lt_le, le_lt, lt_lt}
use Rattle.collections.specs.Laid.{AllFrom, AllBefore, joined, IsSegment, IsLaid}
use Rattle.collections.specs.Places.{BelongsTo, BelongsToNone, HasRoom}

-- ---- any entries under times

module _ {X : Type 0} where
  abbrev AllUnderBefore : ℤ → List (ℤ × X) → Type 0
  AllUnderBefore time es = AllByRecursion (λ e. IsLtBy int_cmp e.0 time) es

  abbrev AllUnderAfter : ℤ → List (ℤ × X) → Type 0
  AllUnderAfter time es = AllByRecursion (λ e. IsLtBy int_cmp time e.0) es

  -- of entries in order, those before one lie before it, and those after it lie after it
  pub after_from_keys : (time : ℤ) (es : List (ℤ × X)) → AllByRecursion (λ t. IsLtBy int_cmp time t) (keys_of es) → AllUnderAfter time es
  after_from_keys time [] h = tt
  after_from_keys time (e ∷ es) h = (h.0, after_from_keys time es h.1)

  pub sorted_before : (es : List (ℤ × X)) (e : ℤ × X) (fs : List (ℤ × X)) → IsStrictlySortedBy int_cmp (keys_of (es ++ e ∷ fs)) → AllUnderBefore e.0 es
  unfolding IsStrictlySortedBy
  sorted_before [] e fs s = tt
  sorted_before (x ∷ es) e fs s = ((all_right (λ y. IsLtBy int_cmp x.0 y.0) es (e ∷ fs) (after_from_keys x.0 (es ++ e ∷ fs) s.0)).0, sorted_before es e fs s.1)

  pub sorted_after : (es : List (ℤ × X)) (e : ℤ × X) (fs : List (ℤ × X)) → IsStrictlySortedBy int_cmp (keys_of (es ++ e ∷ fs)) → AllUnderAfter e.0 fs
  unfolding IsStrictlySortedBy
  sorted_after [] e fs s = after_from_keys e.0 fs s.0
  sorted_after (x ∷ es) e fs s = sorted_after es e fs s.1

  -- what a look-up finds, and a change changes, between those before and those after
  pub lookup_past : (time : ℤ) (es fs : List (ℤ × X)) → AllUnderBefore time es → lookup (is_at (int_cmp time)) (es ++ fs) ≡ lookup (is_at (int_cmp time)) fs
  lookup_past time [] fs h = refl
  lookup_past time (e ∷ es) fs h = rw (less_flips e.0 time h.0) (lookup_past time es fs h.1)

  pub lookup_none : (time : ℤ) (es : List (ℤ × X)) → AllUnderAfter time es → lookup (is_at (int_cmp time)) es ≡ None
  lookup_none time [] h = refl
  lookup_none time (e ∷ es) h = rw h.0 (lookup_none time es h.1)

  pub lookup_within : (time : ℤ) (es fs : List (ℤ × X)) → AllUnderAfter time fs → lookup (is_at (int_cmp time)) (es ++ fs) ≡ lookup (is_at (int_cmp time)) es
  lookup_within time [] fs h = lookup_none time fs h
  lookup_within time (e ∷ es) fs h = ap (λ (o : Option X). cond (is_at (int_cmp time) e.0) (Some e.1) o) (lookup_within time es fs h)

  pub set_past : (time : ℤ) (x y : X) (es fs : List (ℤ × X)) → AllUnderBefore time es → set_value (is_at (int_cmp time)) (es ++ (time, x) ∷ fs) y ≡ es ++ (time, y) ∷ fs
  set_past time x y [] fs h = rw (same_equal time time refl) refl
  set_past time x y (e ∷ es) fs h = rw (less_flips e.0 time h.0) (ap (λ (l : List (ℤ × X)). e ∷ l) (set_past time x y es fs h.1))

  pub insert_past : (time : ℤ) (x : X) (es fs : List (ℤ × X)) → AllUnderBefore time es → insert_entry int_cmp (es ++ fs) time x ≡ es ++ insert_entry int_cmp fs time x
  insert_past time x [] fs h = refl
  insert_past time x (e ∷ es) fs h = rw (less_flips e.0 time h.0) (ap (λ (l : List (ℤ × X)). e ∷ l) (insert_past time x es fs h.1))

  pub insert_first : (time : ℤ) (x : X) (es : List (ℤ × X)) → AllUnderAfter time es → insert_entry int_cmp es time x ≡ (time, x) ∷ es
  insert_first time x [] h = refl
  insert_first time x (e ∷ es) h = rw h.0 refl

  pub insert_within : (time : ℤ) (x : X) (es fs : List (ℤ × X)) → AllUnderAfter time fs → insert_entry int_cmp (es ++ fs) time x ≡ insert_entry int_cmp es time x ++ fs
  insert_within time x [] fs h = insert_first time x fs h
  insert_within time x (e ∷ es) fs h = by (int_cmp time e.0) (insert_within time x es fs h)
    where
      by : (r : Ordering) → insert_entry int_cmp (es ++ fs) time x ≡ insert_entry int_cmp es time x ++ fs →
          match_ordering r ((time, x) ∷ e ∷ (es ++ fs)) ((e.0, x) ∷ (es ++ fs)) (e ∷ insert_entry int_cmp (es ++ fs) time x)
          ≡ match_ordering r ((time, x) ∷ e ∷ es) ((e.0, x) ∷ es) (e ∷ insert_entry int_cmp es time x) ++ fs
      by Less rest = refl
      by Equal rest = refl
      by Greater rest = ap (λ (l : List (ℤ × X)). e ∷ l) rest

  -- how many there are then
  pub one_more : (time : ℤ) (x : X) (es : List (ℤ × X)) → length (insert_entry int_cmp es time x) ≤ length es + 1
  one_more time x [] = omega arith
  one_more time x (e ∷ es) = by (int_cmp time e.0) (one_more time x es)
    where
      by : (r : Ordering) → length (insert_entry int_cmp es time x) ≤ length es + 1 → length (match_ordering r ((time, x) ∷ e ∷ es) ((e.0, x) ∷ es) (e ∷ insert_entry int_cmp es time x)) ≤ length (e ∷ es) + 1
      by Less rest = omega arith
      by Equal rest = omega arith
      by Greater rest = omega (arith, rest)

  pub not_fewer : (time : ℤ) (x : X) (es : List (ℤ × X)) → 0 < length es → 0 < length (insert_entry int_cmp es time x)
  not_fewer time x [] some = omega arith
  not_fewer time x (e ∷ es) some = by (int_cmp time e.0)
    where
      by : (r : Ordering) → 0 < length (match_ordering r ((time, x) ∷ e ∷ es) ((e.0, x) ∷ es) (e ∷ insert_entry int_cmp es time x))
      by Less = omega arith
      by Equal = omega arith
      by Greater = omega arith

  -- an entry that was there is replaced, and otherwise there is one more
  pub how_many : (time : ℤ) (x : X) (es : List (ℤ × X)) → IsStrictlySortedBy int_cmp (keys_of es) → length (insert_entry int_cmp es time x) ≡ length es + cond (is_some (lookup (is_at (int_cmp time)) es)) 0 1
  unfolding IsStrictlySortedBy
  how_many time x [] s = omega arith
  how_many time x (e ∷ es) s = by (int_cmp time e.0) refl (how_many time x es s.1)
    where
      none : int_cmp time e.0 ≡ Less → lookup (is_at (int_cmp time)) es ≡ None
      none less = lookup_none time es (all_so (λ f. IsLtBy int_cmp e.0 f.0) (λ f. IsLtBy int_cmp time f.0) (λ f h. lt_lt time e.0 f.0 less h) es (after_from_keys e.0 es s.0))

      by : (r : Ordering) → int_cmp time e.0 ≡ r → length (insert_entry int_cmp es time x) ≡ length es + cond (is_some (lookup (is_at (int_cmp time)) es)) 0 1 →
          length (match_ordering r ((time, x) ∷ e ∷ es) ((e.0, x) ∷ es) (e ∷ insert_entry int_cmp es time x))
          ≡ length (e ∷ es) + cond (is_some (cond (is_eq r) (Some e.1) (lookup (is_at (int_cmp time)) es))) 0 1
      by Less is rest = rw (none is) (omega arith)
      by Equal is rest = omega arith
      by Greater is rest = omega (arith, rest)

  -- what holds of each time, and of a new one, holds of each after it comes in
  pub all_inserted : (P : ℤ → Type 0) (time : ℤ) (x : X) (es : List (ℤ × X)) → P time → AllByRecursion (λ e. P e.0) es → AllByRecursion (λ e. P e.0) (insert_entry int_cmp es time x)
  all_inserted P time x [] p h = (p, tt)
  all_inserted P time x (e ∷ es) p h = by (int_cmp time e.0) (all_inserted P time x es p h.1)
    where
      by : (r : Ordering) → AllByRecursion (λ f. P f.0) (insert_entry int_cmp es time x) →
          AllByRecursion (λ f. P f.0) (match_ordering r ((time, x) ∷ e ∷ es) ((e.0, x) ∷ es) (e ∷ insert_entry int_cmp es time x))
      by Less rest = (p, h)
      by Equal rest = h
      by Greater rest = (h.0, rest)

  pub keys_after : (time : ℤ) (es : List (ℤ × X)) → AllUnderAfter time es → AllByRecursion (λ t. IsLtBy int_cmp time t) (keys_of es)
  keys_after time [] h = tt
  keys_after time (e ∷ es) h = (h.0, keys_after time es h.1)

  pub sorted_put : (time : ℤ) (x : X) (es : List (ℤ × X)) → IsStrictlySortedBy int_cmp (keys_of es) → IsStrictlySortedBy int_cmp (keys_of (insert_entry int_cmp es time x))
  unfolding IsStrictlySortedBy
  sorted_put time x [] s = (tt, tt)
  sorted_put time x (e ∷ es) s = by (int_cmp time e.0) refl (sorted_put time x es s.1)
    where
      by : (r : Ordering) → int_cmp time e.0 ≡ r → IsStrictlySortedBy int_cmp (keys_of (insert_entry int_cmp es time x)) →
          IsStrictlySortedBy int_cmp (keys_of (match_ordering r ((time, x) ∷ e ∷ es) ((e.0, x) ∷ es) (e ∷ insert_entry int_cmp es time x)))
      by Less is rest =
          (keys_after time (e ∷ es) (is, all_so (λ f. IsLtBy int_cmp e.0 f.0) (λ f. IsLtBy int_cmp time f.0) (λ f h. lt_lt time e.0 f.0 is h) es (after_from_keys e.0 es s.0)), s)
      by Equal is rest = s
      by Greater is rest =
          (keys_after e.0 (insert_entry int_cmp es time x) (all_inserted (λ t. IsLtBy int_cmp e.0 t) time x es (greater_flips time e.0 is) (after_from_keys e.0 es s.0)), rest)

  pub sorted_left : (es fs : List (ℤ × X)) → IsStrictlySortedBy int_cmp (keys_of (es ++ fs)) → IsStrictlySortedBy int_cmp (keys_of es)
  unfolding IsStrictlySortedBy
  sorted_left [] fs s = tt
  sorted_left (e ∷ es) fs s = (keys_after e.0 es (all_left (λ y. IsLtBy int_cmp e.0 y.0) es fs (after_from_keys e.0 (es ++ fs) s.0)), sorted_left es fs s.1)

  pub sorted_right : (es fs : List (ℤ × X)) → IsStrictlySortedBy int_cmp (keys_of (es ++ fs)) → IsStrictlySortedBy int_cmp (keys_of fs)
  unfolding IsStrictlySortedBy
  sorted_right [] fs s = s
  sorted_right (e ∷ es) fs s = sorted_right es fs s.1

-- ---- segments

module _ {V Z : Type 0} where
  pub joined-append : (ss rs : List (ℤ × VecDeque (ℤ × V) Z)) → joined (ss ++ rs) ≡ joined ss ++ joined rs
  joined-append [] rs = refl
  joined-append (s ∷ ss) rs = ap (λ (l : List (ℤ × V)). s.1.items ++ l) (joined-append ss rs) ∙ sym (append_assoc s.1.items (joined ss) (joined rs))

  -- from a time on
  pub joined_from : (time : ℤ) (ss : List (ℤ × VecDeque (ℤ × V) Z)) → IsLaid ss → AllByRecursion (λ s. IsLtBy int_cmp time s.0) ss → AllByRecursion (λ e. IsLtBy int_cmp time e.0) (joined ss)
  joined_from time [] l h = tt
  joined_from time (s ∷ ss) l h =
      all_joined (λ e. IsLtBy int_cmp time e.0) s.1.items (joined ss) (all_so (λ e. IsLeBy int_cmp s.0 e.0) (λ e. IsLtBy int_cmp time e.0) (λ e k. lt_le time s.0 e.0 h.0 k) s.1.items l.0.2)
      (joined_from time ss l.2 h.1)

  -- before a time under which a later one stands
  pub joined_before : (ss : List (ℤ × VecDeque (ℤ × V) Z)) (s : ℤ × VecDeque (ℤ × V) Z) (rs : List (ℤ × VecDeque (ℤ × V) Z)) → IsLaid (ss ++ s ∷ rs) → AllByRecursion (λ e. IsLtBy int_cmp e.0 s.0) (joined ss)
  joined_before [] s rs l = tt
  joined_before (x ∷ ss) s rs l =
      all_joined (λ e. IsLtBy int_cmp e.0 s.0) x.1.items (joined ss) (all_right (λ later. AllBefore later.0 x.1.items) ss (s ∷ rs) l.1).0 (joined_before ss s rs l.2)

  pub laid_left : (ss rs : List (ℤ × VecDeque (ℤ × V) Z)) → IsLaid (ss ++ rs) → IsLaid ss
  laid_left [] rs l = tt
  laid_left (s ∷ ss) rs l = (l.0, all_left (λ later. AllBefore later.0 s.1.items) ss rs l.1, laid_left ss rs l.2)

  pub laid_right : (ss rs : List (ℤ × VecDeque (ℤ × V) Z)) → IsLaid (ss ++ rs) → IsLaid rs
  laid_right [] rs l = l
  laid_right (s ∷ ss) rs l = laid_right ss rs l.2

-- ---- the segment to which a time belongs

not_past_is_le : (time start : ℤ) → not (is_lt (int_cmp time start)) ≡ true → IsLeBy int_cmp start time
not_past_is_le time start h = grind (arith, h)

past_is_lt : (time start : ℤ) → not (is_lt (int_cmp time start)) ≡ false → IsLtBy int_cmp time start
past_is_lt time start h = grind (arith, h)

module _ {V Z : Type 0} (time : ℤ) where
  pub none_up_to : (ss : List (ℤ × VecDeque (ℤ × V) Z)) → entries_between int_cmp Unbounded (Included time) ss ≡ [] → BelongsToNone time ss
  none_up_to [] e = tt
  none_up_to (s ∷ ss) e = elim (cases_Bool (not (is_lt (int_cmp time s.0)))) [
    | inl here ↦ absurd (cc (rw here at e))
    | inr past ↦ (past_is_lt time s.0 past, none_up_to ss (rw past at e))
  ]

  all_later : (ss : List (ℤ × VecDeque (ℤ × V) Z)) → AllByRecursion (λ s. IsLtBy int_cmp time s.0) ss → entries_between int_cmp Unbounded (Included time) ss ≡ []
  all_later [] h = refl
  all_later (s ∷ ss) h = rw h.0 (all_later ss h.1)

  pub last_up_to : (ss ts : List (ℤ × VecDeque (ℤ × V) Z)) (s : ℤ × VecDeque (ℤ × V) Z) → IsStrictlySortedBy int_cmp (keys_of ss) → entries_between int_cmp Unbounded (Included time) ss ≡ ts ++ s ∷ [] → BelongsTo time ss s.0
  unfolding IsStrictlySortedBy
  last_up_to [] [] s o e = absurd cc
  last_up_to [] (t ∷ ts) s o e = absurd cc
  last_up_to (x ∷ ss) ts s o e = elim (cases_Bool (not (is_lt (int_cmp time x.0)))) [
    | inl here ↦ by here (λ zs f. last_up_to ss zs s o.1 f) ts (rw here at e)
    | inr past ↦
        let later = all_so (λ y. IsLtBy int_cmp x.0 y.0) (λ y. IsLtBy int_cmp time y.0) (λ y k. lt_lt time x.0 y.0 (past_is_lt time x.0 past) k) ss (after_from_keys x.0 ss o.0) in
        absurd (never ts (sym (all_later ss later) ∙ rw past at e))
  ]
    where
      never : (ts : List (ℤ × VecDeque (ℤ × V) Z)) → [] ≡ ts ++ s ∷ [] → ⊥
      never [] f = cc
      never (t ∷ ts) f = cc

      by : not (is_lt (int_cmp time x.0)) ≡ true →
          ((zs : List (ℤ × VecDeque (ℤ × V) Z)) → entries_between int_cmp Unbounded (Included time) ss ≡ zs ++ s ∷ [] → BelongsTo time ss s.0) → (ts : List (ℤ × VecDeque (ℤ × V) Z)) → x ∷ entries_between int_cmp Unbounded (Included time) ss ≡ ts ++ s ∷ [] → BelongsTo time (x ∷ ss) s.0
      by here further [] f =
          let same : x ≡ s = cc in
          let none : entries_between int_cmp Unbounded (Included time) ss ≡ [] = cc in
          subst (λ (y : ℤ × VecDeque (ℤ × V) Z). BelongsTo time (x ∷ ss) y.0) same
          (record { before = []; segment = x.1; after = ss; is = refl; from = not_past_is_le time x.0 here; past = none_up_to ss none })
      by here further (t ∷ ts) f =
          let rest : entries_between int_cmp Unbounded (Included time) ss ≡ ts ++ s ∷ [] = cc in
          let r = further ts rest in
          record { before = x ∷ r.before; segment = r.segment; after = r.after; is = ap (λ (l : List (ℤ × VecDeque (ℤ × V) Z)). x ∷ l) r.is; from = r.from; past = r.past }

-- ---- segments of which one changes

module _ {V Z : Type 0} where
  -- what stands before a time stands before each later one too
  before_later : (bound : ℤ) (es : List (ℤ × V)) (ss : List (ℤ × VecDeque (ℤ × V) Z)) → AllBefore bound es → AllByRecursion (λ s. IsLeBy int_cmp bound s.0) ss → AllByRecursion (λ later. AllBefore later.0 es) ss
  before_later bound es [] h k = tt
  before_later bound es (s ∷ ss) h k = (all_so (λ e. IsLtBy int_cmp e.0 bound) (λ e. IsLtBy int_cmp e.0 s.0) (λ e f. lt_le e.0 bound s.0 f k.0) es h, before_later bound es ss h k.1)

  pub laid_joined : (bound : ℤ) (ss rs : List (ℤ × VecDeque (ℤ × V) Z)) → IsLaid ss → AllBefore bound (joined ss) → IsLaid rs → AllByRecursion (λ r. IsLeBy int_cmp bound r.0) rs → IsLaid (ss ++ rs)
  laid_joined bound [] rs l b m k = m
  laid_joined bound (s ∷ ss) rs l b m k = (
    l.0,
    all_joined (λ later. AllBefore later.0 s.1.items) ss rs l.1 (before_later bound s.1.items rs (all_left (λ e. IsLtBy int_cmp e.0 bound) s.1.items (joined ss) b) k),
    laid_joined bound ss rs l.2 (all_right (λ e. IsLtBy int_cmp e.0 bound) s.1.items (joined ss) b) m k,
  )

  laid_first : (s : ℤ × VecDeque (ℤ × V) Z) (ss : List (ℤ × VecDeque (ℤ × V) Z)) (es : List (ℤ × V)) → 0 < length es → AllFrom s.0 es → AllByRecursion (λ later. AllBefore later.0 es) ss → AllByRecursion (λ t. IsLtBy int_cmp s.0 t) (keys_of ss)
  laid_first s ss [] some f h = absurd (omega (arith, some))
  laid_first s [] (e ∷ es) some f h = tt
  laid_first s (r ∷ ss) (e ∷ es) some f h = (le_lt s.0 e.0 r.0 f.0 h.0.0, laid_first s ss (e ∷ es) some f h.1)

  -- they stand under rising times
  pub laid_ordered : (ss : List (ℤ × VecDeque (ℤ × V) Z)) → IsLaid ss → IsStrictlySortedBy int_cmp (keys_of ss)
  unfolding IsStrictlySortedBy
  laid_ordered [] l = tt
  laid_ordered (s ∷ ss) l = (laid_first s ss s.1.items l.0.0 l.0.2 l.1, laid_ordered ss l.2)

  -- one segment among others, which may change
  module _ (before : List (ℤ × VecDeque (ℤ × V) Z)) (start : ℤ) (q : VecDeque (ℤ × V) Z) (after : List (ℤ × VecDeque (ℤ × V) Z))
      (laid : IsLaid (before ++ (start, q) ∷ after)) (ordered : IsStrictlySortedBy int_cmp (keys_of (before ++ (start, q) ∷ after))) where
    -- its part
    pub own : IsLaid ((start, q) ∷ after)
    own = laid_right before ((start, q) ∷ after) laid

    pub lower : AllBefore start (joined before)
    lower = joined_before before (start, q) after laid

    pub later_starts : AllByRecursion (λ s. IsLtBy int_cmp start s.0) after
    later_starts = sorted_after before (start, q) after ordered

    -- other segments in its place
    pub replaced : (rs : List (ℤ × VecDeque (ℤ × V) Z)) → IsLaid (rs ++ after) → AllByRecursion (λ r. IsLeBy int_cmp start r.0) rs → IsLaid (before ++ (rs ++ after))
    replaced rs m k =
        laid_joined start before (rs ++ after) (laid_left before ((start, q) ∷ after) laid) lower m
        (all_joined (λ r. IsLeBy int_cmp start r.0) rs after k (all_so (λ s. IsLtBy int_cmp start s.0) (λ s. IsLeBy int_cmp start s.0) (λ s h. less_le start s.0 h) after later_starts))

    pub changed : (p : VecDeque (ℤ × V) Z) → IsSegment (start, p) → AllByRecursion (λ later. AllBefore later.0 p.items) after → IsLaid (before ++ (start, p) ∷ after)
    changed p h k = replaced ((start, p) ∷ []) (h, k, own.2) (le_self start, tt)

    pub segment_found : lookup (is_at (int_cmp start)) (before ++ (start, q) ∷ after) ≡ Some q
    segment_found = lookup_past start before ((start, q) ∷ after) (sorted_before before (start, q) after ordered) ∙ rw (same_equal start start refl) refl

    pub segment_set : (p : VecDeque (ℤ × V) Z) → set_value (is_at (int_cmp start)) (before ++ (start, q) ∷ after) p ≡ before ++ (start, p) ∷ after
    segment_set p = set_past start q p before after (sorted_before before (start, q) after ordered)

    -- of a time that belongs to it
    module _ (time : ℤ) (from : IsLeBy int_cmp start time) (past : AllByRecursion (λ s. IsLtBy int_cmp time s.0) after) where
      lower_still : AllBefore time (joined before)
      lower_still = all_so (λ e. IsLtBy int_cmp e.0 start) (λ e. IsLtBy int_cmp e.0 time) (λ e h. lt_le e.0 start time h from) (joined before) lower

      later_still : AllByRecursion (λ e. IsLtBy int_cmp time e.0) (joined after)
      later_still = joined_from time after own.2 past

      pub entry_found : lookup (is_at (int_cmp time)) (joined (before ++ (start, q) ∷ after)) ≡ lookup (is_at (int_cmp time)) q.items
      entry_found =
          ap (lookup (is_at (int_cmp time))) (joined-append before ((start, q) ∷ after))
          ∙ lookup_past time (joined before) (q.items ++ joined after) lower_still
          ∙ lookup_within time q.items (joined after) later_still

      pub entry_put : (value : V) (p : VecDeque (ℤ × V) Z) → p.items ≡ insert_entry int_cmp q.items time value → joined (before ++ (start, p) ∷ after) ≡ insert_entry int_cmp (joined (before ++ (start, q) ∷ after)) time value
      entry_put value p is =
          joined-append before ((start, p) ∷ after)
          ∙ ap (λ (l : List (ℤ × V)). joined before ++ (l ++ joined after)) is
          ∙ ap (λ (l : List (ℤ × V)). joined before ++ l) (sym (insert_within time value q.items (joined after) later_still))
          ∙ sym (insert_past time value (joined before) (q.items ++ joined after) lower_still)
          ∙ ap (λ (l : List (ℤ × V)). insert_entry int_cmp l time value) (sym (joined-append before ((start, q) ∷ after)))

      later_inserted : (value : V) (ss : List (ℤ × VecDeque (ℤ × V) Z)) → AllByRecursion (λ later. AllBefore later.0 q.items) ss → AllByRecursion (λ s. IsLtBy int_cmp time s.0) ss →
          AllByRecursion (λ later. AllBefore later.0 (insert_entry int_cmp q.items time value)) ss
      later_inserted value [] h k = tt
      later_inserted value (s ∷ ss) h k = (all_inserted (λ t. IsLtBy int_cmp t s.0) time value q.items k.0 h.0, later_inserted value ss h.1 k.1)

      pub laid_put : (value : V) (p : VecDeque (ℤ × V) Z) → p.items ≡ insert_entry int_cmp q.items time value → length (insert_entry int_cmp q.items time value) ≤ 64 → IsLaid (before ++ (start, p) ∷ after)
      laid_put value p is few =
          let segment = own.0 in
          changed p (
            subst (λ (l : List (ℤ × V)). 0 < length l) (sym is) (not_fewer time value q.items segment.0),
            subst (λ (l : List (ℤ × V)). length l ≤ 64) (sym is) few,
            subst (AllFrom start) (sym is) (all_inserted (λ t. IsLeBy int_cmp start t) time value q.items from segment.2),
          )
          (subst (λ (l : List (ℤ × V)). AllByRecursion (λ later. AllBefore later.0 l) after) (sym is) (later_inserted value after own.1 past))

      pub laid_kept : (p : VecDeque (ℤ × V) Z) → p.items ≡ q.items → IsLaid (before ++ (start, p) ∷ after)
      laid_kept p is =
          changed p
          (subst (λ (l : List (ℤ × V)). (0 < length l) × (length l ≤ 64) × AllFrom start l) (sym is) own.0)
          (subst (λ (l : List (ℤ × V)). AllByRecursion (λ later. AllBefore later.0 l) after) (sym is) own.1)

      pub joined_kept : (p : VecDeque (ℤ × V) Z) → p.items ≡ q.items → joined (before ++ (start, p) ∷ after) ≡ joined (before ++ (start, q) ∷ after)
      joined_kept p is =
          joined-append before ((start, p) ∷ after) ∙ ap (λ (l : List (ℤ × V)). joined before ++ (l ++ joined after)) is ∙ sym (joined-append before ((start, q) ∷ after))

      pub roomy : (value : V) → IsStrictlySortedBy int_cmp (keys_of q.items) → HasRoom time start (before ++ (start, q) ∷ after) → length (insert_entry int_cmp q.items time value) ≤ 64
      roomy value s h = by (subst (λ (o : Option (VecDeque (ℤ × V) Z)). IfSome o (λ p. (length p.items < 64) ⊎ IsSome (lookup (is_at (int_cmp time)) p.items))) segment_found h)
        where
          by : (length q.items < 64) ⊎ IsSome (lookup (is_at (int_cmp time)) q.items) → length (insert_entry int_cmp q.items time value) ≤ 64
          by (inl few) = let more = one_more time value q.items in omega (arith, few, more)
          by (inr there) = let most = own.0.1 in let more = how_many time value q.items s in subst (λ (n : ℕ). n ≤ 64) (sym (more ∙ rw there (omega arith))) most
