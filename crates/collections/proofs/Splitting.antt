-- A full segment that is split in two.
use Rattle.std.proofs.Common.{◌≡◌, ◌≤◌, ◌<◌, ℤ, int_lt, Bool, true, false, cond, List, [], ◌∷◌, ◌++◌, length, get_or, take, drop, Option, Some, None, IsSome, IfSome, IsSomeAnd, ◌⊎◌, inl, refl, sym, ap, subst, ◌∙◌, arith, append_assoc, length-append}
use Rattle.std.proofs.lemmas.List.{take-append-drop}
use Rattle.std.specs.BTreeMap.{insert_entry, is_at}
use Rattle.std.specs.BTreeMap.Range.{IsLeBy, IsLtBy}
use Rattle.std.specs.List.{AllByRecursion}
use Rattle.std.specs.List.Sorted.{IsStrictlySortedBy}
use Rattle.std.specs.Map.{keys_of, lookup, set_value}
use Rattle.std.specs.Ordering.{int_cmp}
use Rattle.std.specs.declared.collections.VecDeque.{VecDeque}
use Rattle.collections.proofs.Changes.{found, segment_sorted, laid_there, ordered_there}
use Rattle.collections.proofs.Lists.{all_left, all_right, all_so}
use Rattle.collections.proofs.Segmented.{lookup_past, set_past, sorted_before, sorted_after, joined-append, insert_past, insert_first, own, replaced, segment_set, laid_kept, joined_kept}
use Rattle.collections.proofs.Times.{le_self, same_equal, less_le, le_lt, lt_lt}
use Rattle.collections.specs.Laid.{AllFrom, AllBefore, joined, IsSegment, IsLaid}
use Rattle.collections.specs.Places.{BelongsTo, HasRoom, IsFull}

earlier_half : (a b : ℤ) → int_lt a b ≡ true → IsLtBy int_cmp a b
earlier_half a b h = grind (arith, h)

later_half : (a b : ℤ) → int_lt a b ≡ false → IsLeBy int_cmp b a
later_half a b h = grind (arith, h)

module _ {V : Type 0} where
  pub first_and_rest : (es : List (ℤ × V)) (d : ℤ × V) → 0 < length es → es ≡ get_or es 0 d ∷ drop 1 es
  first_and_rest [] d some = absurd (omega (arith, some))
  first_and_rest (e ∷ es) d some = refl

  -- at least the start, which the first of some times is
  start_before : (start time : ℤ) (es : List (ℤ × V)) → 0 < length es → AllFrom start es → AllBefore time es → IsLtBy int_cmp start time
  start_before start time [] some f b = absurd (omega (arith, some))
  start_before start time (e ∷ es) some f b = le_lt start e.0 time f.0 b.0

module _ {V Z : Type 0} where
  module _ (time : ℤ) (ss : List (ℤ × VecDeque (ℤ × V) Z)) (start : ℤ) (b : BelongsTo time ss start) (ordered : IsStrictlySortedBy int_cmp (keys_of ss)) (laid : IsLaid ss) where
    here : IsLaid (b.before ++ (start, b.segment) ∷ b.after)
    here = laid_there time ss start b ordered laid

    in_order : IsStrictlySortedBy int_cmp (keys_of (b.before ++ (start, b.segment) ∷ b.after))
    in_order = ordered_there time ss start b ordered laid

    full : (q : VecDeque (ℤ × V) Z) → Some q ≡ lookup (is_at (int_cmp start)) ss → q ≡ b.segment
    full q is = let e : Some q ≡ Some b.segment = is ∙ found time ss start b ordered laid in cc

    pub how_full : IsFull start ss → (q : VecDeque (ℤ × V) Z) → Some q ≡ lookup (is_at (int_cmp start)) ss → length q.items ≡ 64
    how_full f q is =
        let most = (own b.before start b.segment b.after here in_order).0.1 in
        let least : 64 ≤ length q.items = subst (λ (o : Option (VecDeque (ℤ × V) Z)). IsSomeAnd o (λ p. 64 ≤ length p.items)) (sym is) f in
        let same : length q.items ≡ length b.segment.items = ap (λ (x : VecDeque (ℤ × V) Z). length x.items) (full q is) in
        omega (arith, most, least, same)

    -- a segment in its place that has the same entries
    pub set_same : (q p : VecDeque (ℤ × V) Z) → Some q ≡ lookup (is_at (int_cmp start)) ss → p.items ≡ q.items → record { same : joined (set_value (is_at (int_cmp start)) ss p) ≡ joined ss; laid : IsLaid (set_value (is_at (int_cmp start)) ss p) }
    set_same q p is items =
        let there : set_value (is_at (int_cmp start)) ss p ≡ b.before ++ (start, p) ∷ b.after =
        ap (λ (l : List (ℤ × VecDeque (ℤ × V) Z)). set_value (is_at (int_cmp start)) l p) b.is ∙ segment_set b.before start b.segment b.after here in_order p in
        let kept : p.items ≡ b.segment.items = items ∙ ap (λ (x : VecDeque (ℤ × V) Z). x.items) (full q is) in
        record {
          same = ap joined there ∙ joined_kept b.before start b.segment b.after here in_order time b.from b.past p kept ∙ ap joined (sym b.is);
          laid = subst IsLaid (sym there) (laid_kept b.before start b.segment b.after here in_order time b.from b.past p kept);
        }

    -- what was taken out goes back
    pub set_twice : (p r : VecDeque (ℤ × V) Z) → set_value (is_at (int_cmp start)) (set_value (is_at (int_cmp start)) ss p) r ≡ set_value (is_at (int_cmp start)) ss r
    set_twice p r =
        let at : (x : VecDeque (ℤ × V) Z) → set_value (is_at (int_cmp start)) ss x ≡ b.before ++ (start, x) ∷ b.after =
        λ x. ap (λ (l : List (ℤ × VecDeque (ℤ × V) Z)). set_value (is_at (int_cmp start)) l x) b.is ∙ segment_set b.before start b.segment b.after here in_order x in
        ap (λ (l : List (ℤ × VecDeque (ℤ × V) Z)). set_value (is_at (int_cmp start)) l r) (at p)
        ∙ set_past start p r b.before b.after (sorted_before b.before (start, b.segment) b.after in_order) ∙ sym (at r)

    pub found_set : (p : VecDeque (ℤ × V) Z) → lookup (is_at (int_cmp start)) (set_value (is_at (int_cmp start)) ss p) ≡ Some p
    found_set p =
        ap (λ (l : List (ℤ × VecDeque (ℤ × V) Z)). lookup (is_at (int_cmp start)) (set_value (is_at (int_cmp start)) l p)) b.is
        ∙ ap (lookup (is_at (int_cmp start))) (segment_set b.before start b.segment b.after here in_order p)
        ∙ lookup_past start b.before ((start, p) ∷ b.after) (sorted_before b.before (start, b.segment) b.after in_order) ∙ rw (same_equal start start refl) refl

    pub lowered_is : (lower s : VecDeque (ℤ × V) Z) (rs : List (ℤ × VecDeque (ℤ × V) Z)) → rs ≡ set_value (is_at (int_cmp start)) ss lower → Some s ≡ lookup (is_at (int_cmp start)) rs → s ≡ lower
    lowered_is lower s rs set got = let e : Some s ≡ Some lower = got ∙ ap (lookup (is_at (int_cmp start))) set ∙ found_set lower in cc

    pub put_back : (q lower upper s p : VecDeque (ℤ × V) Z) (rs ts : List (ℤ × VecDeque (ℤ × V) Z)) → Some q ≡ lookup (is_at (int_cmp start)) ss → rs ≡ set_value (is_at (int_cmp start)) ss lower →
        Some s ≡ lookup (is_at (int_cmp start)) rs → ts ≡ set_value (is_at (int_cmp start)) rs p → p.items ≡ s.items ++ upper.items → lower.items ≡ take 32 q.items → upper.items ≡ drop 32 q.items →
        record { same : joined ts ≡ joined ss; laid : IsLaid ts }
    put_back q lower upper s p rs ts is set got again all low up =
        let lowered = lowered_is lower s rs set got in
        let items : p.items ≡ q.items =
        all ∙ ap (λ (x : VecDeque (ℤ × V) Z). x.items ++ upper.items) lowered ∙ ap (λ (l : List (ℤ × V)). l ++ upper.items) low ∙ ap (λ (l : List (ℤ × V)). take 32 q.items ++ l) up ∙ take-append-drop 32 q.items in
        let at : ts ≡ set_value (is_at (int_cmp start)) ss p = again ∙ ap (λ (l : List (ℤ × VecDeque (ℤ × V) Z)). set_value (is_at (int_cmp start)) l p) set ∙ set_twice lower p in
        let kept = set_same q p is items in
        record { same = ap joined at ∙ kept.same; laid = subst IsLaid (sym at) kept.laid }

    pub never_gone : (lower : VecDeque (ℤ × V) Z) (rs : List (ℤ × VecDeque (ℤ × V) Z)) → rs ≡ set_value (is_at (int_cmp start)) ss lower → None ≡ lookup (is_at (int_cmp start)) rs → ⊥
    never_gone lower rs set none = let e : None ≡ Some lower = none ∙ ap (lookup (is_at (int_cmp start))) set ∙ found_set lower in cc

    -- its halves, under their first times
    module _ (q lower upper : VecDeque (ℤ × V) Z) (is : Some q ≡ lookup (is_at (int_cmp start)) ss) (size : length q.items ≡ 64) (xs ys : List (ℤ × V)) (e : ℤ × V) (few : length xs ≡ 32)
        (whole : q.items ≡ xs ++ e ∷ ys) (low : lower.items ≡ xs) (up : upper.items ≡ e ∷ ys) (sorted : IsStrictlySortedBy int_cmp (keys_of (joined ss))) where
      parts : b.segment.items ≡ xs ++ e ∷ ys
      parts = ap (λ (x : VecDeque (ℤ × V) Z). x.items) (sym (full q is)) ∙ whole

      own_order : IsStrictlySortedBy int_cmp (keys_of (xs ++ e ∷ ys))
      own_order =
          subst (λ (l : List (ℤ × V)). IsStrictlySortedBy int_cmp (keys_of l)) parts
          (segment_sorted b.before start b.segment b.after (subst (λ (l : List (ℤ × VecDeque (ℤ × V) Z)). IsStrictlySortedBy int_cmp (keys_of (joined l))) b.is sorted))

      from_start : AllFrom start (xs ++ e ∷ ys)
      from_start = subst (AllFrom start) parts (own b.before start b.segment b.after here in_order).0.2

      before_later : AllByRecursion (λ later. AllBefore later.0 (xs ++ e ∷ ys)) b.after
      before_later = subst (λ (l : List (ℤ × V)). AllByRecursion (λ later. AllBefore later.0 l) b.after) parts (own b.before start b.segment b.after here in_order).1

      start_first : IsLtBy int_cmp start e.0
      start_first = start_before start e.0 xs (omega (arith, few)) (all_left (λ f. IsLeBy int_cmp start f.0) xs (e ∷ ys) from_start) (sorted_before xs e ys own_order)

      upper_size : length (e ∷ ys) ≡ 32
      upper_size = let all = ap length whole in let sum = length-append xs (e ∷ ys) in omega (arith, all, sum, size, few)

      abbrev pub halves : List (ℤ × VecDeque (ℤ × V) Z)
      halves = (start, lower) ∷ (e.0, upper) ∷ b.after

      lower_segment : IsSegment (start, lower)
      lower_segment = subst (λ (l : List (ℤ × V)). (0 < length l) × (length l ≤ 64) × AllFrom start l) (sym low) (omega (arith, few), omega (arith, few), all_left (λ f. IsLeBy int_cmp start f.0) xs (e ∷ ys) from_start)

      upper_segment : IsSegment (e.0, upper)
      upper_segment =
          subst (λ (l : List (ℤ × V)). (0 < length l) × (length l ≤ 64) × AllFrom e.0 l) (sym up)
          (let n = upper_size in omega (arith, n), let n = upper_size in omega (arith, n), (le_self e.0, all_so (λ f. IsLtBy int_cmp e.0 f.0) (λ f. IsLeBy int_cmp e.0 f.0) (λ f h. less_le e.0 f.0 h) ys (sorted_after xs e ys own_order)))

      halves_laid : IsLaid halves
      halves_laid = (
        lower_segment,
        (
          subst (AllBefore e.0) (sym low) (sorted_before xs e ys own_order),
          subst (λ (l : List (ℤ × V)). AllByRecursion (λ later. AllBefore later.0 l) b.after) (sym low)
              (all_so (λ later. AllBefore later.0 (xs ++ e ∷ ys)) (λ later. AllBefore later.0 xs) (λ later h. all_left (λ f. IsLtBy int_cmp f.0 later.0) xs (e ∷ ys) h) b.after before_later),
        ),
        (
          upper_segment,
          subst (λ (l : List (ℤ × V)). AllByRecursion (λ later. AllBefore later.0 l) b.after) (sym up)
              (all_so (λ later. AllBefore later.0 (xs ++ e ∷ ys)) (λ later. AllBefore later.0 (e ∷ ys)) (λ later h. all_right (λ f. IsLtBy int_cmp f.0 later.0) xs (e ∷ ys) h) b.after before_later),
          (own b.before start b.segment b.after here in_order).2,
        ),
      )

      all_starts : AllByRecursion (λ s. IsLtBy int_cmp e.0 s.0) b.after
      all_starts = all_so (λ later. AllBefore later.0 (xs ++ e ∷ ys)) (λ later. IsLtBy int_cmp e.0 later.0) (λ later h. (all_right (λ f. IsLtBy int_cmp f.0 later.0) xs (e ∷ ys) h).0) b.after before_later

      -- the map of them
      pub split_is : insert_entry int_cmp (set_value (is_at (int_cmp start)) ss lower) e.0 upper ≡ b.before ++ halves
      split_is =
          ap (λ (l : List (ℤ × VecDeque (ℤ × V) Z)). insert_entry int_cmp (set_value (is_at (int_cmp start)) l lower) e.0 upper) b.is
          ∙ ap (λ (l : List (ℤ × VecDeque (ℤ × V) Z)). insert_entry int_cmp l e.0 upper) (segment_set b.before start b.segment b.after here in_order lower)
          ∙ insert_past e.0 upper b.before ((start, lower) ∷ b.after)
          (all_so (λ s. IsLtBy int_cmp s.0 start) (λ s. IsLtBy int_cmp s.0 e.0) (λ s h. lt_lt s.0 start e.0 h start_first) b.before (sorted_before b.before (start, b.segment) b.after in_order))
          ∙ ap (λ (l : List (ℤ × VecDeque (ℤ × V) Z)). b.before ++ l)
          (insert_past e.0 upper ((start, lower) ∷ []) b.after (start_first, tt) ∙ ap (λ (l : List (ℤ × VecDeque (ℤ × V) Z)). (start, lower) ∷ l) (insert_first e.0 upper b.after all_starts))

      pub split_laid : IsLaid (b.before ++ halves)
      split_laid = replaced b.before start b.segment b.after here in_order ((start, lower) ∷ (e.0, upper) ∷ []) halves_laid (le_self start, (less_le start e.0 start_first, tt))

      pub split_joined : joined (b.before ++ halves) ≡ joined ss
      split_joined =
          joined-append b.before halves
          ∙ ap (λ (l : List (ℤ × V)). joined b.before ++ (l ++ (upper.items ++ joined b.after))) low
          ∙ ap (λ (l : List (ℤ × V)). joined b.before ++ (xs ++ (l ++ joined b.after))) up
          ∙ ap (λ (l : List (ℤ × V)). joined b.before ++ l) (sym (append_assoc xs (e ∷ ys) (joined b.after)))
          ∙ ap (λ (l : List (ℤ × V)). joined b.before ++ (l ++ joined b.after)) (sym parts)
          ∙ sym (joined-append b.before ((start, b.segment) ∷ b.after))
          ∙ ap joined (sym b.is)

      half_in : (h : Bool) → int_lt time e.0 ≡ h → BelongsTo time (b.before ++ halves) (cond h start e.0)
      half_in true is_low = record { before = b.before; segment = lower; after = (e.0, upper) ∷ b.after; is = refl; from = b.from; past = (earlier_half time e.0 is_low, b.past) }
      half_in false is_up = record {
        before = b.before ++ (start, lower) ∷ [];
        segment = upper;
        after = b.after;
        is = sym (append_assoc b.before ((start, lower) ∷ []) ((e.0, upper) ∷ b.after));
        from = later_half time e.0 is_up;
        past = b.past;
      }

      pub split_belongs : BelongsTo time (b.before ++ halves) (cond (int_lt time e.0) start e.0)
      split_belongs = half_in (int_lt time e.0) refl

      half_roomy : (h : Bool) → (is_h : int_lt time e.0 ≡ h) → IsStrictlySortedBy int_cmp (keys_of (b.before ++ halves)) → HasRoom time (cond h start e.0) (b.before ++ halves)
      unfolding half_in
      half_roomy true is_low o =
          subst (λ (o : Option (VecDeque (ℤ × V) Z)). IfSome o (λ p. (length p.items < 64) ⊎ IsSome (lookup (is_at (int_cmp time)) p.items)))
          (sym (found time (b.before ++ halves) start (half_in true is_low) o split_laid)) (inl (subst (λ (l : List (ℤ × V)). length l < 64) (sym low) (omega (arith, few))))
      half_roomy false is_up o =
          subst (λ (o : Option (VecDeque (ℤ × V) Z)). IfSome o (λ p. (length p.items < 64) ⊎ IsSome (lookup (is_at (int_cmp time)) p.items)))
          (sym (found time (b.before ++ halves) e.0 (half_in false is_up) o split_laid)) (inl (subst (λ (l : List (ℤ × V)). length l < 64) (sym up) (let n = upper_size in omega (arith, n))))

      pub split_room : IsStrictlySortedBy int_cmp (keys_of (b.before ++ halves)) → HasRoom time (cond (int_lt time e.0) start e.0) (b.before ++ halves)
      split_room = half_roomy (int_lt time e.0) refl

      -- a map of them, in order
      pub split_done : (rs : List (ℤ × VecDeque (ℤ × V) Z)) → rs ≡ insert_entry int_cmp (set_value (is_at (int_cmp start)) ss lower) e.0 upper → IsStrictlySortedBy int_cmp (keys_of rs) →
          record {
            belongs : BelongsTo time rs (cond (int_lt time e.0) start e.0);
            room : HasRoom time (cond (int_lt time e.0) start e.0) rs;
            same : joined rs ≡ joined ss;
            laid : IsLaid rs;
          }
      split_done rs made o =
          let at : rs ≡ b.before ++ halves = made ∙ split_is in
          let order = subst (λ (l : List (ℤ × VecDeque (ℤ × V) Z)). IsStrictlySortedBy int_cmp (keys_of l)) at o in
          record {
            belongs = subst (λ (l : List (ℤ × VecDeque (ℤ × V) Z)). BelongsTo time l (cond (int_lt time e.0) start e.0)) (sym at) split_belongs;
            room = subst (HasRoom time (cond (int_lt time e.0) start e.0)) (sym at) (split_room order);
            same = ap joined at ∙ split_joined;
            laid = subst IsLaid (sym at) split_laid;
          }
