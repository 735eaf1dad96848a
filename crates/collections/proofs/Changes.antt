-- What the changes of segments make of them.
use Rattle.std.proofs.Common.{◌≡◌, ℤ, List, ◌∷◌, ◌++◌, Option, Some, Result, Ok, Err, IfOk, OnOk, OnErr, sym, ap, subst, ◌∙◌}
use Rattle.std.specs.BTreeMap.{insert_entry, is_at}
use Rattle.std.specs.List.Sorted.{IsStrictlySortedBy}
use Rattle.std.specs.Map.{keys_of, lookup, set_value}
use Rattle.std.specs.Ordering.{int_cmp}
use Rattle.std.specs.declared.collections.VecDeque.{VecDeque}
use Rattle.collections.proofs.Segmented.{sorted_left, sorted_right, joined-append, segment_found, segment_set, entry_found, entry_put, laid_put, laid_kept, joined_kept, roomy}
use Rattle.collections.specs.Laid.{joined, IsLaid}
use Rattle.collections.specs.Places.{BelongsTo, HasRoom}

module _ {V Z : Type 0} where
  -- one of them is in order where all are
  pub segment_sorted : (before : List (ℤ × VecDeque (ℤ × V) Z)) (start : ℤ) (q : VecDeque (ℤ × V) Z) (after : List (ℤ × VecDeque (ℤ × V) Z)) →
      IsStrictlySortedBy int_cmp (keys_of (joined (before ++ (start, q) ∷ after))) → IsStrictlySortedBy int_cmp (keys_of q.items)
  segment_sorted before start q after s =
      sorted_left q.items (joined after) (sorted_right (joined before) (q.items ++ joined after) (subst (λ (l : List (ℤ × V)). IsStrictlySortedBy int_cmp (keys_of l)) (joined-append before ((start, q) ∷ after)) s))

  some_same : (x y : VecDeque (ℤ × V) Z) → Some x ≡ Some y → x ≡ y
  some_same x y e = cc

  -- a segment that a time belongs to
  module _ (time : ℤ) (ss : List (ℤ × VecDeque (ℤ × V) Z)) (start : ℤ) (b : BelongsTo time ss start) (ordered : IsStrictlySortedBy int_cmp (keys_of ss)) (laid : IsLaid ss) where
    pub laid_there : IsLaid (b.before ++ (start, b.segment) ∷ b.after)
    laid_there = subst IsLaid b.is laid

    pub ordered_there : IsStrictlySortedBy int_cmp (keys_of (b.before ++ (start, b.segment) ∷ b.after))
    ordered_there = subst (λ (l : List (ℤ × VecDeque (ℤ × V) Z)). IsStrictlySortedBy int_cmp (keys_of l)) b.is ordered

    -- it is found
    pub found : lookup (is_at (int_cmp start)) ss ≡ Some b.segment
    found = ap (lookup (is_at (int_cmp start))) b.is ∙ segment_found b.before start b.segment b.after laid_there ordered_there

    pub found_sorted : (q : VecDeque (ℤ × V) Z) → IsStrictlySortedBy int_cmp (keys_of (joined ss)) → Some q ≡ lookup (is_at (int_cmp start)) ss → IsStrictlySortedBy int_cmp (keys_of q.items)
    found_sorted q s is =
        subst (λ (p : VecDeque (ℤ × V) Z). IsStrictlySortedBy int_cmp (keys_of p.items)) (sym (some_same q b.segment (is ∙ found)))
        (segment_sorted b.before start b.segment b.after (subst (λ (l : List (ℤ × VecDeque (ℤ × V) Z)). IsStrictlySortedBy int_cmp (keys_of (joined l))) b.is s))

    -- an entry of that time is in it
    pub looked_up : (q : VecDeque (ℤ × V) Z) → Some q ≡ lookup (is_at (int_cmp start)) ss → lookup (is_at (int_cmp time)) (joined ss) ≡ lookup (is_at (int_cmp time)) q.items
    looked_up q is =
        ap (λ (l : List (ℤ × VecDeque (ℤ × V) Z)). lookup (is_at (int_cmp time)) (joined l)) b.is
        ∙ entry_found b.before start b.segment b.after laid_there ordered_there time b.from b.past
        ∙ ap (λ (x : VecDeque (ℤ × V) Z). lookup (is_at (int_cmp time)) x.items) (sym (some_same q b.segment (is ∙ found)))

    -- it takes an entry
    pub put_into : {E : Type 0} (value : V) (q p : VecDeque (ℤ × V) Z) (rs : List (ℤ × VecDeque (ℤ × V) Z)) (r : Result (Option V) E) → IsStrictlySortedBy int_cmp (keys_of (joined ss)) → HasRoom time start ss →
        Some q ≡ lookup (is_at (int_cmp start)) ss → rs ≡ set_value (is_at (int_cmp start)) ss p →
        IfOk r (λ old. old ≡ lookup (is_at (int_cmp time)) q.items) → OnOk r (p.items ≡ insert_entry int_cmp q.items time value) → OnErr r (p.items ≡ q.items) →
        record {
          old : IfOk r (λ old. old ≡ lookup (is_at (int_cmp time)) (joined ss));
          ok : OnOk r (joined rs ≡ insert_entry int_cmp (joined ss) time value);
          err : OnErr r (joined rs ≡ joined ss);
          laid : IsLaid rs;
        }
    put_into value q p rs r s room is set was ok err =
        let same = some_same q b.segment (is ∙ found) in
        let here : rs ≡ b.before ++ (start, p) ∷ b.after = set ∙ ap (λ (l : List (ℤ × VecDeque (ℤ × V) Z)). set_value (is_at (int_cmp start)) l p) b.is ∙ segment_set b.before start b.segment b.after laid_there ordered_there p in
        let back : joined (b.before ++ (start, b.segment) ∷ b.after) ≡ joined ss = ap joined (sym b.is) in
        by same here back r was ok err
      where
        by : {E : Type 0} → q ≡ b.segment → rs ≡ b.before ++ (start, p) ∷ b.after → joined (b.before ++ (start, b.segment) ∷ b.after) ≡ joined ss → (r : Result (Option V) E) →
            IfOk r (λ old. old ≡ lookup (is_at (int_cmp time)) q.items) → OnOk r (p.items ≡ insert_entry int_cmp q.items time value) → OnErr r (p.items ≡ q.items) →
            record {
              old : IfOk r (λ old. old ≡ lookup (is_at (int_cmp time)) (joined ss));
              ok : OnOk r (joined rs ≡ insert_entry int_cmp (joined ss) time value);
              err : OnErr r (joined rs ≡ joined ss);
              laid : IsLaid rs;
            }
        by same here back (Ok old) was ok err =
            let items : p.items ≡ insert_entry int_cmp b.segment.items time value = ok ∙ ap (λ (x : VecDeque (ℤ × V) Z). insert_entry int_cmp x.items time value) same in
            let in_order = segment_sorted b.before start b.segment b.after (subst (λ (l : List (ℤ × V)). IsStrictlySortedBy int_cmp (keys_of l)) (sym back) s) in
            let few = roomy b.before start b.segment b.after laid_there ordered_there time b.from b.past value in_order (subst (HasRoom time start) b.is room) in
            record {
              old = was ∙ ap (λ (x : VecDeque (ℤ × V) Z). lookup (is_at (int_cmp time)) x.items) same ∙ sym (entry_found b.before start b.segment b.after laid_there ordered_there time b.from b.past) ∙ ap (lookup (is_at (int_cmp time))) back;
              ok = ap joined here ∙ entry_put b.before start b.segment b.after laid_there ordered_there time b.from b.past value p items ∙ ap (λ (l : List (ℤ × V)). insert_entry int_cmp l time value) back;
              err = tt;
              laid = subst IsLaid (sym here) (laid_put b.before start b.segment b.after laid_there ordered_there time b.from b.past value p items few);
            }
        by same here back (Err e) was ok err =
            let items : p.items ≡ b.segment.items = err ∙ ap (λ (x : VecDeque (ℤ × V) Z). x.items) same in
            record {
              old = tt;
              ok = tt;
              err = ap joined here ∙ joined_kept b.before start b.segment b.after laid_there ordered_there time b.from b.past p items ∙ back;
              laid = subst IsLaid (sym here) (laid_kept b.before start b.segment b.after laid_there ordered_there time b.from b.past p items);
            }
