-- The value that was queued last, and those that wait, as values come and go.
use Rattle.std.proofs.Common.{◌≡◌, ℕ, ◌-◌, ◌<◌, suc, zero, Bool, true, false, cond, List, [], ◌∷◌, ◌++◌, length, take, drop, Some, None, refl, ap, sym, ◌∙◌, arith, length-append, length-drop}
use Rattle.std.proofs.Math.Seq.{take-append_seam}
use Rattle.std.proofs.lemmas.List.{take-take, drop-take, length-take}
use Rattle.circular_buffer.proofs.Places.{slice_get-take, slice_get-some}
use native.Mathlib.Numerals.{unary_clauses}
use Rattle.std.specs.Prelude.{nat_lt, fold, slice_get, option_map}
use Rattle.ua_item_queue.specs.declared.entry.Entry.{Entry}
use Rattle.ua_item_queue.specs.ItemQueue.{entry, marked_front, newest, waiting_of, changed, queue_after}
use Rattle.ua_item_queue.specs.ItemQueue.QueueChange.{Queued, FrontDropped, NewestReplaced, OnlyReplaced}
use Rattle.ua_item_queue.specs.ItemQueue.QueueMove.{Sample}

module _ {V : Type 0} where
  pub newest_behind : (es : List (Entry V)) (e : Entry V) → newest (es ++ e ∷ []) ≡ Some e.value
  newest_behind [] e = refl
  newest_behind (d ∷ []) e = refl
  newest_behind (d ∷ f ∷ es) e = newest_behind (f ∷ es) e

  newest_marked : (es : List (Entry V)) → newest (marked_front es) ≡ newest es
  newest_marked [] = refl
  newest_marked (e ∷ []) = refl
  newest_marked (e ∷ f ∷ es) = refl

  at_back : (e : Entry V) (es : List (Entry V)) → option_map (λ f. f.value) (slice_get (e ∷ es) (length es)) ≡ newest (e ∷ es)
  at_back e [] = refl
  at_back e (f ∷ es) = at_back f es

  -- the newest value is the last of the list
  pub newest_is_last : (es : List (Entry V)) → option_map (λ e. e.value) (slice_get es (length es - 1)) ≡ newest es
  newest_is_last [] = refl
  newest_is_last (e ∷ es) = simp unary_clauses (at_back e es)

  -- a value that was queued is the newest one, whatever was lost for it
  pub newest_sampled : (q : List (Entry V)) (size : ℕ) (oldest : Bool) (v : V) → newest (queue_after q (Sample size oldest v)) ≡ Some v
  newest_sampled q size oldest v = by (nat_lt (length q) size) (nat_lt 1 size) oldest refl refl
    where
      front : (q : List (Entry V)) → nat_lt (length q) size ≡ false → nat_lt 1 size ≡ true → newest (marked_front (drop 1 (q ++ entry v false ∷ []))) ≡ Some v
      front [] full large = absurd (grind (arith, full, large))
      front (e ∷ es) full large = newest_marked (es ++ entry v false ∷ []) ∙ newest_behind es (entry v false)

      by : (a b c : Bool) → nat_lt (length q) size ≡ a → nat_lt 1 size ≡ b →
          newest (fold changed q (cond a (Queued v ∷ []) (cond b (cond c (Queued v ∷ FrontDropped ∷ []) (NewestReplaced v ∷ [])) (OnlyReplaced v ∷ [])))) ≡ Some v
      by true b c x y = newest_behind q (entry v false)
      by false true true x y = front q x y
      by false true false x y = newest_behind (take (length q - 1) q) (entry v true)
      by false false c x y = refl

  -- the newest one stays where a later one of them stays
  pub newest_after : (n : ℕ) (es : List (Entry V)) → n < length es → newest (drop n es) ≡ newest es
  newest_after zero es less = refl
  newest_after (suc n) [] less = absurd (grind (arith, less))
  newest_after (suc zero) (e ∷ []) less = absurd (grind (arith, less))
  newest_after (suc (suc n)) (e ∷ []) less = absurd (grind (arith, less))
  newest_after (suc n) (e ∷ f ∷ es) less = newest_after n (f ∷ es) (grind (arith, less))

  pub newest_kept : (es : List (Entry V)) → newest (drop (length es - 1) es) ≡ newest es
  newest_kept [] = refl
  newest_kept (e ∷ es) = newest_after (length (e ∷ es) - 1) (e ∷ es) (omega arith)

  -- where only the newest is left, and kept, none waits
  pub none_waits : (es : List (Entry V)) → waiting_of true (drop (length es - 1) es) ≡ []
  none_waits es =
      let none : length (drop (length es - 1) es) - 1 ≡ 0 = grind (arith, length-drop (length es - 1) es) in
      ap (λ n. take n (drop (length es - 1) es)) none

  -- who waits behind so many others stands there in the ring
  pub waits_at : (kept : Bool) (es : List (Entry V)) (i : ℕ) → i < length (waiting_of kept es) → slice_get (waiting_of kept es) i ≡ slice_get es i
  waits_at false es i less = refl
  waits_at true es i less = slice_get-take (length es - 1) es i (grind (arith, length-take (length es - 1) es, less))

  -- those at the front go from what waits as from the ring
  pub waiting_dropped : (kept : Bool) (n : ℕ) (es : List (Entry V)) → n < length (waiting_of kept es) → waiting_of kept (drop n es) ≡ drop n (waiting_of kept es)
  waiting_dropped false n es less = refl
  waiting_dropped true n es less =
      ap (λ k. take k (drop n es)) (grind (arith, length-drop n es))
      ∙ sym (drop-take n (length es - 1 - n) es)
      ∙ ap (λ k. drop n (take k es)) (grind (arith, length-take (length es - 1) es, less))

  -- the first of the ring without its newest are the first that wait
  pub first_waiting : (kept : Bool) (n : ℕ) (es : List (Entry V)) → n < length (waiting_of kept es) → take n (take (length es - 1) es) ≡ take n (waiting_of kept es)
  first_waiting true n es less = refl
  first_waiting false n es less = take-take n (length es - 1) es (grind (arith, less))

  -- one that is put behind others is the newest, and those are the others
  pub waiting_before : (es : List (Entry V)) (e : Entry V) → waiting_of true (es ++ e ∷ []) ≡ es
  waiting_before es e = ap (λ n. take n (es ++ e ∷ [])) (grind (arith, length-append es (e ∷ []))) ∙ take-append_seam es (e ∷ [])

  -- the newest, as it leaves the ring and comes back behind the others
  pub newest_again : (es fs : List (Entry V)) (e : Entry V) → Some e ≡ slice_get es (length es - 1) → newest (fs ++ e ∷ []) ≡ newest es
  newest_again es fs e is = newest_behind fs e ∙ ap (option_map (λ d. d.value)) is ∙ newest_is_last es

  none_is_no_some : (e : Entry V) → None ≡ Some e → ⊥
  none_is_no_some e h = absurd cc

  -- where some wait, the ring has a newest value
  pub has_newest : (kept : Bool) (n : ℕ) (es : List (Entry V)) → n < length (waiting_of kept es) → None ≡ slice_get es (length es - 1) → ⊥
  has_newest true n [] less none = grind (arith, less)
  has_newest false n [] less none = grind (arith, less)
  has_newest kept n (e ∷ es) less none =
      let there = slice_get-some (e ∷ es) (length (e ∷ es) - 1) (omega arith) in
      none_is_no_some there.0 (none ∙ there.1)
