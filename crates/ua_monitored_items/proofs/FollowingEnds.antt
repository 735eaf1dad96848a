-- The end of a subscription, as moves.
use Rattle.std.proofs.Common.{◌≡◌, ℕ, arith, Bool, true, false, cond, List, [], ◌∷◌, Some, None, refl, sym, ap, subst, ◌∙◌}
use Rattle.std.proofs.lemmas.Bool.{false≢true, eqb-true, eq-eqb}
use Rattle.std.proofs.lemmas.List.Concat.{flat_map-cons}
use Rattle.std.specs.Prelude.{◌==◌, fold, not, flat_map}
use Rattle.std.specs.BTreeMap.{is_at}
use Rattle.std.specs.Ordering.{nat_cmp}
use Rattle.collections.proofs.NumberMaps.{same_number}
use Rattle.ua_item_queue.specs.ItemQueue.{queue_after}
use Rattle.ua_item_queue.specs.ItemQueue.QueueMove.{Clear}
use Rattle.ua_monitored_items.specs.ItemTables.{NumberedItems, item_at, numbers_of, is_of, AreWithin, AreAbove, AreRising}
use Rattle.ua_monitored_items.specs.Items.{ItemQueueMove, queue_moves_on, without_all}
use Rattle.ua_monitored_items.specs.Moves.{queue_moves_of, queue_in, queue_at}
use Rattle.ua_monitored_items.proofs.Following.{Follows, above_none}
use Rattle.ua_monitored_items.proofs.Tables.{at_itself}

-- the moves of numbers that are all cleared, as a list of its own
abbrev clears : List ℕ → List ItemQueueMove
clears [] = []
clears (n ∷ ns) = record { number = n; queue_move = Clear } ∷ clears ns

clears_are : (ns : List ℕ) → flat_map (λ n. queue_moves_on n (Clear ∷ [])) ns ≡ clears ns
clears_are [] = refl
clears_are (n ∷ ns) = flat_map-cons (λ n. queue_moves_on n (Clear ∷ [])) n ns ∙ ap (λ (ds : List ItemQueueMove). record { number = n; queue_move = Clear } ∷ ds) (clears_are ns)

-- nothing is left to clear
stays_empty : (n : ℕ) (ns : List ℕ) → fold queue_after [] (queue_moves_of n (clears ns)) ≡ []
stays_empty n [] = refl
stays_empty n (k ∷ ks) = by (k == n) (stays_empty n ks)
  where
    by : (b : Bool) → fold queue_after [] (queue_moves_of n (clears ks)) ≡ [] → fold queue_after [] (cond b (Clear ∷ queue_moves_of n (clears ks)) (queue_moves_of n (clears ks))) ≡ []
    by true rest = rest
    by false rest = rest

module _ (subscription : ℕ) where
  pub within_filtered : (made : ℕ) (es : NumberedItems) → AreWithin made es → AreWithin made (without_all subscription es)
  within_filtered made [] within = tt
  within_filtered made (e ∷ es) within = by (is_of subscription e.1) (within_filtered made es within.1)
    where
      by : (b : Bool) → AreWithin made (without_all subscription es) → AreWithin made (cond (not b) (e ∷ without_all subscription es) (without_all subscription es))
      by true rest = rest
      by false rest = (within.0, rest)

  above_filtered : (k : ℕ) (es : NumberedItems) → AreAbove k es → AreAbove k (without_all subscription es)
  above_filtered k [] above = tt
  above_filtered k (e ∷ es) above = by (is_of subscription e.1) (above_filtered k es above.1)
    where
      by : (b : Bool) → AreAbove k (without_all subscription es) → AreAbove k (cond (not b) (e ∷ without_all subscription es) (without_all subscription es))
      by true rest = rest
      by false rest = (above.0, rest)

  pub rising_filtered : (es : NumberedItems) → AreRising es → AreRising (without_all subscription es)
  rising_filtered [] rising = tt
  rising_filtered (e ∷ es) rising = by (is_of subscription e.1) (rising_filtered es rising.1) (above_filtered e.0 es rising.0)
    where
      by : (b : Bool) → AreRising (without_all subscription es) → AreAbove e.0 (without_all subscription es) → AreRising (cond (not b) (e ∷ without_all subscription es) (without_all subscription es))
      by true rest above = rest
      by false rest above = (above, rest)

  -- a number below all is not among them
  not_among : (k : ℕ) (es : NumberedItems) → AreAbove k es → queue_moves_of k (clears (numbers_of subscription es)) ≡ []
  not_among k [] above = refl
  not_among k (e ∷ es) above = by (is_of subscription e.1) (not_among k es above.1) (e.0 == k) refl
    where
      by : (b : Bool) → queue_moves_of k (clears (numbers_of subscription es)) ≡ [] → (c : Bool) → (e.0 == k) ≡ c
          → queue_moves_of k (clears (cond b (e.0 ∷ numbers_of subscription es) (numbers_of subscription es))) ≡ []
      by true rest true is = absurd (omega (arith, above.0, eqb-true e.0 k is))
      by true rest false is = rw is rest
      by false rest c is = rest

  ended_at : (n : ℕ) (es : NumberedItems) → AreRising es → queue_at n (without_all subscription es) ≡ fold queue_after (queue_at n es) (queue_moves_of n (clears (numbers_of subscription es)))
  ended_at n [] rising = refl
  ended_at n (e ∷ es) rising = by (is_at (nat_cmp n) e.0) refl (is_of subscription e.1) (ended_at n es rising.1)
    where
      other_key : is_at (nat_cmp n) e.0 ≡ false → (d : Bool) → (e.0 == n) ≡ d → (e.0 == n) ≡ false
      other_key is true h =
          let same : n ≡ e.0 = sym (eqb-true e.0 n h) in
          absurd (false≢true (sym is ∙ ap (is_at (nat_cmp n)) (sym same) ∙ at_itself n))
      other_key is false h = h

      by : (b : Bool) → is_at (nat_cmp n) e.0 ≡ b → (c : Bool) → queue_at n (without_all subscription es) ≡ fold queue_after (queue_at n es) (queue_moves_of n (clears (numbers_of subscription es)))
          → queue_in (item_at n (cond (not c) (e ∷ without_all subscription es) (without_all subscription es)))
          ≡ fold queue_after (queue_in (cond b (Some e.1) (item_at n es))) (queue_moves_of n (clears (cond c (e.0 ∷ numbers_of subscription es) (numbers_of subscription es))))
      by true is true rest =
          let key : n ≡ e.0 = same_number n e.0 is in
          let here : (e.0 == n) ≡ true = eq-eqb e.0 n (sym key) in
          let gone : item_at n (without_all subscription es) ≡ None = above_none n (without_all subscription es) (subst (λ (m : ℕ). AreAbove m (without_all subscription es)) (sym key) (above_filtered e.0 es rising.0)) in
          ap queue_in gone ∙ sym (rw here (stays_empty n (numbers_of subscription es)))
      by true is false rest =
          let key : n ≡ e.0 = same_number n e.0 is in
          let none : queue_moves_of n (clears (numbers_of subscription es)) ≡ [] = not_among n es (subst (λ (m : ℕ). AreAbove m es) (sym key) rising.0) in
          rw (is, none) refl
      by false is true rest = rw (other_key is (e.0 == n) refl) rest
      by false is false rest = rw is rest

pub follows_ended : (subscription : ℕ) (items : NumberedItems) → AreRising items → Follows items (without_all subscription items) (flat_map (λ number. queue_moves_on number (Clear ∷ [])) (numbers_of subscription items))
follows_ended subscription items rising n =
    ended_at subscription n items rising
    ∙ ap (λ (ds : List ItemQueueMove). fold queue_after (queue_at n items) (queue_moves_of n ds)) (sym (clears_are (numbers_of subscription items)))
