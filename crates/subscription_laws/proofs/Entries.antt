-- Entries under numbers: what is found after a change, and that the numbers rise.
use Rattle.std.proofs.Common.{◌≡◌, ◌≢◌, ◌⊎◌, inl, inr, ℕ, ◌<◌, arith, Bool, true, false, cond, ◌||◌, List, [], ◌∷◌, Option, Some, None, refl, sym, ap, ◌∙◌, subst}
use Rattle.std.proofs.lemmas.Bool.{cases_eq, or_right, cond_both}
use Rattle.std.proofs.lemmas.Cmp.{ranked}
use Rattle.std.specs.BTreeMap.{insert_entry, is_at}
use Rattle.std.specs.BTreeSet.{insert_key}
use Rattle.std.specs.Cmp.{nat_cmp_is}
use Rattle.std.specs.List.{AllByRecursion}
use Rattle.std.specs.Map.{lookup, set_value, remove_entry}
use Rattle.std.specs.Ordering.{nat_cmp, match_ordering, is_eq}
use Rattle.std.specs.Set.{remove_key}
use Rattle.std.specs.declared.cmp.Ordering.{Ordering}
use Rattle.std.specs.declared.cmp.Ordering.TheVariants.{Less, Equal, Greater}
use Rattle.collections.proofs.NumberMaps.{same_number, numbers_same, told_apart, lookup_put}
use Rattle.ua_subscriptions.proofs.Choosing.{either}
use Rattle.ua_subscriptions.proofs.MapEntries.{set_elsewhere, removed_elsewhere, inserted_elsewhere, entries_removed, entries_inserted}
use Rattle.subscription_laws.specs.Calm.{AreAbove, AreRising, AreNumbersAbove, AreNumbersRising, is_listed}
use Rattle.subscription_laws.proofs.Folds.{all_so}

-- ---- numbers that are the same, and those that aren't

pub at_itself : (k : ℕ) → is_at (nat_cmp k) k ≡ true
at_itself k = numbers_same k k refl

pub apart : (q k : ℕ) → q ≢ k → is_at (nat_cmp q) k ≡ false
apart q k other = told_apart q k (nat_cmp q k) refl other

pub some_same : {X : Type 0} {a b : X} → Some a ≡ Some b → a ≡ b
some_same e = cc

pub same_or_not : (q k : ℕ) → (q ≡ k) ⊎ (q ≢ k)
same_or_not = cases_eq

pub behind_it : (m n : ℕ) (ns : List ℕ) → m ≢ n → is_listed m (n ∷ ns) ≡ true → is_listed m ns ≡ true
behind_it m n ns other listed = by (is_at (nat_cmp m) n) (apart m n other) listed
  where
    by : (b : Bool) → b ≡ false → (b || is_listed m ns) ≡ true → is_listed m ns ≡ true
    by true e l = absurd (cc)
    by false e l = l

pub among : (m n : ℕ) (ns : List ℕ) → is_listed m ns ≡ true → is_listed m (n ∷ ns) ≡ true
among m n ns listed = or_right (is_at (nat_cmp m) n) (is_listed m ns) listed

pub listed_first : (n : ℕ) (ns : List ℕ) → is_listed n (n ∷ ns) ≡ true
listed_first n ns = ap (λ (b : Bool). b || is_listed n ns) (at_itself n)

pub less : (k q : ℕ) → k < q → nat_cmp k q ≡ Less
less k q h = sym (nat_cmp_is k q Less h)

before : (k q : ℕ) → nat_cmp k q ≡ Less → k < q
before k q e = ranked k q Less (sym e)

pub behind : (k q : ℕ) → nat_cmp k q ≡ Greater → q < k
behind k q e = ranked k q Greater (sym e)

pub equal_is : (k q : ℕ) → nat_cmp k q ≡ Equal → k ≡ q
equal_is k q e = same_number k q (ap is_eq e)

pub above_differs : (a b : ℕ) → a < b → b ≢ a
above_differs a b h same = omega (arith, h, same)

-- ---- what is found

module _ {X : Type 0} where
  abbrev at : ℕ → List (ℕ × X) → Option X
  at k es = lookup (is_at (nat_cmp k)) es

  -- all these entries are found in others
  abbrev pub AreFound : List (ℕ × X) → List (ℕ × X) → Type 0
  AreFound all es = AllByRecursion (λ e. at e.0 all ≡ Some e.1) es

  found_behind : (e : ℕ × X) (all es : List (ℕ × X)) → AreAbove e.0 es → AreFound all es → AreFound (e ∷ all) es
  found_behind e all [] above found = tt
  found_behind e all (x ∷ es) above found = (rw (apart x.0 e.0 (above_differs e.0 x.0 above.0)) found.0, found_behind e all es above.1 found.1)

  pub all_found : (es : List (ℕ × X)) → AreRising es → AreFound es es
  all_found [] rising = tt
  all_found (e ∷ es) rising = (rw (at_itself e.0) refl, found_behind e es es rising.0 (all_found es rising.1))

  pub set_here : (k : ℕ) (v w : X) (es : List (ℕ × X)) → at k es ≡ Some v → at k (set_value (is_at (nat_cmp k)) es w) ≡ Some w
  set_here k v w [] found = absurd (cc)
  set_here k v w (e ∷ es) found = by (is_at (nat_cmp k) e.0) refl found (set_here k v w es)
    where
      by : (b : Bool) → is_at (nat_cmp k) e.0 ≡ b → cond b (Some e.1) (at k es) ≡ Some v → (at k es ≡ Some v → at k (set_value (is_at (nat_cmp k)) es w) ≡ Some w)
          → at k (cond b ((e.0, w) ∷ es) (e ∷ set_value (is_at (nat_cmp k)) es w)) ≡ Some w
      by true is here rest = rw is refl
      by false is here rest = rw is (rest here)

  pub set_other : (k n : ℕ) (w : X) → n ≢ k → (es : List (ℕ × X)) → at n (set_value (is_at (nat_cmp k)) es w) ≡ at n es
  set_other k n w other es = set_elsewhere k n other es w

  pub gone_other : (k n : ℕ) → n ≢ k → (es : List (ℕ × X)) → at n (remove_entry (is_at (nat_cmp k)) es) ≡ at n es
  gone_other k n other es = removed_elsewhere k n other es

  pub put_here : (k : ℕ) (v : X) (es : List (ℕ × X)) → at k (insert_entry nat_cmp es k v) ≡ Some v
  put_here k v es = lookup_put k k v es ∙ ap (λ (b : Bool). cond b (Some v) (at k es)) (at_itself k)

  pub put_other : (k n : ℕ) (v : X) → n ≢ k → (es : List (ℕ × X)) → at n (insert_entry nat_cmp es k v) ≡ at n es
  put_other k n v other es = inserted_elsewhere k n other es v

  -- what holds of the one that is set, and of all that were there, holds of each that is found then
  pub each_set : (k : ℕ) (v w : X) (es : List (ℕ × X)) → at k es ≡ Some v → (P : ℕ → X → Type 0) → P k w → ((n : ℕ) (x : X) → at n es ≡ Some x → P n x) → (n : ℕ) (x : X) → at n (set_value (is_at (nat_cmp k)) es w) ≡ Some x → P n x
  each_set k v w es found P here there n x at_n = by (same_or_not n k)
    where
      by : (n ≡ k) ⊎ (n ≢ k) → P n x
      by (inl same) =
          subst (λ (i : ℕ). P i x) (sym same) (subst (P k) (some_same (sym (set_here k v w es found) ∙ ap (λ (i : ℕ). at i (set_value (is_at (nat_cmp k)) es w)) (sym same) ∙ at_n)) here)
      by (inr other) = there n x (sym (set_other k n w other es) ∙ at_n)

  -- or of the one that is put there, and of the others
  pub each_put : (k : ℕ) (v : X) (es : List (ℕ × X)) (P : ℕ → X → Type 0) → P k v → ((n : ℕ) (x : X) → n ≢ k → at n es ≡ Some x → P n x) → (n : ℕ) (x : X) → at n (insert_entry nat_cmp es k v) ≡ Some x → P n x
  each_put k v es P here there n x at_n = by (same_or_not n k)
    where
      by : (n ≡ k) ⊎ (n ≢ k) → P n x
      by (inl same) = subst (λ (i : ℕ). P i x) (sym same) (subst (P k) (some_same (sym (put_here k v es) ∙ ap (λ (i : ℕ). at i (insert_entry nat_cmp es k v)) (sym same) ∙ at_n)) here)
      by (inr other) = there n x other (sym (put_other k n v other es) ∙ at_n)

  -- ---- numbers that rise

  above_none : (k : ℕ) (es : List (ℕ × X)) → AreAbove k es → at k es ≡ None
  above_none k [] above = refl
  above_none k (e ∷ es) above =
      let not_it : is_at (nat_cmp k) e.0 ≡ false = ap is_eq (less k e.0 above.0) in
      rw not_it (above_none k es above.1)

  pub gone_here : (k : ℕ) (es : List (ℕ × X)) → AreRising es → at k (remove_entry (is_at (nat_cmp k)) es) ≡ None
  gone_here k [] rising = refl
  gone_here k (e ∷ es) rising =
      cond_both (is_at (nat_cmp k) e.0) es (e ∷ remove_entry (is_at (nat_cmp k)) es) (λ (fs : List (ℕ × X)). at k fs ≡ None)
      (λ is. above_none k es (subst (λ (m : ℕ). AreAbove m es) (sym (same_number k e.0 is)) rising.0)) (λ is. rw is (gone_here k es rising.1))

  above_less : (j k : ℕ) (es : List (ℕ × X)) → j < k → AreAbove k es → AreAbove j es
  above_less j k es below = all_so (λ (e : ℕ × X). k < e.0) (λ (e : ℕ × X). j < e.0) (λ e above. omega (arith, below, above)) es

  above_set : (j k : ℕ) (w : X) (es : List (ℕ × X)) → AreAbove j es → AreAbove j (set_value (is_at (nat_cmp k)) es w)
  above_set j k w [] above = tt
  above_set j k w (e ∷ es) above = either (AreAbove j) (is_at (nat_cmp k) e.0) ((e.0, w) ∷ es) (e ∷ set_value (is_at (nat_cmp k)) es w) (above.0, above.1) (above.0, above_set j k w es above.1)

  pub rising_set : (k : ℕ) (w : X) (es : List (ℕ × X)) → AreRising es → AreRising (set_value (is_at (nat_cmp k)) es w)
  rising_set k w [] rising = tt
  rising_set k w (e ∷ es) rising =
      either AreRising (is_at (nat_cmp k) e.0) ((e.0, w) ∷ es) (e ∷ set_value (is_at (nat_cmp k)) es w) (rising.0, rising.1) (above_set e.0 k w es rising.0, rising_set k w es rising.1)

  pub rising_gone : (k : ℕ) (es : List (ℕ × X)) → AreRising es → AreRising (remove_entry (is_at (nat_cmp k)) es)
  rising_gone k [] rising = tt
  rising_gone k (e ∷ es) rising = either AreRising (is_at (nat_cmp k) e.0) es (e ∷ remove_entry (is_at (nat_cmp k)) es) rising.1 (entries_removed (λ (x : ℕ × X). e.0 < x.0) (is_at (nat_cmp k)) es rising.0, rising_gone k es rising.1)

  pub rising_put : (k : ℕ) (v : X) (es : List (ℕ × X)) → AreRising es → AreRising (insert_entry nat_cmp es k v)
  rising_put k v [] rising = (tt, tt)
  rising_put k v (e ∷ es) rising = by (nat_cmp k e.0) refl (rising_put k v es rising.1)
    where
      by : (o : Ordering) → nat_cmp k e.0 ≡ o → AreRising (insert_entry nat_cmp es k v) → AreRising (match_ordering o ((k, v) ∷ e ∷ es) ((e.0, v) ∷ es) (e ∷ insert_entry nat_cmp es k v))
      by Less is rest =
          let below : k < e.0 = before k e.0 is in
          ((below, above_less k e.0 es below rising.0), (rising.0, rising.1))
      by Equal is rest = (rising.0, rising.1)
      by Greater is rest = (entries_inserted (λ (x : ℕ × X). e.0 < x.0) k v es (behind k e.0 is) rising.0, rest)

-- ---- numbers that are listed

either_maps : (a b c : Bool) → (b ≡ true → c ≡ true) → (a || b) ≡ true → (a || c) ≡ true
either_maps true b c f h = refl
either_maps false b c f h = f h

pub listed_gone : (n k : ℕ) (ns : List ℕ) → is_listed n (remove_key (is_at (nat_cmp k)) ns) ≡ true → is_listed n ns ≡ true
listed_gone n k [] h = h
listed_gone n k (m ∷ ms) h = by (is_at (nat_cmp k) m) h (listed_gone n k ms)
  where
    by : (b : Bool) → is_listed n (cond b ms (m ∷ remove_key (is_at (nat_cmp k)) ms)) ≡ true → (is_listed n (remove_key (is_at (nat_cmp k)) ms) ≡ true → is_listed n ms ≡ true) → is_listed n (m ∷ ms) ≡ true
    by true e more = or_right (is_at (nat_cmp n) m) (is_listed n ms) e
    by false e more = either_maps (is_at (nat_cmp n) m) _ (is_listed n ms) more e

pub listed_stays : (n k : ℕ) (ns : List ℕ) → n ≢ k → is_listed n ns ≡ true → is_listed n (remove_key (is_at (nat_cmp k)) ns) ≡ true
listed_stays n k [] other h = h
listed_stays n k (m ∷ ms) other h = by (is_at (nat_cmp k) m) refl (listed_stays n k ms other)
  where
    here : is_at (nat_cmp n) m ≡ false → is_listed n ms ≡ true
    here e = rw e at h

    by : (b : Bool) → is_at (nat_cmp k) m ≡ b → (is_listed n ms ≡ true → is_listed n (remove_key (is_at (nat_cmp k)) ms) ≡ true) → is_listed n (cond b ms (m ∷ remove_key (is_at (nat_cmp k)) ms)) ≡ true
    by true is more = here (apart n m (λ same. other (same ∙ sym (same_number k m is))))
    by false is more = either_maps (is_at (nat_cmp n) m) (is_listed n ms) _ more h

pub listed_put : (k : ℕ) (ns : List ℕ) → is_listed k (insert_key nat_cmp ns k) ≡ true
listed_put k [] = rw (at_itself k) refl
listed_put k (m ∷ ms) = by (nat_cmp k m) refl (listed_put k ms)
  where
    by : (o : Ordering) → nat_cmp k m ≡ o → is_listed k (insert_key nat_cmp ms k) ≡ true → is_listed k (match_ordering o (k ∷ m ∷ ms) (m ∷ ms) (m ∷ insert_key nat_cmp ms k)) ≡ true
    by Less is rest = rw (at_itself k) refl
    by Equal is rest = rw is refl
    by Greater is rest = or_right (is_at (nat_cmp k) m) _ rest

pub listed_still : (n k : ℕ) (ns : List ℕ) → is_listed n ns ≡ true → is_listed n (insert_key nat_cmp ns k) ≡ true
listed_still n k [] h = absurd (cc)
listed_still n k (m ∷ ms) h = by (nat_cmp k m) (listed_still n k ms)
  where
    by : (o : Ordering) → (is_listed n ms ≡ true → is_listed n (insert_key nat_cmp ms k) ≡ true) → is_listed n (match_ordering o (k ∷ m ∷ ms) (m ∷ ms) (m ∷ insert_key nat_cmp ms k)) ≡ true
    by Less more = or_right (is_at (nat_cmp n) k) _ h
    by Equal more = h
    by Greater more = either_maps (is_at (nat_cmp n) m) (is_listed n ms) _ more h

pub listed_before : (n k : ℕ) (ns : List ℕ) → is_listed n (insert_key nat_cmp ns k) ≡ true → (n ≡ k) ⊎ (is_listed n ns ≡ true)
listed_before n k [] h = one (is_at (nat_cmp n) k) refl h
  where
    one : (b : Bool) → is_at (nat_cmp n) k ≡ b → (b || false) ≡ true → (n ≡ k) ⊎ (false ≡ true)
    one true is e = inl (same_number n k is)
    one false is e = inr e
listed_before n k (m ∷ ms) h = by (nat_cmp k m) h (listed_before n k ms)
  where
    one : (b c : Bool) → is_at (nat_cmp n) k ≡ b → (b || c) ≡ true → (n ≡ k) ⊎ (c ≡ true)
    one true c is e = inl (same_number n k is)
    one false c is e = inr e

    more : (b : Bool) → (n ≡ k) ⊎ (is_listed n ms ≡ true) → (n ≡ k) ⊎ ((b || is_listed n ms) ≡ true)
    more b (inl e) = inl e
    more b (inr e) = inr (or_right b (is_listed n ms) e)

    rest : (b : Bool) → (b || is_listed n (insert_key nat_cmp ms k)) ≡ true → (is_listed n (insert_key nat_cmp ms k) ≡ true → (n ≡ k) ⊎ (is_listed n ms ≡ true)) → (n ≡ k) ⊎ ((b || is_listed n ms) ≡ true)
    rest true e before = inr refl
    rest false e before = more false (before e)

    by : (o : Ordering) → is_listed n (match_ordering o (k ∷ m ∷ ms) (m ∷ ms) (m ∷ insert_key nat_cmp ms k)) ≡ true → (is_listed n (insert_key nat_cmp ms k) ≡ true → (n ≡ k) ⊎ (is_listed n ms ≡ true)) → (n ≡ k) ⊎ (is_listed n (m ∷ ms) ≡ true)
    by Less e before = one (is_at (nat_cmp n) k) (is_listed n (m ∷ ms)) refl e
    by Equal e before = inr e
    by Greater e before = rest (is_at (nat_cmp n) m) e before

-- ---- listed numbers that rise

numbers_above_none : (k : ℕ) (ns : List ℕ) → AreNumbersAbove k ns → is_listed k ns ≡ false
numbers_above_none k [] above = refl
numbers_above_none k (n ∷ ns) above =
    let not_it : is_at (nat_cmp k) n ≡ false = ap is_eq (less k n above.0) in
    rw not_it (numbers_above_none k ns above.1)

pub numbers_gone_here : (k : ℕ) (ns : List ℕ) → AreNumbersRising ns → is_listed k (remove_key (is_at (nat_cmp k)) ns) ≡ false
numbers_gone_here k [] rising = refl
numbers_gone_here k (n ∷ ns) rising =
    cond_both (is_at (nat_cmp k) n) ns (n ∷ remove_key (is_at (nat_cmp k)) ns) (λ (ms : List ℕ). is_listed k ms ≡ false)
    (λ is. numbers_above_none k ns (subst (λ (m : ℕ). AreNumbersAbove m ns) (sym (same_number k n is)) rising.0)) (λ is. rw is (numbers_gone_here k ns rising.1))

numbers_above_less : (j k : ℕ) (ns : List ℕ) → j < k → AreNumbersAbove k ns → AreNumbersAbove j ns
numbers_above_less j k ns below = all_so (λ (n : ℕ). k < n) (λ (n : ℕ). j < n) (λ n above. omega (arith, below, above)) ns

numbers_above_gone : (j k : ℕ) (ns : List ℕ) → AreNumbersAbove j ns → AreNumbersAbove j (remove_key (is_at (nat_cmp k)) ns)
numbers_above_gone j k [] above = tt
numbers_above_gone j k (n ∷ ns) above = either (AreNumbersAbove j) (is_at (nat_cmp k) n) ns (n ∷ remove_key (is_at (nat_cmp k)) ns) above.1 (above.0, numbers_above_gone j k ns above.1)

pub numbers_rising_gone : (k : ℕ) (ns : List ℕ) → AreNumbersRising ns → AreNumbersRising (remove_key (is_at (nat_cmp k)) ns)
numbers_rising_gone k [] rising = tt
numbers_rising_gone k (n ∷ ns) rising = either AreNumbersRising (is_at (nat_cmp k) n) ns (n ∷ remove_key (is_at (nat_cmp k)) ns) rising.1 (numbers_above_gone n k ns rising.0, numbers_rising_gone k ns rising.1)

numbers_above_put : (j k : ℕ) (ns : List ℕ) → j < k → AreNumbersAbove j ns → AreNumbersAbove j (insert_key nat_cmp ns k)
numbers_above_put j k [] below above = (below, tt)
numbers_above_put j k (n ∷ ns) below above = by (nat_cmp k n) (numbers_above_put j k ns below above.1)
  where
    by : (o : Ordering) → AreNumbersAbove j (insert_key nat_cmp ns k) → AreNumbersAbove j (match_ordering o (k ∷ n ∷ ns) (n ∷ ns) (n ∷ insert_key nat_cmp ns k))
    by Less rest = (below, (above.0, above.1))
    by Equal rest = (above.0, above.1)
    by Greater rest = (above.0, rest)

pub numbers_rising_put : (k : ℕ) (ns : List ℕ) → AreNumbersRising ns → AreNumbersRising (insert_key nat_cmp ns k)
numbers_rising_put k [] rising = (tt, tt)
numbers_rising_put k (n ∷ ns) rising = by (nat_cmp k n) refl (numbers_rising_put k ns rising.1)
  where
    by : (o : Ordering) → nat_cmp k n ≡ o → AreNumbersRising (insert_key nat_cmp ns k) → AreNumbersRising (match_ordering o (k ∷ n ∷ ns) (n ∷ ns) (n ∷ insert_key nat_cmp ns k))
    by Less is rest =
        let below : k < n = before k n is in
        ((below, numbers_above_less k n ns below rising.0), (rising.0, rising.1))
    by Equal is rest = (rising.0, rising.1)
    by Greater is rest = (numbers_above_put n k ns (behind k n is) rising.0, rest)
