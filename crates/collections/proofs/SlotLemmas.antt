-- What a slab and the slot of each number hold together.
use Rattle.std.proofs.Common.{◌≡◌, ◌≢◌, ℕ, zero, suc, ◌<◌, arith, nat_eq, slice_set, Bool, true, false, cond, List, [], ◌∷◌, length, Option, Some, None, IsSomeAnd, refl, sym, ap, subst, ◌∙◌}
use Rattle.std.specs.Prelude.{⊤, is_some}
use Rattle.std.specs.Ordering.{nat_cmp, is_eq, match_ordering}
use Rattle.std.specs.declared.cmp.Ordering.{Ordering}
use Rattle.std.specs.declared.cmp.Ordering.TheVariants.{Less, Equal, Greater}
use Rattle.std.specs.FinMap.{nat_cmp-IsAntisymmetric}
use Rattle.std.specs.List.{AllByRecursion}
use Rattle.std.specs.List.Sorted.{IsStrictlySortedBy}
use Rattle.std.specs.Map.{lookup, remove_entry, set_value, keys_of}
use Rattle.std.specs.BTreeMap.{is_at, insert_entry}
use Rattle.std.proofs.lemmas.Bool.{false≢true, eqb-true, eq-eqb}
use Rattle.std.proofs.lemmas.List.{get_or-set_same, get_or-set_other}
use Rattle.collections.proofs.NumberMaps.{itself, same_number}
use Rattle.collections.specs.Slots.{slot_at, held_at, held_in, AreNumbered, IsHeld}
use Rattle.collections.specs.declared.slot.Slot.{Slot}

abbrev pub at : ℕ → List (ℕ × ℕ) → Option ℕ
at number es = lookup (is_at (nat_cmp number)) es

-- ---- numbers

-- a number isn't below itself
not_below : (n q : ℕ) → nat_cmp n q ≡ Less → n ≡ q → ⊥
not_below n q less same = false≢true (sym (ap is_eq less) ∙ subst (λ (m : ℕ). is_at (nat_cmp n) m ≡ true) same (itself n))

no_Some : {A : Type 0} (x : A) → Some x ≢ None
no_Some {A = A} x e = subst (λ (o : Option A). IsSomeAnd o (λ _. Unit {0})) e tt

-- no number of these leads to that slot
abbrev AreElsewhere : ℕ → List (ℕ × ℕ) → Type 0
AreElsewhere k [] = ⊤
AreElsewhere k (e ∷ es) = (e.1 ≢ k) × AreElsewhere k es

-- a number that is among those above another is above it
above_of : (m n k : ℕ) (es : List (ℕ × ℕ)) → AllByRecursion (λ y. nat_cmp m y ≡ Less) (keys_of es) → at n es ≡ Some k → nat_cmp m n ≡ Less
above_of m n k [] above its = absurd (no_Some k (sym its))
above_of m n k (e ∷ es) above its = by (is_at (nat_cmp n) e.0) refl its (above_of m n k es above.1)
  where
    by : (b : Bool) → is_at (nat_cmp n) e.0 ≡ b → cond b (Some e.1) (at n es) ≡ Some k → (at n es ≡ Some k → nat_cmp m n ≡ Less) → nat_cmp m n ≡ Less
    by true test is rest = subst (λ (o : ℕ). nat_cmp m o ≡ Less) (sym (same_number n e.0 test)) above.0
    by false test is rest = rest is

module _ {V : Type 0} where
  -- ---- one slot

  abbrev Has : ℕ → Option (Slot V) → Type 0
  Has number slot = IsSomeAnd slot (λ s. s.number ≡ number)

  same_has : (slot : Option (Slot V)) (n m : ℕ) → Has n slot → Has m slot → n ≡ m
  same_has None n m p q = absurd p
  same_has (Some slot) n m p q = sym p ∙ q

  -- the value in a slot
  abbrev value_of : Option (Slot V) → Option V
  value_of None = None
  value_of (Some slot) = Some slot.value

  -- the value in the slot that a number leads to
  abbrev pub value_in : List (Option (Slot V)) → Option ℕ → Option V
  value_in slots None = None
  value_in slots (Some key) = value_of (slot_at slots key)

  -- ---- all slots

  module _ (slots : List (Option (Slot V))) where
    -- an empty slot is no number's
    empty_elsewhere : (k : ℕ) → slot_at slots k ≡ None → (es : List (ℕ × ℕ)) → AreNumbered slots es → AreElsewhere k es
    empty_elsewhere k none [] p = tt
    empty_elsewhere k none (e ∷ es) p = (λ same. subst (Has e.0) (ap (slot_at slots) same ∙ none) p.0, empty_elsewhere k none es p.1)

    -- the slot of a number is none of those above it
    below_elsewhere : (n k : ℕ) → Has n (slot_at slots k) → (es : List (ℕ × ℕ)) → AreNumbered slots es → AllByRecursion (λ y. nat_cmp n y ≡ Less) (keys_of es) → AreElsewhere k es
    below_elsewhere n k has [] p above = tt
    below_elsewhere n k has (e ∷ es) p above =
        (λ same. not_below n e.0 above.0 (same_has (slot_at slots k) n e.0 has (subst (λ (o : ℕ). Has e.0 (slot_at slots o)) same p.0)), below_elsewhere n k has es p.1 above.1)

    -- what is held under a number
    pub found : (es : List (ℕ × ℕ)) → AreNumbered slots es → (q : ℕ) → lookup (is_at (nat_cmp q)) (held_in slots es) ≡ value_in slots (at q es)
    found [] p q = refl
    found (e ∷ es) p q = by (slot_at slots e.1) p.0 refl (found es p.1 q)
      where
        by : (slot : Option (Slot V)) → Has e.0 slot → slot_at slots e.1 ≡ slot → lookup (is_at (nat_cmp q)) (held_in slots es) ≡ value_in slots (at q es)
            → lookup (is_at (nat_cmp q)) (held_at e.0 slot (held_in slots es)) ≡ value_in slots (cond (is_at (nat_cmp q) e.0) (Some e.1) (at q es))
        by None has is rest = absurd has
        by (Some slot) has is rest = test (is_at (nat_cmp q) e.0)
          where
            test : (b : Bool) → cond b (Some slot.value) (lookup (is_at (nat_cmp q)) (held_in slots es)) ≡ value_in slots (cond b (Some e.1) (at q es))
            test true = sym (ap value_of is)
            test false = rest

    pub held_count : (es : List (ℕ × ℕ)) → AreNumbered slots es → length es ≡ length (held_in slots es)
    held_count [] p = refl
    held_count (e ∷ es) p = by (slot_at slots e.1) p.0 (held_count es p.1)
      where
        by : (slot : Option (Slot V)) → Has e.0 slot → length es ≡ length (held_in slots es) → length (e ∷ es) ≡ length (held_at e.0 slot (held_in slots es))
        by None has rest = absurd has
        by (Some slot) has rest = ap suc rest

    keys_held : (es : List (ℕ × ℕ)) → AreNumbered slots es → keys_of (held_in slots es) ≡ keys_of es
    keys_held [] p = refl
    keys_held (e ∷ es) p = by (slot_at slots e.1) p.0 (keys_held es p.1)
      where
        by : (slot : Option (Slot V)) → Has e.0 slot → keys_of (held_in slots es) ≡ keys_of es → keys_of (held_at e.0 slot (held_in slots es)) ≡ keys_of (e ∷ es)
        by None has rest = absurd has
        by (Some slot) has rest = ap (λ (ks : List ℕ). e.0 ∷ ks) rest

    -- a number leads to a slot that is filled with it
    pub number_at : (es : List (ℕ × ℕ)) → AreNumbered slots es → (q key : ℕ) → at q es ≡ Some key → Has q (slot_at slots key)
    number_at [] p q key f = absurd (no_Some key (sym f))
    number_at (e ∷ es) p q key f = by (is_at (nat_cmp q) e.0) refl f (number_at es p.1 q key)
      where
        by : (b : Bool) → is_at (nat_cmp q) e.0 ≡ b → cond b (Some e.1) (at q es) ≡ Some key → (at q es ≡ Some key → Has q (slot_at slots key)) → Has q (slot_at slots key)
        by true test is rest = subst (λ (m : ℕ). Has m (slot_at slots key)) (sym (same_number q e.0 test)) (subst (λ (o : ℕ). Has e.0 (slot_at slots o)) (let same : e.1 ≡ key = cc in same) p.0)
        by false test is rest = rest is

    numbered_removed : (test : ℕ → Bool) (es : List (ℕ × ℕ)) → AreNumbered slots es → AreNumbered slots (remove_entry test es)
    numbered_removed test [] p = p
    numbered_removed test (e ∷ es) p =
        elim (test e.0) as (λ b. AreNumbered slots (cond b es (e ∷ remove_entry test es))) [ true ↦ p.1 | false ↦ (p.0, numbered_removed test es p.1) ]

    numbered_inserted : (n k : ℕ) → Has n (slot_at slots k) → (es : List (ℕ × ℕ)) → AreNumbered slots es → AreNumbered slots (insert_entry nat_cmp es n k)
    numbered_inserted n k has [] p = (has, tt)
    numbered_inserted n k has (e ∷ es) p = by (numbered_inserted n k has es p.1) (nat_cmp n e.0) refl
      where
        by : AreNumbered slots (insert_entry nat_cmp es n k) → (r : Ordering) → nat_cmp n e.0 ≡ r → AreNumbered slots (match_ordering r ((n, k) ∷ e ∷ es) ((e.0, k) ∷ es) (e ∷ insert_entry nat_cmp es n k))
        by rest Less c = (has, p)
        by rest Equal c = (subst (λ (m : ℕ). Has m (slot_at slots k)) (nat_cmp-IsAntisymmetric n e.0 c) has, p.1)
        by rest Greater c = (p.0, rest)

  -- ---- one slot changes, and the others don't

  module _ (slots new : List (Option (Slot V))) (k : ℕ) (others : (key : ℕ) → key ≢ k → slot_at new key ≡ slot_at slots key) where
    same_elsewhere : (es : List (ℕ × ℕ)) → AreElsewhere k es → held_in new es ≡ held_in slots es
    same_elsewhere [] apart = refl
    same_elsewhere (e ∷ es) apart = rw (others e.1 apart.0, same_elsewhere es apart.1) refl

    numbered_elsewhere : (es : List (ℕ × ℕ)) → AreElsewhere k es → AreNumbered slots es → AreNumbered new es
    numbered_elsewhere [] apart p = tt
    numbered_elsewhere (e ∷ es) apart p = (subst (Has e.0) (sym (others e.1 apart.0)) p.0, numbered_elsewhere es apart.1 p.1)

    -- it is filled with another value
    module _ (n : ℕ) (w : V) (is : slot_at new k ≡ Some (record { number = n; value = w })) where
      has_new : Has n (slot_at new k)
      has_new = subst (Has n) (sym is) refl

      numbered_set : (es : List (ℕ × ℕ)) → AreNumbered slots es → Has n (slot_at slots k) → AreNumbered new es
      numbered_set [] p has = tt
      numbered_set (e ∷ es) p has = (by (nat_eq e.1 k) refl, numbered_set es p.1 has)
        where
          by : (b : Bool) → nat_eq e.1 k ≡ b → Has e.0 (slot_at new e.1)
          by true test =
              let same : e.1 ≡ k = eqb-true e.1 k test in
              let number : n ≡ e.0 = same_has (slot_at slots k) n e.0 has (subst (λ (o : ℕ). Has e.0 (slot_at slots o)) same p.0) in
              subst (λ (o : ℕ). Has e.0 (slot_at new o)) (sym same) (subst (λ (m : ℕ). Has m (slot_at new k)) number has_new)
          by false test = subst (Has e.0) (sym (others e.1 (λ same. false≢true (sym test ∙ eq-eqb e.1 k same)))) p.0

      pub held_set : (es : List (ℕ × ℕ)) → AreNumbered slots es → IsStrictlySortedBy nat_cmp (keys_of es) → at n es ≡ Some k → held_in new es ≡ set_value (is_at (nat_cmp n)) (held_in slots es) w
      unfolding IsStrictlySortedBy
      held_set [] p rising leads = refl
      held_set (e ∷ es) p rising leads = by (is_at (nat_cmp n) e.0) refl leads (slot_at slots e.1) refl p.0 (held_set es p.1 rising.1)
        where
          by : (b : Bool) → is_at (nat_cmp n) e.0 ≡ b → cond b (Some e.1) (at n es) ≡ Some k → (slot : Option (Slot V)) → slot_at slots e.1 ≡ slot → Has e.0 slot
              → (at n es ≡ Some k → held_in new es ≡ set_value (is_at (nat_cmp n)) (held_in slots es) w)
              → held_at e.0 (slot_at new e.1) (held_in new es) ≡ set_value (is_at (nat_cmp n)) (held_at e.0 slot (held_in slots es)) w
          by b test its None there has rest = absurd has
          by true test its (Some slot) there has rest =
              let same : e.1 ≡ k = cc in
              let apart = below_elsewhere slots e.0 k (subst (λ (o : ℕ). Has e.0 (slot_at slots o)) same p.0) es p.1 rising.0 in
              ap (λ (o : ℕ). held_at e.0 (slot_at new o) (held_in new es)) same ∙ ap (λ (o : Option (Slot V)). held_at e.0 o (held_in new es)) is ∙ ap (λ (xs : List (ℕ × V)). (e.0, w) ∷ xs) (same_elsewhere es apart)
              ∙ ap (λ (b : Bool). cond b ((e.0, w) ∷ held_in slots es) ((e.0, slot.value) ∷ set_value (is_at (nat_cmp n)) (held_in slots es) w)) (sym test)
          by false test its (Some slot) there has rest =
              let apart : e.1 ≢ k = λ same. not_below e.0 n (above_of e.0 n k es rising.0 its) (same_has (slot_at slots k) e.0 n (subst (λ (o : ℕ). Has e.0 (slot_at slots o)) same p.0) (number_at slots es p.1 n k its)) in
              ap (λ (o : Option (Slot V)). held_at e.0 o (held_in new es)) (others e.1 apart ∙ there) ∙ ap (λ (xs : List (ℕ × V)). (e.0, slot.value) ∷ xs) (rest its)
              ∙ ap (λ (b : Bool). cond b ((e.0, w) ∷ held_in slots es) ((e.0, slot.value) ∷ set_value (is_at (nat_cmp n)) (held_in slots es) w)) (sym test)

      held_inserted : (es : List (ℕ × ℕ)) → AreNumbered slots es → AreElsewhere k es → at n es ≡ None → held_in new (insert_entry nat_cmp es n k) ≡ insert_entry nat_cmp (held_in slots es) n w
      held_inserted [] p apart free = rw is refl
      held_inserted (e ∷ es) p apart free = by (nat_cmp n e.0) refl free (slot_at slots e.1) refl p.0 (held_inserted es p.1 apart.1)
        where
          by : (o : Ordering) → nat_cmp n e.0 ≡ o → cond (is_eq o) (Some e.1) (at n es) ≡ None → (slot : Option (Slot V)) → slot_at slots e.1 ≡ slot → Has e.0 slot
              → (at n es ≡ None → held_in new (insert_entry nat_cmp es n k) ≡ insert_entry nat_cmp (held_in slots es) n w)
              → held_in new (match_ordering o ((n, k) ∷ e ∷ es) ((e.0, k) ∷ es) (e ∷ insert_entry nat_cmp es n k)) ≡ insert_entry nat_cmp (held_at e.0 slot (held_in slots es)) n w
          by o test its None there has rest = absurd has
          by Less test its (Some slot) there has rest = rw (is, others e.1 apart.0, there, same_elsewhere es apart.1, test) refl
          by Equal test its (Some slot) there has rest = absurd (no_Some e.1 its)
          by Greater test its (Some slot) there has rest = rw (others e.1 apart.0, there, rest its, test) refl

    -- it is emptied
    pub held_removed : (n : ℕ) → slot_at new k ≡ None → (es : List (ℕ × ℕ)) → AreNumbered slots es → IsStrictlySortedBy nat_cmp (keys_of es) → at n es ≡ Some k → held_in new (remove_entry (is_at (nat_cmp n)) es) ≡ remove_entry (is_at (nat_cmp n)) (held_in slots es)
    unfolding IsStrictlySortedBy
    held_removed n none [] p rising leads = refl
    held_removed n none (e ∷ es) p rising leads = by (is_at (nat_cmp n) e.0) refl leads (slot_at slots e.1) refl p.0 (held_removed n none es p.1 rising.1)
      where
        by : (b : Bool) → is_at (nat_cmp n) e.0 ≡ b → cond b (Some e.1) (at n es) ≡ Some k → (slot : Option (Slot V)) → slot_at slots e.1 ≡ slot → Has e.0 slot
            → (at n es ≡ Some k → held_in new (remove_entry (is_at (nat_cmp n)) es) ≡ remove_entry (is_at (nat_cmp n)) (held_in slots es))
            → held_in new (cond b es (e ∷ remove_entry (is_at (nat_cmp n)) es)) ≡ remove_entry (is_at (nat_cmp n)) (held_at e.0 slot (held_in slots es))
        by b test its None there has rest = absurd has
        by true test its (Some slot) there has rest =
            let same : e.1 ≡ k = cc in
            let apart = below_elsewhere slots e.0 k (subst (λ (o : ℕ). Has e.0 (slot_at slots o)) same p.0) es p.1 rising.0 in
            rw (test, same_elsewhere es apart) refl
        by false test its (Some slot) there has rest =
            let apart : e.1 ≢ k = λ same. not_below e.0 n (above_of e.0 n k es rising.0 its) (same_has (slot_at slots k) e.0 n (subst (λ (o : ℕ). Has e.0 (slot_at slots o)) same p.0) (number_at slots es p.1 n k its)) in
            rw (others e.1 apart, there, rest its, test) refl

    numbered_without : (n : ℕ) → (es : List (ℕ × ℕ)) → AreNumbered slots es → IsStrictlySortedBy nat_cmp (keys_of es) → at n es ≡ Some k → AreNumbered new (remove_entry (is_at (nat_cmp n)) es)
    unfolding IsStrictlySortedBy
    numbered_without n [] p rising leads = tt
    numbered_without n (e ∷ es) p rising leads = by (is_at (nat_cmp n) e.0) refl leads (numbered_without n es p.1 rising.1)
      where
        by : (b : Bool) → is_at (nat_cmp n) e.0 ≡ b → cond b (Some e.1) (at n es) ≡ Some k → (at n es ≡ Some k → AreNumbered new (remove_entry (is_at (nat_cmp n)) es)) → AreNumbered new (cond b es (e ∷ remove_entry (is_at (nat_cmp n)) es))
        by true test its rest =
            let same : e.1 ≡ k = cc in
            numbered_elsewhere es (below_elsewhere slots e.0 k (subst (λ (o : ℕ). Has e.0 (slot_at slots o)) same p.0) es p.1 rising.0) p.1
        by false test its rest =
            let apart : e.1 ≢ k = λ same. not_below e.0 n (above_of e.0 n k es rising.0 its) (same_has (slot_at slots k) e.0 n (subst (λ (o : ℕ). Has e.0 (slot_at slots o)) same p.0) (number_at slots es p.1 n k its)) in
            (subst (Has e.0) (sym (others e.1 apart)) p.0, rest its)

    -- ---- what all slots keep

    module _ (es : List (ℕ × ℕ)) (h : IsHeld slots es) (n : ℕ) where
      pub kept_by_set : (w : V) → slot_at new k ≡ Some (record { number = n; value = w }) → at n es ≡ Some k → IsHeld new es
      kept_by_set w is leads = record {
        numbered = numbered_set n w is es h.numbered (number_at slots es h.numbered n k leads);
        led = λ key slot there. by key slot there (nat_eq key k) refl;
        rising = h.rising;
      }
        where
          by : (key : ℕ) (slot : Slot V) → slot_at new key ≡ Some slot → (b : Bool) → nat_eq key k ≡ b → at slot.number es ≡ Some key
          by key slot there true test =
              let same : key ≡ k = eqb-true key k test in
              let its : n ≡ slot.number = same_has (slot_at new k) n slot.number (has_new n w is) (subst (λ (o : ℕ). Has slot.number (slot_at new o)) same (subst (Has slot.number) (sym there) refl)) in
              subst (λ (m : ℕ). at m es ≡ Some key) its (leads ∙ ap Some (sym same))
          by key slot there false test = h.led key slot (sym (others key (λ same. false≢true (sym test ∙ eq-eqb key k same))) ∙ there)

      pub kept_by_insert : (w : V) → slot_at new k ≡ Some (record { number = n; value = w }) → slot_at slots k ≡ None → at n es ≡ None → (fs : List (ℕ × ℕ)) → fs ≡ insert_entry nat_cmp es n k
          → ((q : ℕ) → at q fs ≡ cond (is_at (nat_cmp n) q) (Some k) (at q es)) → IsStrictlySortedBy nat_cmp (keys_of fs) → IsHeld new fs
      kept_by_insert w is empty free fs made leads rising = record {
        numbered = subst (AreNumbered new) (sym made) (numbered_inserted new n k (has_new n w is) es (numbered_elsewhere es (empty_elsewhere slots k empty es h.numbered) h.numbered));
        led = λ key slot there. by key slot there (nat_eq key k) refl;
        rising = rising;
      }
        where
          others_lead : (key : ℕ) (slot : Slot V) → at slot.number es ≡ Some key → (b : Bool) → is_at (nat_cmp n) slot.number ≡ b → cond b (Some k) (at slot.number es) ≡ Some key
          others_lead key slot its true test = absurd (no_Some key (sym (subst (λ (m : ℕ). at m es ≡ Some key) (sym (same_number n slot.number test)) its) ∙ free))
          others_lead key slot its false test = its

          by : (key : ℕ) (slot : Slot V) → slot_at new key ≡ Some slot → (b : Bool) → nat_eq key k ≡ b → at slot.number fs ≡ Some key
          by key slot there true test =
              let same : key ≡ k = eqb-true key k test in
              let its : n ≡ slot.number = same_has (slot_at new k) n slot.number (has_new n w is) (subst (λ (o : ℕ). Has slot.number (slot_at new o)) same (subst (Has slot.number) (sym there) refl)) in
              subst (λ (m : ℕ). at m fs ≡ Some key) its (leads n ∙ ap (λ (b : Bool). cond b (Some k) (at n es)) (itself n) ∙ ap Some (sym same))
          by key slot there false test =
              leads slot.number
              ∙ others_lead key slot (h.led key slot (sym (others key (λ same. false≢true (sym test ∙ eq-eqb key k same))) ∙ there)) (is_at (nat_cmp n) slot.number) refl

      pub held_by_insert : (w : V) → slot_at new k ≡ Some (record { number = n; value = w }) → slot_at slots k ≡ None → at n es ≡ None → held_in new (insert_entry nat_cmp es n k) ≡ insert_entry nat_cmp (held_in slots es) n w
      held_by_insert w is empty free = held_inserted n w is es h.numbered (empty_elsewhere slots k empty es h.numbered) free

      pub kept_by_remove : slot_at new k ≡ None → at n es ≡ Some k → (fs : List (ℕ × ℕ)) → fs ≡ remove_entry (is_at (nat_cmp n)) es
          → ((q : ℕ) → at q fs ≡ cond (is_at (nat_cmp n) q) None (at q es)) → IsStrictlySortedBy nat_cmp (keys_of fs) → IsHeld new fs
      kept_by_remove empty gone fs made leads rising = record {
        numbered = subst (AreNumbered new) (sym made) (numbered_without n es h.numbered h.rising gone);
        led = λ key slot there. by key slot there (nat_eq key k) refl;
        rising = rising;
      }
        where
          others_lead : (key : ℕ) (slot : Slot V) → key ≢ k → at slot.number es ≡ Some key → (b : Bool) → is_at (nat_cmp n) slot.number ≡ b → cond b None (at slot.number es) ≡ Some key
          others_lead key slot apart its true test =
              let there : at n es ≡ Some key = subst (λ (m : ℕ). at m es ≡ Some key) (sym (same_number n slot.number test)) its in
              absurd (apart cc)
          others_lead key slot apart its false test = its

          by : (key : ℕ) (slot : Slot V) → slot_at new key ≡ Some slot → (b : Bool) → nat_eq key k ≡ b → at slot.number fs ≡ Some key
          by key slot there true test = absurd (no_Some slot (sym there ∙ ap (slot_at new) (eqb-true key k test) ∙ empty))
          by key slot there false test =
              let apart : key ≢ k = λ same. false≢true (sym test ∙ eq-eqb key k same) in
              leads slot.number ∙ others_lead key slot apart (h.led key slot (sym (others key apart) ∙ there)) (is_at (nat_cmp n) slot.number) refl

-- ---- what is there and what isn't

-- a key that isn't there is taken out, and nothing changes
pub removed_nowhere : {K X : Type 0} (test : K → Bool) (es : List (K × X)) → lookup test es ≡ None → remove_entry test es ≡ es
removed_nowhere test [] none = refl
removed_nowhere test (e ∷ es) none = by (test e.0) none (removed_nowhere test es)
  where
    by : (b : Bool) → cond b (Some e.1) (lookup test es) ≡ None → (lookup test es ≡ None → remove_entry test es ≡ es) → cond b es (e ∷ remove_entry test es) ≡ e ∷ es
    by true is rest = absurd (no_Some e.1 is)
    by false is rest = ap (λ xs. e ∷ xs) (rest is)

module _ {V : Type 0} (slots : List (Option (Slot V))) (es : List (ℕ × ℕ)) (h : IsHeld slots es) where
  -- a slot that is filled is that of its number
  pub guessed : (key n : ℕ) → IsSomeAnd (slot_at slots key) (λ slot. slot.number ≡ n) → Some key ≡ at n es
  guessed key n = by (slot_at slots key) refl
    where
      by : (slot : Option (Slot V)) → slot_at slots key ≡ slot → Has n slot → Some key ≡ at n es
      by None there has = absurd has
      by (Some slot) there has = sym (subst (λ (m : ℕ). at m es ≡ Some key) has (h.led key slot there))

  -- the numbers of the values are those of the slots, and rise
  pub held_keys : keys_of (held_in slots es) ≡ keys_of es
  held_keys = keys_held slots es h.numbered

  pub held_rising : IsStrictlySortedBy nat_cmp (keys_of (held_in slots es))
  held_rising = subst (IsStrictlySortedBy nat_cmp) (sym held_keys) h.rising

  -- a number leads to no empty slot
  pub leads_to_one : (n key : ℕ) → at n es ≡ Some key → slot_at slots key ≡ None → ⊥
  leads_to_one n key leads none = subst (Has n) none (number_at slots es h.numbered n key leads)

  -- a number that has no value leads nowhere
  pub leads_nowhere : (n : ℕ) → lookup (is_at (nat_cmp n)) (held_in slots es) ≡ None → at n es ≡ None
  leads_nowhere n none = by (at n es) refl
    where
      filled : (key : ℕ) (slot : Option (Slot V)) → Has n slot → value_of slot ≡ None → ⊥
      filled key None has e = has
      filled key (Some slot) has e = no_Some slot.value e

      by : (leads : Option ℕ) → at n es ≡ leads → at n es ≡ None
      by None e = e
      by (Some key) e = absurd (filled key (slot_at slots key) (number_at slots es h.numbered n key e) (sym (ap (value_in slots) e) ∙ sym (found slots es h.numbered n) ∙ none))

  -- what is held under a number is there where it leads to a slot
  pub leads_held : (n : ℕ) → is_some (lookup (is_at (nat_cmp n)) (held_in slots es)) ≡ is_some (at n es)
  leads_held n = ap is_some (found slots es h.numbered n) ∙ by (at n es) refl
    where
      filled : (slot : Option (Slot V)) → Has n slot → is_some (value_of slot) ≡ true
      filled None has = absurd has
      filled (Some slot) has = refl

      by : (leads : Option ℕ) → at n es ≡ leads → is_some (value_in slots leads) ≡ is_some leads
      by None e = refl
      by (Some key) e = filled (slot_at slots key) (number_at slots es h.numbered n key e)

-- ---- a value is written in its place

module _ {V : Type 0} where
  filled_within : (slots : List (Option (Slot V))) (k : ℕ) (held : Slot V) → slot_at slots k ≡ Some held → k < length slots
  filled_within [] zero held is = absurd (no_Some held (sym is))
  filled_within [] (suc k) held is = absurd (no_Some held (sym is))
  filled_within (slot ∷ slots) zero held is = omega arith
  filled_within (slot ∷ slots) (suc k) held is = omega (arith, filled_within slots k held is)

  module _ (slots : List (Option (Slot V))) (es : List (ℕ × ℕ)) (h : IsHeld slots es) (n k : ℕ) (leads : at n es ≡ Some k) (held : Slot V) (is : slot_at slots k ≡ Some held) where
    pub value_there : lookup (is_at (nat_cmp n)) (held_in slots es) ≡ Some held.value
    value_there = found slots es h.numbered n ∙ ap (value_in slots) leads ∙ ap value_of is

    abbrev renewed : V → List (Option (Slot V))
    renewed w = slice_set slots k (Some (record { number = held.number; value = w }))

    its_number : held.number ≡ n
    its_number = subst (Has n) is (number_at slots es h.numbered n k leads)

    changed : (w : V) → slot_at (renewed w) k ≡ Some (record { number = n; value = w })
    changed w =
        get_or-set_same slots k (Some (record { number = held.number; value = w })) None (filled_within slots k held is)
        ∙ ap (λ (m : ℕ). Some (record { number = m; value = w })) its_number

    other_slots : (w : V) (key : ℕ) → key ≢ k → slot_at (renewed w) key ≡ slot_at slots key
    other_slots w key apart = get_or-set_other slots k key (Some (record { number = held.number; value = w })) None apart

    pub kept_by_write : (w : V) → IsHeld (renewed w) es
    kept_by_write w = kept_by_set slots (renewed w) k (other_slots w) es h n w (changed w) leads

    pub held_by_write : (w : V) → held_in (renewed w) es ≡ set_value (is_at (nat_cmp n)) (held_in slots es) w
    held_by_write w = held_set slots (renewed w) k (other_slots w) n w (changed w) es h.numbered h.rising leads
