-- What a slab and the slot of each number hold together.
use Rattle.std.proofs.Common.{◌≡◌, ◌≢◌, ℕ, zero, suc, ◌+◌, ◌<◌, arith, nat_eq, slice_set, Bool, true, false, cond, List, [], ◌∷◌, ◌++◌, length, Option, Some, None, IsSomeAnd, is_some, count_by, OnSome, unwrap_or, refl, sym, ap, subst, ◌∙◌}
use Rattle.std.specs.Ordering.{nat_cmp, match_ordering}
use Rattle.std.specs.declared.cmp.Ordering.{Ordering}
use Rattle.std.specs.declared.cmp.Ordering.TheVariants.{Less, Equal, Greater}
use Rattle.std.specs.FinMap.{nat_cmp-IsAntisymmetric, get, insert, remove, len, entries, from_entries, len-entries}
use Rattle.std.specs.List.Sorted.{IsStrictlySortedBy}
use Rattle.std.specs.Map.{lookup, remove_entry, keys_of}
use Rattle.std.specs.BTreeMap.{is_at, insert_entry}
use Rattle.std.proofs.lemmas.Bool.{false≢true, eqb-true, eq-eqb}
use Rattle.std.proofs.lemmas.List.Sums.{sum_by-set}
use Rattle.std.proofs.lemmas.List.{get_or-set_same, get_or-set_other}
use Rattle.collections.proofs.NumberMaps.{entries_are, get_is, numbers_same, one_given, one_gone, same_number}
use Rattle.ua_session.specs.SessionTables.{is_due, due_in, slot_at, held_at, held_in, AreNumbered}
use Rattle.ua_types.specs.declared.moment.Moment.{Moment}
use Rattle.ua_session.specs.declared.session.Session.{Session}
use Rattle.ua_session.specs.declared.session_table.Slot.{Slot}

abbrev pub at : ℕ → List (ℕ × ℕ) → Option ℕ
at number es = lookup (is_at (nat_cmp number)) es

-- ---- numbers

itself : (k : ℕ) → is_at (nat_cmp k) k ≡ true
itself k = numbers_same k k refl

other_number : (q k : ℕ) → is_at (nat_cmp q) k ≡ false → k ≢ q
other_number q k f e = false≢true (sym f ∙ subst (λ (n : ℕ). is_at (nat_cmp q) n ≡ true) (sym e) (itself q))

no_Some : {A : Type 0} (x : A) → Some x ≢ None
no_Some {A = A} x e = subst (λ (o : Option A). IsSomeAnd o (λ _. Unit {0})) e tt

same_Some : {A : Type 0} (x y : A) → Some x ≡ Some y → x ≡ y
same_Some x y e = ap (λ o. unwrap_or o x) e

-- ---- one slot

abbrev pub Has : ℕ → Option Slot → Type 0
Has number slot = IsSomeAnd slot (λ (s : Slot). s.number ≡ number)

same_has : (slot : Option Slot) (n m : ℕ) → Has n slot → Has m slot → n ≡ m
same_has None n m p q = absurd p
same_has (Some slot) n m p q = sym p ∙ q

-- the session in a slot
abbrev pub inside : Option Slot → Option Session
inside None = None
inside (Some slot) = Some slot.session

-- the session in the slot that a number leads to
abbrev pub session_in : List (Option Slot) → Option ℕ → Option Session
session_in slots None = None
session_in slots (Some key) = inside (slot_at slots key)

-- ---- all slots

module _ (slots : List (Option Slot)) where
  step : (q number : ℕ) (key : ℕ) (slot : Option Slot) (rest : List (ℕ × Session)) (found : Option ℕ) (b : Bool) → Has number slot → slot ≡ slot_at slots key → lookup (is_at (nat_cmp q)) rest ≡ session_in slots found →
      is_at (nat_cmp q) number ≡ b → lookup (is_at (nat_cmp q)) (held_at number slot rest) ≡ session_in slots (cond b (Some key) found)
  step q number key None rest found b has is h e = absurd has
  step q number key (Some slot) rest found true has is h e = ap (λ (t : Bool). cond t (Some slot.session) (lookup (is_at (nat_cmp q)) rest)) e ∙ ap inside is
  step q number key (Some slot) rest found false has is h e = ap (λ (t : Bool). cond t (Some slot.session) (lookup (is_at (nat_cmp q)) rest)) e ∙ h

  pub found : (es : List (ℕ × ℕ)) → AreNumbered slots es → (q : ℕ) → lookup (is_at (nat_cmp q)) (held_in slots es) ≡ session_in slots (at q es)
  found [] p q = refl
  found (e ∷ es) p q = step q e.0 e.1 (slot_at slots e.1) (held_in slots es) (at q es) (is_at (nat_cmp q) e.0) p.0 refl (found es p.1 q) refl

  -- what the map has under a number
  pub get_held : (es : List (ℕ × ℕ)) → AreNumbered slots es → (q : ℕ) → get (from_entries {R = nat_cmp} (held_in slots es)) q ≡ session_in slots (at q es)
  get_held es p q = get_is (held_in slots es) q ∙ found es p q

  by_test : (q n k key : ℕ) (rest : Option ℕ) (b : Bool) → Has n (slot_at slots k) → (rest ≡ Some key → Has q (slot_at slots key)) → is_at (nat_cmp q) n ≡ b → cond b (Some k) rest ≡ Some key → Has q (slot_at slots key)
  by_test q n k key rest true has more e f = subst (λ (m : ℕ). Has m (slot_at slots key)) (sym (same_number q n e)) (subst (λ (o : ℕ). Has n (slot_at slots o)) (same_Some k key f) has)
  by_test q n k key rest false has more e f = more f

  pub number_at : (es : List (ℕ × ℕ)) → AreNumbered slots es → (q key : ℕ) → at q es ≡ Some key → Has q (slot_at slots key)
  number_at [] p q key f = absurd (no_Some key (sym f))
  number_at (e ∷ es) p q key f = by_test q e.0 e.1 key (at q es) (is_at (nat_cmp q) e.0) p.0 (number_at es p.1 q key) refl f

  pub numbered_removed : (test : ℕ → Bool) (es : List (ℕ × ℕ)) → AreNumbered slots es → AreNumbered slots (remove_entry test es)
  numbered_removed test [] p = p
  numbered_removed test (e ∷ es) p =
      elim (test e.0) as (λ b. AreNumbered slots (cond b es (e ∷ remove_entry test es))) [ true ↦ p.1 | false ↦ (p.0, numbered_removed test es p.1) ]

  pub numbered_inserted : (n k : ℕ) → Has n (slot_at slots k) → (es : List (ℕ × ℕ)) → AreNumbered slots es → AreNumbered slots (insert_entry nat_cmp es n k)
  numbered_inserted n k has [] p = (has, tt)
  numbered_inserted n k has (e ∷ es) p = by (numbered_inserted n k has es p.1) (nat_cmp n e.0) refl
    where
      by : AreNumbered slots (insert_entry nat_cmp es n k) → (r : Ordering) → nat_cmp n e.0 ≡ r → AreNumbered slots (match_ordering r ((n, k) ∷ e ∷ es) ((e.0, k) ∷ es) (e ∷ insert_entry nat_cmp es n k))
      by rest Less c = (has, p)
      by rest Equal c = (subst (λ (m : ℕ). Has m (slot_at slots k)) (nat_cmp-IsAntisymmetric n e.0 c) has, p.1)
      by rest Greater c = (p.0, rest)

module _ (slots new : List (Option Slot)) where
  -- the slots keep the numbers that they have
  pub numbered_kept : ((key n : ℕ) → Has n (slot_at slots key) → Has n (slot_at new key)) → (es : List (ℕ × ℕ)) → AreNumbered slots es → AreNumbered new es
  numbered_kept f [] p = tt
  numbered_kept f (e ∷ es) p = (f e.1 e.0 p.0, numbered_kept f es p.1)

  -- one slot is emptied, and its number leads nowhere
  pub numbered_without : (n k : ℕ) → Has n (slot_at slots k) → ((key : ℕ) → key ≢ k → slot_at new key ≡ slot_at slots key) → (es : List (ℕ × ℕ)) → AreNumbered slots es → at n es ≡ None → AreNumbered new es
  numbered_without n k has others [] p none = tt
  numbered_without n k has others (e ∷ es) p none = by (numbered_without n k has others es p.1) (is_at (nat_cmp n) e.0) refl none
    where
      by : (at n es ≡ None → AreNumbered new es) → (b : Bool) → is_at (nat_cmp n) e.0 ≡ b → cond b (Some e.1) (at n es) ≡ None → AreNumbered new (e ∷ es)
      by rest true t f = absurd (no_Some e.1 f)
      by rest false t f =
          let apart : e.1 ≢ k = λ same. other_number n e.0 t (same_has (slot_at slots k) e.0 n (subst (λ (key : ℕ). Has e.0 (slot_at slots key)) same p.0) has) in
          (subst (Has e.0) (sym (others e.1 apart)) p.0, rest f)

  -- ---- the map after one slot changed

  elsewhere : (k : ℕ) (found : Option ℕ) → ((key : ℕ) → key ≢ k → slot_at new key ≡ slot_at slots key) → ((key : ℕ) → found ≡ Some key → key ≢ k) → session_in new found ≡ session_in slots found
  elsewhere k None others apart = refl
  elsewhere k (Some key) others apart = ap inside (others key (apart key refl))

  module _ (es fs : List (ℕ × ℕ)) (p : AreNumbered slots es) (r : AreNumbered new fs) (n k : ℕ) (others : (key : ℕ) → key ≢ k → slot_at new key ≡ slot_at slots key)
      (apart : (q key : ℕ) → is_at (nat_cmp n) q ≡ false → at q es ≡ Some key → key ≢ k) where
    pub set_held : (s : Session) → ((q : ℕ) → at q fs ≡ cond (is_at (nat_cmp n) q) (Some k) (at q es)) → inside (slot_at new k) ≡ Some s →
        from_entries {R = nat_cmp} (held_in new fs) ≡ insert (from_entries (held_in slots es)) n s
    set_held s leads is = one_given (held_in slots es) (held_in new fs) n s (λ q. found new fs r q ∙ ap (session_in new) (leads q) ∙ by q (is_at (nat_cmp n) q) refl ∙ ap (cond (is_at (nat_cmp n) q) (Some s)) (sym (found slots es p q)))
      where
        by : (q : ℕ) (b : Bool) → is_at (nat_cmp n) q ≡ b → session_in new (cond b (Some k) (at q es)) ≡ cond b (Some s) (session_in slots (at q es))
        by q true e = is
        by q false e = elsewhere k (at q es) others (λ key f. apart q key e f)

    pub removed_held : ((q : ℕ) → at q fs ≡ cond (is_at (nat_cmp n) q) None (at q es)) →
        from_entries {R = nat_cmp} (held_in new fs) ≡ remove (from_entries (held_in slots es)) n
    removed_held leads = one_gone (held_in slots es) (held_in new fs) n (λ q. found new fs r q ∙ ap (session_in new) (leads q) ∙ by q (is_at (nat_cmp n) q) refl ∙ ap (cond (is_at (nat_cmp n) q) None) (sym (found slots es p q)))
      where
        by : (q : ℕ) (b : Bool) → is_at (nat_cmp n) q ≡ b → session_in new (cond b None (at q es)) ≡ cond b None (session_in slots (at q es))
        by q true e = refl
        by q false e = elsewhere k (at q es) others (λ key f. apart q key e f)

-- a slot that was empty is no other number's
pub apart_from_empty : (slots : List (Option Slot)) (es : List (ℕ × ℕ)) → AreNumbered slots es → (k : ℕ) → slot_at slots k ≡ None → (q key : ℕ) → at q es ≡ Some key → key ≢ k
apart_from_empty slots es p k none q key f same = subst (λ (s : Option Slot). Has q s) (ap (slot_at slots) same ∙ none) (number_at slots es p q key f)

-- nor is the slot of a number
pub apart_from_own : (slots : List (Option Slot)) (es : List (ℕ × ℕ)) → AreNumbered slots es → (n k : ℕ) → Has n (slot_at slots k) → (q key : ℕ) → is_at (nat_cmp n) q ≡ false → at q es ≡ Some key → key ≢ k
apart_from_own slots es p n k has q key e f same =
    other_number n q e (same_has (slot_at slots k) q n (subst (λ (o : ℕ). Has q (slot_at slots o)) same (number_at slots es p q key f)) has)

-- ---- what the calls of the table do

has_own : (slot : Option Slot) (n : ℕ) (s : Session) → slot ≡ Some (record { number = n; session = s }) → Has n slot
has_own slot n s e = subst (Has n) (sym e) refl

inside_own : (slot : Option Slot) (n : ℕ) (s : Session) → slot ≡ Some (record { number = n; session = s }) → inside slot ≡ Some s
inside_own slot n s e = ap inside e

module _ (slots new : List (Option Slot)) (es : List (ℕ × ℕ)) (p : AreNumbered slots es) (n k : ℕ) (others : (key : ℕ) → key ≢ k → slot_at new key ≡ slot_at slots key) where
  -- a slot that was filled anew keeps what other slots have
  kept_by_fill : slot_at slots k ≡ None → (key m : ℕ) → Has m (slot_at slots key) → Has m (slot_at new key)
  kept_by_fill none key m has = subst (Has m) (sym (others key (λ same. subst (Has m) (ap (slot_at slots) same ∙ none) has))) has

  module _ (fs : List (ℕ × ℕ)) (s : Session) (is : slot_at new k ≡ Some (record { number = n; session = s })) where
    pub numbered_by_insert : slot_at slots k ≡ None → fs ≡ insert_entry nat_cmp es n k → AreNumbered new fs
    numbered_by_insert none e =
        subst (AreNumbered new) (sym e) (numbered_inserted new n k (has_own (slot_at new k) n s is) es (numbered_kept slots new (kept_by_fill none) es p))

    pub held_by_insert : slot_at slots k ≡ None → AreNumbered new fs → ((q : ℕ) → at q fs ≡ cond (is_at (nat_cmp n) q) (Some k) (at q es)) →
        from_entries {R = nat_cmp} (held_in new fs) ≡ insert (from_entries (held_in slots es)) n s
    held_by_insert none r leads =
        set_held slots new es fs p r n k others (λ q key e f. apart_from_empty slots es p k none q key f) s leads (inside_own (slot_at new k) n s is)

  module _ (fs : List (ℕ × ℕ)) (has : Has n (slot_at slots k)) where
    pub numbered_by_remove : fs ≡ remove_entry (is_at (nat_cmp n)) es → at n fs ≡ None → AreNumbered new fs
    numbered_by_remove e none = numbered_without slots new n k has others fs (subst (AreNumbered slots) (sym e) (numbered_removed slots (is_at (nat_cmp n)) es p)) none

    pub held_by_remove : AreNumbered new fs → ((q : ℕ) → at q fs ≡ cond (is_at (nat_cmp n) q) None (at q es)) →
        from_entries {R = nat_cmp} (held_in new fs) ≡ remove (from_entries (held_in slots es)) n
    held_by_remove r leads = removed_held slots new es fs p r n k others (apart_from_own slots es p n k has) leads

cond_in : (slots : List (Option Slot)) (b : Bool) (found : Option ℕ) → session_in slots (cond b None found) ≡ cond b None (session_in slots found)
cond_in slots true found = refl
cond_in slots false found = refl

-- a number that leads nowhere is taken out
pub held_by_none : (slots : List (Option Slot)) (es fs : List (ℕ × ℕ)) → AreNumbered slots es → (n : ℕ) → fs ≡ remove_entry (is_at (nat_cmp n)) es → ((q : ℕ) → at q fs ≡ cond (is_at (nat_cmp n) q) None (at q es)) →
    from_entries {R = nat_cmp} (held_in slots fs) ≡ remove (from_entries (held_in slots es)) n
held_by_none slots es fs p n e leads =
    let r : AreNumbered slots fs = subst (AreNumbered slots) (sym e) (numbered_removed slots (is_at (nat_cmp n)) es p) in
    one_gone (held_in slots es) (held_in slots fs) n
    (λ q. found slots fs r q ∙ ap (session_in slots) (leads q) ∙ cond_in slots (is_at (nat_cmp n) q) (at q es) ∙ ap (cond (is_at (nat_cmp n) q) None) (sym (found slots es p q)))

-- ---- a session in the place of another

below : (slots : List (Option Slot)) (k n : ℕ) → Has n (slot_at slots k) → k < length slots
below [] zero n has = absurd has
below [] (suc k) n has = absurd has
below (slot ∷ slots) zero n has = omega arith
below (slot ∷ slots) (suc k) n has = omega (arith, below slots k n has)

-- the slot with another session in it
abbrev renewed : List (Option Slot) → ℕ → Slot → Session → List (Option Slot)
renewed slots k held s = slice_set slots k (Some (record { number = held.number; session = s }))

module _ (slots : List (Option Slot)) (es : List (ℕ × ℕ)) (p : AreNumbered slots es) (n k : ℕ) (leads : at n es ≡ Some k) (held : Slot) (is : slot_at slots k ≡ Some held) (s : Session) where
  has_number : Has n (slot_at slots k)
  has_number = number_at slots es p n k leads

  changed : slot_at (renewed slots k held s) k ≡ Some (record { number = held.number; session = s })
  changed = get_or-set_same slots k (Some (record { number = held.number; session = s })) None (below slots k n has_number)

  other_slots : (key : ℕ) → key ≢ k → slot_at (renewed slots k held s) key ≡ slot_at slots key
  other_slots key apart = get_or-set_other slots k key (Some (record { number = held.number; session = s })) None apart

  its_number : held.number ≡ n
  its_number = subst (Has n) is has_number

  keeps : (key m : ℕ) → Has m (slot_at slots key) → (b : Bool) → nat_eq key k ≡ b → Has m (slot_at (renewed slots k held s) key)
  keeps key m has true e =
      let same : key ≡ k = eqb-true key k e in
      subst (λ (o : ℕ). Has m (slot_at (renewed slots k held s) o)) (sym same)
      (subst (Has m) (sym changed) (subst (Has m) (ap (slot_at slots) same ∙ is) has))
  keeps key m has false e = subst (Has m) (sym (other_slots key (λ same. false≢true (sym e ∙ eq-eqb key k same)))) has

  pub numbered_by_set : AreNumbered (renewed slots k held s) es
  numbered_by_set = numbered_kept slots (renewed slots k held s) (λ key m has. keeps key m has (nat_eq key k) refl) es p

  leads_still : (q : ℕ) (b : Bool) → is_at (nat_cmp n) q ≡ b → at q es ≡ cond b (Some k) (at q es)
  leads_still q true e = subst (λ (o : ℕ). at o es ≡ Some k) (same_number n q e) leads
  leads_still q false e = refl

  pub held_by_set : from_entries {R = nat_cmp} (held_in (renewed slots k held s) es) ≡ insert (from_entries (held_in slots es)) n s
  held_by_set =
      set_held slots (renewed slots k held s) es es p numbered_by_set n k other_slots (apart_from_own slots es p n k has_number) s
      (λ q. leads_still q (is_at (nat_cmp n) q) refl) (ap inside changed)

-- a number of the map leads to a slot
pub leads_somewhere : (slots : List (Option Slot)) (es : List (ℕ × ℕ)) → AreNumbered slots es → (n : ℕ) → at n es ≡ None → is_some (get (from_entries {R = nat_cmp} (held_in slots es)) n) ≡ true → ⊥
leads_somewhere slots es p n none h = false≢true (sym (ap is_some (get_held slots es p n ∙ ap (session_in slots) none)) ∙ h)

-- and the slot has a session
pub leads_to_one : (slots : List (Option Slot)) (es : List (ℕ × ℕ)) → AreNumbered slots es → (n k : ℕ) → at n es ≡ Some k → slot_at slots k ≡ None → ⊥
leads_to_one slots es p n k leads none = subst (Has n) none (number_at slots es p n k leads)

-- ---- the entries of the map are the sessions held

module _ (slots : List (Option Slot)) where
  same_keys : (es : List (ℕ × ℕ)) → AreNumbered slots es → keys_of (held_in slots es) ≡ keys_of es
  same_keys [] p = refl
  same_keys (e ∷ es) p = by (slot_at slots e.1) p.0 (same_keys es p.1)
    where
      by : (slot : Option Slot) → Has e.0 slot → keys_of (held_in slots es) ≡ keys_of es → keys_of (held_at e.0 slot (held_in slots es)) ≡ e.0 ∷ keys_of es
      by None has rest = absurd has
      by (Some slot) has rest = ap (λ ks. e.0 ∷ ks) rest

  pub entries_held : (es : List (ℕ × ℕ)) → AreNumbered slots es → IsStrictlySortedBy nat_cmp (keys_of es) → entries (from_entries {R = nat_cmp} (held_in slots es)) ≡ held_in slots es
  entries_held es p h = entries_are (held_in slots es) (subst (IsStrictlySortedBy nat_cmp) (sym (same_keys es p)) h)

  count_keys : {V : Type 0} (es : List (ℕ × V)) → length (keys_of es) ≡ length es
  count_keys [] = refl
  count_keys (e ∷ es) = ap suc (count_keys es)

  pub count_held : (es : List (ℕ × ℕ)) → AreNumbered slots es → IsStrictlySortedBy nat_cmp (keys_of es) → length es ≡ len (from_entries {R = nat_cmp} (held_in slots es))
  count_held es p h =
      sym (count_keys es) ∙ ap length (sym (same_keys es p)) ∙ count_keys (held_in slots es)
      ∙ sym (ap length (entries_held es p h)) ∙ sym (len-entries (from_entries {R = nat_cmp} (held_in slots es)))

-- ---- who is due

pub due_first : (slots : List (Option Slot)) (clock : Moment) (number key : ℕ) (es : List (ℕ × ℕ)) (slot : Slot) → slot_at slots key ≡ Some slot → is_due clock slot.session ≡ true →
    due_in clock (held_in slots ((number, key) ∷ es)) ≡ number ∷ due_in clock (held_in slots es)
due_first slots clock number key es slot is due =
    ap (λ (s : Option Slot). due_in clock (held_at number s (held_in slots es))) is
    ∙ ap (λ (b : Bool). cond b (number ∷ due_in clock (held_in slots es)) (due_in clock (held_in slots es))) due

nonempty : (xs ys : List ℕ) (n : ℕ) → xs ++ n ∷ ys ≡ [] → ⊥
nonempty [] ys n e = omega (arith, ap length e)
nonempty (x ∷ xs) ys n e = omega (arith, ap length e)

-- where one is due, some are
pub some_due : (slots : List (Option Slot)) (clock : Moment) (found all : List ℕ) (number key : ℕ) (es left : List (ℕ × ℕ)) (slot : Slot) → left ≡ (number, key) ∷ es → slot_at slots key ≡ Some slot →
    is_due clock slot.session ≡ true → found ++ due_in clock (held_in slots left) ≡ all → all ≡ [] → ⊥
some_due slots clock found all number key es left slot is at_key due whole none =
    nonempty found (due_in clock (held_in slots es)) number
    (ap (λ (d : List ℕ). found ++ d) (sym (due_first slots clock number key es slot at_key due)) ∙ ap (λ (l : List (ℕ × ℕ)). found ++ due_in clock (held_in slots l)) (sym is) ∙ whole ∙ none)

-- ---- how many slots have a session

no_more : (slots : List (Option Slot)) (k : ℕ) (held : Slot) → slot_at slots k ≡ Some held → (s : Slot) → count_by is_some (slice_set slots k (Some s)) ≡ count_by is_some slots
no_more slots k held is s =
    let written : count_by is_some (slice_set slots k (Some s)) + cond (is_some (slot_at slots k)) 1 0 ≡ count_by is_some slots + 1 =
    sum_by-set (λ (o : Option Slot). cond (is_some o) 1 0) slots k (Some s) None (below slots k held.number (subst (Has held.number) (sym is) refl)) in
    omega (arith, written, ap {B = ℕ} (λ (o : Option Slot). cond (is_some o) 1 0) is)

-- another session in a slot that has one
pub same_count : (slots : List (Option Slot)) (k : ℕ) (held : Slot) → slot_at slots k ≡ Some held → (s : Session) → count_by is_some (renewed slots k held s) ≡ count_by is_some slots
same_count slots k held is s = no_more slots k held is (record { number = held.number; session = s })

-- a number that has no session leads to no slot
pub leads_nowhere : (slots : List (Option Slot)) (es : List (ℕ × ℕ)) → AreNumbered slots es → (n : ℕ) → get (from_entries {R = nat_cmp} (held_in slots es)) n ≡ None → at n es ≡ None
leads_nowhere slots es p n none = by (at n es) refl
  where
    filled : (k : ℕ) (slot : Option Slot) → Has n slot → inside slot ≡ None → ⊥
    filled k None has e = has
    filled k (Some slot) has e = no_Some slot.session e

    by : (found : Option ℕ) → at n es ≡ found → at n es ≡ None
    by None e = e
    by (Some k) e = absurd (filled k (slot_at slots k) (number_at slots es p n k e) (sym (ap (session_in slots) e) ∙ sym (get_held slots es p n) ∙ none))

taken_out : (P : Type 0) (n : ℕ) (slot : Option Slot) → Has n slot → OnSome slot P → P
taken_out P n None has h = absurd has
taken_out P n (Some slot) has h = h

-- a slot that had a session has none
pub one_less : (before after more less n : ℕ) (slot : Option Slot) → Has n slot → OnSome slot (after + 1 ≡ before) → before ≡ more → less + 1 ≡ more → after ≡ less
one_less before after more less n slot has h full count = omega (arith, taken_out (after + 1 ≡ before) n slot has h, full, count)
