-- Maps under numbers: what stands at other numbers than the one that changes, and what holds of all entries.
use Rattle.std.proofs.Common.{◌≡◌, ◌≢◌, ℕ, Bool, true, false, List, [], ◌∷◌, Option, Some, unwrap_or, cond, refl, sym, ap, subst, ◌∙◌, arith}
use Rattle.std.proofs.lemmas.Bool.{false≢true}
use Rattle.std.proofs.lemmas.Map.Lookups.{exact_unsigned}
use Rattle.std.specs.Prelude.{⊤}
use Rattle.std.specs.BTreeMap.{is_at, insert_entry}
use Rattle.std.specs.List.{AllByRecursion}
use Rattle.std.specs.List.Sorted.{IsStrictlySortedBy}
use Rattle.std.specs.Map.{lookup, keys_of, set_value, remove_entry}
use Rattle.std.specs.Ordering.{nat_cmp, match_ordering, is_eq}
use Rattle.std.specs.declared.cmp.Ordering.{Ordering}
use Rattle.std.specs.declared.cmp.Ordering.TheVariants.{Less, Equal, Greater}
use Rattle.collections.proofs.NumberMaps.{same_number, numbers_same, told_apart}

pub apart : (q k : ℕ) → q ≢ k → is_at (nat_cmp q) k ≡ false
apart q k other = told_apart q k (nat_cmp q k) refl other

module _ {X : Type 0} (k n : ℕ) (other : n ≢ k) where
  abbrev At : List (ℕ × X) → Option X
  At es = lookup (is_at (nat_cmp n)) es

  skipped : (key : ℕ) (v : X) (es : List (ℕ × X)) → is_at (nat_cmp k) key ≡ true → At ((key, v) ∷ es) ≡ At es
  skipped key v es is =
      let not_it : is_at (nat_cmp n) key ≡ false = apart n key (λ same. other (same ∙ sym (same_number k key is))) in
      ap (λ (b : Bool). cond b (Some v) (At es)) not_it

  kept : (e : ℕ × X) (es rest : List (ℕ × X)) → At rest ≡ At es → At (e ∷ rest) ≡ At (e ∷ es)
  kept e es rest h = ap (λ (o : Option X). cond (is_at (nat_cmp n) e.0) (Some e.1) o) h

  set_by : (w : X) (e : ℕ × X) (es rest : List (ℕ × X)) (b : Bool) → is_at (nat_cmp k) e.0 ≡ b → At rest ≡ At es → At (cond b ((e.0, w) ∷ es) (e ∷ rest)) ≡ At (e ∷ es)
  set_by w e es rest true is h = skipped e.0 w es is ∙ sym (skipped e.0 e.1 es is)
  set_by w e es rest false is h = kept e es rest h

  pub set_elsewhere : (es : List (ℕ × X)) (w : X) → At (set_value (is_at (nat_cmp k)) es w) ≡ At es
  set_elsewhere [] w = refl
  set_elsewhere (e ∷ es) w = set_by w e es (set_value (is_at (nat_cmp k)) es w) (is_at (nat_cmp k) e.0) refl (set_elsewhere es w)

  removed_by : (e : ℕ × X) (es rest : List (ℕ × X)) (b : Bool) → is_at (nat_cmp k) e.0 ≡ b → At rest ≡ At es → At (cond b es (e ∷ rest)) ≡ At (e ∷ es)
  removed_by e es rest true is h = sym (skipped e.0 e.1 es is)
  removed_by e es rest false is h = kept e es rest h

  pub removed_elsewhere : (es : List (ℕ × X)) → At (remove_entry (is_at (nat_cmp k)) es) ≡ At es
  removed_elsewhere [] = refl
  removed_elsewhere (e ∷ es) = removed_by e es (remove_entry (is_at (nat_cmp k)) es) (is_at (nat_cmp k) e.0) refl (removed_elsewhere es)

  put : (v : X) (es : List (ℕ × X)) → At ((k, v) ∷ es) ≡ At es
  put v es = ap (λ (b : Bool). cond b (Some v) (At es)) (apart n k other)

  inserted_by : (v : X) (e : ℕ × X) (es rest : List (ℕ × X)) (o : Ordering) → nat_cmp k e.0 ≡ o → At rest ≡ At es → At (match_ordering o ((k, v) ∷ e ∷ es) ((e.0, v) ∷ es) (e ∷ rest)) ≡ At (e ∷ es)
  inserted_by v e es rest Less is h = put v (e ∷ es)
  inserted_by v e es rest Equal is h = let at : is_at (nat_cmp k) e.0 ≡ true = ap is_eq is in skipped e.0 v es at ∙ sym (skipped e.0 e.1 es at)
  inserted_by v e es rest Greater is h = kept e es rest h

  pub inserted_elsewhere : (es : List (ℕ × X)) (v : X) → At (insert_entry nat_cmp es k v) ≡ At es
  inserted_elsewhere [] v = put v []
  inserted_elsewhere (e ∷ es) v = inserted_by v e es (insert_entry nat_cmp es k v) (nat_cmp k e.0) refl (inserted_elsewhere es v)

-- ---- maps of whose entries something holds

module _ {X : Type 0} (P : ℕ × X → Type 0) where
  drop_by : (b : Bool) (e : ℕ × X) (es rest : List (ℕ × X)) → AllByRecursion P (e ∷ es) → AllByRecursion P rest → AllByRecursion P (cond b es (e ∷ rest))
  drop_by true e es rest h r = h.1
  drop_by false e es rest h r = (h.0, r)

  pub entries_removed : (test : ℕ → Bool) (es : List (ℕ × X)) → AllByRecursion P es → AllByRecursion P (remove_entry test es)
  entries_removed test [] h = tt
  entries_removed test (e ∷ es) h = drop_by (test e.0) e es (remove_entry test es) h (entries_removed test es h.1)

  pub entries_if_removed : (b : Bool) (test : ℕ → Bool) (es : List (ℕ × X)) → AllByRecursion P es → AllByRecursion P (cond b (remove_entry test es) es)
  entries_if_removed true test es h = entries_removed test es h
  entries_if_removed false test es h = h

  -- what was found is changed
  change_by : (v w : X) → ((key : ℕ) → P (key, v) → P (key, w)) → (e : ℕ × X) (es rest : List (ℕ × X)) (o : Option X) (b : Bool) → cond b (Some e.1) o ≡ Some v → AllByRecursion P (e ∷ es) → (o ≡ Some v → AllByRecursion P rest) →
      AllByRecursion P (cond b ((e.0, w) ∷ es) (e ∷ rest))
  change_by v w f e es rest o true found h more = let same : e.1 ≡ v = cc in (f e.0 (subst (λ (x : X). P (e.0, x)) same h.0), h.1)
  change_by v w f e es rest o false found h more = (h.0, more found)

  pub entries_changed : (test : ℕ → Bool) (v w : X) → ((key : ℕ) → P (key, v) → P (key, w)) → (es : List (ℕ × X)) → lookup test es ≡ Some v → AllByRecursion P es → AllByRecursion P (set_value test es w)
  entries_changed test v w f [] found h = tt
  entries_changed test v w f (e ∷ es) found h = change_by v w f e es (set_value test es w) (lookup test es) (test e.0) found h (λ there. entries_changed test v w f es there h.1)

  -- what holds at a number is found there
  find_by : (k : ℕ) (d : X) (e : ℕ × X) (o : Option X) (b : Bool) → is_at (nat_cmp k) e.0 ≡ b → P e → P (k, unwrap_or o d) → P (k, unwrap_or (cond b (Some e.1) o) d)
  find_by k d e o true is h more = let same : e.0 ≡ k = sym (same_number k e.0 is) in subst (λ (n : ℕ). P (n, e.1)) same h
  find_by k d e o false is h more = more

  pub entries_found : (k : ℕ) (d : X) (es : List (ℕ × X)) → P (k, d) → AllByRecursion P es → P (k, unwrap_or (lookup (is_at (nat_cmp k)) es) d)
  entries_found k d [] p h = p
  entries_found k d (e ∷ es) p h = find_by k d e (lookup (is_at (nat_cmp k)) es) (is_at (nat_cmp k) e.0) refl h.0 (entries_found k d es p h.1)

  -- another value is put at a number
  put_by : (k : ℕ) (w : X) (e : ℕ × X) (es rest : List (ℕ × X)) (b : Bool) → is_at (nat_cmp k) e.0 ≡ b → P (k, w) → AllByRecursion P (e ∷ es) → AllByRecursion P rest → AllByRecursion P (cond b ((e.0, w) ∷ es) (e ∷ rest))
  put_by k w e es rest true is p h r = let same : k ≡ e.0 = same_number k e.0 is in (subst (λ (n : ℕ). P (n, w)) same p, h.1)
  put_by k w e es rest false is p h r = (h.0, r)

  pub entries_set : (k : ℕ) (w : X) (es : List (ℕ × X)) → P (k, w) → AllByRecursion P es → AllByRecursion P (set_value (is_at (nat_cmp k)) es w)
  entries_set k w [] p h = tt
  entries_set k w (e ∷ es) p h = put_by k w e es (set_value (is_at (nat_cmp k)) es w) (is_at (nat_cmp k) e.0) refl p h (entries_set k w es p h.1)

  place_by : (k : ℕ) (w : X) (e : ℕ × X) (es rest : List (ℕ × X)) (o : Ordering) → nat_cmp k e.0 ≡ o → P (k, w) → AllByRecursion P (e ∷ es) → AllByRecursion P rest → AllByRecursion P (match_ordering o ((k, w) ∷ e ∷ es) ((e.0, w) ∷ es) (e ∷ rest))
  place_by k w e es rest Less is p h r = (p, h)
  place_by k w e es rest Equal is p h r =
      let at : is_at (nat_cmp k) e.0 ≡ true = ap is_eq is in
      let same : k ≡ e.0 = same_number k e.0 at in
      (subst (λ (n : ℕ). P (n, w)) same p, h.1)
  place_by k w e es rest Greater is p h r = (h.0, r)

  pub entries_inserted : (k : ℕ) (w : X) (es : List (ℕ × X)) → P (k, w) → AllByRecursion P es → AllByRecursion P (insert_entry nat_cmp es k w)
  entries_inserted k w [] p h = (p, tt)
  entries_inserted k w (e ∷ es) p h = place_by k w e es (insert_entry nat_cmp es k w) (nat_cmp k e.0) refl p h (entries_inserted k w es p h.1)

-- what is set is found, if anything
module _ {X : Type 0} (Q : X → Type 0) (test : ℕ → Bool) (d w : X) (new : Q w) where
  now_by : (e : ℕ × X) (es rest : List (ℕ × X)) (b : Bool) → test e.0 ≡ b → Q (unwrap_or (cond b (Some e.1) (lookup test es)) d) → (Q (unwrap_or (lookup test es) d) → Q (unwrap_or (lookup test rest) d)) →
      Q (unwrap_or (lookup test (cond b ((e.0, w) ∷ es) (e ∷ rest))) d)
  now_by e es rest true is h more = rw is new
  now_by e es rest false is h more = rw is (more h)

  pub found_now : (es : List (ℕ × X)) → Q (unwrap_or (lookup test es) d) → Q (unwrap_or (lookup test (set_value test es w)) d)
  found_now [] h = h
  found_now (e ∷ es) h = now_by e es (set_value test es w) (test e.0) refl h (found_now es)

-- ---- maps in which each number stands once

module _ {X : Type 0} where
  abbrev pub HasNone : ℕ → List (ℕ × X) → Type 0
  HasNone k es = AllByRecursion (λ (f : ℕ × X). f.0 ≢ k) es

  abbrev pub IsDistinct : List (ℕ × X) → Type 0
  IsDistinct [] = ⊤
  IsDistinct (e ∷ es) = HasNone e.0 es × IsDistinct es

  none_by : (k : ℕ) (w : X) (e : ℕ × X) (es rest : List (ℕ × X)) (b : Bool) → HasNone k (e ∷ es) → HasNone k rest → HasNone k (cond b ((e.0, w) ∷ es) (e ∷ rest))
  none_by k w e es rest true h r = h
  none_by k w e es rest false h r = (h.0, r)

  none_set : (k : ℕ) (test : ℕ → Bool) (es : List (ℕ × X)) (w : X) → HasNone k es → HasNone k (set_value test es w)
  none_set k test [] w h = tt
  none_set k test (e ∷ es) w h = none_by k w e es (set_value test es w) (test e.0) h (none_set k test es w h.1)

  distinct_by : (w : X) (e : ℕ × X) (es rest : List (ℕ × X)) (b : Bool) → IsDistinct (e ∷ es) → HasNone e.0 rest → IsDistinct rest → IsDistinct (cond b ((e.0, w) ∷ es) (e ∷ rest))
  distinct_by w e es rest true h g r = h
  distinct_by w e es rest false h g r = (g, r)

  pub distinct_set : (test : ℕ → Bool) (es : List (ℕ × X)) (w : X) → IsDistinct es → IsDistinct (set_value test es w)
  distinct_set test [] w h = tt
  distinct_set test (e ∷ es) w h = distinct_by w e es (set_value test es w) (test e.0) h (none_set e.0 test es w h.0) (distinct_set test es w h.1)

  left_by : (e : ℕ × X) (es rest : List (ℕ × X)) (b : Bool) → IsDistinct (e ∷ es) → HasNone e.0 rest → IsDistinct rest → IsDistinct (cond b es (e ∷ rest))
  left_by e es rest true h g r = h.1
  left_by e es rest false h g r = (g, r)

  pub distinct_removed : (test : ℕ → Bool) (es : List (ℕ × X)) → IsDistinct es → IsDistinct (remove_entry test es)
  distinct_removed test [] h = tt
  distinct_removed test (e ∷ es) h =
      left_by e es (remove_entry test es) (test e.0) h (entries_removed (λ (f : ℕ × X). f.0 ≢ e.0) test es h.0) (distinct_removed test es h.1)

  gone_by : (k : ℕ) (e : ℕ × X) (es rest : List (ℕ × X)) (b : Bool) → is_at (nat_cmp k) e.0 ≡ b → HasNone e.0 es → HasNone k rest → HasNone k (cond b es (e ∷ rest))
  gone_by k e es rest true is h r = let same : e.0 ≡ k = sym (same_number k e.0 is) in subst (λ (n : ℕ). HasNone n es) same h
  gone_by k e es rest false is h r = ((λ same. false≢true (sym is ∙ numbers_same k e.0 (sym same))), r)

  -- what is removed is gone
  pub none_left : (k : ℕ) (es : List (ℕ × X)) → IsDistinct es → HasNone k (remove_entry (is_at (nat_cmp k)) es)
  none_left k [] h = tt
  none_left k (e ∷ es) h = gone_by k e es (remove_entry (is_at (nat_cmp k)) es) (is_at (nat_cmp k) e.0) refl h.0 (none_left k es h.1)

  more_by : (k j : ℕ) (w : X) (e : ℕ × X) (es rest : List (ℕ × X)) (o : Ordering) → j ≢ k → HasNone k (e ∷ es) → HasNone k rest → HasNone k (match_ordering o ((j, w) ∷ e ∷ es) ((e.0, w) ∷ es) (e ∷ rest))
  more_by k j w e es rest Less apart h r = (apart, h)
  more_by k j w e es rest Equal apart h r = h
  more_by k j w e es rest Greater apart h r = (h.0, r)

  none_more : (k j : ℕ) (w : X) (es : List (ℕ × X)) → j ≢ k → HasNone k es → HasNone k (insert_entry nat_cmp es j w)
  none_more k j w [] apart h = (apart, tt)
  none_more k j w (e ∷ es) apart h = more_by k j w e es (insert_entry nat_cmp es j w) (nat_cmp j e.0) apart h (none_more k j w es apart h.1)

  joined_by : (k : ℕ) (w : X) (e : ℕ × X) (es rest : List (ℕ × X)) (o : Ordering) → HasNone k (e ∷ es) → IsDistinct (e ∷ es) → HasNone e.0 rest → IsDistinct rest → IsDistinct (match_ordering o ((k, w) ∷ e ∷ es) ((e.0, w) ∷ es) (e ∷ rest))
  joined_by k w e es rest Less none h g r = (none, h)
  joined_by k w e es rest Equal none h g r = h
  joined_by k w e es rest Greater none h g r = (g, r)

  pub distinct_inserted : (k : ℕ) (w : X) (es : List (ℕ × X)) → HasNone k es → IsDistinct es → IsDistinct (insert_entry nat_cmp es k w)
  distinct_inserted k w [] none h = (tt, tt)
  distinct_inserted k w (e ∷ es) none h =
      joined_by k w e es (insert_entry nat_cmp es k w) (nat_cmp k e.0) none h (none_more e.0 k w es (λ same. none.0 (sym same)) h.0) (distinct_inserted k w es none.1 h.1)

-- ---- maps whose numbers rise

module _ {X : Type 0} where
  abbrev pub AreFound : List (ℕ × X) → List (ℕ × X) → Type 0
  AreFound all es = AllByRecursion (λ (e : ℕ × X). lookup (is_at (nat_cmp e.0)) all ≡ Some e.1) es

  found_behind : (e : ℕ × X) (all es : List (ℕ × X)) → AllByRecursion (λ n. nat_cmp e.0 n ≡ Less) (keys_of es) → AreFound all es → AreFound (e ∷ all) es
  found_behind e all [] above h = tt
  found_behind e all (f ∷ fs) above h = (by (nat_cmp f.0 e.0) refl, found_behind e all fs above.1 h.1)
    where
      by : (o : Ordering) → nat_cmp f.0 e.0 ≡ o → lookup (is_at (nat_cmp f.0)) (e ∷ all) ≡ Some f.1
      by Less is = rw is h.0
      by Greater is = rw is h.0
      by Equal is = absurd (grind (arith, exact_unsigned f.0 e.0 is, above.0))

  -- each is found under its number
  pub all_found : (es : List (ℕ × X)) → IsStrictlySortedBy nat_cmp (keys_of es) → AreFound es es
  unfolding IsStrictlySortedBy
  all_found [] h = tt
  all_found (e ∷ es) h = (rw (numbers_same e.0 e.0 refl) refl, found_behind e es es h.0 (all_found es h.1))
