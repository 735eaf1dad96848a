-- Maps under number keys, seen as finite maps: what they have at a key, and what an insertion and a removal change.
use Rattle.std.specs.Prelude.{◌&&◌, T}
use Rattle.std.specs.List.{AllByRecursion}
use Rattle.std.specs.List.Sorted.{IsStrictlySortedBy}
use Rattle.std.specs.declared.cmp.Ordering.{Ordering}
use Rattle.std.specs.declared.cmp.Ordering.TheVariants.{Less, Equal, Greater}
use Rattle.std.proofs.Common.{◌≡◌, ◌≢◌, ℕ, Bool, true, false, cond, List, [], ◌∷◌, length, Option, Some, None, refl, sym, subst, ◌∙◌, ap}
use Rattle.std.proofs.lemmas.Bool.{false≢true}
use Rattle.std.proofs.lemmas.Map.{lookup-set_value, lookup-remove_entry}
use Rattle.std.proofs.lemmas.Map.Keys.{IsDistinct-from_sorted}
use Rattle.std.specs.Ordering.{nat_cmp, eq_by_cmp, is_eq, is_lt, match_ordering}
use Rattle.std.specs.Map.{lookup, keys_of, remove_entry, set_value}
use Rattle.std.specs.Borrow.{MutBor}
use Rattle.std.specs.Option.{IsSome, OnSome, option_copied_mut}
use Rattle.std.specs.BTreeMap.{is_at, insert_entry}
use Rattle.std.specs.Cmp.{nat_cmp_total, eq_by_cmp_equiv}
use Rattle.std.specs.FinMap.Entries.{below_all}
use Rattle.std.specs.FinMap.{FinMap, get, insert, remove, len, find, entries, from_entries, is_sorted, entries-from_sorted, len-entries, get-from_entries, get-from_sorted, get-insert, get-remove, same_map, nat_cmp-IsAntisymmetric}

pub itself : (k : ℕ) → eq_by_cmp nat_cmp k k ≡ true
itself k = (eq_by_cmp_equiv nat_cmp_total).refl k

module _ {V : Type 0} where
  find_is : (es : List (ℕ × V)) (q : ℕ) → find nat_cmp q es ≡ lookup (is_at (nat_cmp q)) es
  find_is [] q = refl
  find_is (e ∷ es) q = ap (cond (is_at (nat_cmp q) e.0) (Some e.1)) (find_is es q)

  -- what a map that entries make has at a key
  pub get_is : (es : List (ℕ × V)) (q : ℕ) → get (from_entries {R = nat_cmp} es) q ≡ lookup (is_at (nat_cmp q)) es
  get_is es q = get-from_entries nat_cmp_total es q ∙ find_is es q

  -- entries that differ at one key make maps that differ there
  same_at : (es fs : List (ℕ × V)) (k : ℕ) (w : Option V) (m : FinMap nat_cmp V) → ((q : ℕ) → lookup (is_at (nat_cmp q)) fs ≡ cond (is_at (nat_cmp k) q) w (lookup (is_at (nat_cmp q)) es)) → ((q : ℕ) → get m q ≡ cond (eq_by_cmp nat_cmp q k) w (get (from_entries {R = nat_cmp} es) q)) → from_entries fs ≡ m
  same_at es fs k w m h g = same_map nat_cmp_total nat_cmp-IsAntisymmetric _ _ (λ q.
      get_is fs q ∙ h q ∙ ap (λ b. cond b w (lookup (is_at (nat_cmp q)) es)) ((eq_by_cmp_equiv nat_cmp_total).symm k q)
      ∙ sym (g q ∙ ap (cond (eq_by_cmp nat_cmp q k) w) (get_is es q)))

  pub one_given : (es fs : List (ℕ × V)) (k : ℕ) (v : V) → ((q : ℕ) → lookup (is_at (nat_cmp q)) fs ≡ cond (is_at (nat_cmp k) q) (Some v) (lookup (is_at (nat_cmp q)) es)) → from_entries fs ≡ insert (from_entries {R = nat_cmp} es) k v
  one_given es fs k v h = same_at es fs k (Some v) (insert (from_entries es) k v) h (λ q. get-insert nat_cmp_total (from_entries es) k v q)

  pub one_gone : (es fs : List (ℕ × V)) (k : ℕ) → ((q : ℕ) → lookup (is_at (nat_cmp q)) fs ≡ cond (is_at (nat_cmp k) q) None (lookup (is_at (nat_cmp q)) es)) → from_entries fs ≡ remove (from_entries {R = nat_cmp} es) k
  one_gone es fs k h = same_at es fs k None (remove (from_entries es) k) h (λ q. get-remove nat_cmp_total (from_entries es) k q)

  pub get_inserted : (m : FinMap nat_cmp V) (k : ℕ) (v : V) → get (insert m k v) k ≡ Some v
  get_inserted m k v = get-insert nat_cmp_total m k v k ∙ ap (λ b. cond b (Some v) (get m k)) (itself k)

  pub get_removed : (m : FinMap nat_cmp V) (k : ℕ) → get (remove m k) k ≡ None
  get_removed m k = get-remove nat_cmp_total m k k ∙ ap (λ b. cond b None (get m k)) (itself k)

  twice : (b : Bool) (w v : Option V) (x : Option V) → cond b w (cond b v x) ≡ cond b w x
  twice true w v x = refl
  twice false w v x = refl

  -- a key that was set and is taken out was not there
  pub remove_inserted : (m : FinMap nat_cmp V) (k : ℕ) (v : V) → remove (insert (remove m k) k v) k ≡ remove m k
  remove_inserted m k v = same_map nat_cmp_total nat_cmp-IsAntisymmetric _ _ (λ q.
      get-remove nat_cmp_total (insert (remove m k) k v) k q
      ∙ ap (cond (eq_by_cmp nat_cmp q k) None) (get-insert nat_cmp_total (remove m k) k v q ∙ ap (cond (eq_by_cmp nat_cmp q k) (Some v)) (get-remove nat_cmp_total m k q))
      ∙ twice (eq_by_cmp nat_cmp q k) None (Some v) _ ∙ twice (eq_by_cmp nat_cmp q k) None None (get m q)
      ∙ sym (get-remove nat_cmp_total m k q))

-- ---- numbers that differ, and those that don't

-- keys that differ are told apart
pub told_apart : (q k : ℕ) (r : Ordering) → nat_cmp q k ≡ r → q ≢ k → is_eq r ≡ false
told_apart q k Less e apart = refl
told_apart q k Greater e apart = refl
told_apart q k Equal e apart = absurd (apart (nat_cmp-IsAntisymmetric q k e))

-- keys that are told to be the same are, and the other way round
pub same_number : (q k : ℕ) → eq_by_cmp nat_cmp q k ≡ true → q ≡ k
same_number q k = by (nat_cmp q k) refl
  where
    by : (r : Ordering) → nat_cmp q k ≡ r → is_eq r ≡ true → q ≡ k
    by Less e f = absurd (false≢true f)
    by Greater e f = absurd (false≢true f)
    by Equal e f = nat_cmp-IsAntisymmetric q k e

pub numbers_same : (q k : ℕ) → q ≡ k → eq_by_cmp nat_cmp q k ≡ true
numbers_same q k e = subst (λ (n : ℕ). eq_by_cmp nat_cmp q n ≡ true) e ((eq_by_cmp_equiv nat_cmp_total).refl q)

module _ {V : Type 0} where
  -- an insertion and a removal change nothing elsewhere
  pub get_inserted_elsewhere : (m : FinMap nat_cmp V) (k : ℕ) (v : V) (q : ℕ) → q ≢ k → get (insert m k v) q ≡ get m q
  get_inserted_elsewhere m k v q apart =
      get-insert nat_cmp_total m k v q ∙ ap (λ b. cond b (Some v) (get m q)) (told_apart q k (nat_cmp q k) refl apart)

  pub get_removed_elsewhere : (m : FinMap nat_cmp V) (k q : ℕ) → q ≢ k → get (remove m k) q ≡ get m q
  get_removed_elsewhere m k q apart =
      get-remove nat_cmp_total m k q ∙ ap (λ b. cond b None (get m q)) (told_apart q k (nat_cmp q k) refl apart)

  same_there : (m : FinMap nat_cmp V) (k q : ℕ) (v : V) (b : Bool) → eq_by_cmp nat_cmp q k ≡ b → get m k ≡ Some v → cond b (Some v) (get m q) ≡ get m q
  same_there m k q v true e h = sym h ∙ ap (get m) (sym (same_number q k e))
  same_there m k q v false e h = refl

  -- a value in its own place changes nothing
  pub insert_same : (m : FinMap nat_cmp V) (k : ℕ) (v : V) → get m k ≡ Some v → insert m k v ≡ m
  insert_same m k v h = same_map nat_cmp_total nat_cmp-IsAntisymmetric _ _ (λ q. get-insert nat_cmp_total m k v q ∙ same_there m k q v (eq_by_cmp nat_cmp q k) refl h)

  -- a key that is taken out and set has the new value
  pub insert_removed : (m : FinMap nat_cmp V) (k : ℕ) (v : V) → insert (remove m k) k v ≡ insert m k v
  insert_removed m k v = same_map nat_cmp_total nat_cmp-IsAntisymmetric _ _ (λ q.
      get-insert nat_cmp_total (remove m k) k v q ∙ ap (cond (eq_by_cmp nat_cmp q k) (Some v)) (get-remove nat_cmp_total m k q)
      ∙ twice (eq_by_cmp nat_cmp q k) (Some v) None (get m q)
      ∙ sym (get-insert nat_cmp_total m k v q))

  -- a key that was set is taken out with what it had before
  pub remove_given : (m : FinMap nat_cmp V) (k : ℕ) (v : V) → remove (insert m k v) k ≡ remove m k
  remove_given m k v = ap (λ n. remove n k) (sym (insert_removed m k v)) ∙ remove_inserted m k v

-- ---- how many entries a map has

both : (a b : Bool) → T a → T b → T (a && b)
both true b p q = q
both false b p q = p

module _ {V : Type 0} where
  below_all_of : (k : ℕ) (es : List (ℕ × V)) → AllByRecursion (λ y. nat_cmp k y ≡ Less) (keys_of es) → T (below_all nat_cmp k es)
  below_all_of k [] h = tt
  below_all_of k (e ∷ es) h = both _ _ (subst (λ (o : Ordering). T (is_lt o)) (sym h.0) tt) (below_all_of k es h.1)

  sorted_of : (es : List (ℕ × V)) → IsStrictlySortedBy nat_cmp (keys_of es) → T (is_sorted nat_cmp es)
  unfolding IsStrictlySortedBy
  sorted_of [] h = tt
  sorted_of (e ∷ es) h = both _ _ (below_all_of e.0 es h.0) (sorted_of es h.1)

  -- the map of entries whose keys rise has these, and as many
  pub entries_are : (es : List (ℕ × V)) → IsStrictlySortedBy nat_cmp (keys_of es) → entries (from_entries {R = nat_cmp} es) ≡ es
  entries_are es h =
      let s = sorted_of es h in
      ap entries (same_map nat_cmp_total nat_cmp-IsAntisymmetric _ _ (λ q. get-from_entries nat_cmp_total es q ∙ sym (get-from_sorted nat_cmp es q s))) ∙ entries-from_sorted nat_cmp es s

  pub count_is : (es : List (ℕ × V)) → IsStrictlySortedBy nat_cmp (keys_of es) → length es ≡ len (from_entries {R = nat_cmp} es)
  count_is es h = ap length (sym (entries_are es h)) ∙ sym (len-entries (from_entries {R = nat_cmp} es))

-- ---- values that are lent, to be changed in their places

module _ {V : Type 0} where
  -- a value that was lent and is given back is the one at its key from then on
  pub one_lent : (lent : Option (MutBor V)) (es fs : List (ℕ × V)) (k : ℕ) (v : V) (m : FinMap nat_cmp V) → option_copied_mut lent ≡ lookup (is_at (nat_cmp k)) es
      → (IsSome (lookup (is_at (nat_cmp k)) es) → (q : ℕ) → lookup (is_at (nat_cmp q)) fs ≡ cond (is_at (nat_cmp k) q) (Some v) (lookup (is_at (nat_cmp q)) es))
      → from_entries {R = nat_cmp} es ≡ m → OnSome lent (from_entries fs ≡ insert m k v)
  one_lent None es fs k v m found h e = tt
  one_lent (Some r) es fs k v m found h e =
      one_given es fs k v (h (subst (λ (o : Option V). IsSome o) found refl)) ∙ ap (λ n. insert n k v) e

  -- what was lent is what was there
  pub lent_found : (lent : Option (MutBor V)) (found : Option V) (value : MutBor V) → lent ≡ Some value → option_copied_mut lent ≡ found → found ≡ Some value.now
  lent_found lent found value is e = sym e ∙ ap option_copied_mut is

  -- what holds once it is given back
  pub given_back : (P : Type 0) (lent : Option (MutBor V)) (value : MutBor V) → lent ≡ Some value → OnSome lent P → P
  given_back P lent value is h = subst (λ o. OnSome o P) is h

-- ---- lists by rising number, in which one value is put, replaced or taken out

same : (a b : ℕ) → eq_by_cmp nat_cmp a b ≡ eq_by_cmp nat_cmp b a
same a b = (eq_by_cmp_equiv nat_cmp_total).symm a b

congr : (k x y : ℕ) → eq_by_cmp nat_cmp k x ≡ true → eq_by_cmp nat_cmp k y ≡ eq_by_cmp nat_cmp x y
congr k x y = (eq_by_cmp_equiv nat_cmp_total).congr k x y

module _ {V : Type 0} where
  -- of two tests that don't hold at once, either may come first
  swapped : (a b : Bool) (x y rest : Option V) → (a ≡ true → b ≡ true → ⊥) → cond a x (cond b y rest) ≡ cond b y (cond a x rest)
  swapped true true x y rest apart = absurd (apart refl refl)
  swapped true false x y rest apart = refl
  swapped false true x y rest apart = refl
  swapped false false x y rest apart = refl

  pub lookup_put : (k q : ℕ) (v : V) (es : List (ℕ × V)) → lookup (is_at (nat_cmp q)) (insert_entry nat_cmp es k v) ≡ cond (is_at (nat_cmp k) q) (Some v) (lookup (is_at (nat_cmp q)) es)
  lookup_put k q v [] = ap (λ (b : Bool). cond b (Some v) None) (same q k)
  lookup_put k q v (e ∷ es) = by (nat_cmp k e.0) refl (lookup_put k q v es)
    where
      by : (o : Ordering) → nat_cmp k e.0 ≡ o → lookup (is_at (nat_cmp q)) (insert_entry nat_cmp es k v) ≡ cond (is_at (nat_cmp k) q) (Some v) (lookup (is_at (nat_cmp q)) es)
          → lookup (is_at (nat_cmp q)) (match_ordering o ((k, v) ∷ e ∷ es) ((e.0, v) ∷ es) (e ∷ insert_entry nat_cmp es k v)) ≡ cond (is_at (nat_cmp k) q) (Some v) (cond (is_at (nat_cmp q) e.0) (Some e.1) (lookup (is_at (nat_cmp q)) es))
      by Less is rest = ap (λ (b : Bool). cond b (Some v) (cond (is_at (nat_cmp q) e.0) (Some e.1) (lookup (is_at (nat_cmp q)) es))) (same q k)
      by Equal is rest =
          let here : is_at (nat_cmp q) e.0 ≡ is_at (nat_cmp k) q = ap (is_at (nat_cmp q)) (sym (nat_cmp-IsAntisymmetric k e.0 is)) ∙ same q k in
          ap (λ (b : Bool). cond b (Some v) (lookup (is_at (nat_cmp q)) es)) here
          ∙ sym (ap (λ (b : Bool). cond (is_at (nat_cmp k) q) (Some v) (cond b (Some e.1) (lookup (is_at (nat_cmp q)) es))) here ∙ twice (is_at (nat_cmp k) q) (Some v) (Some e.1) (lookup (is_at (nat_cmp q)) es))
      by Greater is rest =
          ap (cond (is_at (nat_cmp q) e.0) (Some e.1)) rest
          ∙ swapped (is_at (nat_cmp q) e.0) (is_at (nat_cmp k) q) (Some e.1) (Some v) (lookup (is_at (nat_cmp q)) es)
          (λ there mine. false≢true (sym (ap is_eq is) ∙ congr k q e.0 mine ∙ there))

  pub put_is : (es : List (ℕ × V)) (k : ℕ) (v : V) → from_entries (insert_entry nat_cmp es k v) ≡ insert (from_entries {R = nat_cmp} es) k v
  put_is es k v = one_given es (insert_entry nat_cmp es k v) k v (λ q. lookup_put k q v es)

  pub set_is : (es : List (ℕ × V)) (k : ℕ) (v : V) → IsSome (lookup (is_at (nat_cmp k)) es) → from_entries (set_value (is_at (nat_cmp k)) es v) ≡ insert (from_entries {R = nat_cmp} es) k v
  set_is es k v some = one_given es (set_value (is_at (nat_cmp k)) es v) k v (λ q. lookup-set_value (eq_by_cmp_equiv nat_cmp_total) (is_at (nat_cmp k)) (congr k) q v es some)

  pub taken_is : (es : List (ℕ × V)) (k : ℕ) → IsStrictlySortedBy nat_cmp (keys_of es) → from_entries (remove_entry (is_at (nat_cmp k)) es) ≡ remove (from_entries {R = nat_cmp} es) k
  taken_is es k rising =
      one_gone es (remove_entry (is_at (nat_cmp k)) es) k (λ q. lookup-remove_entry (eq_by_cmp_equiv nat_cmp_total) (is_at (nat_cmp k)) (congr k) q es (IsDistinct-from_sorted nat_cmp (keys_of es) rising))

  -- a value of such a list that was lent and is given back
  pub lent_in : (lent : Option (MutBor V)) (es fs : List (ℕ × V)) (k : ℕ) (v : V) (m : FinMap nat_cmp V) → option_copied_mut lent ≡ lookup (is_at (nat_cmp k)) es
      → OnSome lent (fs ≡ set_value (is_at (nat_cmp k)) es v) → from_entries {R = nat_cmp} es ≡ m → OnSome lent (from_entries fs ≡ insert m k v)
  lent_in None es fs k v m found h e = tt
  lent_in (Some r) es fs k v m found h e =
      ap (λ (xs : List (ℕ × V)). from_entries xs) h ∙ set_is es k v (subst (λ (o : Option V). IsSome o) found refl) ∙ ap (λ n. insert n k v) e
