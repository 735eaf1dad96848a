-- Look-ups in lists whose keys rise.
use Rattle.std.proofs.Common.{◌≡◌, inl, inr, ℕ, ◌+◌, ◌-◌, ◌<◌, ◌≤◌, arith, get_or, Bool, true, false, cond, List, [], ◌∷◌, ◌++◌, map, length, Option, Some, None, Ordering, Less, refl, sym, ap, subst, ◌∙◌, true≢false}
use Rattle.std.specs.Prelude.{find, option_map, IsPermutation, slice_index_or}
use Rattle.std.specs.Option.{option_and_then}
use Rattle.std.specs.List.{AllZip}
use Rattle.std.specs.List.Sorted.{IsStrictlySortedBy}
use Rattle.std.specs.Cmp.{IsTotalOrder}
use Rattle.std.proofs.lemmas.List.{get_or_default}
use Rattle.std.proofs.lemmas.List.Sorted.{Contains-permutation}
use borrow.Author.Count.{below_more}
use Rattle.std.proofs.lemmas.Map.Keys.{sorted_head, sorted_tail, sorted_from_all_adjacent}
use Rattle.ua_types.specs.declared.data_value.DataValue.{DataValue}
use Rattle.server_messages.specs.declared.kept_values.KeptValue.{KeptValue}
use Rattle.sqlite.specs.Order.{Row}
use Rattle.sqlite_rules.specs.Lists.{Has}
use Rattle.sqlite_rules.proofs.ListLemmas.{all_has, has_contained, contains_had}
use Rattle.value_store.specs.Rows.{columns}

module _ {X : Type 0} where
  pub found : (p : X → Bool) (xs : List X) (x : X) → find p xs ≡ Some x → Has xs x × (p x ≡ true)
  found p [] x is = absurd (let e = is in cc)
  found p (y ∷ xs) x is = go (p y) refl is (found p xs x)
    where
      go : (b : Bool) → p y ≡ b → cond b (Some y) (find p xs) ≡ Some x → (find p xs ≡ Some x → Has xs x × (p x ≡ true)) → Has (y ∷ xs) x × (p x ≡ true)
      go true here is later = let same : x ≡ y = (let e = is in cc) in (inl same, ap p same ∙ here)
      go false there is later = let more = later is in (inr more.0, more.1)

  pub unfound : (p : X → Bool) (xs : List X) → find p xs ≡ None → (x : X) → Has xs x → p x ≡ true → ⊥
  unfound p [] is x h passes = absurd h
  unfound p (y ∷ xs) is x h passes = go (p y) refl is h (unfound p xs)
    where
      go : (b : Bool) → p y ≡ b → cond b (Some y) (find p xs) ≡ None → Has (y ∷ xs) x → (find p xs ≡ None → (x : X) → Has xs x → p x ≡ true → ⊥) → ⊥
      go true here is h later = let e = is in cc
      go false there is (inl same) later = true≢false (sym passes ∙ (ap p same ∙ there))
      go false there is (inr h) later = later is x h passes

  pub moved : (xs ys : List X) (x : X) → IsPermutation xs ys → Has xs x → Has ys x
  moved xs ys x same h = has_contained ys x (Contains-permutation xs ys x same (contains_had xs x h))

  -- of two elements of a list that rises, one comes before the other
  pub one_of : (R : X → X → Ordering) (xs : List X) → IsStrictlySortedBy R xs → (k l : X) → Has xs k → Has xs l → (R k l ≡ Less → ⊥) → (R l k ≡ Less → ⊥) → k ≡ l
  one_of R [] rise k l h j not back = absurd h
  one_of R (x ∷ xs) rise k l (inl a) (inl b) not back = a ∙ sym b
  one_of R (x ∷ xs) rise k l (inl a) (inr j) not back = absurd (not (ap (λ y. R y l) a ∙ all_has (λ y. R x y ≡ Less) xs l (sorted_head R x xs rise) j))
  one_of R (x ∷ xs) rise k l (inr h) (inl b) not back = absurd (back (ap (λ y. R y k) b ∙ all_has (λ y. R x y ≡ Less) xs k (sorted_head R x xs rise) h))
  one_of R (x ∷ xs) rise k l (inr h) (inr j) not back = one_of R xs (sorted_tail R x xs rise) k l h j not back

  pub rising : {R : X → X → Ordering} → IsTotalOrder R → (xs : List X) (x : X) → Has xs x → ((i : ℕ) (d : X) → i + 1 < length xs → R (slice_index_or xs i d) (slice_index_or xs (i + 1) d) ≡ Less) → IsStrictlySortedBy R xs
  rising o xs x h each = sorted_from_all_adjacent o xs x (λ i below. each i x below)

module _ {X : Type 0} (R : X → X → Ordering) (xs : List X) (place : ℕ) (a b : X) (low : 1 ≤ place) (high : place < length xs) (first : a ≡ get_or xs (place - 1) a) (second : b ≡ get_or xs place b) (less : R a b ≡ Less) where
  at_place : (d : X) (i : ℕ) → place ≡ i + 1 → R (slice_index_or xs i d) (slice_index_or xs (i + 1) d) ≡ Less
  at_place d i is =
      let before : i ≡ place - 1 = omega arith in
      let x : slice_index_or xs i d ≡ a = ap (λ k. slice_index_or xs k d) before ∙ (get_or_default xs (place - 1) d a (omega arith) ∙ sym first) in
      let y : slice_index_or xs (i + 1) d ≡ b = ap (λ k. slice_index_or xs k d) (sym is) ∙ (get_or_default xs place d b high ∙ sym second) in
      ap (λ u. R u (slice_index_or xs (i + 1) d)) x ∙ (ap (R a) y ∙ less)

  -- one place more
  pub rise_more : ((i : ℕ) (d : X) → i + 1 < place → R (slice_index_or xs i d) (slice_index_or xs (i + 1) d) ≡ Less) → (i : ℕ) (d : X) → i + 1 < place + 1 → R (slice_index_or xs i d) (slice_index_or xs (i + 1) d) ≡ Less
  rise_more was i d below =
      let P : ℕ → Type 0 = λ k. (m : ℕ) → k ≡ m + 1 → R (slice_index_or xs m d) (slice_index_or xs (m + 1) d) ≡ Less in
      below_more P place (λ k lower m is. was m d (omega (arith, lower, is))) (λ m is. at_place d m is) (i + 1) below i refl

module _ {X Y : Type 0} where
  pub has_mapped : (f : X → Y) (xs : List X) (x : X) → Has xs x → Has (map f xs) (f x)
  has_mapped f [] x h = h
  has_mapped f (y ∷ xs) x (inl same) = inl (ap f same)
  has_mapped f (y ∷ xs) x (inr h) = inr (has_mapped f xs x h)

  pub mapped_from : (f : X → Y) (xs : List X) (y : Y) → Has (map f xs) y → (x : X) × Has xs x × (y ≡ f x)
  mapped_from f [] y h = absurd h
  mapped_from f (x ∷ xs) y (inl same) = (x, inl refl, same)
  mapped_from f (x ∷ xs) y (inr h) = let more = mapped_from f xs y h in (more.0, inr more.1, more.2)

  pub partner : (R : X → Y → Type 0) (xs : List X) (ys : List Y) → AllZip R xs ys → (x : X) → Has xs x → (y : Y) × Has ys y × R x y
  partner R [] [] all x h = absurd h
  partner R [] (y ∷ ys) all x h = absurd h
  partner R (z ∷ xs) [] all x h = absurd all
  partner R (z ∷ xs) (y ∷ ys) all x (inl same) = (y, inl refl, subst (λ w. R w y) (sym same) all.0)
  partner R (z ∷ xs) (y ∷ ys) all x (inr h) = let more = partner R xs ys all.1 x h in (more.0, inr more.1, more.2)

  pub partner_back : (R : X → Y → Type 0) (xs : List X) (ys : List Y) → AllZip R xs ys → (y : Y) → Has ys y → (x : X) × Has xs x × R x y
  partner_back R [] [] all y h = absurd h
  partner_back R [] (z ∷ ys) all y h = absurd all
  partner_back R (x ∷ xs) [] all y h = absurd h
  partner_back R (x ∷ xs) (z ∷ ys) all y (inl same) = (x, inl refl, subst (λ w. R x w) (sym same) all.0)
  partner_back R (x ∷ xs) (z ∷ ys) all y (inr h) = let more = partner_back R xs ys all.1 y h in (more.0, inr more.1, more.2)

  pub zip_push : (R : X → Y → Type 0) (xs : List X) (ys : List Y) (x : X) (y : Y) → AllZip R xs ys → R x y → AllZip R (xs ++ x ∷ []) (ys ++ y ∷ [])
  zip_push R [] [] x y all one = (one, tt)
  zip_push R [] (z ∷ ys) x y all one = absurd all
  zip_push R (w ∷ xs) [] x y all one = absurd all
  zip_push R (w ∷ xs) (z ∷ ys) x y all one = (all.0, zip_push R xs ys x y all.1 one)

-- the value that is found among those that were read back is what the row that is found in the file says
module _ (file : List Row) (kept : List KeptValue) (test : Row → Bool) (said : Row → Option DataValue) (pick : KeptValue → Bool) (readable : Bool)
    (to : (f : Row) → Has file f → test f ≡ true → (k : KeptValue) × Has kept k × (said (columns f) ≡ Some k.value) × (readable ≡ true → pick k ≡ true))
    (from : (k : KeptValue) → Has kept k → pick k ≡ true → (readable ≡ true) × ((f : Row) × Has file f × (test f ≡ true)))
    (one : (k l : KeptValue) → Has kept k → Has kept l → pick k ≡ true → pick l ≡ true → k ≡ l) where
  pub looks_up : option_map (λ k. k.value) (find pick kept) ≡ cond readable (option_and_then said (option_map columns (find test file))) None
  looks_up = go (find test file) refl (find pick kept) refl readable refl
    where
      go : (o : Option Row) → find test file ≡ o → (q : Option KeptValue) → find pick kept ≡ q → (r : Bool) → readable ≡ r → option_map (λ k. k.value) q ≡ cond r (option_and_then said (option_map columns o)) None
      go None missing None none true is = refl
      go None missing None none false is = refl
      go None missing (Some k) some r is =
          let k_is = found pick kept k some in
          let f = (from k k_is.0 k_is.1).1 in
          absurd (unfound test file missing f.0 f.1 f.2)
      go (Some f) there None none true is =
          let f_is = found test file f there in
          let k = to f f_is.0 f_is.1 in
          absurd (unfound pick kept none k.0 k.1 (k.3 is))
      go (Some f) there None none false is = refl
      go (Some f) there (Some k) some true is =
          let f_is = found test file f there in
          let k_is = found pick kept k some in
          let l = to f f_is.0 f_is.1 in
          ap (λ x. Some x.value) (one k l.0 k_is.0 l.1 k_is.1 (l.3 is)) ∙ sym l.2
      go (Some f) there (Some k) some false is =
          let k_is = found pick kept k some in
          absurd (true≢false (sym (from k k_is.0 k_is.1).0 ∙ is))
