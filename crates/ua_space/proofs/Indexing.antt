-- How an index grows, and what it has at the end.
use Rattle.std.proofs.Common.{◌≡◌, ℕ, zero, suc, ◌+◌, ◌≤◌, ◌<◌, Bool, cond, List, [], ◌∷◌, ◌++◌, length, get_or, take, drop, filter, Some, None, slice_get, refl, sym, ap, subst, ◌∙◌, inl, inr, arith, append_assoc}
use Rattle.std.proofs.lemmas.Bool.{cases_Bool}
use Rattle.std.proofs.lemmas.List.{drop_more, take_more}
use Rattle.std.proofs.lemmas.List.{append-nil}
use Rattle.std.proofs.lemmas.List.Elements.{All-append, filter-append}
use Rattle.std.specs.List.{All}
use Rattle.std.specs.BTreeMap.{is_at}
use Rattle.std.specs.Map.{lookup}
use Rattle.ua_types.specs.NodeIdOrder.{id_cmp, same_id}
use Rattle.ua_types.specs.declared.node_id.NodeId.{NodeId}
use Rattle.ua_types.specs.contracts.node_id.NodeIdOrd.TheImpl.Laws.{matches_eq-law}
use Rattle.ua_types.proofs.SameIds.{same_id_true}
use Rattle.ua_space.specs.declared.triple.Triple.{Triple}
use Rattle.ua_space.specs.Indexes.{pick, given, places_at}

-- a place is added under one id
pub added : {V : Type 0} (items : V → List ℕ) (entries new : List (NodeId × V)) (id q : NodeId) (old : List ℕ) (w : V) (i : ℕ)
    → places_at items id entries ≡ old → items w ≡ old ++ i ∷ []
    → lookup (is_at (id_cmp q)) new ≡ cond (is_at (id_cmp id) q) (Some w) (lookup (is_at (id_cmp q)) entries)
    → places_at items q new ≡ cond (same_id id q) (places_at items q entries ++ i ∷ []) (places_at items q entries)
added {V} items entries new id q old w i was grows step =
    let tie = matches_eq-law id q in
    elim (cases_Bool (same_id id q)) [
      | inl same ↦
          let here : lookup (is_at (id_cmp q)) new ≡ Some w = step ∙ ap (λ b. cond b (Some w) (lookup (is_at (id_cmp q)) entries)) (sym tie ∙ same) in
          let P : NodeId → Type 0 = λ x. places_at items x entries ≡ old in
          let before : places_at items q entries ≡ old = subst P (same_id_true id q same) was in
          ap (given items) here ∙ grows ∙ ap (λ xs. xs ++ i ∷ []) (sym before) ∙ ap (λ b. cond b (places_at items q entries ++ i ∷ []) (places_at items q entries)) (sym same)
      | inr apart ↦
          ap (given items) (step ∙ ap (λ b. cond b (Some w) (lookup (is_at (id_cmp q)) entries)) (sym tie ∙ apart)) ∙ ap (λ b. cond b (places_at items q entries ++ i ∷ []) (places_at items q entries)) (sym apart)
    ]

-- a place is added under an id that had none
pub added_first : {V : Type 0} (items : V → List ℕ) (entries before new : List (NodeId × V)) (id copied q : NodeId) (w : V) (i : ℕ)
    → before ≡ entries → copied ≡ id → None ≡ lookup (is_at (id_cmp id)) entries → items w ≡ i ∷ []
    → lookup (is_at (id_cmp q)) new ≡ cond (is_at (id_cmp copied) q) (Some w) (lookup (is_at (id_cmp q)) before)
    → places_at items q new ≡ cond (same_id id q) (places_at items q entries ++ i ∷ []) (places_at items q entries)
added_first {V} items entries before new id copied q w i unchanged copy none grows step =
    let P : NodeId → Type 0 = λ x. lookup (is_at (id_cmp q)) new ≡ cond (is_at (id_cmp x) q) (Some w) (lookup (is_at (id_cmp q)) before) in
    let Q : List (NodeId × V) → Type 0 = λ es. lookup (is_at (id_cmp q)) new ≡ cond (is_at (id_cmp id) q) (Some w) (lookup (is_at (id_cmp q)) es) in
    added items entries new id q [] w i (ap (given items) (sym none)) grows (subst Q unchanged (subst P copy step))

-- ---- picking

pub pick-append : (ts : List Triple) (is js : List ℕ) → pick ts (is ++ js) ≡ pick ts is ++ pick ts js
pick-append ts [] js = refl
pick-append ts (i ∷ is) js = rw (pick-append ts is js) (rw append_assoc refl)

pick_one : (ts : List Triple) (i : ℕ) (t : Triple) → i < length ts → t ≡ get_or ts i t → pick ts (i ∷ []) ≡ t ∷ []
pick_one ts i t lt item = rw (drop_more ts i t lt, ← item) refl

one_below : (n i : ℕ) → i < n → (k d : ℕ) → k < 1 → get_or (i ∷ []) k d < n
one_below n i lt zero d h = lt
one_below n i lt (suc k) d h = absurd (omega arith)

pub All-more : (n : ℕ) (is : List ℕ) (i : ℕ) → i < n → All (λ k. k < n) is → All (λ k. k < n) (is ++ i ∷ [])
All-more n is i lt all = All-append (λ k. k < n) is (i ∷ []) all (one_below n i lt)

-- the index is right for one reference more
pub indexed_more : (ts : List Triple) (i : ℕ) (t : Triple) (p : Triple → Bool) (same : Bool) (is js : List ℕ) → i < length ts → t ≡ get_or ts i t
    → p t ≡ same → js ≡ cond same (is ++ i ∷ []) is
    → (pick ts is ≡ filter p (take i ts)) × All (λ k. k < length ts) is
    → (pick ts js ≡ filter p (take (i + 1) ts)) × All (λ k. k < length ts) js
indexed_more ts i t p same is js lt item test grown so_far =
    let more : filter p (take (i + 1) ts) ≡ filter p (take i ts) ++ filter p (t ∷ []) = rw (take_more ts i t lt, ← item) (filter-append p (take i ts) (t ∷ [])) in
    elim (cases_Bool same) [
      | inl holds ↦
          let here : js ≡ is ++ i ∷ [] = grown ∙ ap (λ b. cond b (is ++ i ∷ []) is) holds in
          let kept : filter p (t ∷ []) ≡ t ∷ [] = rw (test ∙ holds) refl in (
            ap (pick ts) here ∙ pick-append ts is (i ∷ []) ∙ ap (λ xs. xs ++ pick ts (i ∷ [])) so_far.0 ∙ ap (λ xs. filter p (take i ts) ++ xs) (pick_one ts i t lt item ∙ sym kept) ∙ sym more,
            let P : List ℕ → Type 0 = All (λ k. k < length ts) in subst P (sym here) (All-more (length ts) is i lt so_far.1),
          )
      | inr fails ↦
          let here : js ≡ is = grown ∙ ap (λ b. cond b (is ++ i ∷ []) is) fails in
          let gone : filter p (t ∷ []) ≡ [] = rw (test ∙ fails) refl in (
            ap (pick ts) here ∙ so_far.0 ∙ sym (more ∙ ap (λ xs. filter p (take i ts) ++ xs) gone ∙ append-nil (filter p (take i ts))),
            let P : List ℕ → Type 0 = All (λ k. k < length ts) in subst P (sym here) so_far.1,
          )
    ]

-- ---- what is picked

-- one place picks one reference
picked : (ts : List Triple) (i : ℕ) → i < length ts → (t : Triple) × (take 1 (drop i ts) ≡ t ∷ []) × ((d : Triple) → get_or ts i d ≡ t)
picked [] i lt = absurd (omega arith)
picked (x ∷ xs) zero lt = (x, refl, λ d. refl)
picked (x ∷ xs) (suc i) lt = picked xs i (omega arith)

tail_within : (n : ℕ) (i : ℕ) (is : List ℕ) → All (λ k. k < n) (i ∷ is) → All (λ k. k < n) is
tail_within n i is all = λ k d h. all (suc k) d (omega arith)

pub length_pick : (ts : List Triple) (is : List ℕ) → All (λ k. k < length ts) is → length (pick ts is) ≡ length is
length_pick ts [] all = refl
length_pick ts (i ∷ is) all =
    let one = picked ts i (all 0 0 (omega arith)) in
    let rest = length_pick ts is (tail_within (length ts) i is all) in
    rw (one.1, rest) refl

pub pick_some : (ts : List Triple) (is : List ℕ) (k i : ℕ) (t : Triple) → All (λ k. k < length ts) is → k < length is → i ≡ get_or is k i → t ≡ get_or ts i t → Some t ≡ slice_get (pick ts is) k
pick_some ts [] k i t all lt at item = absurd (omega arith)
pick_some ts (j ∷ is) zero i t all lt at item =
    let one = picked ts j (all 0 0 (omega arith)) in
    rw one.1 (ap Some (item ∙ ap (λ n. get_or ts n t) at ∙ one.2 t))
pick_some ts (j ∷ is) (suc k) i t all lt at item =
    let one = picked ts j (all 0 0 (omega arith)) in
    rw one.1 (pick_some ts is k i t (tail_within (length ts) j is all) (omega arith) at item)

pub pick_none : (ts : List Triple) (is : List ℕ) (k : ℕ) → All (λ k. k < length ts) is → length is ≤ k → None ≡ slice_get (pick ts is) k
pick_none ts [] k all le = refl
pick_none ts (j ∷ is) zero all le = absurd (omega arith)
pick_none ts (j ∷ is) (suc k) all le =
    let one = picked ts j (all 0 0 (omega arith)) in
    rw one.1 (pick_none ts is k (tail_within (length ts) j is all) (omega arith))
