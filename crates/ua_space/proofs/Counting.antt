-- How types get their numbers, and that there are no more of them than nodes.
use Rattle.std.proofs.Common.{◌≡◌, ℕ, zero, suc, ◌+◌, ◌<◌, true, false, cond, List, [], ◌∷◌, ◌++◌, length, get_or, take, Option, Some, None, slice_get, is_some, IsSome, refl, sym, ap, subst, ◌∙◌, ◌⊎◌, inl, inr, arith}
use Rattle.std.proofs.lemmas.Bool.{cases_Bool, false≢true}
use Rattle.std.proofs.lemmas.List.{take_more}
use Rattle.std.proofs.lemmas.List.Elements.{All-append}
use Rattle.std.specs.List.{All}
use Rattle.ua_types.specs.NodeIdOrder.{same_id}
use Rattle.ua_types.specs.declared.node_id.NodeId.{NodeId}
use Rattle.ua_types.proofs.SameIds.{same_id_true, same_id_itself}
use Rattle.ua_space.specs.declared.triple.Triple.{Triple}
use Rattle.ua_space.specs.Numbers.{number_at, AreNumbers, IsSource}
use Rattle.ua_space.specs.Subtypes.{is_subtyping}
use Rattle.ua_space.proofs.Chains.{has_from_contains, any_has}

abbrev pub Numbers : Type 0
Numbers = List (NodeId × ℕ)

pub some_same : {X : Type 0} (x y : X) → Some x ≡ Some y → x ≡ y
some_same x y e = cc

pub not_both : {X : Type 0} (x : X) (o : Option X) → o ≡ Some x → None ≡ o → ⊥
not_both x None some none = absurd cc
not_both x (Some y) some none = absurd cc

-- ---- lists

get_old : {X : Type 0} (xs ys : List X) (n : ℕ) (x : X) → Some x ≡ slice_get xs n → Some x ≡ slice_get (xs ++ ys) n
get_old [] ys n x e = absurd cc
get_old (y ∷ xs) ys zero x e = e
get_old (y ∷ xs) ys (suc n) x e = get_old xs ys n x e

get_last : {X : Type 0} (xs : List X) (x : X) → Some x ≡ slice_get (xs ++ x ∷ []) (length xs)
get_last [] x = refl
get_last (y ∷ xs) x = get_last xs x

get_either : {X : Type 0} (xs : List X) (y x : X) (n : ℕ) → Some x ≡ slice_get (xs ++ y ∷ []) n → (Some x ≡ slice_get xs n) ⊎ ((n ≡ length xs) × (x ≡ y))
get_either [] y x zero e = inr (refl, some_same x y e)
get_either [] y x (suc n) e = absurd cc
get_either (z ∷ xs) y x zero e = inl e
get_either (z ∷ xs) y x (suc n) e = elim (get_either xs y x n e) [ inl old ↦ inl old | inr last ↦ inr (ap suc last.0, last.1) ]

-- ---- one number more

abbrev pub AddedAt : Numbers → Numbers → NodeId → ℕ → Type 0
AddedAt old new id n = (q : NodeId) → number_at new q ≡ cond (same_id id q) (Some n) (number_at old q)

at_same : (old new : Numbers) (id q : NodeId) (n : ℕ) → AddedAt old new id n → same_id id q ≡ true → number_at new q ≡ Some n
at_same old new id q n added same = added q ∙ ap (λ b. cond b (Some n) (number_at old q)) same

at_other : (old new : Numbers) (id q : NodeId) (n : ℕ) → AddedAt old new id n → same_id id q ≡ false → number_at new q ≡ number_at old q
at_other old new id q n added apart = added q ∙ ap (λ b. cond b (Some n) (number_at old q)) apart

had_none : (old : Numbers) (id q : NodeId) (n : ℕ) → None ≡ number_at old id → same_id id q ≡ true → number_at old q ≡ Some n → ⊥
had_none old id q n none same had =
    let P : NodeId → Type 0 = λ k. None ≡ number_at old k in
    not_both n (number_at old q) had (subst P (same_id_true id q same) none)

pub numbers_more : (types : List NodeId) (old new : Numbers) (id : NodeId) → AreNumbers types old → None ≡ number_at old id → AddedAt old new id (length types) → AreNumbers (types ++ id ∷ []) new
numbers_more types old new id was none added = record {
  known = λ q n e.
      elim (cases_Bool (same_id id q)) [
        | inl same ↦
            let P : ℕ → Type 0 = λ m. Some q ≡ slice_get (types ++ id ∷ []) m in
            let Q : NodeId → Type 0 = λ k. Some k ≡ slice_get (types ++ id ∷ []) (length types) in
            subst P (some_same (length types) n (sym (at_same old new id q (length types) added same) ∙ e)) (subst Q (same_id_true id q same) (get_last types id))
        | inr apart ↦ get_old types (id ∷ []) n q (was.known q n (sym (at_other old new id q (length types) added apart) ∙ e))
      ];
  own = λ q n e.
      elim (get_either types id q n e) [
        | inl before ↦
            let had = was.own q n before in
            elim (cases_Bool (same_id id q)) [
              | inl same ↦ absurd (had_none old id q n none same had)
              | inr apart ↦ at_other old new id q (length types) added apart ∙ had
            ]
        | inr last ↦
            let same : same_id id q ≡ true = let P : NodeId → Type 0 = λ k. same_id id k ≡ true in subst P (sym last.1) (same_id_itself id) in
            at_same old new id q (length types) added same ∙ ap Some (sym last.0)
      ];
}

pub still_numbered : (old new : Numbers) (id q : NodeId) (n m : ℕ) → None ≡ number_at old id → AddedAt old new id m → number_at old q ≡ Some n → number_at new q ≡ Some n
still_numbered old new id q n m none added had =
    elim (cases_Bool (same_id id q)) [
      | inl same ↦ absurd (had_none old id q n none same had)
      | inr apart ↦ at_other old new id q m added apart ∙ had
    ]

pub only_added : (old new : Numbers) (id q : NodeId) (n m : ℕ) → AddedAt old new id m → number_at new q ≡ Some n → (number_at old q ≡ Some n) ⊎ (q ≡ id)
only_added old new id q n m added has =
    elim (cases_Bool (same_id id q)) [
      | inl same ↦ inr (sym (same_id_true id q same))
      | inr apart ↦ inl (sym (at_other old new id q m added apart) ∙ has)
    ]

pub now_numbered : (old new : Numbers) (id : NodeId) (m : ℕ) → AddedAt old new id m → IsSome (number_at new id)
now_numbered old new id m added = rw (at_same old new id id m added (same_id_itself id)) refl

-- ---- the sources of references

pub is_source : (ts : List Triple) (i : ℕ) (t : Triple) → i < length ts → t ≡ get_or ts i t → IsSource ts t.source
is_source ts i t lt item = any_has (λ s. same_id s.source t.source) ts t (has_from_contains ts t i lt (sym item)) (same_id_itself t.source)

pub none_there : {X : Type 0} (o : Option X) → is_some o ≡ false → None ≡ o
none_there None e = refl
none_there (Some x) e = absurd (false≢true (sym e))

-- an insertion under a copy of the id
pub added_copy : (old new : Numbers) (id copied : NodeId) (n : ℕ) → copied ≡ id → ((q : NodeId) → number_at new q ≡ cond (same_id copied q) (Some n) (number_at old q)) → AddedAt old new id n
added_copy old new id copied n copy added = let P : NodeId → Type 0 = λ k. AddedAt old new k n in subst P copy added

-- ---- the references gone through

abbrev pub Sources : List Triple → Numbers → Type 0
Sources ts numbers = (id : NodeId) (n : ℕ) → number_at numbers id ≡ Some n → IsSource ts id

abbrev pub Has_number : Numbers → Triple → Type 0
Has_number numbers t = is_subtyping t ≡ true → IsSome (number_at numbers t.source)

pub sources_more : (ts : List Triple) (old new : Numbers) (id : NodeId) → Sources ts old → ((q : NodeId) (n : ℕ) → number_at new q ≡ Some n → (number_at old q ≡ Some n) ⊎ (q ≡ id)) → IsSource ts id → Sources ts new
sources_more ts old new id were only here = λ q n has. elim (only q n has) [ inl before ↦ were q n before | inr is ↦ subst (IsSource ts) (sym is) here ]

only_one : (P : Triple → Type 0) (t d : Triple) (k : ℕ) → P t → k < length (t ∷ []) → P (get_or (t ∷ []) k d)
only_one P t d zero h lt = h
only_one P t d (suc k) h lt = absurd (omega arith)

pub some_number : (o : Option ℕ) → IsSome o → (n : ℕ) × (o ≡ Some n)
some_number None h = absurd cc
some_number (Some n) h = (n, refl)

still_has : (old new : Numbers) (t : Triple) → ((q : NodeId) (n : ℕ) → number_at old q ≡ Some n → number_at new q ≡ Some n) → Has_number old t → Has_number new t
still_has old new t kept had = λ kind. let n = some_number (number_at old t.source) (had kind) in rw (kept t.source n.0 n.1) refl

pub complete_more : (ts : List Triple) (i : ℕ) (t : Triple) (old new : Numbers) → i < length ts → t ≡ get_or ts i t → All (Has_number old) (take i ts)
    → ((q : NodeId) (n : ℕ) → number_at old q ≡ Some n → number_at new q ≡ Some n) → Has_number new t → All (Has_number new) (take (i + 1) ts)
complete_more ts i t old new lt item all kept here =
    rw (take_more ts i t lt, ← item)
    (All-append (Has_number new) (take i ts) (t ∷ []) (λ k d h. still_has old new (get_or (take i ts) k d) kept (all k d h)) (λ k d h. only_one (Has_number new) t d k here h))
