-- A chain of HasSubtype references can be made no longer than the list of references, so the test decides it.
use Rattle.std.proofs.Common.{◌≡◌, ℕ, zero, suc, ◌<◌, ◌≤◌, Bool, true, false, not, ◌&&◌, ◌||◌, List, [], ◌∷◌, length, get_or, filter, ◌⊎◌, inl, inr, refl, ap, sym, subst, ◌∙◌, arith}
use Rattle.std.specs.List.{list_any, Contains}
use Rattle.std.proofs.lemmas.Bool.{and_parts, or_cases, cases_Bool, false≢true}
use Rattle.ua_types.specs.declared.node_id.NodeId.{NodeId}
use Rattle.ua_types.specs.NodeIdOrder.{same_id}
use Rattle.ua_types.proofs.SameIds.{same_id_true, same_id_itself}
use Rattle.ua_space.specs.declared.triple.Triple.{Triple}
use Rattle.ua_space.specs.Subtypes.{has_subtype, is_subtyping, Chain, IsSubtype, leads_to, reaches}

-- an element, by recursion on the list
abbrev pub Has : List Triple → Triple → Type 0
Has [] t = ⊥
Has (x ∷ xs) t = (x ≡ t) ⊎ Has xs t

pub has_from_contains : (xs : List Triple) (t : Triple) (k : ℕ) → k < length xs → get_or xs k t ≡ t → Has xs t
has_from_contains [] t k lt e = absurd (omega arith)
has_from_contains (x ∷ xs) t zero lt e = inl e
has_from_contains (x ∷ xs) t (suc k) lt e = inr (has_from_contains xs t k (omega arith) e)

pub contains_from_has : (xs : List Triple) (t : Triple) → Has xs t → Contains xs t
contains_from_has [] t h = absurd h
contains_from_has (x ∷ xs) t (inl e) = (0, omega arith, e)
contains_from_has (x ∷ xs) t (inr h) = let c = contains_from_has xs t h in (suc c.0, omega (arith, c.1), c.2)

-- chains, by the references that they follow
abbrev pub Walk : List Triple → ℕ → NodeId → NodeId → Type 0
Walk ts zero lower upper = lower ≡ upper
Walk ts (suc n) lower upper = (t : Triple) × Has ts t × (leads_to lower t ≡ true) × Walk ts n t.source upper

leads : (lower : NodeId) (t : Triple) → t.reference_type ≡ has_subtype → t.target ≡ lower → leads_to lower t ≡ true
leads lower t kind target = rw (kind, target, same_id_itself has_subtype, same_id_itself lower) refl

walk_from_chain : (ts : List Triple) (n : ℕ) (lower upper : NodeId) → Chain ts n lower upper → Walk ts n lower upper
walk_from_chain ts zero lower upper c = c
walk_from_chain ts (suc n) lower upper c =
    let t = c.1.0 in
    let P : NodeId → Type 0 = λ m. Walk ts n m upper in
    (t, has_from_contains ts t c.1.1.0 c.1.1.1 c.1.1.2, leads lower t c.1.3 c.1.4, subst P (sym c.1.2) (walk_from_chain ts n c.0 upper c.2))

chain_from_walk : (ts : List Triple) (n : ℕ) (lower upper : NodeId) → Walk ts n lower upper → Chain ts n lower upper
chain_from_walk ts zero lower upper w = w
chain_from_walk ts (suc n) lower upper w =
    let t = w.0 in
    let ends = and_parts (is_subtyping t) (same_id t.target lower) w.2 in
    (t.source, (t, contains_from_has ts t w.1, refl, same_id_true t.reference_type has_subtype ends.0, same_id_true t.target lower ends.1), chain_from_walk ts n t.source upper w.3)

-- the references that don't lead down to this type
abbrev others : NodeId → List Triple → List Triple
others lower ts = filter (λ t. not (same_id t.target lower)) ts

kept : (lower : NodeId) (ts : List Triple) (t : Triple) → same_id t.target lower ≡ false → Has ts t → Has (others lower ts) t
kept lower [] t other h = absurd h
kept lower (x ∷ xs) t other (inl e) =
    let test : same_id x.target lower ≡ false = ap (λ (y : Triple). same_id y.target lower) e ∙ other in
    rw test (inl e)
kept lower (x ∷ xs) t other (inr h) =
    elim (cases_Bool (same_id x.target lower)) [
      | inl same ↦ rw same (kept lower xs t other h)
      | inr apart ↦ rw apart (inr (kept lower xs t other h))
    ]

was_there : (lower : NodeId) (ts : List Triple) (t : Triple) → Has (others lower ts) t → Has ts t
was_there lower [] t h = absurd h
was_there lower (x ∷ xs) t h =
    elim (cases_Bool (same_id x.target lower)) [
      | inl same ↦ inr (was_there lower xs t (rw same at h))
      | inr apart ↦ elim (let g : (x ≡ t) ⊎ Has (others lower xs) t = rw apart at h in g) [ inl e ↦ inl e | inr later ↦ inr (was_there lower xs t later) ]
    ]

no_longer : (lower : NodeId) (ts : List Triple) → length (others lower ts) ≤ length ts
no_longer lower [] = omega arith
no_longer lower (x ∷ xs) =
    let ih = no_longer lower xs in
    elim (cases_Bool (same_id x.target lower)) [ inl same ↦ rw same (omega arith) | inr apart ↦ rw apart (omega arith) ]

shorter : (lower : NodeId) (ts : List Triple) (t : Triple) → same_id t.target lower ≡ true → Has ts t → length (others lower ts) < length ts
shorter lower [] t same h = absurd h
shorter lower (x ∷ xs) t same (inl e) =
    let test : same_id x.target lower ≡ true = ap (λ (y : Triple). same_id y.target lower) e ∙ same in
    let ih = no_longer lower xs in
    rw test (omega arith)
shorter lower (x ∷ xs) t same (inr h) =
    let ih = shorter lower xs t same h in
    elim (cases_Bool (same_id x.target lower)) [ inl here ↦ rw here (omega arith) | inr apart ↦ rw apart (omega arith) ]

widen : (lower : NodeId) (ts : List Triple) (n : ℕ) (from upper : NodeId) → Walk (others lower ts) n from upper → Walk ts n from upper
widen lower ts zero from upper w = w
widen lower ts (suc n) from upper w = (w.0, was_there lower ts _ w.1, w.2, widen lower ts n w.0.source upper w.3)

-- a chain never leads down to this type, or a part of it starts there
split : (lower : NodeId) (ts : List Triple) (n : ℕ) (from upper : NodeId) → Walk ts n from upper
    → Walk (others lower ts) n from upper ⊎ ((m : ℕ) × (m ≤ n) × Walk ts m lower upper)
split lower ts zero from upper w = inl w
split lower ts (suc n) from upper w =
    let ends = and_parts (is_subtyping w.0) (same_id w.0.target from) w.2 in
    elim (cases_Bool (same_id w.0.target lower)) [
      | inl same ↦ inr (suc n, omega arith, let P : NodeId → Type 0 = λ x. Walk ts (suc n) x upper in subst P (sym (same_id_true w.0.target from ends.1) ∙ same_id_true w.0.target lower same) w)
      | inr apart ↦ elim (split lower ts n w.0.source upper w.3) [
        | inl rest ↦ inl (w.0, kept lower ts _ apart w.1, w.2, rest)
        | inr r ↦ inr (r.0, omega (arith, r.1), r.2)
      ]
    ]

shorten : (k : ℕ) (ts : List Triple) (n : ℕ) (lower upper : NodeId) → n ≤ k → Walk ts n lower upper → (m : ℕ) × (m ≤ length ts) × Walk ts m lower upper
shorten k ts zero lower upper le w = (0, omega arith, w)
shorten zero ts (suc n) lower upper le w = absurd (omega arith)
shorten (suc k) ts (suc n) lower upper le w =
    elim (split lower ts n w.0.source upper w.3) [
      | inl rest ↦
          let r = shorten k (others lower ts) n w.0.source upper (omega arith) rest in
          let ends = and_parts (is_subtyping w.0) (same_id w.0.target lower) w.2 in
          let fewer = shorter lower ts w.0 ends.1 w.1 in
          (suc r.0, omega (arith, r.1, fewer), (w.0, w.1, w.2, widen lower ts r.0 w.0.source upper r.2))
      | inr r ↦ shorten k ts r.0 lower upper (omega (arith, r.1)) r.2
    ]

pub any_has : (p : Triple → Bool) (ts : List Triple) (t : Triple) → Has ts t → p t ≡ true → list_any p ts ≡ true
any_has p [] t h pass = absurd h
any_has p (x ∷ xs) t (inl e) pass = rw (ap p e ∙ pass) refl
any_has p (x ∷ xs) t (inr h) pass = rw (any_has p xs t h pass) (elim (p x) as (λ b. (b || true) ≡ true) [ true ↦ refl | false ↦ refl ])

pub has_any : (p : Triple → Bool) (ts : List Triple) → list_any p ts ≡ true → (t : Triple) × Has ts t × (p t ≡ true)
has_any p [] h = absurd (false≢true h)
has_any p (x ∷ xs) h =
    elim (or_cases (p x) (list_any p xs) h) [
      | inl here ↦ (x, inl refl, here)
      | inr later ↦ let r = has_any p xs later in (r.0, inr r.1, r.2)
    ]

found : (ts : List Triple) (k m : ℕ) (lower upper : NodeId) → m ≤ k → Walk ts m lower upper → reaches ts k lower upper ≡ true
unfolding reaches
found ts zero zero lower upper le w = let P : NodeId → Type 0 = λ x. same_id lower x ≡ true in subst P w (same_id_itself lower)
found ts (suc k) zero lower upper le w = let same : same_id lower upper ≡ true = let P : NodeId → Type 0 = λ x. same_id lower x ≡ true in subst P w (same_id_itself lower) in rw same refl
found ts zero (suc m) lower upper le w = absurd (omega arith)
found ts (suc k) (suc m) lower upper le w =
    let up = found ts k m w.0.source upper (omega arith) w.3 in
    let pass : (leads_to lower w.0 && reaches ts k w.0.source upper) ≡ true = rw (w.2, up) refl in
    rw (any_has (λ t. leads_to lower t && reaches ts k t.source upper) ts w.0 w.1 pass) (elim (same_id lower upper) as (λ b. (b || true) ≡ true) [ true ↦ refl | false ↦ refl ])

walked : (ts : List Triple) (k : ℕ) (lower upper : NodeId) → reaches ts k lower upper ≡ true → (m : ℕ) × Walk ts m lower upper
unfolding reaches
walked ts zero lower upper h = (0, same_id_true lower upper h)
walked ts (suc k) lower upper h =
    elim (or_cases (same_id lower upper) (list_any (λ t. leads_to lower t && reaches ts k t.source upper) ts) h) [
      | inl same ↦ (0, same_id_true lower upper same)
      | inr above ↦
          let r = has_any (λ t. leads_to lower t && reaches ts k t.source upper) ts above in
          let parts = and_parts (leads_to lower r.0) (reaches ts k r.0.source upper) r.2 in
          let up = walked ts k r.0.source upper parts.1 in
          (suc up.0, (r.0, r.1, parts.0, up.1))
    ]

-- the test is true exactly where there is a walk
pub walk_found : (ts : List Triple) (n : ℕ) (lower upper : NodeId) → Walk ts n lower upper → reaches ts (length ts) lower upper ≡ true
walk_found ts n lower upper w =
    let r = shorten n ts n lower upper (omega arith) w in
    found ts (length ts) r.0 lower upper r.1 r.2

pub walk_taken : (ts : List Triple) (lower upper : NodeId) → reaches ts (length ts) lower upper ≡ true → (m : ℕ) × Walk ts m lower upper
walk_taken ts lower upper h = walked ts (length ts) lower upper h

-- and where there is a chain
pub subtype_found : (ts : List Triple) (lower upper : NodeId) → IsSubtype ts lower upper → reaches ts (length ts) lower upper ≡ true
subtype_found ts lower upper s = walk_found ts s.0 lower upper (walk_from_chain ts s.0 lower upper s.1)

pub subtype_walked : (ts : List Triple) (lower upper : NodeId) → reaches ts (length ts) lower upper ≡ true → IsSubtype ts lower upper
subtype_walked ts lower upper h =
    let r = walked ts (length ts) lower upper h in
    (r.0, chain_from_walk ts r.0 lower upper r.1)
