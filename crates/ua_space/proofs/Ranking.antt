-- A reference that leads to a higher number lies on no loop, where none leads to a lower one.
use Rattle.std.proofs.Common.{◌≡◌, ℕ, zero, suc, ◌+◌, ◌≤◌, ◌<◌, nat_lt, Bool, true, false, not, ◌||◌, List, [], ◌∷◌, length, get_or, drop, Option, Some, None, refl, sym, ap, ◌∙◌, inl, inr, arith}
use Rattle.std.proofs.lemmas.Bool.{and_parts, cases_Bool, false≢true}
use Rattle.std.proofs.lemmas.List.{drop_more, drop_all}
use Rattle.std.specs.List.{list_all, find}
use borrow.Author.Tests.{ltb-true, ltb-false}
use Rattle.ua_types.specs.NodeIdOrder.{same_id}
use Rattle.ua_types.specs.declared.node_id.NodeId.{NodeId}
use Rattle.ua_types.proofs.SameIds.{same_id_true}
use Rattle.ua_space.specs.declared.triple.Triple.{Triple}
use Rattle.ua_space.specs.Ranks.{keeps_rank, raises_rank}
use Rattle.ua_space.specs.Subtypes.{is_subtyping, reaches, lies_on_loop}
use Rattle.ua_space.proofs.Building.{not_true}
use Rattle.ua_space.proofs.Chains.{Has, Walk, walk_taken}

all_has : (p : Triple → Bool) (ts : List Triple) (t : Triple) → list_all p ts ≡ true → Has ts t → p t ≡ true
all_has p [] t all h = absurd h
all_has p (x ∷ xs) t all (inl e) = ap p (sym e) ∙ (and_parts (p x) (list_all p xs) all).0
all_has p (x ∷ xs) t all (inr h) = all_has p xs t (and_parts (p x) (list_all p xs) all).1 h

not_above : (subtyping : Bool) (m n : ℕ) → subtyping ≡ true → (not subtyping || not (nat_lt m n)) ≡ true → n ≤ m
not_above true m n holds h = ltb-false m n (not_true (nat_lt m n) h)
not_above false m n holds h = absurd (false≢true holds)

walk_keeps : (rank : NodeId → ℕ) (ts : List Triple) → list_all (keeps_rank rank) ts ≡ true → (n : ℕ) (lower upper : NodeId) → Walk ts n lower upper → rank upper ≤ rank lower
walk_keeps rank ts all zero lower upper w = let e = ap rank w in omega arith
walk_keeps rank ts all (suc n) lower upper w =
    let t = w.0 in
    let ends = and_parts (is_subtyping t) (same_id t.target lower) w.2 in
    let step = not_above (is_subtyping t) (rank t.target) (rank t.source) ends.0 (all_has (keeps_rank rank) ts t all w.1) in
    let last = ap rank (same_id_true t.target lower ends.1) in
    let rest = walk_keeps rank ts all n t.source upper w.3 in
    omega arith

pub no_loop_above : (rank : NodeId → ℕ) (ts : List Triple) (t : Triple) → list_all (keeps_rank rank) ts ≡ true → raises_rank rank t ≡ true → lies_on_loop ts t ≡ false
no_loop_above rank ts t all raises =
    elim (cases_Bool (lies_on_loop ts t)) [
      | inl looped ↦
          let w = walk_taken ts t.source t.target (and_parts (is_subtyping t) (reaches ts (length ts) t.source t.target) looped).1 in
          let kept = walk_keeps rank ts all w.0 t.source t.target w.1 in
          let above = ltb-true (rank t.source) (rank t.target) raises in
          absurd (omega arith)
      | inr free ↦ free
    ]

-- ---- the first of a list that passes a test

pub found_here : (p : Triple → Bool) (ts : List Triple) (i : ℕ) (t : Triple) (total : Option Triple) → i < length ts → t ≡ get_or ts i t → p t ≡ true → find p (drop i ts) ≡ total → Some t ≡ total
found_here p ts i t total lt item pass so_far =
    let one : find p (drop i ts) ≡ Some t = rw (drop_more ts i t lt, ← item, pass) refl in
    sym one ∙ so_far

pub not_here : (p : Triple → Bool) (ts : List Triple) (i : ℕ) (t : Triple) (total : Option Triple) → i < length ts → t ≡ get_or ts i t → p t ≡ false → find p (drop i ts) ≡ total → find p (drop (i + 1) ts) ≡ total
not_here p ts i t total lt item fails so_far =
    let one : find p (drop i ts) ≡ find p (drop (i + 1) ts) = rw (drop_more ts i t lt, ← item, fails) refl in
    sym one ∙ so_far

pub nowhere : (p : Triple → Bool) (ts : List Triple) (i : ℕ) (total : Option Triple) → length ts ≤ i → find p (drop i ts) ≡ total → None ≡ total
nowhere p ts i total le so_far =
    let one : find p (drop i ts) ≡ None = rw (drop_all i ts le) refl in
    sym one ∙ so_far
