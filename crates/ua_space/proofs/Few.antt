-- There are no more types with a number than nodes.
use Rattle.std.proofs.Common.{◌≡◌, ℕ, suc, ◌+◌, ◌≤◌, ◌<◌, true, false, not, List, [], ◌∷◌, length, filter, Option, Some, slice_get, is_some, Ok, ◌&&◌, refl, sym, ap, subst, ◌∙◌, inl, inr, arith}
use Rattle.std.proofs.lemmas.Bool.{and_parts, cases_Bool, false≢true}
use Rattle.std.specs.BTreeMap.{is_at}
use Rattle.ua_types.specs.NodeIdOrder.{id_cmp, same_id}
use Rattle.ua_types.specs.declared.node_id.NodeId.{NodeId}
use Rattle.ua_types.specs.contracts.node_id.NodeIdOrd.TheImpl.Laws.{matches_eq-law}
use Rattle.ua_types.proofs.SameIds.{same_id_true}
use Rattle.ua_space.specs.declared.node.Node.{Node}
use Rattle.ua_space.specs.declared.triple.Triple.{Triple}
use Rattle.ua_space.specs.Build.{within_limits, all_named, linked}
use Rattle.ua_space.specs.Nodes.{Nodes, SpaceState, node_at}
use Rattle.ua_space.specs.Spaces.{most_nodes, fits, is_reference_type, IsSpace}
use Rattle.ua_space.specs.Numbers.{number_at, AreNumbered}
use Rattle.ua_space.proofs.Chains.{Has, has_any, contains_from_has}
use Rattle.ua_space.proofs.Counting.{Numbers, some_same}
use Rattle.ua_space.proofs.Soundness.{tied, within, all_sound, linked_fits}

-- no id is there twice
abbrev Apart : List NodeId → Type 0
Apart [] = Unit {0}
Apart (x ∷ xs) = ((n : ℕ) (y : NodeId) → Some y ≡ slice_get xs n → same_id x y ≡ false) × Apart xs

apart_from : (xs : List NodeId) (number : NodeId → Option ℕ) (k : ℕ) → ((n : ℕ) (y : NodeId) → Some y ≡ slice_get xs n → number y ≡ Some (n + k)) → Apart xs
apart_from [] number k own = tt
apart_from (x ∷ xs) number k own = (
  λ n y e.
      elim (cases_Bool (same_id x y)) [
        | inl same ↦
            let P : NodeId → Type 0 = λ z. number z ≡ Some (suc n + k) in
            let here : number x ≡ Some (suc n + k) = subst P (sym (same_id_true x y same)) (own (suc n) y e) in
            let twice : 0 + k ≡ suc n + k = some_same (0 + k) (suc n + k) (sym (own 0 x refl) ∙ here) in
            absurd (omega arith)
        | inr apart ↦ apart
      ],
  apart_from xs number (suc k) (λ n y e. own (suc n) y e ∙ ap Some (let same : suc n + k ≡ n + suc k = omega arith in same)),
)

-- the nodes under other ids
abbrev without : NodeId → Nodes → Nodes
without x nodes = filter (λ e. not (same_id x e.0)) nodes

still_there : (x y : NodeId) (nodes : Nodes) → same_id x y ≡ false → is_some (node_at y nodes) ≡ true → is_some (node_at y (without x nodes)) ≡ true
still_there x y [] apart there = there
still_there x y (e ∷ es) apart there =
    elim (cases_Bool (is_at (id_cmp y) e.0)) [
      | inl here ↦
          let P : NodeId → Type 0 = λ k. same_id x k ≡ false in
          let kept : same_id x e.0 ≡ false = subst P (tied y e.0 here) apart in
          rw (kept, here) refl
      | inr other ↦
          let later : is_some (node_at y es) ≡ true = rw other at there in
          elim (cases_Bool (same_id x e.0)) [
            | inl gone ↦ rw gone (still_there x y es apart later)
            | inr kept ↦ rw (kept, other) (still_there x y es apart later)
          ]
    ]

no_more_without : (x : NodeId) (nodes : Nodes) → length (without x nodes) ≤ length nodes
no_more_without x [] = omega arith
no_more_without x (e ∷ es) =
    let rest = no_more_without x es in
    elim (cases_Bool (same_id x e.0)) [ inl gone ↦ rw gone (omega arith) | inr kept ↦ rw kept (omega arith) ]

fewer_without : (x : NodeId) (nodes : Nodes) → is_some (node_at x nodes) ≡ true → length (without x nodes) < length nodes
fewer_without x [] there = absurd (false≢true there)
fewer_without x (e ∷ es) there =
    elim (cases_Bool (is_at (id_cmp x) e.0)) [
      | inl here ↦
          let gone : same_id x e.0 ≡ true = matches_eq-law x e.0 ∙ here in
          let rest = no_more_without x es in
          rw gone (omega arith)
      | inr other ↦
          let kept : same_id x e.0 ≡ false = matches_eq-law x e.0 ∙ other in
          let rest = fewer_without x es (rw other at there) in
          rw kept (omega arith)
    ]

few : (xs : List NodeId) (nodes : Nodes) → Apart xs → ((n : ℕ) (y : NodeId) → Some y ≡ slice_get xs n → is_some (node_at y nodes) ≡ true) → length xs ≤ length nodes
few [] nodes apart there = omega arith
few (x ∷ xs) nodes apart there =
    let rest = few xs (without x nodes) apart.1 (λ n y e. still_there x y nodes (apart.0 n y e) (there (suc n) y e)) in
    let fewer = fewer_without x nodes (there 0 x refl) in
    omega arith

pub few_types : (ts : List Triple) (types : List NodeId) (numbers : Numbers) (nodes : Nodes) → AreNumbered ts types numbers → ((t : Triple) → Has ts t → is_some (node_at t.source nodes) ≡ true) → length types ≤ length nodes
few_types ts types numbers nodes are ends =
    few types nodes (apart_from types (number_at numbers) 0 (λ n y e. are.each.own y n e ∙ ap Some (let same : n ≡ n + 0 = omega arith in same)))
    (λ n y e.
    let source = has_any (λ t. same_id t.source y) ts (are.sources y n (are.each.own y n e)) in
    let P : NodeId → Type 0 = λ id. is_some (node_at id nodes) ≡ true in
    subst P (same_id_true source.0.source y source.2) (ends source.0 source.1))

source_there : (nodes : Nodes) (t : Triple) → fits nodes t ≡ true → is_some (node_at t.source nodes) ≡ true
source_there nodes t h =
    let ends = (and_parts (is_some (node_at t.source nodes) && is_some (node_at t.target nodes)) (is_reference_type (node_at t.reference_type nodes)) h).0 in
    (and_parts (is_some (node_at t.source nodes)) (is_some (node_at t.target nodes)) ends).0

-- in a space
pub few_in_space : (s : SpaceState) (types : List NodeId) (numbers : Numbers) → IsSpace s → AreNumbered s.triples types numbers → length types ≤ most_nodes
few_in_space s types numbers sound are =
    let less = few_types s.triples types numbers s.nodes are (λ t h. source_there s.nodes t (sound.ends t (contains_from_has s.triples t h))) in
    let most = sound.few_nodes in
    omega (arith, less, most)

-- and where one is made
pub few_made : (base nodes : List Node) (made : Nodes) (triples all : List Triple) (types : List NodeId) (numbers : Numbers) → within_limits base nodes triples ≡ Ok tt → all_named base nodes ≡ Ok made → linked made [] all ≡ Ok tt → AreNumbered all types numbers → length types ≤ most_nodes
few_made base nodes made triples all types numbers limits names links are =
    let less = few_types all types numbers made are (λ t h. source_there made t (linked_fits made [] all links t h)) in
    let count = (all_sound base nodes made names).1 in
    let most = (within base nodes triples limits).0 in
    omega (arith, less, count, most)
