-- The place of a node in the order of ids, and what stands there.
use Rattle.std.proofs.Common.{◌≡◌, ℕ, zero, suc, ◌<◌, true, false, [], ◌∷◌, length, get_or, Option, Some, None, option_map, slice_get, refl, sym, ap, subst, ◌∙◌, inl, inr, arith}
use Rattle.std.proofs.lemmas.Bool.{cases_Bool}
use Rattle.std.specs.BTreeMap.{is_at}
use Rattle.std.specs.Map.{set_value}
use Rattle.ua_types.specs.NodeIdOrder.{id_cmp}
use Rattle.ua_types.specs.declared.node_id.NodeId.{NodeId}
use Rattle.ua_types.specs.declared.data_value.DataValue.{DataValue}
use Rattle.ua_space.specs.declared.node.Node.{Node}
use Rattle.ua_space.specs.Nodes.{Nodes, node_at}
use Rattle.ua_space.specs.NodePlaces.{place_of, takes_in, with_value_in}
use Rattle.ua_space.specs.Values.{holding, put, takes_at, variable_of, variable_takes, with_value}

-- a place behind another entry
after : (found : Option ℕ) (place : ℕ) → option_map suc found ≡ Some place → (before : ℕ) × (found ≡ Some before) × (suc before ≡ place)
after None place is = absurd cc
after (Some before) place is = (before, refl, cc)

no_place : (found : Option ℕ) → option_map suc found ≡ None → found ≡ None
no_place None none = refl
no_place (Some before) none = absurd cc

-- where there is no node, it has no place
pub nowhere : (id : NodeId) (es : Nodes) → node_at id es ≡ None → place_of id es ≡ None
nowhere id [] none = refl
nowhere id (e ∷ es) none =
    elim (cases_Bool (is_at (id_cmp id) e.0)) [
      | inl here ↦ absurd (let some : Some e.1 ≡ None = rw here at none in cc)
      | inr apart ↦ let later : node_at id es ≡ None = rw apart at none in rw apart (ap (option_map suc) (nowhere id es later))
    ]

-- and a node has one
pub nobody : (id : NodeId) (es : Nodes) → place_of id es ≡ None → node_at id es ≡ None
nobody id [] none = refl
nobody id (e ∷ es) none =
    elim (cases_Bool (is_at (id_cmp id) e.0)) [
      | inl here ↦ absurd (let some : Some zero ≡ None = rw here at none in cc)
      | inr apart ↦ let later : option_map suc (place_of id es) ≡ None = rw apart at none in rw apart (nobody id es (no_place (place_of id es) later))
    ]

-- what stands at the place of a node is the node
pub node_there : (id : NodeId) (es : Nodes) (place : ℕ) → place_of id es ≡ Some place → option_map (λ (e : NodeId × Node). e.1) (slice_get es place) ≡ node_at id es
node_there id [] place is = absurd cc
node_there id (e ∷ es) place is =
    let P : ℕ → Type 0 = λ p. option_map (λ (e : NodeId × Node). e.1) (slice_get (e ∷ es) p) ≡ node_at id (e ∷ es) in
    elim (cases_Bool (is_at (id_cmp id) e.0)) [
      | inl here ↦ let first : Some zero ≡ Some place = rw here at is in let same : zero ≡ place = cc in subst P same (rw here refl)
      | inr apart ↦
          let later : option_map suc (place_of id es) ≡ Some place = rw apart at is in
          let from = after (place_of id es) place later in
          subst P from.2 (rw apart (node_there id es from.0 from.1))
    ]

-- so what it takes is what the node takes
pub takes_there : (id : NodeId) (es : Nodes) (place : ℕ) (value : DataValue) → place_of id es ≡ Some place → takes_at id value es ≡ true → takes_in (slice_get es place) value ≡ true
takes_there id es place value is takes = by (slice_get es place) (node_there id es place is)
  where
    by : (o : Option (NodeId × Node)) → option_map (λ (e : NodeId × Node). e.1) o ≡ node_at id es → takes_in o value ≡ true
    by None none = subst (λ (n : Option Node). variable_takes (variable_of n) value.value ≡ true) (sym none) takes
    by (Some entry) some = subst (λ (n : Option Node). variable_takes (variable_of n) value.value ≡ true) (sym some) takes

valued : (id : NodeId) (value : DataValue) (es : Nodes) (place : ℕ) (node : Node) → place_of id es ≡ Some place → node_at id es ≡ Some node
    → with_value_in place value es ≡ set_value (is_at (id_cmp id)) es (record node { details = holding value node.details })
valued id value [] place node is found = absurd cc
valued id value (e ∷ es) place node is found =
    let set = λ (n : Node). record n { details = holding value n.details } in
    let P : ℕ → Type 0 = λ p. with_value_in p value (e ∷ es) ≡ set_value (is_at (id_cmp id)) (e ∷ es) (set node) in
    elim (cases_Bool (is_at (id_cmp id) e.0)) [
      | inl here ↦
          let first : Some zero ≡ Some place = rw here at is in
          let same : zero ≡ place = cc in
          let own : Some e.1 ≡ Some node = rw here at found in
          let node_is : e.1 ≡ node = cc in
          subst P same (rw here (ap (λ (n : Node). (e.0, set n) ∷ es) node_is))
      | inr apart ↦
          let later : option_map suc (place_of id es) ≡ Some place = rw apart at is in
          let from = after (place_of id es) place later in
          let rest : node_at id es ≡ Some node = rw apart at found in
          subst P from.2 (rw apart (ap (λ (xs : Nodes). e ∷ xs) (valued id value es from.0 node from.1 rest)))
    ]

-- another value at the place of a node is another value of the node
pub valued_there : (id : NodeId) (value : DataValue) (es : Nodes) (place : ℕ) → place_of id es ≡ Some place → with_value_in place value es ≡ with_value id value es
valued_there id value es place is = by (node_at id es) refl
  where
    by : (o : Option Node) → o ≡ node_at id es → with_value_in place value es ≡ put id value es o
    by None none = absurd (let no : Some place ≡ None = sym is ∙ nowhere id es (sym none) in cc)
    by (Some node) some = valued id value es place node is (sym some)

-- the first entry with an id is at its place
pub first_place : (id : NodeId) (es : Nodes) (place : ℕ) → place < length es → ((j : ℕ) (d : NodeId × Node) → j < place → is_at (id_cmp id) (get_or es j d).0 ≡ false) → ((d : NodeId × Node) → is_at (id_cmp id) (get_or es place d).0 ≡ true)
    → place_of id es ≡ Some place
first_place id [] place lt before there = absurd (omega arith)
first_place id (e ∷ es) zero lt before there = rw (there e) refl
first_place id (e ∷ es) (suc place) lt before there =
    rw (before 0 e (omega arith)) (ap (option_map suc) (first_place id es place (omega arith) (λ j d lt. before (suc j) d (omega arith)) there))
