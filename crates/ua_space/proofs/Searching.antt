-- A binary search among nodes in the order of their ids ends at the node with the id, or where it would stand.
use Rattle.std.proofs.Common.{◌≡◌, ℕ, zero, suc, ◌+◌, ◌<◌, Bool, true, false, List, [], ◌∷◌, length, get_or, set, Option, Some, None, Ok, Err, refl, sym, ap, subst, ◌∙◌, arith}
use Rattle.std.specs.BTreeMap.{is_at}
use Rattle.std.specs.Cmp.{eq_by_cmp_equiv}
use Rattle.std.specs.List.{slice_get}
use Rattle.std.specs.List.Sorted.{IsStrictlySortedBy, IsNonDecreasingBy, IsSortedBy}
use Rattle.std.specs.Map.{keys_of, lookup, set_value}
use Rattle.std.specs.Ordering.{is_eq, is_lt, ordering_index, ordering_reverse}
use Rattle.std.specs.declared.cmp.Ordering.{Ordering}
use Rattle.std.specs.declared.cmp.Ordering.TheVariants.{Less, Equal, Greater}
use Rattle.std.proofs.lemmas.Cmp.{tied_itself}
use Rattle.std.proofs.lemmas.List.{get_or-map}
use Rattle.std.proofs.lemmas.List.Sorted.{searchable_from_sorted}
use Rattle.std.proofs.lemmas.Map.Entries.{lookup_from_place, lookup_at_gap, length-keys_of}
use Rattle.std.proofs.lemmas.Map.Keys.{IsDistinct-from_sorted, Less-from_sorted}
use Rattle.std.proofs.lemmas.Option.{slice_get_within, get_or_from_slice_get}
use Rattle.ua_types.specs.NodeIdOrder.{id_cmp}
use Rattle.ua_types.specs.declared.node_id.NodeId.{NodeId}
use Rattle.ua_types.specs.contracts.node_id.NodeIdOrd.TheImpl.Laws.{total-law}
use Rattle.ua_types.specs.declared.data_value.DataValue.{DataValue}
use Rattle.ua_space.specs.declared.node.Node.{Node}
use Rattle.ua_space.specs.Nodes.{Nodes, node_at}
use Rattle.ua_space.specs.declared.node.NodeDetails.{NodeDetails}
use Rattle.ua_space.specs.declared.node.NodeDetails.TheVariants as details
use Rattle.ua_space.specs.NodePlaces.{IsPlaceOf, place_of, takes_in, with_value_in}
use Rattle.ua_space.specs.Values.{holding, put, takes_at, variable_of, variable_takes, with_value}
use Rattle.ua_space.specs.Variables.{VariableAttributes}
use Rattle.ua_space.proofs.Places.{at_get, get_there, none_past}
use Rattle.ua_space.proofs.Placing.{first_place}
use Rattle.ua_space.proofs.Soundness.{tied}

-- ---- the other way round

not_lower : (o p : Ordering) → o ≡ ordering_reverse p → p ≡ Less → is_lt o ≡ false
not_lower o p turned less = rw (turned, less) refl

higher : (o p : Ordering) → o ≡ ordering_reverse p → p ≡ Less → o ≡ Greater
higher o p turned less = rw (turned, less) refl

lower : (o p : Ordering) → o ≡ ordering_reverse p → p ≡ Greater → o ≡ Less
lower o p turned greater = rw (turned, greater) refl

-- ---- a new value at a place

pub keys_kept : (es : Nodes) (place : ℕ) (value : DataValue) → keys_of (with_value_in place value es) ≡ keys_of es
keys_kept [] place value = refl
keys_kept (e ∷ es) zero value = refl
keys_kept (e ∷ es) (suc place) value = ap (λ (ks : List NodeId). e.0 ∷ ks) (keys_kept es place value)

pub stored : (es : Nodes) (place : ℕ) (value : DataValue) (entry : NodeId × Node) (kept : NodeDetails) → entry ≡ get_or es place entry → kept ≡ holding value entry.1.details
    → set es place (entry.0, record entry.1 { details = kept }) ≡ with_value_in place value es
stored [] place value entry kept is new = refl
stored (e ∷ es) zero value entry kept is new =
    let P : NodeId × Node → Type 0 = λ x. (entry.0, record entry.1 { details = kept }) ∷ es ≡ (x.0, record x.1 { details = holding value x.1.details }) ∷ es in
    subst P is (ap (λ (d : NodeDetails). (entry.0, record entry.1 { details = d }) ∷ es) new)
stored (e ∷ es) (suc place) value entry kept is new = ap (λ (xs : Nodes). e ∷ xs) (stored es place value entry kept is new)

pub no_variable : (value : DataValue) (d : NodeDetails) → ((v : VariableAttributes) → d ≡ details.Variable v → ⊥) → d ≡ holding value d
no_variable value (details.Variable v) other = absurd (other v refl)
no_variable value d other = refl

set_first : (test : NodeId → Bool) (value : DataValue) (es : Nodes) (place : ℕ) (node : Node) → place < length es → ((j : ℕ) (d : NodeId × Node) → j < place → test (get_or es j d).0 ≡ false) → ((d : NodeId × Node) → test (get_or es place d).0 ≡ true)
    → lookup test es ≡ Some node → with_value_in place value es ≡ set_value test es (record node { details = holding value node.details })
set_first test value [] place node lt before there found = absurd (omega arith)
set_first test value (e ∷ es) zero node lt before there found =
    let same : e.1 ≡ node = let some : Some e.1 ≡ Some node = rw (there e) at found in cc in
    let P : Node → Type 0 = λ x. (e.0, record e.1 { details = holding value e.1.details }) ∷ es ≡ (e.0, record x { details = holding value x.details }) ∷ es in
    rw (there e) (subst P same refl)
set_first test value (e ∷ es) (suc place) node lt before there found =
    let past = before 0 e (omega arith) in
    let rest : lookup test es ≡ Some node = rw past at found in
    rw past (ap (λ (xs : Nodes). e ∷ xs) (set_first test value es place node (omega arith) (λ j d lt. before (suc j) d (omega arith)) there rest))

module _ (es : Nodes) (sorted : IsStrictlySortedBy id_cmp (keys_of es)) where
  ascends : IsSortedBy (λ (a b : NodeId × Node). is_lt (id_cmp a.0 b.0)) es
  ascends k d le lt =
      let len = length-keys_of es in
      let key = λ (e : NodeId × Node). e.0 in
      let less = Less-from_sorted id_cmp (keys_of es) k (k + 1) d.0 sorted (omega arith) (omega (arith, len)) in
      let here : get_or (keys_of es) k d.0 ≡ (get_or es k d).0 = get_or-map key es k d d.0 (omega arith) in
      let next : get_or (keys_of es) (k + 1) d.0 ≡ (get_or es (k + 1) d).0 = get_or-map key es (k + 1) d d.0 (omega arith) in
      not_lower (id_cmp (get_or es (k + 1) d).0 (get_or es k d).0) (id_cmp (get_or es k d).0 (get_or es (k + 1) d).0) (total-law.antisymm (get_or es (k + 1) d).0 (get_or es k d).0) (rw (← here, ← next) less)

  -- what the search asks of the list
  pub rises : (id : NodeId) → IsNonDecreasingBy (λ e. ordering_index (id_cmp e.0 id)) es
  rises id = searchable_from_sorted total-law (λ (e : NodeId × Node). e.0) es id ascends

  -- where the search found an entry
  pub found_at : (id : NodeId) (place : ℕ) (entry : NodeId × Node) → IsPlaceOf id es (Ok place) → entry ≡ get_or es place entry → node_at id es ≡ Some entry.1
  found_at id place entry ends is =
      let equal : id_cmp entry.0 id ≡ Equal = subst (λ (e : NodeId × Node). id_cmp e.0 id ≡ Equal) (sym is) (ends.1 entry) in
      let same : entry.0 ≡ id = tied entry.0 id (ap is_eq equal) in
      let P : NodeId → Type 0 = λ q. node_at q es ≡ Some entry.1 in
      subst P same (lookup_from_place (eq_by_cmp_equiv total-law) es place entry.0 entry.1 (IsDistinct-from_sorted id_cmp (keys_of es) sorted) (sym (get_there es place entry ends.0 is)))

  -- where it found none
  pub found_none : (id : NodeId) (place : ℕ) → IsPlaceOf id es (Err place) → node_at id es ≡ None
  found_none id place ends =
      let parts = ends.1 (rises id) in
      lookup_at_gap total-law id es place sorted
      (λ j e lt is.
      let within = slice_get_within es j e is in
      let here : get_or es j e ≡ e = get_or_from_slice_get es j e e is in
      higher (id_cmp id e.0) (id_cmp e.0 id) (total-law.antisymm id e.0) (rw (← here) (parts.0 j e (omega arith) lt)))
      (λ e is.
      let within = slice_get_within es place e is in
      let here : get_or es place e ≡ e = get_or_from_slice_get es place e e is in
      lower (id_cmp id e.0) (id_cmp e.0 id) (total-law.antisymm id e.0) (rw (← here) (parts.1 place e (omega arith) within)))

  -- ---- another value there

  -- no earlier entry has the id
  before : (id : NodeId) (place : ℕ) → IsPlaceOf id es (Ok place) → (j : ℕ) (d : NodeId × Node) → j < place → is_at (id_cmp id) (get_or es j d).0 ≡ false
  before id place ends j d lt =
      let len = length-keys_of es in
      let key = λ (e : NodeId × Node). e.0 in
      let less = Less-from_sorted id_cmp (keys_of es) j place d.0 sorted lt (omega (arith, ends.0, len)) in
      let here : get_or (keys_of es) j d.0 ≡ (get_or es j d).0 = get_or-map key es j d d.0 (omega (arith, ends.0)) in
      let there : get_or (keys_of es) place d.0 ≡ (get_or es place d).0 = get_or-map key es place d d.0 ends.0 in
      let same : (get_or es place d).0 ≡ id = tied (get_or es place d).0 id (ap is_eq (ends.1 d)) in
      let lower : id_cmp (get_or es j d).0 id ≡ Less = rw (← same, ← here, ← there) less in
      ap is_eq (higher (id_cmp id (get_or es j d).0) (id_cmp (get_or es j d).0 id) (total-law.antisymm id (get_or es j d).0) lower)

  -- and the one there has it
  there : (id : NodeId) (place : ℕ) → IsPlaceOf id es (Ok place) → (d : NodeId × Node) → is_at (id_cmp id) (get_or es place d).0 ≡ true
  there id place ends d =
      let same : (get_or es place d).0 ≡ id = tied (get_or es place d).0 id (ap is_eq (ends.1 d)) in
      subst (λ (q : NodeId). is_at (id_cmp id) q ≡ true) (sym same) (ap is_eq (tied_itself total-law id))

  pub place_found : (id : NodeId) (place : ℕ) → IsPlaceOf id es (Ok place) → place_of id es ≡ Some place
  place_found id place ends = first_place id es place ends.0 (before id place ends) (there id place ends)

  pub set_there : (id : NodeId) (place : ℕ) (value : DataValue) → IsPlaceOf id es (Ok place) → with_value_in place value es ≡ with_value id value es
  set_there id place value ends = by (slice_get es place) refl
    where
      by : (o : Option (NodeId × Node)) → o ≡ slice_get es place → with_value_in place value es ≡ with_value id value es
      by None none = absurd (none_past es place none ends.0)
      by (Some entry) some =
          let here = found_at id place entry ends (at_get es place entry some).1 in
          set_first (is_at (id_cmp id)) value es place entry.1 ends.0 (before id place ends) (there id place ends) here
          ∙ sym (ap (put id value es) here)

  pub taken_there : (id : NodeId) (place : ℕ) (value : DataValue) → IsPlaceOf id es (Ok place) → takes_at id value es ≡ true → takes_in (slice_get es place) value ≡ true
  taken_there id place value ends takes = by (slice_get es place) refl
    where
      by : (o : Option (NodeId × Node)) → o ≡ slice_get es place → takes_in o value ≡ true
      by None none = absurd (none_past es place none ends.0)
      by (Some entry) some =
          let here = found_at id place entry ends (at_get es place entry some).1 in
          subst (λ (o : Option Node). variable_takes (variable_of o) value.value ≡ true) here takes
