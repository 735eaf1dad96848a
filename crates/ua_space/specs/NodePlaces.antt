-- Where a node stands in the order of ids, and the nodes with another value there.
use Rattle.std.specs.Prelude.{◌≡◌, ℕ, zero, suc, Bool, true, false, [], ◌∷◌, Option, Some, None, option_map, Result, length, if◌then◌else◌}
use Rattle.std.specs.BTreeMap.{is_at}
use Rattle.std.specs.List.Sorted.{IsSearchInRange, IsBinarySearchResult}
use Rattle.ua_types.specs.NodeIdOrder.{id_cmp}
use Rattle.ua_types.specs.declared.node_id.NodeId.{NodeId}
use Rattle.ua_types.specs.declared.data_value.DataValue.{DataValue}
use Rattle.ua_space.specs.declared.node.Node.{Node}
use Rattle.ua_space.specs.Nodes.{Nodes}
use Rattle.ua_space.specs.Values.{holding, takes_at, variable_in, variable_takes}

-- the place of the node with an id, where there is one
abbrev pub place_of : NodeId → Nodes → Option ℕ
place_of id [] = None
place_of id (e ∷ es) = if is_at (id_cmp id) e.0 then Some zero else option_map suc (place_of id es)

-- it is the place of a variable that takes the value
abbrev pub IsTakenIn : Nodes → ℕ → DataValue → Type 0
IsTakenIn nodes place value = (id : NodeId) × (place_of id nodes ≡ Some place) × (takes_at id value nodes ≡ true)

-- what the search answers: the place of the node with an id, or where it would stand
abbrev pub IsPlaceOf : NodeId → Nodes → Result ℕ ℕ → Type 0
IsPlaceOf id nodes place = IsSearchInRange place (length nodes) × IsBinarySearchResult (λ entry. id_cmp entry.0 id) nodes place

-- it is a variable that takes the value
abbrev pub takes_in : Option (NodeId × Node) → DataValue → Bool
takes_in None value = false
takes_in (Some entry) value = variable_takes (variable_in entry.1.details) value.value

-- the nodes with another value at the variable at a place
abbrev pub with_value_in : ℕ → DataValue → Nodes → Nodes
with_value_in place value [] = []
with_value_in zero value (e ∷ es) = (e.0, record e.1 { details = holding value e.1.details }) ∷ es
with_value_in (suc place) value (e ∷ es) = e ∷ with_value_in place value es
