-- Walking down from a type: each type is met once.
use Rattle.std.specs.Prelude.{◌≡◌, Bool, List, [], ◌∷◌, ◌++◌, map, if◌then◌else◌}
use Rattle.std.specs.Borrow.{Bor}
use Rattle.std.specs.List.{list_any}
use Rattle.std.specs.BTreeMap.{is_at}
use Rattle.ua_types.specs.NodeIdOrder.{id_cmp, same_id}
use Rattle.ua_types.specs.declared.node_id.NodeId.{NodeId}
use Rattle.ua_space.specs.declared.triple.Triple.{Triple}

abbrev pub has_id : List NodeId → NodeId → Bool
has_id ids id = list_any (same_id id) ids

-- the ids behind references
abbrev pub lent : List (Bor NodeId) → List NodeId
lent ids = map (λ id. id.now) ids

-- the types met, once those that these references lead to are met too
unfoldable pub met_after : List NodeId → List Triple → List NodeId
met_after met [] = met
met_after met (t ∷ ts) = met_after (if has_id met t.target then met else met ++ t.target ∷ []) ts

-- the set has these ids
abbrev pub IsSetOf : List NodeId → List NodeId → Type 0
IsSetOf met keys = (id : NodeId) → list_any (is_at (id_cmp id)) keys ≡ has_id met id
