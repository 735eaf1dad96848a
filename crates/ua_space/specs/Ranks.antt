-- Numbers for types, such that no HasSubtype reference leads from a higher number to a lower one.
use Rattle.std.specs.Prelude.{ℕ, List, Bool, not, ◌||◌, nat_lt, slice_index, Option, Some, None}
use Rattle.std.specs.BTreeMap.{is_at}
use Rattle.std.specs.Map.{lookup}
use Rattle.ua_types.specs.NodeIdOrder.{id_cmp}
use Rattle.ua_types.specs.declared.node_id.NodeId.{NodeId}
use Rattle.ua_space.specs.declared.triple.Triple.{Triple}
use Rattle.ua_space.specs.Subtypes.{is_subtyping}

abbrev pub rank_in : List ℕ → Option ℕ → ℕ
rank_in ranks None = 0
rank_in ranks (Some n) = slice_index ranks n

-- the number of a type: that of its component
abbrev pub rank_at : List (NodeId × ℕ) → List ℕ → NodeId → ℕ
rank_at numbers ranks id = rank_in ranks (lookup (is_at (id_cmp id)) numbers)

-- it is no HasSubtype reference, or leads to a number that isn't lower
abbrev pub keeps_rank : (NodeId → ℕ) → Triple → Bool
keeps_rank rank t = not (is_subtyping t) || not (nat_lt (rank t.target) (rank t.source))

-- it leads to a higher number
abbrev pub raises_rank : (NodeId → ℕ) → Triple → Bool
raises_rank rank t = nat_lt (rank t.source) (rank t.target)
