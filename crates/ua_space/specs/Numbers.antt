-- Numbers for the types that have subtypes.
use Rattle.std.specs.Prelude.{◌≡◌, ℕ, true, List, Option, Some, IsSome, slice_get}
use Rattle.std.specs.List.{All, list_any}
use Rattle.std.specs.BTreeMap.{is_at}
use Rattle.std.specs.Map.{lookup}
use Rattle.ua_types.specs.NodeIdOrder.{id_cmp, same_id}
use Rattle.ua_types.specs.declared.node_id.NodeId.{NodeId}
use Rattle.ua_space.specs.declared.triple.Triple.{Triple}
use Rattle.ua_space.specs.Subtypes.{is_subtyping}

-- the number of a type
abbrev pub number_at : List (NodeId × ℕ) → NodeId → Option ℕ
number_at numbers id = lookup (is_at (id_cmp id)) numbers

-- each type of the list has its place there as its number, and no other id has a number
pub record AreNumbers (types : List NodeId) (numbers : List (NodeId × ℕ)) : Type 0 where
  pub known : (id : NodeId) (n : ℕ) → number_at numbers id ≡ Some n → Some id ≡ slice_get types n
  pub own : (id : NodeId) (n : ℕ) → Some id ≡ slice_get types n → number_at numbers id ≡ Some n

-- a reference goes out from it
abbrev pub IsSource : List Triple → NodeId → Type 0
IsSource triples id = list_any (λ t. same_id t.source id) triples ≡ true

-- each type that has subtypes has a number, and nothing has one that isn't the source of a reference
pub record AreNumbered (triples : List Triple) (types : List NodeId) (numbers : List (NodeId × ℕ)) : Type 0 where
  pub each : AreNumbers types numbers
  pub sources : (id : NodeId) (n : ℕ) → number_at numbers id ≡ Some n → IsSource triples id
  pub complete : All (λ t. is_subtyping t ≡ true → IsSome (number_at numbers t.source)) triples
