-- What a built space has: the base set, and after it what was given.
use Rattle.std.specs.Prelude.{◌≡◌, ◌+◌, List, ◌++◌, length, Some, Ok, Contains}
use Rattle.ua_types.specs.Configuration.{Configuration}
use Rattle.ua_space.specs.declared.node.Node.{Node}
use Rattle.ua_space.specs.declared.triple.Triple.{Triple}
use Rattle.ua_space.specs.BaseNodes.{base_nodes, base_triples}
use Rattle.ua_space.specs.Build.{space_of}
use Rattle.ua_space.specs.Nodes.{SpaceState, node_at}

-- each node under its id and no others, and the references in order, those of the base set first
pub record IsMadeOf (base given : List Node) (references : List Triple) (s : SpaceState) : Type 0 where
  pub nodes : (node : Node) → Contains (base ++ given) node → node_at node.id s.nodes ≡ Some node
  pub count : length s.nodes ≡ length base + length given
  pub triples : s.triples ≡ base_triples ++ references

abbrev pub SpacesAreMade : Type 0
SpacesAreMade = (config : Configuration) (nodes : List Node) (triples : List Triple) (s : SpaceState) → space_of config nodes triples ≡ Ok s
    → IsMadeOf (base_nodes config) nodes triples s
