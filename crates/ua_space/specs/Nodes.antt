-- The nodes of a space under their ids.
use Rattle.std.specs.Prelude.{List, Option}
use Rattle.std.specs.BTreeMap.{is_at}
use Rattle.std.specs.Map.{lookup}
use Rattle.ua_types.specs.NodeIdOrder.{id_cmp}
use Rattle.ua_types.specs.declared.node_id.NodeId.{NodeId}
use Rattle.ua_space.specs.declared.node.Node.{Node}
use Rattle.ua_space.specs.declared.triple.Triple.{Triple}

-- nodes under their ids, in the order of ids
abbrev pub Nodes : Type 0
Nodes = List (NodeId × Node)

-- a space: its nodes, and its references in declared order
pub record SpaceState : Type 0 where
  pub nodes : Nodes
  pub triples : List Triple

-- the node of an id
abbrev pub node_at : NodeId → Nodes → Option Node
node_at id nodes = lookup (is_at (id_cmp id)) nodes
