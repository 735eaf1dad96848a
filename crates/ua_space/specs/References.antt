-- The references of a node, seen from it, and its type definition.
use Rattle.std.specs.Prelude.{List, Bool, Option, option_map, ◌++◌, ◌&&◌, map, filter, find}
use Rattle.ua_types.specs.NodeIds.{numeric_id}
use Rattle.ua_types.specs.NodeIdOrder.{same_id}
use Rattle.ua_types.specs.declared.node_id.NodeId.{NodeId}
use Rattle.ua_space.specs.declared.references.Direction.{Direction}
use Rattle.ua_space.specs.declared.references.Direction.TheVariants as directions
use Rattle.ua_space.specs.declared.triple.Triple.{Triple}

-- the references that a node is the source of, in declared order
abbrev pub forward_of : NodeId → List Triple → List Triple
forward_of id triples = filter (λ t. same_id t.source id) triples

-- the references that a node is the target of, in declared order
abbrev pub inverse_of : NodeId → List Triple → List Triple
inverse_of id triples = filter (λ t. same_id t.target id) triples

-- a reference, seen from one of its ends
pub record Directed : Type 0 where
  pub direction : Direction
  pub triple : Triple

abbrev pub outwards : Triple → Directed
outwards t = record { direction = directions.Forward; triple = t }

abbrev pub inwards : Triple → Directed
inwards t = record { direction = directions.Inverse; triple = t }

-- the node at the other end
abbrev pub end_of : Direction → Triple → NodeId
end_of directions.Forward t = t.target
end_of directions.Inverse t = t.source

-- a node's references: those that go out from it, and then those that lead to it
abbrev pub references_of : NodeId → List Triple → List Directed
references_of id triples = map outwards (forward_of id triples) ++ map inwards (inverse_of id triples)

-- a reference to a type definition (the reference type HasTypeDefinition)
abbrev pub is_defining : Triple → Bool
is_defining t = same_id t.reference_type (numeric_id 0 40)

-- where the first reference to a type definition leads
abbrev pub type_definition_of : NodeId → List Triple → Option NodeId
type_definition_of id triples = option_map (λ t. t.target) (find (λ t. is_defining t && same_id t.source id) triples)
