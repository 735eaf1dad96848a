-- What every space keeps.
use Rattle.std.specs.Prelude.{◌≡◌, ℕ, suc, ◌≤◌, Bool, true, false, ◌&&◌, List, length, Option, Some, None, is_some, Contains, AllPairs}
use Rattle.ua_types.specs.declared.node_id.NodeId.{NodeId}
use Rattle.ua_space.specs.declared.build.TheConstants.{MAX_NODES, MAX_TRIPLES}
use Rattle.ua_space.specs.declared.node.Node.{Node}
use Rattle.ua_space.specs.declared.node.NodeDetails.{NodeDetails}
use Rattle.ua_space.specs.declared.node.NodeDetails.TheVariants as details
use Rattle.ua_space.specs.declared.triple.Triple.{Triple}
use Rattle.ua_space.specs.Nodes.{Nodes, SpaceState, node_at}
use Rattle.ua_space.specs.Subtypes.{Chain}
use Rattle.ua_space.specs.TripleOrder.{same_triple}

-- the most nodes and references of a space, those of the base set included
abbrev pub most_nodes : ℕ
most_nodes = MAX_NODES

abbrev pub most_triples : ℕ
most_triples = MAX_TRIPLES

abbrev pub has_reference_details : NodeDetails → Bool
has_reference_details (details.ReferenceType a s i) = true
has_reference_details other = false

abbrev pub is_reference_type : Option Node → Bool
is_reference_type None = false
is_reference_type (Some node) = has_reference_details node.details

-- both ends are nodes, and the type is a ReferenceType node
abbrev pub fits : Nodes → Triple → Bool
fits nodes t = (is_some (node_at t.source nodes) && is_some (node_at t.target nodes)) && is_reference_type (node_at t.reference_type nodes)

-- no node of another id stands under an id
abbrev pub StandUnderTheirIds : Nodes → Type 0
StandUnderTheirIds nodes = (id : NodeId) (node : Node) → node_at id nodes ≡ Some node → node.id ≡ id

abbrev pub AllFit : Nodes → List Triple → Type 0
AllFit nodes triples = (t : Triple) → Contains triples t → fits nodes t ≡ true

-- no reference is there twice
abbrev pub AreDistinct : List Triple → Type 0
AreDistinct triples = AllPairs (λ s t. same_triple s t ≡ false) triples

-- no chain of HasSubtype references comes back to where it began
abbrev pub HasNoLoop : List Triple → Type 0
HasNoLoop triples = (n : ℕ) (id : NodeId) → Chain triples (suc n) id id → ⊥

pub record IsSpace (s : SpaceState) : Type 0 where
  pub own_ids : StandUnderTheirIds s.nodes
  pub ends : AllFit s.nodes s.triples
  pub distinct : AreDistinct s.triples
  pub no_loop : HasNoLoop s.triples
  pub few_nodes : length s.nodes ≤ most_nodes
  pub few_triples : length s.triples ≤ most_triples
