-- Which references of a node are wanted (BrowseDescription, IEC 62541-4, "Browse").
use Rattle.std.specs.Prelude.{◌≡◌, ℕ, ◌/◌, ◌%◌, ◌==◌, suc, pos, Bool, true, false, not, ◌&&◌, ◌||◌, List, [], ◌∷◌, drop, filter, Option, Some, None, is_some, IfSome, All, Result, Ok, Err, if◌then◌else◌}
use Rattle.std.specs.List.{list_any}
use Rattle.std.specs.Ordering.{int_eq}
use Rattle.ua_types.specs.NodeClasses.{class_number}
use Rattle.ua_types.specs.NodeIdOrder.{same_id}
use Rattle.ua_types.specs.NodeIds.{is_null_id}
use Rattle.ua_types.specs.declared.node_class.NodeClass.{NodeClass}
use Rattle.ua_types.specs.declared.node_id.NodeId.{NodeId}
use Rattle.ua_types.specs.declared.status.Status.{Status}
use Rattle.ua_types.specs.declared.status.TheConstants.Status as status
use Rattle.ua_service_messages.specs.declared.browsing.BrowseDescription.{BrowseDescription}
use Rattle.ua_service_messages.specs.declared.browsing.BrowseDirection.{BrowseDirection}
use Rattle.ua_space.specs.NodeClasses.{class_of}
use Rattle.ua_space.specs.Nodes.{Nodes, SpaceState, node_at}
use Rattle.ua_space.specs.References.{Directed, end_of, references_of}
use Rattle.ua_space.specs.Spaces.{is_reference_type}
use Rattle.ua_space.specs.Subtypes.{is_subtype}
use Rattle.ua_space.specs.declared.node.Node.{Node}
use Rattle.ua_space.specs.declared.references.Direction.{Direction}
use Rattle.ua_space.specs.declared.references.Direction.TheVariants as directions
use Rattle.ua_space.specs.declared.triple.Triple.{Triple}
use Rattle.ua_browse.specs.declared.wanted.Verdicts.{Verdicts}

-- a mask has a bit, which is told by its value
abbrev pub has_bit : ℕ → ℕ → Bool
has_bit mask bit = mask / bit % 2 == 1

-- 0 is forward, 1 inverse, 2 both
abbrev pub is_direction : BrowseDirection → Bool
is_direction d = int_eq d.0 (pos 0) || int_eq d.0 (pos 1) || int_eq d.0 (pos 2)

abbrev pub goes : BrowseDirection → Direction → Bool
goes d directions.Forward = int_eq d.0 (pos 0) || int_eq d.0 (pos 2)
goes d directions.Inverse = int_eq d.0 (pos 1) || int_eq d.0 (pos 2)

-- without a type all are wanted; else that type, and its subtypes where they are asked for
abbrev pub is_type_wanted : List Triple → BrowseDescription → NodeId → Bool
is_type_wanted triples d id =
    if is_null_id d.reference_type_id then true
    else if not d.include_subtypes then same_id id d.reference_type_id
    else is_subtype triples id d.reference_type_id

abbrev pub is_class_in : ℕ → NodeClass → Bool
is_class_in mask class = has_bit mask (class_number class)

abbrev pub has_class_in : ℕ → Option Node → Bool
has_class_in mask None = false
has_class_in mask (Some node) = is_class_in mask (class_of node)

-- the classes are told by their numbers; 0 is all
abbrev pub is_class_wanted : Nodes → ℕ → NodeId → Bool
is_class_wanted nodes mask id = if mask == 0 then true else has_class_in mask (node_at id nodes)

-- by its direction, its type, and the class of the node at its other end
abbrev pub is_wanted : SpaceState → BrowseDescription → Directed → Bool
is_wanted space d r =
    goes d.browse_direction r.direction
    && (is_type_wanted space.triples d r.triple.reference_type && is_class_wanted space.nodes d.node_class_mask (end_of r.direction r.triple))

-- ---- the references of a node, from a place on

-- a reference, and its place among all of a node's, counted from 0
pub record Placed : Type 0 where
  pub place : ℕ
  pub reference : Directed

abbrev pub placed : ℕ → List Directed → List Placed
placed place [] = []
placed place (r ∷ rs) = record { place = place; reference = r } ∷ placed (suc place) rs

abbrev pub left_of : (Directed → Bool) → List Directed → ℕ → List Placed
left_of such rs place = filter (λ p. such p.reference) (placed place (drop place rs))

-- the references that are wanted, from this place on: in declared order, the forward ones before the inverse ones
abbrev pub wanted_from : SpaceState → BrowseDescription → ℕ → List Placed
wanted_from space d place = left_of (is_wanted space d) (references_of d.node_id space.triples) place

-- ---- what is refused

-- a type that may be named: null, for all types, or a ReferenceType node
abbrev pub is_type : Nodes → NodeId → Bool
is_type nodes id = is_null_id id || is_reference_type (node_at id nodes)

-- the node is judged first, then the type, then the direction
unfoldable pub judged : Nodes → BrowseDescription → Result (Unit {0}) Status
judged nodes d =
    if not (is_some (node_at d.node_id nodes)) then Err status.BAD_NODE_ID_UNKNOWN
    else if not (is_null_id d.reference_type_id) && not (is_reference_type (node_at d.reference_type_id nodes)) then Err status.BAD_REFERENCE_TYPE_ID_INVALID
    else if not (is_direction d.browse_direction) then Err status.BAD_BROWSE_DIRECTION_INVALID
    else Ok tt

-- ---- words of the contracts

-- what a page remembers of types says whether each is the named one or one of its subtypes
pub record IsRight (triples : List Triple) (named : NodeId) (verdicts : Verdicts) : Type 0 where
  pub few : All (λ v. v.is_below ≡ is_subtype triples v.id.now named) verdicts.few.items
  pub set : IfSome verdicts.set (λ ids. (id : NodeId) → list_any (same_id id) ids ≡ is_subtype triples id named)
