-- What is told of a reference (ReferenceDescription, IEC 62541-4, section 7).
use Rattle.std.specs.Prelude.{ℕ, ℤ, pos, Bool, true, false, ◌&&◌, List, Option, Some, None, unwrap_or, if◌then◌else◌}
use Rattle.ua_types.specs.NodeClasses.{class_number}
use Rattle.ua_types.specs.NodeIds.{numeric_id}
use Rattle.ua_types.specs.declared.localized_text.LocalizedText.{LocalizedText}
use Rattle.ua_types.specs.declared.node_id.NodeId.{NodeId}
use Rattle.ua_types.specs.declared.qualified_name.QualifiedName.{QualifiedName}
use Rattle.ua_binary.specs.ExpandedNodeIds.{local_id}
use Rattle.ua_service_messages.specs.declared.browsing.ReferenceDescription.{ReferenceDescription}
use Rattle.ua_space.specs.NodeClasses.{class_of}
use Rattle.ua_space.specs.Nodes.{SpaceState, node_at}
use Rattle.ua_space.specs.References.{Directed, end_of, type_definition_of}
use Rattle.ua_space.specs.declared.node.Node.{Node}
use Rattle.ua_space.specs.declared.references.Direction.{Direction}
use Rattle.ua_space.specs.declared.references.Direction.TheVariants as directions
use Rattle.ua_space.specs.declared.triple.Triple.{Triple}
use Rattle.ua_browse.specs.Wanted.{has_bit}

abbrev pub is_forward : Direction → Bool
is_forward directions.Forward = true
is_forward directions.Inverse = false

abbrev pub no_name : QualifiedName
no_name = record { namespace = 0; name = None }

abbrev pub no_words : LocalizedText
no_words = record { locale = None; text = None }

abbrev pub type_told : ℕ → Triple → NodeId
type_told mask triple = if has_bit mask 1 then triple.reference_type else numeric_id 0 0

-- ---- of the node at the other end

abbrev pub name_told : ℕ → Option Node → QualifiedName
name_told mask None = no_name
name_told mask (Some node) = if has_bit mask 8 then node.browse_name else no_name

abbrev pub words_told : ℕ → Option Node → LocalizedText
words_told mask None = no_words
words_told mask (Some node) = if has_bit mask 16 then node.display_name else no_words

abbrev pub class_told : ℕ → Option Node → ℤ
class_told mask None = pos 0
class_told mask (Some node) = if has_bit mask 4 then pos (class_number (class_of node)) else pos 0

-- where its first reference to a type definition leads, if it has one
abbrev pub definition_told : List Triple → ℕ → NodeId → NodeId
definition_told triples mask id = if has_bit mask 32 then unwrap_or (type_definition_of id triples) (numeric_id 0 0) else numeric_id 0 0

-- a reference, and of the node at its other end, as seen from the one that was browsed, what the mask asks for. All else is null, false or 0
abbrev pub described : SpaceState → ℕ → Directed → ReferenceDescription
described space mask r =
    let end = end_of r.direction r.triple in
    let node = node_at end space.nodes in
    record {
      reference_type_id = type_told mask r.triple;
      is_forward = has_bit mask 2 && is_forward r.direction;
      node_id = local_id end;
      browse_name = name_told mask node;
      display_name = words_told mask node;
      node_class = class_told mask node;
      type_definition = local_id (definition_told space.triples mask end);
    }
