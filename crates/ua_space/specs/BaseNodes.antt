-- The nodes and references that every server has. Their ids and names are the standard's
-- (IEC 62541-3 and -5); which of them there are is this project's choice.
use Rattle.std.specs.Prelude.{ℕ, pos, List, [], ◌∷◌, ◌++◌, map, Option, Some, None, codes, false, unwrap_or}
use Rattle.ua_types.specs.Configuration.{Configuration}
use Rattle.ua_types.specs.NodeIds.{numeric_id}
use Rattle.ua_types.specs.declared.content.Content.TheVariants as content
use Rattle.ua_types.specs.declared.data_value.DataValue.{DataValue}
use Rattle.ua_types.specs.declared.variant.Variant.{Variant}
use Rattle.ua_types.specs.declared.variant.Variant.TheVariants as variants
use Rattle.ua_types.specs.DataValues.{value_since}
use Rattle.ua_space.specs.declared.base.Kind.{Kind}
use Rattle.ua_space.specs.declared.base.Kind.TheVariants as kinds
use Rattle.ua_space.specs.declared.node.Node.{Node}
use Rattle.ua_space.specs.declared.node.NodeDetails.{NodeDetails}
use Rattle.ua_space.specs.declared.node.NodeDetails.TheVariants as details
use Rattle.ua_space.specs.declared.node.ValueRank.{ValueRank}
use Rattle.ua_space.specs.declared.node.ValueRank.TheVariants as ranks
use Rattle.ua_space.specs.declared.triple.Triple.{Triple}
use Rattle.ua_space.specs.declared.triple.Part.TheVariants.{File}

-- ---- nodes

-- a node of namespace 0 that is displayed by its name, with no history
abbrev pub standard_node : ℕ → List ℕ → NodeDetails → Node
standard_node number name details = record {
  id = numeric_id 0 number;
  browse_name = record { namespace = 0; name = Some name };
  display_name = record { locale = None; text = Some name };
  description = record { locale = None; text = None };
  details = details;
  history = [];
}

-- a variable that may be read, and whose history isn't kept
abbrev pub readable : ℕ → ValueRank → DataValue → NodeDetails
readable data_type value_rank value =
    details.Variable (record { data_type = data_type; value_rank = value_rank; value = value; access = 1; historizing = false })

-- the namespaces of OPC UA, of the application, and of the configuration
abbrev pub namespaces : Configuration → List (Option (List ℕ))
namespaces c = Some (codes "http://opcfoundation.org/UA/") ∷ c.uri ∷ unwrap_or c.namespaces []

abbrev pub text_list : List (Option (List ℕ)) → Variant
text_list texts = variants.String (content.Array (Some texts))

abbrev pub server_array : Configuration → NodeDetails
server_array c = readable 12 ranks.List (value_since c.start (text_list (c.uri ∷ [])))

abbrev pub namespace_array : Configuration → NodeDetails
namespace_array c = readable 12 ranks.List (value_since c.start (text_list (namespaces c)))

abbrev pub state : Configuration → NodeDetails
state c = readable 6 ranks.Scalar (value_since c.start (variants.Int32 (content.Scalar (pos 0))))

-- types that aren't abstract: of objects, of variables with a text, and of references that are asymmetric and
-- have no inverse name
abbrev pub details_of : Kind → NodeDetails
details_of kinds.Object = details.Object
details_of kinds.ObjectType = details.ObjectType false
details_of kinds.VariableType = details.VariableType 12 ranks.Scalar false
details_of kinds.ReferenceType = details.ReferenceType false false (record { locale = None; text = None })

abbrev pub base_objects : List Node
base_objects =
    standard_node 84 (codes "Root") (details_of kinds.Object)
    ∷ standard_node 85 (codes "Objects") (details_of kinds.Object)
    ∷ standard_node 86 (codes "Types") (details_of kinds.Object)
    ∷ standard_node 87 (codes "Views") (details_of kinds.Object)
    ∷ standard_node 2253 (codes "Server") (details_of kinds.Object)
    ∷ []

abbrev pub base_variables : Configuration → List Node
base_variables c =
    standard_node 2254 (codes "ServerArray") (server_array c)
    ∷ standard_node 2255 (codes "NamespaceArray") (namespace_array c)
    ∷ standard_node 2259 (codes "State") (state c)
    ∷ []

abbrev pub base_object_types : List Node
base_object_types = standard_node 58 (codes "BaseObjectType") (details_of kinds.ObjectType) ∷ standard_node 61 (codes "FolderType") (details_of kinds.ObjectType) ∷ []

abbrev pub base_variable_types : List Node
base_variable_types = standard_node 63 (codes "BaseDataVariableType") (details_of kinds.VariableType) ∷ standard_node 68 (codes "PropertyType") (details_of kinds.VariableType) ∷ []

abbrev pub base_reference_types : List Node
base_reference_types =
    standard_node 31 (codes "References") (details_of kinds.ReferenceType)
    ∷ standard_node 32 (codes "NonHierarchicalReferences") (details_of kinds.ReferenceType)
    ∷ standard_node 33 (codes "HierarchicalReferences") (details_of kinds.ReferenceType)
    ∷ standard_node 34 (codes "HasChild") (details_of kinds.ReferenceType)
    ∷ standard_node 35 (codes "Organizes") (details_of kinds.ReferenceType)
    ∷ standard_node 44 (codes "Aggregates") (details_of kinds.ReferenceType)
    ∷ standard_node 45 (codes "HasSubtype") (details_of kinds.ReferenceType)
    ∷ standard_node 46 (codes "HasProperty") (details_of kinds.ReferenceType)
    ∷ standard_node 47 (codes "HasComponent") (details_of kinds.ReferenceType)
    ∷ standard_node 40 (codes "HasTypeDefinition") (details_of kinds.ReferenceType)
    ∷ []

unfoldable pub base_nodes : Configuration → List Node
base_nodes c = base_objects ++ base_variables c ++ base_object_types ++ base_variable_types ++ base_reference_types

-- ---- references

-- a reference of the base: its type, its source and its target
abbrev pub base_triple : ℕ × ℕ × ℕ → Triple
base_triple e = record { source = numeric_id 0 e.1; reference_type = numeric_id 0 e.0; target = numeric_id 0 e.2; part = File }

-- 35 Organizes, 46 HasProperty, 47 HasComponent, 45 HasSubtype, 40 HasTypeDefinition
unfoldable pub base_triples : List Triple
base_triples = map base_triple
    ((35, 84, 85) ∷ (35, 84, 86) ∷ (35, 84, 87) ∷ (35, 85, 2253)
    ∷ (46, 2253, 2254) ∷ (46, 2253, 2255) ∷ (47, 2253, 2259)
    ∷ (35, 86, 58) ∷ (35, 86, 63) ∷ (35, 86, 68) ∷ (35, 86, 31)
    ∷ (45, 58, 61) ∷ (45, 31, 32) ∷ (45, 31, 33) ∷ (45, 33, 34) ∷ (45, 33, 35)
    ∷ (45, 34, 44) ∷ (45, 34, 45) ∷ (45, 44, 46) ∷ (45, 44, 47) ∷ (45, 32, 40)
    ∷ (40, 84, 61) ∷ (40, 85, 61) ∷ (40, 86, 61) ∷ (40, 87, 61)
    ∷ (40, 2253, 58) ∷ (40, 2254, 68) ∷ (40, 2255, 68) ∷ (40, 2259, 63)
    ∷ [])
