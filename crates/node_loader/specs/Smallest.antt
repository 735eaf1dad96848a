-- The smallest node of each class: only the keys that it must have are said, so each other attribute is the default.
use Rattle.std.specs.Prelude.{◌≡◌, ℕ, ◌^◌, nat_lt, List, codes, [], Bool, true, false, length, Option, Some, None, option_map, Ok}
use Rattle.toml.specs.Data.{Members, no_members, member, string, boolean}
use Rattle.ua_types.specs.NodeIds.{numeric_id}
use Rattle.ua_types.specs.declared.node_id.NodeId.{NodeId}
use Rattle.ua_types.specs.ValueTypes.{type_number}
use Rattle.ua_types.specs.declared.content.Content.TheVariants.{Scalar}
use Rattle.ua_types.specs.declared.variant.Variant.{Variant}
use Rattle.ua_types.specs.declared.variant.Variant.TheVariants as variants
use Rattle.ua_space.specs.Variables.{is_of}
use Rattle.ua_space.specs.declared.node.Node.{Node}
use Rattle.ua_space.specs.declared.node.NodeDetails.{NodeDetails}
use Rattle.ua_space.specs.declared.node.NodeDetails.TheVariants as details
use Rattle.ua_space.specs.declared.node.ValueRank.{ValueRank}
use Rattle.ua_space.specs.declared.node.ValueRank.TheVariants as ranks
use Rattle.ua_space.specs.declared.triple.Part.{Part}
use Rattle.node_loader.specs.Ids.{id_within}
use Rattle.node_loader.specs.Node.{node_of, place_of}
use Rattle.node_loader.specs.Value.{ranked_value}
use Rattle.node_loader.specs.declared.node.Entry.{Entry}
use Rattle.node_loader.specs.declared.past.Setting.{Setting}
use Rattle.ua_types.specs.declared.value_type.ValueType.{ValueType}

-- the keys that every node must have
abbrev pub least : List ℕ → List ℕ → List ℕ → Members → Members
least id class name more = member (codes "id") (string id) (member (codes "class") (string class) (member (codes "name") (string name) more))

-- named in the namespace of its id, displayed by its name, not described, and with no values from before
abbrev pub plain_node : NodeId → List ℕ → NodeDetails → Node
plain_node id name details = record {
  id = id;
  browse_name = record { namespace = id.namespace; name = Some name };
  display_name = record { locale = None; text = Some name };
  description = record { locale = None; text = None };
  details = details;
  history = [];
}

-- with no parent, and of this type definition, if it has one
abbrev pub plain_entry : Part → NodeId → List ℕ → NodeDetails → Option ℕ → Entry
plain_entry part id name details definition = record {
  node = plain_node id name details;
  parent = None;
  definition = option_map (λ n. record { source = id; reference_type = numeric_id 0 40; target = numeric_id 0 n; part = part }) definition;
}

-- what the smallest node of a class is, with the further keys that the class must have
abbrev pub Smallest : List ℕ → Members → (Setting → NodeDetails) → Option ℕ → Type 0
Smallest class more details definition =
    (setting : Setting) (part : Part) (text name : List ℕ) (id : NodeId) → id_within setting.highest text ≡ Ok id → nat_lt (length name) (2 ^ 31) ≡ true
    → node_of setting part (least text class name more) ≡ Ok (plain_entry part id name (details setting) definition)

-- an Object is a BaseObjectType, 58
abbrev pub SmallestObject : Type 0
SmallestObject = Smallest (codes "Object") no_members (λ s. details.Object) (Some 58)

-- a Variable is a BaseDataVariableType, 63; it has one value, which is good since the start, may be read alone, and has no history
abbrev pub SmallestVariable : Type 0
SmallestVariable = (value : Bool) →
    Smallest (codes "Variable") (member (codes "type") (string (codes "Boolean")) (member (codes "value") (boolean value) no_members))
    (λ s. details.Variable (record {
      data_type = 1;
      value_rank = ranks.Scalar;
      value = record { value = Some (variants.Boolean (Scalar value)); status = record { 0 = 0 }; source_time = Some s.start; server_time = Some s.start };
      access = 1;
      historizing = false;
    })) (Some 63)

-- types aren't abstract
abbrev pub SmallestObjectType : Type 0
SmallestObjectType = Smallest (codes "ObjectType") no_members (λ s. details.ObjectType false) None

abbrev pub SmallestDataType : Type 0
SmallestDataType = Smallest (codes "DataType") no_members (λ s. details.DataType false) None

-- variables of a type have one value
abbrev pub SmallestVariableType : Type 0
SmallestVariableType = Smallest (codes "VariableType") (member (codes "type") (string (codes "String")) no_members) (λ s. details.VariableType 12 ranks.Scalar false) None

-- references are asymmetric, and have no inverse name
abbrev pub SmallestReferenceType : Type 0
SmallestReferenceType =
    Smallest (codes "ReferenceType") no_members (λ s. details.ReferenceType false false (record { locale = None; text = None })) None

-- a node hangs under its parent by Organizes, 35
abbrev pub HangsByOrganizes : Type 0
HangsByOrganizes = (highest : ℕ) (text : List ℕ) (id : NodeId) → id_within highest text ≡ Ok id
    → place_of highest (member (codes "parent") (string text) no_members) ≡ Ok (record { parent = Some id; via = numeric_id 0 35 })

-- a value is of its `type`, and a list where `list` says so
abbrev pub ValuesHaveTheirType : Type 0
ValuesHaveTheirType = (kind : ValueType) (rank : ValueRank) (highest : ℕ) (ms : Members) (value : Variant) → ranked_value kind rank highest ms ≡ Ok value
    → is_of (type_number kind) rank value ≡ true
