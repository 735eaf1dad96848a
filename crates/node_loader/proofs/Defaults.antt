-- The smallest nodes, by computation.
use Rattle.std.proofs.Common.{◌≡◌, ℕ, ◌^◌, nat_lt, codes, Bool, true, false, List, length, Some, None, Ok, refl}
use Rattle.toml.specs.Data.{boolean, member, no_members, string}
use Rattle.ua_types.specs.declared.moment.Moment.{Moment}
use Rattle.ua_types.specs.declared.node_id.NodeId.{NodeId}
use Rattle.ua_types.specs.declared.content.Content.TheVariants.{Scalar}
use Rattle.ua_types.specs.declared.variant.Variant.TheVariants as variants
use Rattle.ua_space.specs.declared.node.NodeDetails.TheVariants as details
use Rattle.ua_space.specs.declared.node.ValueRank.TheVariants as ranks
use Rattle.ua_space.specs.declared.triple.Part.{Part}
use Rattle.node_loader.specs.Past.{history_of}
use Rattle.node_loader.specs.declared.version.Version.{Version}
use Rattle.node_loader.specs.declared.version.Version.TheVariants.{One, Two}
use Rattle.ua_types.specs.ValueTypes.{value_type_named}
use Rattle.node_loader.specs.Ids.{id_at, id_or, id_if_any, id_within}
use Rattle.node_loader.specs.Keys.{list_at, text_at, text_or, number_at, required_word, required_text, required_boolean, boolean_at}
use Rattle.node_loader.specs.Node.{class_of, names_of, place_of, type_at, form_of, variable_of, object_of, variable_node_of, object_type_of, variable_type_of, reference_type_of, data_type_of, rest_of, node_of}
use Rattle.node_loader.specs.Smallest.{least, plain_entry, SmallestObject, SmallestVariable, SmallestObjectType, SmallestVariableType, SmallestReferenceType, SmallestDataType, HangsByOrganizes}
use Rattle.node_loader.specs.Value.{value_of}

pub smallest_object : SmallestObject
unfolding id_at id_or id_if_any text_at text_or number_at required_word required_text class_of names_of place_of object_of rest_of node_of
smallest_object setting part text name id known short = rw (known, short) refl

variable_of_either : (value : Bool) (version : Version) (highest : ℕ) (start : Moment) (history : ℕ) (part : Part) (text name : List ℕ) (id : NodeId) → id_within highest text ≡ Ok id → nat_lt (length name) (2 ^ 31) ≡ true
    → node_of (record { version = version; highest = highest; start = start; history = history }) part
    (least text (codes "Variable") name (member (codes "type") (string (codes "Boolean")) (member (codes "value") (boolean value) no_members)))
    ≡ Ok (plain_entry part id name (details.Variable (record {
      data_type = 1;
      value_rank = ranks.Scalar;
      value = record { value = Some (variants.Boolean (Scalar value)); status = record { 0 = 0 }; source_time = Some start; server_time = Some start };
      access = 1;
      historizing = false;
    })) (Some 63))
unfolding id_at id_or id_if_any text_at text_or number_at list_at required_word required_text required_boolean boolean_at class_of names_of place_of type_at form_of value_type_named value_of variable_of history_of variable_node_of rest_of node_of
variable_of_either value One highest start history part text name id known short = rw (known, short) refl
variable_of_either value Two highest start history part text name id known short = rw (known, short) refl

pub smallest_variable : SmallestVariable
smallest_variable value setting part text name id known short = variable_of_either value setting.version setting.highest setting.start setting.history part text name id known short

pub smallest_object_type : SmallestObjectType
unfolding id_at id_or id_if_any text_at text_or number_at required_word required_text boolean_at class_of names_of place_of object_type_of rest_of node_of
smallest_object_type setting part text name id known short = rw (known, short) refl

pub smallest_data_type : SmallestDataType
unfolding id_at id_or id_if_any text_at text_or number_at required_word required_text boolean_at class_of names_of place_of data_type_of rest_of node_of
smallest_data_type setting part text name id known short = rw (known, short) refl

type_of_either : (version : Version) (highest : ℕ) (start : Moment) (history : ℕ) (part : Part) (text name : List ℕ) (id : NodeId) → id_within highest text ≡ Ok id → nat_lt (length name) (2 ^ 31) ≡ true
    → node_of (record { version = version; highest = highest; start = start; history = history }) part (least text (codes "VariableType") name (member (codes "type") (string (codes "String")) no_members))
    ≡ Ok (plain_entry part id name (details.VariableType 12 ranks.Scalar false) None)
unfolding id_at id_or id_if_any text_at text_or number_at required_word required_text boolean_at class_of names_of place_of type_at form_of value_type_named variable_type_of rest_of node_of
type_of_either One highest start history part text name id known short = rw (known, short) refl
type_of_either Two highest start history part text name id known short = rw (known, short) refl

pub smallest_variable_type : SmallestVariableType
smallest_variable_type setting part text name id known short = type_of_either setting.version setting.highest setting.start setting.history part text name id known short

pub smallest_reference_type : SmallestReferenceType
unfolding id_at id_or id_if_any text_at text_or number_at required_word required_text boolean_at class_of names_of place_of reference_type_of rest_of node_of
smallest_reference_type setting part text name id known short = rw (known, short) refl

pub hangs : HangsByOrganizes
unfolding id_or id_if_any place_of
hangs highest text id known = rw known refl
