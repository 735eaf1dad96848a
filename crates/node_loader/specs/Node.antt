-- An entry of the list `node`: for each key its name, its default and its range.
use Rattle.std.specs.Prelude.{ℕ, Bool, List, [], ◌∷◌, ◌++◌, codes, Option, Some, None, option_map, Result, Ok, Err, if◌then◌else◌}
use Rattle.std.specs.Str.{bytes_eq}
use Rattle.toml.specs.Data.{Members}
use Rattle.ua_types.specs.NodeIds.{numeric_id}
use Rattle.ua_types.specs.declared.moment.Moment.{Moment}
use Rattle.ua_types.specs.declared.node_class.NodeClass.{NodeClass}
use Rattle.ua_types.specs.declared.node_class.NodeClass.TheVariants as classes
use Rattle.ua_types.specs.declared.node_id.NodeId.{NodeId}
use Rattle.ua_types.specs.DataValues.{value_since}
use Rattle.ua_types.specs.ValueTypes.{type_number}
use Rattle.ua_types.specs.declared.variant.Variant.{Variant}
use Rattle.ua_space.specs.declared.node.NodeDetails.TheVariants as details
use Rattle.ua_space.specs.declared.node.NodeDetails.{NodeDetails}
use Rattle.ua_space.specs.declared.node.ValueRank.{ValueRank}
use Rattle.ua_space.specs.declared.node.ValueRank.TheVariants as ranks
use Rattle.ua_space.specs.declared.node.Variable.{Variable}
use Rattle.ua_space.specs.declared.triple.Part.{Part}
use Rattle.ua_space.specs.declared.triple.Triple.{Triple}
use Rattle.ua_types.specs.Answers.{◌>>=◌}
use Rattle.node_loader.specs.Ids.{id_at, id_or, id_if_any}
use Rattle.node_loader.specs.Keys.{only, boolean_at, number_at, required_text, required_word, text_at, text_or, up_to}
use Rattle.node_loader.specs.Past.{history_of}
use Rattle.node_loader.specs.Value.{type_of, ranked_value}
use Rattle.node_loader.specs.declared.fault.Cause.{Cause}
use Rattle.node_loader.specs.declared.fault.Cause.TheVariants.{WrongKind, OutOfRange}
use Rattle.node_loader.specs.declared.node.Entry.{Entry}
use Rattle.node_loader.specs.declared.value.Form.{Form}
use Rattle.node_loader.specs.declared.node.Kind.{Kind}
use Rattle.node_loader.specs.declared.node.Names.{Names}
use Rattle.node_loader.specs.declared.node.Place.{Place}
use Rattle.node_loader.specs.declared.past.Setting.{Setting}
use Rattle.node_loader.specs.declared.version.Version.{Version}
use Rattle.node_loader.specs.declared.version.Version.TheVariants.{One, Two}
use Rattle.ua_types.specs.declared.value_type.ValueType.{ValueType}

-- the class that a word names
unfoldable pub class_of : List ℕ → Result NodeClass Cause
class_of word =
    if bytes_eq word (codes "Object") then Ok classes.Object else
    if bytes_eq word (codes "Variable") then Ok classes.Variable else
    if bytes_eq word (codes "ObjectType") then Ok classes.ObjectType else
    if bytes_eq word (codes "VariableType") then Ok classes.VariableType else
    if bytes_eq word (codes "ReferenceType") then Ok classes.ReferenceType else
    if bytes_eq word (codes "DataType") then Ok classes.DataType else
    Err OutOfRange

-- the keys of a class, in the order in which they are judged
abbrev pub common_keys : List (List ℕ) → List (List ℕ)
common_keys others =
    codes "id" ∷ codes "class" ∷ codes "name" ∷ codes "name_ns" ∷ codes "display" ∷
    codes "description" ∷ codes "parent" ∷ codes "via" ∷ others

abbrev pub variable_keys : Version → List (List ℕ)
variable_keys One = codes "definition" ∷ codes "type" ∷ codes "value" ∷ codes "access" ∷ codes "historizing" ∷ []
variable_keys Two = codes "definition" ∷ codes "type" ∷ codes "list" ∷ codes "value" ∷ codes "access" ∷ codes "historizing" ∷ codes "history" ∷ []

abbrev pub variable_type_keys : Version → List (List ℕ)
variable_type_keys One = codes "type" ∷ codes "abstract" ∷ []
variable_type_keys Two = codes "type" ∷ codes "list" ∷ codes "abstract" ∷ []

abbrev pub keys_of : Version → NodeClass → List (List ℕ)
keys_of version classes.Object = common_keys (codes "definition" ∷ [])
keys_of version classes.Variable = common_keys (variable_keys version)
keys_of version classes.ObjectType = common_keys (codes "abstract" ∷ [])
keys_of version classes.VariableType = common_keys (variable_type_keys version)
keys_of version classes.ReferenceType = common_keys (codes "abstract" ∷ codes "symmetric" ∷ codes "inverse" ∷ [])
keys_of version classes.DataType = common_keys (codes "abstract" ∷ [])

-- what a node is called
unfoldable pub names_of : ℕ → ℕ → Members → Result Names Cause
names_of highest namespace ms = do
  name ← required_text (codes "name") ms
  name_ns ← number_at (codes "name_ns") namespace (up_to highest) ms
  display ← text_or (codes "display") name ms
  description ← text_at (codes "description") ms
  Ok (record {
    browse_name = record { namespace = name_ns; name = Some name };
    display_name = record { locale = None; text = display };
    description = record { locale = None; text = description };
  })

-- where a node hangs
unfoldable pub place_of : ℕ → Members → Result Place Cause
place_of highest ms = do
  parent ← id_if_any highest (codes "parent") ms
  via ← id_or highest (codes "via") 35 ms
  Ok (record { parent = parent; via = via })

unfoldable pub type_at : Members → Result ValueType Cause
type_at ms = do
  word ← required_word (codes "type") ms
  type_of word

-- one value, or a list
abbrev pub rank_of : Bool → ValueRank
rank_of is_list = if is_list then ranks.List else ranks.Scalar

unfoldable pub form_of : Members → Result Form Cause
form_of ms = do
  value_type ← type_at ms
  is_list ← boolean_at (codes "list") ms
  Ok (record { value_type = value_type; rank = rank_of is_list })

abbrev pub variable_with : Form → Variant → Moment → ℕ → Bool → Variable
variable_with form value start access historizing = record {
  data_type = type_number form.value_type;
  value_rank = form.rank;
  value = value_since start value;
  access = access;
  historizing = historizing;
}

-- what only variables have
unfoldable pub variable_of : Setting → Form → Members → Result Variable Cause
variable_of setting form ms = do
  value ← ranked_value form.value_type form.rank setting.highest ms
  access ← number_at (codes "access") 1 (up_to 15) ms
  historizing ← boolean_at (codes "historizing") ms
  Ok (variable_with form value setting.start access historizing)

-- what each class has beside the names; only variables have values from before
abbrev pub plain_kind : NodeDetails → Option NodeId → Kind
plain_kind details definition = record { details = details; definition = definition; history = [] }

unfoldable pub object_of : Setting → Members → Result Kind Cause
object_of setting ms = do
  definition ← id_or setting.highest (codes "definition") 58 ms
  Ok (plain_kind details.Object (Some definition))

unfoldable pub variable_node_of : Setting → Members → Result Kind Cause
variable_node_of setting ms = do
  definition ← id_or setting.highest (codes "definition") 63 ms
  form ← form_of ms
  variable ← variable_of setting form ms
  history ← history_of setting form variable.historizing ms
  Ok (record { details = details.Variable variable; definition = Some definition; history = history })

unfoldable pub object_type_of : Members → Result Kind Cause
object_type_of ms = do
  is_abstract ← boolean_at (codes "abstract") ms
  Ok (plain_kind (details.ObjectType is_abstract) None)

unfoldable pub variable_type_of : Members → Result Kind Cause
variable_type_of ms = do
  form ← form_of ms
  is_abstract ← boolean_at (codes "abstract") ms
  Ok (plain_kind (details.VariableType (type_number form.value_type) form.rank is_abstract) None)

unfoldable pub reference_type_of : Members → Result Kind Cause
reference_type_of ms = do
  is_abstract ← boolean_at (codes "abstract") ms
  symmetric ← boolean_at (codes "symmetric") ms
  inverse ← text_at (codes "inverse") ms
  Ok (plain_kind (details.ReferenceType is_abstract symmetric (record { locale = None; text = inverse })) None)

unfoldable pub data_type_of : Members → Result Kind Cause
data_type_of ms = do
  is_abstract ← boolean_at (codes "abstract") ms
  Ok (plain_kind (details.DataType is_abstract) None)

abbrev pub kind_of : NodeClass → Setting → Members → Result Kind Cause
kind_of classes.Object setting ms = object_of setting ms
kind_of classes.Variable setting ms = variable_node_of setting ms
kind_of classes.ObjectType setting ms = object_type_of ms
kind_of classes.VariableType setting ms = variable_type_of ms
kind_of classes.ReferenceType setting ms = reference_type_of ms
kind_of classes.DataType setting ms = data_type_of ms

-- the references that come with a node: from its parent, and to its type definition
abbrev pub parent_triple : Part → Place → NodeId → Option Triple
parent_triple part place id =
    option_map (λ parent. record { source = parent; reference_type = place.via; target = id; part = part }) place.parent

abbrev pub definition_triple : Part → Option NodeId → NodeId → Option Triple
definition_triple part definition id =
    option_map (λ target. record { source = id; reference_type = numeric_id 0 40; target = target; part = part }) definition

abbrev pub entry_from : Part → NodeId → Names → Place → Kind → Entry
entry_from part id names place kind = record {
  node = record {
    id = id;
    browse_name = names.browse_name;
    display_name = names.display_name;
    description = names.description;
    details = kind.details;
    history = kind.history;
  };
  parent = parent_triple part place id;
  definition = definition_triple part kind.definition id;
}

-- first the unknown keys, and then the other keys one by one
unfoldable pub rest_of : Setting → Part → NodeId → NodeClass → Members → Result Entry Cause
rest_of setting part id class ms = do
  known ← only (keys_of setting.version class) ms
  names ← names_of setting.highest id.namespace ms
  place ← place_of setting.highest ms
  kind ← kind_of class setting ms
  Ok (entry_from part id names place kind)

-- a node: its id and its class before the rest
unfoldable pub node_of : Setting → Part → Members → Result Entry Cause
node_of setting part ms = do
  id ← id_at setting.highest (codes "id") ms
  word ← required_word (codes "class") ms
  class ← class_of word
  rest_of setting part id class ms

-- an entry that is no table is of the wrong kind
abbrev pub entry_of : Setting → Part → Option Members → Result Entry Cause
entry_of setting part None = Err WrongKind
entry_of setting part (Some ms) = node_of setting part ms

abbrev pub listed : {A : Type 0} → Option A → List A
listed None = []
listed (Some x) = x ∷ []

-- the references of an entry
abbrev pub triples_of : Entry → List Triple
triples_of entry = listed entry.parent ++ listed entry.definition
