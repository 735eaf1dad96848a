-- What a node file of version 1 meant before there was a second version, kept as it was. What didn't change is shared.
use Rattle.std.specs.Prelude.{ℕ, pos, List, [], ◌∷◌, ◌++◌, ◌==◌, map, codes, Option, Some, None, Result, Ok, Err, if◌then◌else◌}
use Rattle.std.specs.List.{flat_map}
use Rattle.toml.specs.Data.{Data, integer, Items, Members, get_member, as_table}
use Rattle.ua_types.specs.Answers.{◌>>=◌}
use Rattle.ua_types.specs.Configuration.{Configuration}
use Rattle.ua_types.specs.declared.node_class.NodeClass.{NodeClass}
use Rattle.ua_types.specs.declared.node_class.NodeClass.TheVariants as classes
use Rattle.ua_types.specs.declared.node_id.NodeId.{NodeId}
use Rattle.ua_types.specs.declared.number_range.NumberRange.{NumberRange}
use Rattle.ua_types.specs.DataValues.{value_since}
use Rattle.ua_types.specs.ValueTypes.{type_number}
use Rattle.ua_space.specs.declared.node.Node.{Node}
use Rattle.ua_space.specs.declared.node.NodeDetails.TheVariants as details
use Rattle.ua_space.specs.declared.node.ValueRank.TheVariants as ranks
use Rattle.ua_space.specs.declared.node.Variable.{Variable}
use Rattle.ua_space.specs.declared.triple.Part.{Part}
use Rattle.ua_space.specs.declared.triple.Part.TheVariants as part
use Rattle.ua_space.specs.declared.triple.Triple.{Triple}
use Rattle.node_loader.specs.File.{in_part, references_of, setting_of, table_at}
use Rattle.node_loader.specs.Ids.{id_at, id_or}
use Rattle.node_loader.specs.Keys.{boolean_at, list_at, number_at, only, required_word, up_to}
use Rattle.node_loader.specs.Lists.{each}
use Rattle.node_loader.specs.Node.{class_of, common_keys, data_type_of, entry_from, names_of, object_of, object_type_of, place_of, plain_kind, reference_type_of, triples_of, type_at}
use Rattle.node_loader.specs.Server.{configured, durations_of, messages_of, server_keys, sizes_of, times_of}
use Rattle.node_loader.specs.Server as server
use Rattle.node_loader.specs.Value.{value_of}
use Rattle.node_loader.specs.declared.fault.Cause.{Cause}
use Rattle.node_loader.specs.declared.fault.Cause.TheVariants as causes
use Rattle.node_loader.specs.declared.fault.LoadFault.{LoadFault}
use Rattle.node_loader.specs.declared.file.Loaded.{Loaded}
use Rattle.node_loader.specs.declared.node.Entry.{Entry}
use Rattle.node_loader.specs.declared.node.Kind.{Kind}
use Rattle.node_loader.specs.declared.past.Setting.{Setting}
use Rattle.node_loader.specs.declared.server.Pages.{Pages}
use Rattle.node_loader.specs.declared.server.Tables.{Tables}
use Rattle.node_loader.specs.declared.version.Version.TheVariants.{One}

-- ---- the table `server`

abbrev pub from_one_to : ℕ → NumberRange
from_one_to most = record { least = 1; most = most }

unfoldable pub first_tables_of : Members → Result Tables Cause
first_tables_of ms = do
  connections ← number_at (codes "connections") 100 (from_one_to 10000) ms
  sessions ← number_at (codes "sessions") 100 (from_one_to 10000) ms
  subscriptions ← number_at (codes "subscriptions") 100 (from_one_to 100000) ms
  items ← number_at (codes "items") 1000 (from_one_to 100000) ms
  queue ← number_at (codes "queue") 100 (from_one_to 100000) ms
  Ok (record { connections = connections; sessions = sessions; subscriptions = subscriptions; items = items; queue = queue })

unfoldable pub first_pages_of : Members → Result Pages Cause
first_pages_of ms = do
  references ← number_at (codes "references") 1000 (from_one_to 100000) ms
  operations ← number_at (codes "operations") 1000 (from_one_to 100000) ms
  history_page ← number_at (codes "history_page") 1000 (from_one_to 100000) ms
  history ← number_at (codes "history") 10000 (from_one_to 1000000) ms
  Ok (record { references = references; operations = operations; history_page = history_page; history = history })

unfoldable pub first_server_of : Members → Result Configuration Cause
first_server_of ms = do
  known ← only server_keys ms
  names ← server.names_of ms
  start ← number_at (codes "start") 0 (up_to 9223372036854775807) ms
  sizes ← sizes_of ms
  tables ← first_tables_of ms
  messages ← messages_of ms
  pages ← first_pages_of ms
  times ← times_of ms
  durations ← durations_of ms
  Ok (configured names start sizes tables messages pages times durations)

-- ---- a node

abbrev pub first_keys_of : NodeClass → List (List ℕ)
first_keys_of classes.Object = common_keys (codes "definition" ∷ [])
first_keys_of classes.Variable = common_keys (codes "definition" ∷ codes "type" ∷ codes "value" ∷ codes "access" ∷ codes "historizing" ∷ [])
first_keys_of classes.ObjectType = common_keys (codes "abstract" ∷ [])
first_keys_of classes.VariableType = common_keys (codes "type" ∷ codes "abstract" ∷ [])
first_keys_of classes.ReferenceType = common_keys (codes "abstract" ∷ codes "symmetric" ∷ codes "inverse" ∷ [])
first_keys_of classes.DataType = common_keys (codes "abstract" ∷ [])

unfoldable pub first_variable_of : Setting → Members → Result Variable Cause
first_variable_of setting ms = do
  value_type ← type_at ms
  value ← value_of value_type setting.highest ms
  access ← number_at (codes "access") 1 (up_to 15) ms
  historizing ← boolean_at (codes "historizing") ms
  Ok (record {
    data_type = type_number value_type;
    value_rank = ranks.Scalar;
    value = value_since setting.start value;
    access = access;
    historizing = historizing;
  })

unfoldable pub first_variable_node_of : Setting → Members → Result Kind Cause
first_variable_node_of setting ms = do
  definition ← id_or setting.highest (codes "definition") 63 ms
  variable ← first_variable_of setting ms
  Ok (plain_kind (details.Variable variable) (Some definition))

unfoldable pub first_variable_type_of : Members → Result Kind Cause
first_variable_type_of ms = do
  value_type ← type_at ms
  is_abstract ← boolean_at (codes "abstract") ms
  Ok (plain_kind (details.VariableType (type_number value_type) ranks.Scalar is_abstract) None)

abbrev pub first_kind_of : NodeClass → Setting → Members → Result Kind Cause
first_kind_of classes.Object setting ms = object_of setting ms
first_kind_of classes.Variable setting ms = first_variable_node_of setting ms
first_kind_of classes.ObjectType setting ms = object_type_of ms
first_kind_of classes.VariableType setting ms = first_variable_type_of ms
first_kind_of classes.ReferenceType setting ms = reference_type_of ms
first_kind_of classes.DataType setting ms = data_type_of ms

unfoldable pub first_rest_of : Setting → Part → NodeId → NodeClass → Members → Result Entry Cause
first_rest_of setting part id class ms = do
  known ← only (first_keys_of class) ms
  names ← names_of setting.highest id.namespace ms
  place ← place_of setting.highest ms
  kind ← first_kind_of class setting ms
  Ok (entry_from part id names place kind)

unfoldable pub first_node_of : Setting → Part → Members → Result Entry Cause
first_node_of setting part ms = do
  id ← id_at setting.highest (codes "id") ms
  word ← required_word (codes "class") ms
  class ← class_of word
  first_rest_of setting part id class ms

abbrev pub first_entry_of : Setting → Part → Option Members → Result Entry Cause
first_entry_of setting part None = Err causes.WrongKind
first_entry_of setting part (Some ms) = first_node_of setting part ms

-- ---- the file

abbrev pub first_version_of : Option Data → Result (Unit {0}) Cause
first_version_of (Some (integer (pos n))) = if n == 1 then Ok tt else Err causes.Version
first_version_of _ = Err causes.Version

pub record FirstParts : Type 0 where
  pub server : Members
  pub nodes : Items
  pub references : Items

unfoldable pub first_parts_of : Members → Result FirstParts Cause
first_parts_of ms = do
  version ← first_version_of (get_member (codes "version") ms)
  known ← only (codes "version" ∷ codes "server" ∷ codes "node" ∷ codes "reference" ∷ []) ms
  server ← table_at (codes "server") ms
  nodes ← list_at (codes "node") ms
  references ← list_at (codes "reference") ms
  Ok (record { server = server; nodes = nodes; references = references })

abbrev pub first_entries_of : Setting → Items → Result (List Entry) LoadFault
first_entries_of setting ds = each (λ n d. in_part (part.Node n) (first_entry_of setting (part.Node n) (as_table d))) 1 ds

unfoldable pub first_nodes_of : Setting → Items → Result (List Node × List Triple) LoadFault
first_nodes_of setting ds = do
  entries ← first_entries_of setting ds
  Ok (map (λ e. e.node) entries, flat_map triples_of entries)

unfoldable pub first_contents_of : Members → Result Loaded LoadFault
first_contents_of ms = do
  parts ← in_part part.File (first_parts_of ms)
  config ← in_part part.Server (first_server_of parts.server)
  nodes ← first_nodes_of (setting_of One config) parts.nodes
  references ← references_of (setting_of One config).highest parts.references
  Ok (record { config = config; nodes = nodes.0; triples = nodes.1 ++ references })
