-- A whole node file: its version, its three parts, and what they say together.
use Rattle.std.specs.Prelude.{◌≡◌, ◌≢◌, ℕ, ◌+◌, pos, List, [], ◌∷◌, ◌++◌, ◌==◌, map, length, codes, Option, Some, None, unwrap_or, Result, Ok, Err, if◌then◌else◌}
use Rattle.std.specs.List.{flat_map}
use Rattle.toml.specs.Data.{Data, integer, Items, Members, no_members, get_member, as_table}
use Rattle.toml.specs.Parse.{parse_document}
use Rattle.ua_types.specs.Configuration.{Configuration}
use Rattle.ua_space.specs.declared.node.Node.{Node}
use Rattle.ua_space.specs.declared.triple.Part.{Part}
use Rattle.ua_space.specs.declared.triple.Part.TheVariants as part
use Rattle.ua_space.specs.declared.triple.Triple.{Triple}
use Rattle.ua_types.specs.Answers.{◌>>=◌}
use Rattle.node_loader.specs.Lists.{each}
use Rattle.node_loader.specs.Keys.{only, of_kind, list_at}
use Rattle.node_loader.specs.Node.{entry_of, triples_of}
use Rattle.node_loader.specs.Reference.{listed_reference_of}
use Rattle.node_loader.specs.Server.{server_of}
use Rattle.node_loader.specs.declared.fault.Cause.{Cause}
use Rattle.node_loader.specs.declared.fault.Cause.TheVariants as causes
use Rattle.node_loader.specs.declared.fault.LoadFault.{LoadFault}
use Rattle.node_loader.specs.declared.file.Loaded.{Loaded}
use Rattle.node_loader.specs.declared.node.Entry.{Entry}
use Rattle.node_loader.specs.declared.past.Setting.{Setting}
use Rattle.node_loader.specs.declared.version.Version.{Version}
use Rattle.node_loader.specs.declared.version.Version.TheVariants.{One, Two}

-- `version = 1` or `version = 2`
abbrev pub version_of : Option Data → Result Version Cause
version_of (Some (integer (pos n))) = if n == 1 then Ok One else if n == 2 then Ok Two else Err causes.Version
version_of _ = Err causes.Version

-- the table `server`, empty where there is none
unfoldable pub table_at : List ℕ → Members → Result Members Cause
table_at key ms = do
  found ← of_kind as_table (get_member key ms)
  Ok (unwrap_or found no_members)

-- the parts of a file: its own keys are judged first, then its version, and then the kinds of its parts
pub record Parts : Type 0 where
  pub version : Version
  pub server : Members
  pub nodes : Items
  pub references : Items

unfoldable pub parts_of : Members → Result Parts Cause
parts_of ms = do
  known ← only (codes "version" ∷ codes "server" ∷ codes "node" ∷ codes "reference" ∷ []) ms
  version ← version_of (get_member (codes "version") ms)
  server ← table_at (codes "server") ms
  nodes ← list_at (codes "node") ms
  references ← list_at (codes "reference") ms
  Ok (record { version = version; server = server; nodes = nodes; references = references })

-- the fault of a part
abbrev pub in_part : {A : Type 0} → Part → Result A Cause → Result A LoadFault
in_part p (Ok x) = Ok x
in_part p (Err c) = Err (record { cause = c; part = p })

-- what nodes depend on: besides the namespaces 0 and 1 there are those of the configuration
abbrev pub setting_of : Version → Configuration → Setting
setting_of version c = record { version = version; highest = 1 + length (unwrap_or c.namespaces []); start = c.start; history = c.history }

-- the nodes of the list `node`, and the references that come with them
abbrev pub entries_of : Setting → Items → Result (List Entry) LoadFault
entries_of setting ds = each (λ n d. in_part (part.Node n) (entry_of setting (part.Node n) (as_table d))) 1 ds

unfoldable pub nodes_of : Setting → Items → Result (List Node × List Triple) LoadFault
nodes_of setting ds = do
  entries ← entries_of setting ds
  Ok (map (λ e. e.node) entries, flat_map triples_of entries)

-- the list `reference`
abbrev pub references_of : ℕ → Items → Result (List Triple) LoadFault
references_of highest ds = each (λ n d. in_part (part.Reference n) (listed_reference_of highest (part.Reference n) (as_table d))) 1 ds

-- the configuration, the nodes and the references of a file; the references that come with nodes stand first
unfoldable pub contents_of : Members → Result Loaded LoadFault
contents_of ms = do
  parts ← in_part part.File (parts_of ms)
  config ← in_part part.Server (server_of parts.version parts.server)
  nodes ← nodes_of (setting_of parts.version config) parts.nodes
  references ← references_of (setting_of parts.version config).highest parts.references
  Ok (record { config = config; nodes = nodes.0; triples = nodes.1 ++ references })

-- a text that is no TOML
abbrev pub read_of : Option Members → Result Loaded LoadFault
read_of None = Err (record { cause = causes.Toml; part = part.File })
read_of (Some ms) = contents_of ms

-- what a node file means, or its first fault
abbrev pub meaning_of : List ℕ → Result Loaded LoadFault
meaning_of text = read_of (parse_document text)

-- what a call answers, seen by view, is what is said, unless memory ran out
abbrev pub Loads : {X Y : Type 0} → (X → Y) → Result X LoadFault → Result Y LoadFault → Type 0
Loads view (Ok x) said = said ≡ Ok (view x)
Loads view (Err f) said = f.cause ≢ causes.Memory → said ≡ Err f
