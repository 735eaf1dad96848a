-- The table `server`: for each key its name, its default and its range.
use Rattle.std.specs.Prelude.{ℕ, false, pos, ◌≤◌, List, [], ◌∷◌, codes, length, nat_le, Option, Some, None, is_some, IsSome, IfSome, Result, Ok, Err, if◌then◌else◌}
use Rattle.toml.specs.Data.{Items, Members, get_member, as_str, as_array}
use Rattle.hex.specs.Hex.{decode_sized}
use Rattle.hex.specs.declared.error.FromHexError.{FromHexError}
use Rattle.ua_types.specs.Configuration.{Configuration, IsIn}
use Rattle.ua_types.specs.declared.number_range.TheConstants.NumberRange as ranges
use Rattle.ua_types.specs.declared.duration.Duration.{Duration}
use Rattle.ua_types.specs.Answers.{◌>>=◌}
use Rattle.node_loader.specs.Elements.{elements, text_of}
use Rattle.node_loader.specs.Lists.{all_items, count}
use Rattle.node_loader.specs.Versions.{range_of}
use Rattle.node_loader.specs.declared.version.TheConstants.{FIRST_CONNECTIONS, FIRST_HISTORY, FIRST_QUEUE, FIRST_SESSIONS}
use Rattle.node_loader.specs.declared.version.Version.{Version}
use Rattle.node_loader.specs.declared.fault.Cause.{Cause}
use Rattle.node_loader.specs.declared.fault.Cause.TheVariants.{WrongKind, OutOfRange}
use Rattle.node_loader.specs.Keys.{only, of_kind, word_at, text_or, number_at, up_to}
use Rattle.node_loader.specs.declared.server.Names.{Names}
use Rattle.node_loader.specs.declared.server.Sizes.{Sizes}
use Rattle.node_loader.specs.declared.server.Tables.{Tables}
use Rattle.node_loader.specs.declared.server.Messages.{Messages}
use Rattle.node_loader.specs.declared.server.Pages.{Pages}
use Rattle.node_loader.specs.declared.server.Times.{Times}
use Rattle.node_loader.specs.declared.server.Durations.{Durations}

-- first that all are texts, then how many there are, then that each is short enough
abbrev pub few_texts : ℕ → Items → Result (List (Option (List ℕ))) Cause
few_texts most ds =
    if all_items (λ d. is_some (as_str d)) ds then (if nat_le (count ds) most then elements text_of ds else Err OutOfRange)
    else Err WrongKind

-- at most so many texts; none where the key is absent
abbrev pub texts_or_none : ℕ → Option Items → Result (List (Option (List ℕ))) Cause
texts_or_none most None = Ok []
texts_or_none most (Some ds) = few_texts most ds

unfoldable pub texts_at : List ℕ → ℕ → Members → Result (List (Option (List ℕ))) Cause
texts_at key most ms = do
  found ← of_kind as_array (get_member key ms)
  texts_or_none most found

-- the eight bytes that 16 hex digits spell, or the default
abbrev pub in_range : Result (List ℕ) FromHexError → Result Duration Cause
in_range (Ok bytes) = Ok (record { 0 = bytes })
in_range (Err e) = Err OutOfRange

abbrev pub duration_or : List ℕ → Option (List ℕ) → Result Duration Cause
duration_or fallback None = Ok (record { 0 = fallback })
duration_or fallback (Some t) = in_range (decode_sized t 8)

unfoldable pub duration_at : List ℕ → List ℕ → Members → Result Duration Cause
duration_at key fallback ms = do
  found ← word_at key ms
  duration_or fallback found

-- what the server is called
unfoldable pub names_of : Members → Result Names Cause
names_of ms = do
  uri ← text_or (codes "uri") (codes "urn:uaserver") ms
  name ← text_or (codes "name") (codes "uaserver") ms
  url ← text_or (codes "url") (codes "opc.tcp://localhost:4840") ms
  namespaces ← texts_at (codes "namespaces") 100 ms
  Ok (record { uri = uri; name = name; url = url; namespaces = Some namespaces })

-- the sizes of frames and requests, and the lifetime of a channel's token
unfoldable pub sizes_of : Members → Result Sizes Cause
sizes_of ms = do
  receive_size ← number_at (codes "receive_size") 65536 ranges.RECEIVE_SIZE ms
  send_size ← number_at (codes "send_size") 65536 ranges.SEND_SIZE ms
  max_message ← number_at (codes "max_message") 1048576 ranges.MAX_MESSAGE ms
  max_chunks ← number_at (codes "max_chunks") 64 ranges.MAX_CHUNKS ms
  lifetime_ms ← number_at (codes "lifetime_ms") 3600000 ranges.LIFETIME_MS ms
  Ok (record { receive_size = receive_size; send_size = send_size; max_message = max_message; max_chunks = max_chunks; lifetime_ms = lifetime_ms })

-- how much the server holds of each thing
unfoldable pub tables_of : Version → Members → Result Tables Cause
tables_of version ms = do
  connections ← number_at (codes "connections") 100 (range_of version FIRST_CONNECTIONS ranges.CONNECTIONS) ms
  sessions ← number_at (codes "sessions") 100 (range_of version FIRST_SESSIONS ranges.SESSIONS) ms
  subscriptions ← number_at (codes "subscriptions") 100 ranges.SUBSCRIPTIONS ms
  items ← number_at (codes "items") 1000 ranges.ITEMS ms
  queue ← number_at (codes "queue") 100 (range_of version FIRST_QUEUE ranges.QUEUE) ms
  Ok (record { connections = connections; sessions = sessions; subscriptions = subscriptions; items = items; queue = queue })

-- what a session and a subscription hold
unfoldable pub messages_of : Members → Result Messages Cause
messages_of ms = do
  publish_queue ← number_at (codes "publish_queue") 10 ranges.PUBLISH_QUEUE ms
  kept ← number_at (codes "kept") 100 ranges.KEPT ms
  notifications ← number_at (codes "notifications") 1000 ranges.NOTIFICATIONS ms
  points ← number_at (codes "points") 10 ranges.POINTS ms
  Ok (record { publish_queue = publish_queue; kept = kept; notifications = notifications; points = points })

-- the sizes of pages, lists and histories
unfoldable pub pages_of : Version → Members → Result Pages Cause
pages_of version ms = do
  references ← number_at (codes "references") 1000 ranges.REFERENCES ms
  operations ← number_at (codes "operations") 1000 ranges.OPERATIONS ms
  history_page ← number_at (codes "history_page") 1000 ranges.HISTORY_PAGE ms
  history ← number_at (codes "history") 10000 (range_of version FIRST_HISTORY ranges.HISTORY) ms
  Ok (record { references = references; operations = operations; history_page = history_page; history = history })

-- the two times, in steps of 100 ns
unfoldable pub times_of : Members → Result Times Cause
times_of ms = do
  session_time ← number_at (codes "session_time") 600000000 ranges.SESSION_TIME ms
  publish_time ← number_at (codes "publish_time") 10000000 ranges.PUBLISH_TIME ms
  Ok (record { session_time = session_time; publish_time = publish_time })

-- the times as clients are told them
unfoldable pub durations_of : Members → Result Durations Cause
durations_of ms = do
  session_duration ← duration_at (codes "session_duration") (0 ∷ 0 ∷ 0 ∷ 0 ∷ 0 ∷ 0x4c ∷ 0xed ∷ 0x40 ∷ []) ms
  publish_duration ← duration_at (codes "publish_duration") (0 ∷ 0 ∷ 0 ∷ 0 ∷ 0 ∷ 0x40 ∷ 0x8f ∷ 0x40 ∷ []) ms
  sampling_duration ← duration_at (codes "sampling_duration") (0 ∷ 0 ∷ 0 ∷ 0 ∷ 0 ∷ 0 ∷ 0 ∷ 0 ∷ []) ms
  Ok (record { session_duration = session_duration; publish_duration = publish_duration; sampling_duration = sampling_duration })

-- the keys, in the order in which they are judged
abbrev pub server_keys : List (List ℕ)
server_keys =
    codes "uri" ∷ codes "name" ∷ codes "url" ∷ codes "namespaces" ∷ codes "start" ∷
    codes "receive_size" ∷ codes "send_size" ∷ codes "max_message" ∷ codes "max_chunks" ∷ codes "lifetime_ms" ∷
    codes "connections" ∷ codes "sessions" ∷ codes "subscriptions" ∷ codes "items" ∷ codes "queue" ∷
    codes "publish_queue" ∷ codes "kept" ∷ codes "notifications" ∷ codes "points" ∷ codes "references" ∷
    codes "operations" ∷ codes "history_page" ∷ codes "history" ∷ codes "session_time" ∷ codes "publish_time" ∷
    codes "session_duration" ∷ codes "publish_duration" ∷ codes "sampling_duration" ∷ []

-- the configuration of its parts
abbrev pub configured : Names → ℕ → Sizes → Tables → Messages → Pages → Times → Durations → Configuration
configured names start sizes tables messages pages times durations = record {
  uri = names.uri;
  name = names.name;
  url = names.url;
  namespaces = names.namespaces;
  start = record { 0 = pos start };
  receive_size = sizes.receive_size;
  send_size = sizes.send_size;
  max_message = sizes.max_message;
  max_chunks = sizes.max_chunks;
  lifetime_ms = sizes.lifetime_ms;
  connections = tables.connections;
  sessions = tables.sessions;
  subscriptions = tables.subscriptions;
  subscriptions_in_all = 100000;
  items = tables.items;
  items_in_all = 1000000;
  queue = tables.queue;
  publish_queue = messages.publish_queue;
  kept = messages.kept;
  notifications = messages.notifications;
  points = messages.points;
  references = pages.references;
  operations = pages.operations;
  history_page = pages.history_page;
  history = pages.history;
  has_store = false;
  session_time = times.session_time;
  publish_time = times.publish_time;
  session_duration = durations.session_duration;
  publish_duration = durations.publish_duration;
  sampling_duration = durations.sampling_duration;
}

-- the configuration of the table, or its first fault
unfoldable pub server_of : Version → Members → Result Configuration Cause
server_of version ms = do
  known ← only server_keys ms
  names ← names_of ms
  start ← number_at (codes "start") 0 (up_to 9223372036854775807) ms
  sizes ← sizes_of ms
  tables ← tables_of version ms
  messages ← messages_of ms
  pages ← pages_of version ms
  times ← times_of ms
  durations ← durations_of ms
  Ok (configured names start sizes tables messages pages times durations)

-- the ranges, as the configuration wants them
pub record AreNames (n : Names) : Type 0 where
  pub uri : IsSome n.uri
  pub name : IsSome n.name
  pub url : IsSome n.url
  pub namespaces : IfSome n.namespaces (λ texts. length texts ≤ 100)

pub record AreSizes (s : Sizes) : Type 0 where
  pub receive_size : IsIn ranges.RECEIVE_SIZE s.receive_size
  pub send_size : IsIn ranges.SEND_SIZE s.send_size
  pub max_message : IsIn ranges.MAX_MESSAGE s.max_message
  pub max_chunks : IsIn ranges.MAX_CHUNKS s.max_chunks
  pub lifetime_ms : IsIn ranges.LIFETIME_MS s.lifetime_ms

pub record AreTables (s : Tables) : Type 0 where
  pub connections : IsIn ranges.CONNECTIONS s.connections
  pub sessions : IsIn ranges.SESSIONS s.sessions
  pub subscriptions : IsIn ranges.SUBSCRIPTIONS s.subscriptions
  pub items : IsIn ranges.ITEMS s.items
  pub queue : IsIn ranges.QUEUE s.queue

pub record AreMessages (s : Messages) : Type 0 where
  pub publish_queue : IsIn ranges.PUBLISH_QUEUE s.publish_queue
  pub kept : IsIn ranges.KEPT s.kept
  pub notifications : IsIn ranges.NOTIFICATIONS s.notifications
  pub points : IsIn ranges.POINTS s.points

pub record ArePages (s : Pages) : Type 0 where
  pub references : IsIn ranges.REFERENCES s.references
  pub operations : IsIn ranges.OPERATIONS s.operations
  pub history_page : IsIn ranges.HISTORY_PAGE s.history_page
  pub history : IsIn ranges.HISTORY s.history

pub record AreTimes (s : Times) : Type 0 where
  pub session_time : IsIn ranges.SESSION_TIME s.session_time
  pub publish_time : IsIn ranges.PUBLISH_TIME s.publish_time
