-- The server's configuration: its fields, the ranges of its numbers, and the standard one.
use Rattle.std.specs.Prelude.{ℕ, Bool, false, pos, ◌≤ℤ◌, ◌≤◌, List, [], ◌∷◌, length, codes, Option, Some, IsSome, IfSome}
use Rattle.ua_types.specs.declared.moment.Moment.{Moment}
use Rattle.ua_types.specs.declared.duration.Duration.{Duration}
use Rattle.ua_types.specs.declared.number_range.NumberRange.{NumberRange}
use Rattle.ua_types.specs.declared.number_range.TheConstants.NumberRange as ranges

pub record Configuration : Type 0 where
  pub uri : Option (List ℕ)
  pub name : Option (List ℕ)
  pub url : Option (List ℕ)
  pub namespaces : Option (List (Option (List ℕ)))
  pub start : Moment
  pub receive_size : ℕ
  pub send_size : ℕ
  pub max_message : ℕ
  pub max_chunks : ℕ
  pub lifetime_ms : ℕ
  pub connections : ℕ
  pub sessions : ℕ
  pub subscriptions : ℕ
  pub subscriptions_in_all : ℕ
  pub items : ℕ
  pub items_in_all : ℕ
  pub queue : ℕ
  pub publish_queue : ℕ
  pub kept : ℕ
  pub notifications : ℕ
  pub points : ℕ
  pub references : ℕ
  pub operations : ℕ
  pub history_page : ℕ
  pub history : ℕ
  pub has_store : Bool
  pub session_time : ℕ
  pub publish_time : ℕ
  pub session_duration : Duration
  pub publish_duration : Duration
  pub sampling_duration : Duration

abbrev pub IsWithin : ℕ → ℕ → ℕ → Type 0
IsWithin low high n = (low ≤ n) × (n ≤ high)

-- a number lies in a range
abbrev pub IsIn : NumberRange → ℕ → Type 0
IsIn range n = IsWithin range.least range.most n

-- the server's names are given, there are at most 100 namespaces, and each number that has a range lies in it
pub record IsConfigured (c : Configuration) : Type 0 where
  pub uri : IsSome c.uri
  pub name : IsSome c.name
  pub url : IsSome c.url
  pub namespaces : IfSome c.namespaces (λ texts. length texts ≤ 100)
  pub start : pos 0 ≤ℤ c.start.0
  pub receive_size : IsIn ranges.RECEIVE_SIZE c.receive_size
  pub send_size : IsIn ranges.SEND_SIZE c.send_size
  pub max_message : IsIn ranges.MAX_MESSAGE c.max_message
  pub max_chunks : IsIn ranges.MAX_CHUNKS c.max_chunks
  pub lifetime_ms : IsIn ranges.LIFETIME_MS c.lifetime_ms
  pub connections : IsIn ranges.CONNECTIONS c.connections
  pub sessions : IsIn ranges.SESSIONS c.sessions
  pub subscriptions : IsIn ranges.SUBSCRIPTIONS c.subscriptions
  pub items : IsIn ranges.ITEMS c.items
  pub queue : IsIn ranges.QUEUE c.queue
  pub publish_queue : IsIn ranges.PUBLISH_QUEUE c.publish_queue
  pub kept : IsIn ranges.KEPT c.kept
  pub notifications : IsIn ranges.NOTIFICATIONS c.notifications
  pub points : IsIn ranges.POINTS c.points
  pub references : IsIn ranges.REFERENCES c.references
  pub operations : IsIn ranges.OPERATIONS c.operations
  pub history_page : IsIn ranges.HISTORY_PAGE c.history_page
  pub history : IsIn ranges.HISTORY c.history
  pub session_time : IsIn ranges.SESSION_TIME c.session_time
  pub publish_time : IsIn ranges.PUBLISH_TIME c.publish_time

-- what holds where nothing else is said
unfoldable pub standard : Configuration
standard = record {
  uri = Some (codes "urn:uaserver");
  name = Some (codes "uaserver");
  url = Some (codes "opc.tcp://localhost:4840");
  namespaces = Some [];
  start = record { 0 = pos 0 };
  receive_size = 65536;
  send_size = 65536;
  max_message = 1048576;
  max_chunks = 64;
  lifetime_ms = 3600000;
  connections = 100;
  sessions = 100;
  subscriptions = 100;
  subscriptions_in_all = 100000;
  items = 1000;
  items_in_all = 1000000;
  queue = 100;
  publish_queue = 10;
  kept = 100;
  notifications = 1000;
  points = 10;
  references = 1000;
  operations = 1000;
  history_page = 1000;
  history = 10000;
  has_store = false;
  session_time = 600000000;
  publish_time = 10000000;
  session_duration = record { 0 = 0 ∷ 0 ∷ 0 ∷ 0 ∷ 0 ∷ 0x4c ∷ 0xed ∷ 0x40 ∷ [] };
  publish_duration = record { 0 = 0 ∷ 0 ∷ 0 ∷ 0 ∷ 0 ∷ 0x40 ∷ 0x8f ∷ 0x40 ∷ [] };
  sampling_duration = record { 0 = 0 ∷ 0 ∷ 0 ∷ 0 ∷ 0 ∷ 0 ∷ 0 ∷ 0 ∷ [] };
}
