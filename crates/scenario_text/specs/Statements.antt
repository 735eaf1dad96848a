-- What a line says, and what is known after it.
use Rattle.std.specs.Prelude.{ℕ, ◌+◌, ◌-◌, ◌^◌, List, Bool, true, false, ◌&&◌, nat_lt, nat_le, min, Option, Some, None, is_some, Result, Ok, Err, if◌then◌else◌}
use Rattle.std.specs.FinMap.{empty, get, insert, remove}
use Rattle.scenario_text.specs.Choices.{channel_request_reading, subscriptions_reading, publishing_reading}
use Rattle.scenario_text.specs.Entries.{entries_reading, while_more}
use Rattle.scenario_text.specs.Numbers.{number_reading, long_number_reading, signed_number_reading, moment_reading}
use Rattle.scenario_text.specs.Readings.{Reading, ◌>>=◌, done, judged}
use Rattle.scenario_text.specs.Requests.{attribute_reading, new_value_reading, references_reading, raw_values_reading, counts_reading, new_item_reading, changed_item_reading, link_change_reading, acknowledgement_reading}
use Rattle.scenario_text.specs.Values.{text_reading, range_reading, key_reading, octets_reading}
use Rattle.scenario_text.specs.Verbs.{verb_of}
use Rattle.scenario_text.specs.Words.{word, end_of_line}
use Rattle.scenario_text.specs.declared.fault.Cause.{Cause}
use Rattle.scenario_text.specs.declared.fault.Cause.TheVariants.{Number, NoConnection}
use Rattle.scenario_text.specs.declared.known.Known.{Known}
use Rattle.scenario_text.specs.declared.statement.SessionRequest.{SessionRequest}
use Rattle.scenario_text.specs.declared.statement.SessionRequest.TheVariants as requests
use Rattle.scenario_text.specs.declared.statement.Statement.{Statement}
use Rattle.scenario_text.specs.declared.statement.Statement.TheVariants as statements
use Rattle.scenario_text.specs.declared.verbs.RequestVerb.{RequestVerb}
use Rattle.scenario_text.specs.declared.verbs.RequestVerb.TheVariants as asked
use Rattle.scenario_text.specs.declared.verbs.Verb.{Verb}
use Rattle.scenario_text.specs.declared.verbs.Verb.TheVariants as verbs

-- ---- what is known

abbrev pub nothing_known : Known
nothing_known = record { connections = empty; greatest = None; sessions = 0; range = None }

-- whether the number is above those of all connections before
abbrev pub is_above_all : ℕ → Option ℕ → Bool
is_above_all connection None = true
is_above_all connection (Some greatest) = nat_lt greatest connection

-- a connection that is open
unfoldable pub connection_reading : Known → Reading ℕ
connection_reading known = do
  connection ← long_number_reading
  judged (if is_some (get known.connections connection) then Ok connection else Err NoConnection)

-- a connection that can be opened
unfoldable pub new_connection_reading : Known → Reading ℕ
new_connection_reading known = do
  connection ← long_number_reading
  judged (if is_above_all connection known.greatest then Ok connection else Err Number)

-- a session that was made
unfoldable pub session_reading : Known → Reading ℕ
session_reading known = do
  session ← long_number_reading
  judged (if nat_lt 0 session && nat_le session known.sessions then Ok session else Err NoConnection)

-- who does what a verb says: the connection, which Open opens, and the session where one asks
abbrev pub asker_reading : Known → Verb → Reading (Unit {0})
asker_reading known verbs.Open = do
  connection ← new_connection_reading known
  done tt
asker_reading known verbs.Tick = done tt
asker_reading known verbs.Shutdown = done tt
asker_reading known verbs.Cut = done tt
asker_reading known verbs.Chunk = done tt
asker_reading known verbs.Abort = done tt
asker_reading known verbs.Range = done tt
asker_reading known (verbs.Ask verb) = do
  connection ← connection_reading known
  session ← session_reading known
  done tt
asker_reading known _ = do
  connection ← connection_reading known
  done tt

-- what a line begins with: its verb, and who does it
abbrev pub front : Known → Reading (Unit {0})
front known = do
  t ← word
  verb ← judged (verb_of t)
  asker_reading known verb

unfoldable pub front_reading : Known → Reading (Unit {0})
front_reading known = while_more (front known) tt

-- ---- what a line says

-- what a session asks, where this range is set for the next read or write
unfoldable pub request_reading : Option (List ℕ) → RequestVerb → Reading SessionRequest
request_reading range asked.ActivateSession = done requests.ActivateSession
request_reading range asked.CloseSession = do
  subscriptions ← subscriptions_reading
  done (requests.CloseSession subscriptions)
request_reading range asked.Read = do
  timestamps ← signed_number_reading
  attributes ← entries_reading attribute_reading
  done (requests.Read timestamps attributes range)
request_reading range asked.Write = do
  values ← entries_reading new_value_reading
  done (requests.Write values range)
request_reading range asked.Browse = do
  references ← references_reading
  done (requests.Browse references)
request_reading range asked.BrowseNext = do
  points ← entries_reading long_number_reading
  done (requests.BrowseNext points)
request_reading range asked.ReleasePoints = do
  points ← entries_reading long_number_reading
  done (requests.ReleasePoints points)
request_reading range asked.ReadHistory = do
  values ← raw_values_reading
  done (requests.ReadHistory values)
request_reading range asked.CreateSubscription = do
  counts ← counts_reading
  publishing ← publishing_reading
  done (requests.CreateSubscription counts publishing)
request_reading range asked.ModifySubscription = do
  subscription ← number_reading
  counts ← counts_reading
  done (requests.ModifySubscription subscription counts)
request_reading range asked.SetPublishing = do
  publishing ← publishing_reading
  subscriptions ← entries_reading number_reading
  done (requests.SetPublishing publishing subscriptions)
request_reading range asked.CreateItem = do
  item ← new_item_reading
  done (requests.CreateItem item)
request_reading range asked.ModifyItem = do
  item ← changed_item_reading
  done (requests.ModifyItem item)
request_reading range asked.SetItemMode = do
  subscription ← number_reading
  mode ← signed_number_reading
  items ← entries_reading number_reading
  done (requests.SetItemMode subscription mode items)
request_reading range asked.SetTriggering = do
  subscription ← number_reading
  triggering ← number_reading
  changes ← entries_reading link_change_reading
  done (requests.SetTriggering subscription triggering changes)
request_reading range asked.DeleteItems = do
  subscription ← number_reading
  items ← entries_reading number_reading
  done (requests.DeleteItems subscription items)
request_reading range asked.Publish = do
  acknowledgements ← entries_reading acknowledgement_reading
  done (requests.Publish acknowledgements)
request_reading range asked.Republish = do
  subscription ← number_reading
  sequence_number ← number_reading
  done (requests.Republish subscription sequence_number)
request_reading range asked.DeleteSubscriptions = do
  subscriptions ← entries_reading number_reading
  done (requests.DeleteSubscriptions subscriptions)

unfoldable pub statement_reading : Known → Verb → Reading Statement
statement_reading known verbs.Open = do
  connection ← new_connection_reading known
  key ← key_reading
  done (statements.Open connection key)
statement_reading known verbs.Hello = do
  connection ← connection_reading known
  url ← text_reading
  done (statements.Hello connection url)
statement_reading known verbs.OpenChannel = do
  connection ← connection_reading known
  request ← channel_request_reading
  done (statements.OpenChannel connection request)
statement_reading known verbs.CloseChannel = do
  connection ← connection_reading known
  done (statements.CloseChannel connection)
statement_reading known verbs.Gone = do
  connection ← connection_reading known
  done (statements.Gone connection)
statement_reading known verbs.Tick = do
  now ← moment_reading
  done (statements.Tick now)
statement_reading known verbs.Shutdown = done statements.Shutdown
statement_reading known verbs.Raw = do
  connection ← connection_reading known
  bytes ← octets_reading
  done (statements.Raw connection bytes)
statement_reading known verbs.Cut = do
  size ← long_number_reading
  done (statements.Cut size)
statement_reading known verbs.Chunk = do
  size ← long_number_reading
  done (statements.Chunk size)
statement_reading known verbs.Abort = done statements.Abort
statement_reading known verbs.Range = do
  range ← range_reading
  done (statements.Range range)
statement_reading known verbs.GetEndpoints = do
  connection ← connection_reading known
  done (statements.GetEndpoints connection)
statement_reading known verbs.CreateSession = do
  connection ← connection_reading known
  done (statements.CreateSession connection)
statement_reading known (verbs.Ask verb) = do
  connection ← connection_reading known
  session ← session_reading known
  request ← request_reading known.range verb
  done (statements.Ask connection session request)

-- the statements without texts, bytes and lists
abbrev pub takes_no_memory : Verb → Bool
takes_no_memory verbs.Open = true
takes_no_memory verbs.CloseChannel = true
takes_no_memory verbs.Gone = true
takes_no_memory verbs.Tick = true
takes_no_memory verbs.Shutdown = true
takes_no_memory verbs.Cut = true
takes_no_memory verbs.Chunk = true
takes_no_memory verbs.Abort = true
takes_no_memory verbs.GetEndpoints = true
takes_no_memory verbs.CreateSession = true
takes_no_memory _ = false

abbrev pub is_spared_by : Result (Verb × List ℕ) Cause → Bool
is_spared_by (Ok read) = takes_no_memory read.0
is_spared_by (Err e) = true

-- the line has such a verb, a bad one, or none
unfoldable pub is_spared : List ℕ → Bool
is_spared line = is_spared_by ((word >>= λ t. judged (verb_of t)) line)

-- the words of a line that isn't blank
abbrev pub said : Known → Reading (Option Statement)
said known = do
  t ← word
  verb ← judged (verb_of t)
  statement ← statement_reading known verb
  end ← end_of_line
  done (Some statement)

unfoldable pub line_reading : Known → Reading (Option Statement)
line_reading known = while_more (said known) None

abbrev pub without_rest : {A : Type 0} → Result (A × List ℕ) Cause → Result A Cause
without_rest (Ok x) = Ok x.0
without_rest (Err e) = Err e

-- what a line says, none where it is blank or a comment; or what is wrong with its leftmost bad word
unfoldable pub statement_of : Known → List ℕ → Result (Option Statement) Cause
statement_of known line = without_rest (line_reading known line)

-- ---- what is known after it

-- a read or a write uses the range up that was set for it
abbrev pub uses_range : SessionRequest → Bool
uses_range (requests.Read timestamps attributes range) = true
uses_range (requests.Write values range) = true
uses_range _ = false

abbrev pub after : Known → Statement → Known
after known (statements.Open connection key) = record known { connections = insert known.connections connection tt; greatest = Some connection }
after known (statements.Gone connection) = record known { connections = remove known.connections connection }
after known (statements.CreateSession connection) = record known { sessions = min (known.sessions + 1) (2 ^ 64 - 1) }
after known (statements.Range range) = record known { range = range }
after known (statements.Ask connection session request) = if uses_range request then record known { range = None } else known
after known _ = known

abbrev pub after_line : Known → Option Statement → Known
after_line known None = known
after_line known (Some statement) = after known statement
