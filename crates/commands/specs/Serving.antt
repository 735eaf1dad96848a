-- What `serve` comes to, and what it puts out while it serves.
use Rattle.std.specs.Prelude.{◌≡◌, ◌⊎◌, ℕ, ◌/◌, max, Bool, true, false, List, [], ◌++◌, codes, Option, Some, None, IfSome, is_some, option_map, unwrap_or, Result, Ok, Err}
use Rattle.std.specs.Fmt.{decimal}
use Rattle.ua_types.specs.Configuration.{Configuration}
use Rattle.server_core.specs.World.{opening}
use Rattle.server_messages.specs.Kept.{Kept, AreAlike, read_back}
use Rattle.server_messages.specs.declared.kept_values.KeptValues.{KeptValues}
use Rattle.server_messages.specs.declared.store_fault.StoreFault.{StoreFault}
use Rattle.server_messages.specs.declared.store_fault.StoreFault.TheVariants as store_fault
use Rattle.store_restoring.specs.Times.{latest_of}
use Rattle.store_restoring.specs.Restored.{AreRestored, kept_for}
use Rattle.std.specs.Map.{keys_of}
use Rattle.ua_types.specs.Moments.{later}
use Rattle.ua_types.specs.declared.moment.Moment.{Moment}
use Rattle.ua_space.specs.Nodes.{SpaceState}
use Rattle.socket_server.specs.Keeping.{Keeping, keeping_all}
use Rattle.scenario_run.specs.TraceText.{rows_text}
use Rattle.scenario_run.specs.Held.{Place}
use Rattle.socket_server.specs.Sockets.{ServeState, IsUnserved}
use Rattle.socket_server.specs.Serving.{IsServed, IsStopped, IsOutside}
use Rattle.socket_server.specs.Output.{Output, EventText, no_output}
use Rattle.socket_server.specs.declared.serve_fault.ServeFault.{ServeFault}
use Rattle.socket_server.specs.declared.serve_fault.ServeFault.TheVariants as serve_fault
use Rattle.command_line.specs.declared.command.ServeOptions.{ServeOptions}
use Rattle.commands.specs.NodeFiles.{ReadFile, Made}
use Rattle.commands.specs.Said.{Says, OfNodes, OfFile}
use Rattle.commands.specs.declared.exit_status.ExitStatus.{ExitStatus}
use Rattle.commands.specs.declared.exit_status.ExitStatus.TheVariants.{Done, Halted, Network, Stream, Store}

-- what is put out at a place that is lent by this name
abbrev pub output_at : ℕ → Place → Output
output_at writer at = record { writer = writer; bytes = at.bytes; failures = at.failures }

-- with a trace the lines of the rows that fired at an event, and nothing without
abbrev pub text_of : Bool → EventText
text_of true = rows_text
text_of false = λ event rows. []

-- It goes so between these two states of the output. Without a trace nothing is put there
abbrev pub Between : Bool → (Output → Output → Type 0) → Place → Place → Type 0
Between true Goes old new = (writer : ℕ) × Goes (output_at writer old) (output_at writer new)
Between false Goes old new = Goes no_output no_output × (new ≡ old)

-- These sockets and this server serve the turns that were asked for, fewer only where there is a file to stop at; or stop before. What is put
-- out is of the rows that fire
abbrev pub ServesWith : ServeOptions → ServeState → Keeping → Place → Place → Result (Unit {0}) ServeFault → Type 0
ServesWith o sockets server old new (Ok x) = Between o.trace (IsServed (text_of o.trace) sockets server (is_some o.stop_file) o.turns) old new
ServesWith o sockets server old new (Err fault) = Between o.trace (IsStopped (text_of o.trace) sockets server fault) old new

-- how the fault of a store ends the program
abbrev pub status_stored : StoreFault → ExitStatus
status_stored store_fault.Memory = Halted
status_stored f = Store

-- how the end of serving ends the program
abbrev pub status_served : Result (Unit {0}) ServeFault → ExitStatus
status_served (Ok x) = Done
status_served (Err (serve_fault.Step f)) = Halted
status_served (Err serve_fault.Memory) = Halted
status_served (Err serve_fault.Trace) = Stream
status_served (Err (serve_fault.Store f)) = status_stored f
status_served (Err of_the_network) = Network

unfoldable pub listening_line : ℕ → List ℕ
listening_line port = codes "listening " ++ decimal port ++ codes "\n"

-- How many seconds nothing may be sent to a socket: as the words say, or else twice the session time, which counts 100 ns, and ten minutes at least
abbrev pub idle_of : ℕ → Option ℕ → ℕ
idle_of session_time (Some seconds) = seconds
idle_of session_time None = max (session_time / 5000000) 600

-- the configuration, with the URL of the words where they have one
abbrev pub with_url : Configuration → Option (List ℕ) → Configuration
with_url c None = c
with_url c (Some url) = record c { url = Some url }

-- and with as many subscriptions and items of the whole server as the words let there be
unfoldable pub configured : Configuration → ServeOptions → Configuration
configured c o =
    let url = with_url c (option_map (λ u. u.now) o.url) in
    record url { subscriptions_in_all = unwrap_or o.all_subscriptions url.subscriptions_in_all; items_in_all = unwrap_or o.all_items url.items_in_all }

-- The program was asked to listen at this address and this port, within these limits, and nobody has connected yet; it is said that it
-- listens; and then this server serves so, and what it puts out comes behind that line
abbrev pub ListensAndServes : Place → Place → ℕ → ServeOptions → Keeping → Result (Unit {0}) ServeFault → Type 0
ListensAndServes old new idle o server result =
    (sockets : ServeState) × IsUnserved o.address o.port (record { idle = idle; per_address = o.per_address }) sockets × (mid : Place)
    × Says (listening_line o.port) old mid Done × ServesWith o sockets server mid new result

-- It is said that this server listens, and it serves the turns that were asked for, from no connection on, or stops before, for the fault that
-- the status tells. Or nothing is said, for such a fault of the program's own; or saying it failed, and nobody is served
abbrev pub ServesOn : Place → Place → ℕ → ServeOptions → Keeping → ExitStatus → Type 0
ServesOn old new idle o server Done = ListensAndServes old new idle o server (Ok tt)
ServesOn old new idle o server Stream = Says (listening_line o.port) old new Stream ⊎ ListensAndServes old new idle o server (Err serve_fault.Trace)
ServesOn old new idle o server status =
    (f : ServeFault) × (status ≡ status_served (Err f)) × (ListensAndServes old new idle o server (Err f) ⊎ (IsOutside f × (new ≡ old)))

-- ---- what a store has kept

-- the latest time of what was kept
abbrev pub latest_kept : KeptValues → Option Moment
latest_kept kept = latest_of (latest_of None kept.values.items) kept.histories.items

-- The configuration of a server whose store has kept these. Its clock starts at the latest of their times, where that is later
abbrev pub with_store : Configuration → KeptValues → Configuration
with_store c kept = record c { has_store = true; start = unwrap_or (option_map (later c.start) (latest_kept kept)) c.start }

-- these are put into an address space, as far as its nodes take them
abbrev pub Restores : KeptValues → SpaceState → SpaceState → Type 0
Restores kept old new =
    AreRestored (kept_for old.nodes kept.values.items kept.histories.items) old.nodes new.nodes × (keys_of new.nodes ≡ keys_of old.nodes)
    × (new.triples ≡ old.triples)

-- A server of this configuration and space begins with what was read back of a store, which keeps the same, where that is known
abbrev pub BeginsWithStore : Configuration → SpaceState → Keeping → Type 0
BeginsWithStore config space server =
    (kept : KeptValues) × (is : Option Kept) × (begun : SpaceState) × IfSome is (AreAlike (read_back kept.values.items kept.histories.items)) × Restores kept space begun
    × (server ≡ keeping_all (Some (opening (with_store config kept) begun)) is)

-- a store can't be opened, or there is no memory for what it has kept
abbrev pub IsUnopened : ExitStatus → Type 0
IsUnopened status = (status ≡ Store) ⊎ (status ≡ Halted)

-- ---- all of it

-- The server is the new one of what was made, as the words configure it. Where they name a store, it begins with what was read back of it; or
-- the store can't be opened, and nothing is said
abbrev pub ServesStored : Place → Place → ℕ → ServeOptions → Configuration → SpaceState → Bool → ExitStatus → Type 0
ServesStored old new idle o config space false status = ServesOn old new idle o (keeping_all (Some (opening config space)) None) status
ServesStored old new idle o config space true status =
    ((server : Keeping) × BeginsWithStore config space server × ServesOn old new idle o server status) ⊎ (IsUnopened status × (new ≡ old))

-- sockets may be silent for as long as the configuration of what was made and the words say
abbrev pub ServesBy : Place → Place → ServeOptions → Made → ExitStatus → Type 0
ServesBy old new o made = ServesStored old new (idle_of made.0.session_time o.idle) o (configured made.0 o) made.1 (is_some o.store)

abbrev pub ServesMade : Place → Place → ServeOptions → Option Made → ExitStatus → Type 0
ServesMade old new o made status = OfNodes (ServesBy old new o) (new ≡ old) made status

abbrev pub ServesFile : Place → Place → ServeOptions → ExitStatus → Option ReadFile → Type 0
ServesFile old new o status file = OfFile (ServesBy old new o) (new ≡ old) o.nodes.now status file
