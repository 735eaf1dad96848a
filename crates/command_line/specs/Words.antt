-- What the words of the command line ask for.
use Rattle.std.specs.Prelude.{◌≡◌, ◌≢◌, ◌⊎◌, ⊤, Bool, true, false, ℕ, ◌^◌, ◌&&◌, nat_lt, List, [], length, Option, Some, None, Result, Ok, Err, codes, option_map, slice_get, if◌then◌else◌}
use Rattle.std.specs.Prelude.{option_and_then, unwrap_or}
use Rattle.std.specs.Char.{is_ascii_digit}
use Rattle.std.specs.Net.Grammar.{IsIpText}
use Rattle.std.specs.declared.net.ip_addr.IpAddr.{IpAddr}
use Rattle.std.specs.List.{list_all}
use Rattle.std.specs.Str.{bytes_eq}
use Rattle.std.specs.Str.Parse.{digits_value}
use Rattle.clap.specs.Words.{App, Kinds, IsAmong, Row, Rule, Text, fault_of, first_of, new_app, new_rule, subcommand_of, with_rule, with_subcommand}
use Rattle.clap.specs.declared.builder.action.ArgAction.TheVariants.{SetTrue}
use Rattle.clap.specs.declared.error.kind.ErrorKind.{ErrorKind}
use Rattle.clap.specs.declared.error.kind.ErrorKind.TheVariants.{DisplayHelp, DisplayVersion, OutOfMemory}
use Rattle.command_line.specs.declared.command.Command.{Command}
use Rattle.command_line.specs.declared.command.ServeOptions.{ServeOptions}
use Rattle.command_line.specs.declared.command.Command.TheVariants.{Pipe, Check, Asm, Run, Trace, Serve}
use Rattle.command_line.specs.declared.stop.Stop.{Stop}
use Rattle.command_line.specs.declared.stop.Stop.TheVariants.{Help, Usage, Memory}

-- the program and its commands, as a parse reads them; NODES may be left out of `pipe` alone
abbrev pub nodes_rule : Rule
nodes_rule = new_rule (codes "NODES")

abbrev pub scenario_rule : Rule
scenario_rule = record (new_rule (codes "SCENARIO")) { required = true }

-- an option of this name, which takes a value
abbrev pub option_rule : Text → Rule
option_rule name = record (new_rule name) { long = Some name; value_names = 1 }

-- an option of this name without a value, which is there or not
abbrev pub flag_rule : Text → Rule
flag_rule name = record (new_rule name) { long = Some name; action = Some SetTrue }

abbrev pub pipe_app : App
pipe_app = with_rule (new_app (codes "pipe")) nodes_rule

abbrev pub check_app : App
check_app = with_rule (with_rule (new_app (codes "check")) (record nodes_rule { required = true })) (flag_rule (codes "explain"))

abbrev pub asm_app : App
asm_app = with_rule (new_app (codes "asm")) scenario_rule

abbrev pub run_app : App
run_app = with_rule (with_rule (new_app (codes "run")) (record nodes_rule { required = true })) scenario_rule

abbrev pub trace_app : App
trace_app = with_rule (with_rule (new_app (codes "trace")) (record nodes_rule { required = true })) scenario_rule

-- `serve` with its NODES, its port and its address, then with what bounds its turns and sockets, then with what bounds the whole
-- server, then with its URL and its files, then whole
abbrev pub serve_place : App
serve_place =
    with_rule (with_rule (with_rule (new_app (codes "serve")) (record nodes_rule { required = true })) (record (option_rule (codes "port")) { required = true }))
    (option_rule (codes "address"))

abbrev pub serve_bounds : App
serve_bounds = with_rule (with_rule (with_rule serve_place (option_rule (codes "turns"))) (option_rule (codes "idle"))) (option_rule (codes "per-address"))

abbrev pub serve_totals : App
serve_totals = with_rule (with_rule serve_bounds (option_rule (codes "all-subscriptions"))) (option_rule (codes "all-items"))

abbrev pub serve_paths : App
serve_paths = with_rule (with_rule (with_rule serve_totals (option_rule (codes "url"))) (option_rule (codes "stop-file"))) (option_rule (codes "store"))

abbrev pub serve_app : App
serve_app = with_rule (with_rule (with_rule serve_paths (flag_rule (codes "trace"))) (flag_rule (codes "quiet"))) (flag_rule (codes "summary"))

abbrev pub bare_program : App
bare_program = record (new_app (codes "uaserver")) {
  top = record (new_app (codes "uaserver")).top {
    no_binary_name = true;
    subcommand_required = true;
    arg_required_else_help = true;
    has_version = true;
  };
}

-- with the commands of node files, and then with those of scenarios
abbrev pub with_nodes : App
with_nodes = with_subcommand (with_subcommand bare_program pipe_app.top) check_app.top

abbrev pub with_scenarios : App
with_scenarios = with_subcommand (with_subcommand (with_subcommand with_nodes asm_app.top) run_app.top) trace_app.top

abbrev pub program : App
program = with_subcommand with_scenarios serve_app.top

-- a command in words: the one that names it, and its NODES
abbrev pub Asked : Type 0
Asked = Text × Option Text

abbrev pub words_of : Command → Asked
words_of (Pipe nodes) = (codes "pipe", option_map (λ n. n.now) nodes)
words_of (Check nodes explain) = (codes "check", Some nodes.now)
words_of (Asm scenario) = (codes "asm", None)
words_of (Run nodes scenario) = (codes "run", Some nodes.now)
words_of (Trace nodes scenario) = (codes "trace", Some nodes.now)
words_of (Serve options) = (codes "serve", Some options.nodes.now)

-- the subcommand of a parse, where there is one, with what its arguments are
abbrev pub Found : Type 0
Found = Option (Text × List Row)

-- the word that names a command, and the word that is its NODES, where there are such
abbrev pub asked_of : Found → Option Asked
asked_of = option_map (λ p. (p.0, first_of (codes "NODES") p.1))

-- the word of an argument, or the one behind an option
abbrev pub option_of : Text → Found → Option Text
option_of name = option_and_then (λ p. first_of name p.1)

-- one or more decimal digits, and nothing else, of a number of 64 bits
abbrev pub number_of : Text → Option ℕ
number_of ds =
    if (list_all is_ascii_digit ds && nat_lt 0 (length ds)) && nat_lt (digits_value 10 ds) (2 ^ 64) then Some (digits_value 10 ds) else None

-- a port from 1 on
abbrev pub as_port : ℕ → Option ℕ
as_port n = if nat_lt 0 n && nat_lt n (2 ^ 16) then Some n else None

abbrev pub port_of : Option Text → Option ℕ
port_of text = option_and_then as_port (option_and_then number_of text)

-- a bound on turns or on sockets; none in words is 0, which bounds nothing
abbrev pub bound_of : Option Text → Option ℕ
bound_of None = Some 0
bound_of (Some digits) = number_of digits

-- a span of seconds, below 2^32
abbrev pub as_seconds : ℕ → Option ℕ
as_seconds n = if nat_lt n (2 ^ 32) then Some n else None

-- how long a socket may be silent, where words say it
abbrev pub idle_of : Option Text → Option (Option ℕ)
idle_of None = Some None
idle_of (Some digits) = option_map Some (option_and_then as_seconds (number_of digits))

-- how many of a kind there may be over the whole server: from 1 to 2^32 - 1, where words say it
abbrev pub as_total : ℕ → Option ℕ
as_total n = if nat_lt 0 n && nat_lt n (2 ^ 32) then Some n else None

abbrev pub total_of : Option Text → Option (Option ℕ)
total_of None = Some None
total_of (Some digits) = option_map Some (option_and_then as_total (number_of digits))

-- an address in words, of either version; none is 127.0.0.1, which no other machine reaches
abbrev pub IsAddressIn : Option Text → IpAddr → Type 0
IsAddressIn text address = IsIpText (unwrap_or text (codes "127.0.0.1")) address

-- a flag that is there has the value `true`
abbrev pub is_given : Option Text → Bool
is_given None = false
is_given (Some word) = bytes_eq word (codes "true")

-- What the words behind `serve` say, by the word that stands behind each option
pub record IsServedWith (word : Text → Option Text) (o : ServeOptions) : Type 0 where
  pub nodes : word (codes "NODES") ≡ Some o.nodes.now
  pub port : port_of (word (codes "port")) ≡ Some o.port
  pub turns : bound_of (word (codes "turns")) ≡ Some o.turns
  pub address : IsAddressIn (word (codes "address")) o.address
  pub trace : is_given (word (codes "trace")) ≡ o.trace
  pub idle : idle_of (word (codes "idle")) ≡ Some o.idle
  pub per_address : bound_of (word (codes "per-address")) ≡ Some o.per_address
  pub all_subscriptions : total_of (word (codes "all-subscriptions")) ≡ Some o.all_subscriptions
  pub all_items : total_of (word (codes "all-items")) ≡ Some o.all_items
  pub stop_file : word (codes "stop-file") ≡ option_map (λ t. t.now) o.stop_file
  pub store : word (codes "store") ≡ option_map (λ t. t.now) o.store
  pub url : word (codes "url") ≡ option_map (λ t. t.now) o.url
  pub quiet : is_given (word (codes "quiet")) ≡ o.quiet
  pub summary : is_given (word (codes "summary")) ≡ o.summary

-- SCENARIO, whether to explain, and what `serve` is told
abbrev pub HasOptions : Found → Command → Type 0
HasOptions found (Check nodes explain) = is_given (option_of (codes "explain") found) ≡ explain
HasOptions found (Asm scenario) = option_of (codes "SCENARIO") found ≡ Some scenario.now
HasOptions found (Run nodes scenario) = option_of (codes "SCENARIO") found ≡ Some scenario.now
HasOptions found (Trace nodes scenario) = option_of (codes "SCENARIO") found ≡ Some scenario.now
HasOptions found (Serve options) = IsServedWith (λ name. option_of name found) options
HasOptions found c = ⊤

-- what was found is this command
abbrev pub IsAskedBy : Found → Command → Type 0
IsAskedBy found c = (asked_of found ≡ Some (words_of c)) × HasOptions found c

abbrev pub asked : List Text → Option Asked
asked words = asked_of (subcommand_of program words)

-- the kinds of what is wrong with the words; a request for help or for the version is one
abbrev pub faults : List Text → Kinds
faults = fault_of program

-- nothing is wrong with the words, and they name the command, its NODES, its SCENARIO and its options
abbrev pub AsksFor : List Text → Command → Type 0
AsksFor words c = (faults words ≡ []) × IsAskedBy (subcommand_of program words) c

-- what the words have, if anything, is none of the commands
abbrev pub IsNoCommand : Found → Type 0
IsNoCommand found = (c : Command) → IsAskedBy found c → ⊥

-- a request for help, or for the version
abbrev pub IsRequest : ErrorKind → Type 0
IsRequest k = (k ≡ DisplayHelp) ⊎ (k ≡ DisplayVersion)

-- help or the version comes where it is asked for, and usage where something else is wrong, or where nothing is and
-- no command is named: one whose option has a word that is no such number or no address is none
abbrev pub StopsBy : List Text → Stop → Type 0
StopsBy words (Help text) = (k : ErrorKind) × IsAmong k (faults words) × IsRequest k
StopsBy words (Usage text) = ((k : ErrorKind) × IsAmong k (faults words) × (IsRequest k → ⊥))
    ⊎ ((faults words ≡ []) × IsNoCommand (subcommand_of program words))
StopsBy words Memory = ⊤

-- the word does not begin with a hyphen (45), so it is no option
abbrev pub IsPlainWord : Text → Type 0
IsPlainWord word = slice_get word 0 ≢ Some 45

-- the command comes, or memory ran out
abbrev pub Answers : Asked → Result Command Stop → Type 0
Answers a (Ok c) = words_of c ≡ a
Answers a (Err s) = s ≡ Memory

-- the stop for an error of the kind, where memory is not refused on the way
abbrev pub IsStopOf : ErrorKind → Stop → Type 0
IsStopOf k (Help text) = IsRequest k
IsStopOf k (Usage text) = (IsRequest k → ⊥) × (k ≢ OutOfMemory)
IsStopOf k Memory = ⊤
