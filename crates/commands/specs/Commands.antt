-- What the commands come to.
use Rattle.std.specs.Prelude.{◌≡◌, ◌⊎◌, ⊤, ℕ, List, [], ◌∷◌, ◌++◌, length, codes, string_bytes, Option, Some, None, option_map, replicate, Result, Ok, Err}
use Rattle.std.specs.Fmt.{decimal}
use Rattle.stream_taps.specs.Tapped.{Tapped}
use Rattle.ua_space.specs.Nodes.{SpaceState}
use Rattle.server_core.specs.World.{opening}
use Rattle.server_core.specs.Running.{run_of}
use Rattle.server_core.specs.declared.event.Event.TheVariants.{Opened}
use Rattle.server_core.specs.declared.out.StepFault.{StepFault}
use Rattle.stream_server.specs.Pumped as pump
use Rattle.stream_server.specs.Pumped.{State, scene}
use Rattle.stream_server.specs.declared.PumpFault.{PumpFault}
use Rattle.stream_server.specs.declared.PumpFault.TheVariants as fault
use Rattle.command_line.specs.Words.{AsksFor, StopsBy}
use Rattle.command_line.specs.declared.command.Command.{Command}
use Rattle.command_line.specs.declared.command.Command.TheVariants.{Pipe, Check, Asm, Run, Trace, Serve}
use Rattle.command_line.specs.declared.stop.Stop.{Stop}
use Rattle.command_line.specs.declared.stop.Stop.TheVariants.{Help, Usage as UsageStop, Memory}
use Rattle.commands.specs.NodeFiles.{ReadFile, Made, made_in, made_of_none}
use Rattle.scenario_run.specs.Held.{Place, place}
use Rattle.scenario_run.specs.declared.runs.Lines.TheVariants.{Outs, Rows}
use Rattle.commands.specs.Scenarios.{AssemblesFile, TellsFiles}
use Rattle.commands.specs.declared.exit_status.ExitStatus.{ExitStatus}
use Rattle.commands.specs.declared.exit_status.ExitStatus.TheVariants.{Done, Usage, Halted, Stream}
use Rattle.commands.specs.declared.program.Ended.{Ended}
use Rattle.commands.specs.Said.{OfNodes, OfFile, Says}
use Rattle.commands.specs.Serving.{ServesFile}

-- ---- check

unfoldable pub counts_line : SpaceState → List ℕ
counts_line space = decimal (length space.nodes) ++ codes " nodes, " ++ decimal (length space.triples) ++ codes " references\n"

-- it is said how many nodes and references were made; or nothing is said, for want of memory
abbrev pub Counts : Place → Place → Made → ExitStatus → Type 0
Counts old new made status = Says (counts_line made.1) old new status ⊎ ((status ≡ Halted) × (new ≡ old))

abbrev pub Checks : Place → Place → List ℕ → ExitStatus → Type 0
Checks old new text status = OfNodes (Counts old new) (new ≡ old) (made_in text) status

abbrev pub ChecksFile : Place → Place → List ℕ → ExitStatus → Option ReadFile → Type 0
ChecksFile old new path status file = OfFile (Counts old new) (new ≡ old) path status file

-- ---- pipe

-- the server of `pipe` once its one connection, of the number 1 and the key of zeros, is open
unfoldable pub opened : Made → State
opened made = (run_of (Some (opening made.0 made.1)) (Opened 1 (replicate 32 0) ∷ [])).server

-- how a run of the pump ends the program
abbrev pub status_of : Result (Unit {0}) PumpFault → ExitStatus
status_of (Ok x) = Done
status_of (Err (fault.Step step_fault)) = Halted
status_of (Err other) = Stream

-- a fault of the streams: one failed, or the input had no end
abbrev pub IsOfStreams : PumpFault → Type 0
IsOfStreams (fault.Step step_fault) = ⊥
IsOfStreams other = ⊤

module _ {R W : Type 0} (remaining : R → Option (List ℕ)) (contents : W → Option (List ℕ)) (input input' : Tapped R) (output output' : Tapped W) where
  -- nothing was read and nothing was written
  abbrev pub Untouched : Type 0
  Untouched = (input' ≡ input) × (output' ≡ output)

  -- what is read goes to this server, and what it sends is written, as the pump does it
  abbrev pub Pumps : Made → (pump.Scene → pump.Scene → Type 0) → Type 0
  Pumps made Ends = (server : State) × (sent : ℕ) × Ends (scene remaining contents 0 (opened made) input output) (scene remaining contents sent server input' output')

  abbrev pub Pipes : Made → ExitStatus → Type 0
  Pipes made Done = Pumps made (pump.Done 1)
  Pipes made Stream = (f : PumpFault) × IsOfStreams f × Pumps made (λ old new. pump.Stopped 1 old new f)
  Pipes made Halted = ((f : StepFault) × Pumps made (λ old new. pump.Stopped 1 old new (fault.Step f))) ⊎ Untouched
  Pipes made status = ⊥

  abbrev pub PipesMade : Option Made → ExitStatus → Type 0
  PipesMade made status = OfNodes Pipes Untouched made status

  abbrev pub PipesFile : Option (List ℕ) → ExitStatus → Option ReadFile → Type 0
  PipesFile None status None = PipesMade made_of_none status
  PipesFile None status (Some file) = ⊥
  PipesFile (Some path) status file = OfFile Pipes Untouched path status file

  -- ---- all words

  abbrev pub Commanded : Command → Ended → Type 0
  Commanded (Pipe nodes) e = PipesFile (option_map (λ n. n.now) nodes) e.status e.file
  Commanded (Check nodes explain) e = ChecksFile (place contents output) (place contents output') nodes.now e.status e.file × (input' ≡ input)
  Commanded (Asm scenario) e =
      AssemblesFile (place contents output) (place contents output') scenario.now e.status e.scenario × (input' ≡ input)
  Commanded (Run nodes scenario) e =
      TellsFiles Outs (place contents output) (place contents output') nodes.now scenario.now e.status e.file e.scenario × (input' ≡ input)
  Commanded (Trace nodes scenario) e =
      TellsFiles Rows (place contents output) (place contents output') nodes.now scenario.now e.status e.file e.scenario × (input' ≡ input)
  Commanded (Serve options) e = ServesFile (place contents output) (place contents output') options e.status e.file × (input' ≡ input)

  abbrev pub StopsWith : Stop → Ended → Type 0
  StopsWith (Help text) e = Says (string_bytes text) (place contents output) (place contents output') e.status × (e.file ≡ None) × (input' ≡ input)
  StopsWith (UsageStop text) e = (e.status ≡ Usage) × (e.file ≡ None) × Untouched
  StopsWith Memory e = (e.status ≡ Halted) × (e.file ≡ None) × Untouched

  -- what the words ask for is done, or it is said why they ask for nothing
  abbrev pub Runs : List (List ℕ) → Ended → Type 0
  Runs words e = ((command : Command) × AsksFor words command × Commanded command e) ⊎ ((stop : Stop) × StopsBy words stop × StopsWith stop e)

  -- these words ask for it, or there was no memory for them
  abbrev pub RunsArguments : List (List ℕ) → Ended → Type 0
  RunsArguments words e = Runs words e ⊎ ((e.status ≡ Halted) × (e.file ≡ None) × Untouched)
