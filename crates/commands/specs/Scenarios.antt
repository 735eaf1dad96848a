-- What the commands come to that take a scenario.
use Rattle.std.specs.Prelude.{◌≡◌, ◌⊎◌, ⊤, ℕ, List, [], Option, Some, None, Result, Ok, Err}
use Rattle.server_core.specs.World.{opening}
use Rattle.server_core.specs.declared.world.World.{World}
use Rattle.server_core.specs.declared.event.Event.{Event}
use Rattle.scenario_text.specs.declared.fault.AsmFault.{AsmFault}
use Rattle.scenario_run.specs.Assembly.{events_of}
use Rattle.scenario_run.specs.Held.{Place, EventsPrinted}
use Rattle.scenario_run.specs.Runs.{RunPrinted}
use Rattle.scenario_run.specs.declared.held.PrintFault.{PrintFault}
use Rattle.scenario_run.specs.declared.held.PrintFault.TheVariants as print
use Rattle.scenario_run.specs.declared.runs.Lines.{Lines}
use Rattle.scenario_run.specs.declared.runs.RunFault.{RunFault}
use Rattle.scenario_run.specs.declared.runs.RunFault.TheVariants as fault
use Rattle.commands.specs.NodeFiles.{ReadFile, ReadsNone, Made, made_in}
use Rattle.commands.specs.declared.exit_status.ExitStatus.{ExitStatus}
use Rattle.commands.specs.declared.exit_status.ExitStatus.TheVariants.{Done, Nodes, Scenario, Halted, Stream}

-- what a scenario comes to: its events, or its first bad line
abbrev pub Assembled : Type 0
Assembled = Result (List Event) AsmFault

-- a scenario is blamed only where it has a bad line
abbrev pub BlamesIt : Assembled → ExitStatus → Type 0
BlamesIt said Scenario = (f : AsmFault) × (said ≡ Err f)
BlamesIt said Halted = ⊤
BlamesIt said status = ⊥

-- the events are those that are said, or the scenario is blamed, or there was no memory
abbrev pub AssembledBy : Result (List Event) ExitStatus → Assembled → Type 0
AssembledBy (Ok events) said = said ≡ Ok events
AssembledBy (Err status) said = BlamesIt said status

-- ---- files

-- a scenario that was read comes to this, and where none was read all stays
abbrev pub OfScenario : (Assembled → ExitStatus → Type 0) → Type 0 → List ℕ → ExitStatus → Option ReadFile → Type 0
OfScenario Comes Stays path status None = ReadsNone status × Stays
OfScenario Comes Stays path status (Some file) = (file.path ≡ path) × Comes (events_of file.text) status

-- a scenario is read once the nodes are good; the nodes are blamed only where nothing can be made
abbrev pub OfMade : (Made → Assembled → ExitStatus → Type 0) → Type 0 → Option Made → List ℕ → ExitStatus → Option ReadFile → Type 0
OfMade Comes Stays (Some made) path status scenario = OfScenario (Comes made) Stays path status scenario
OfMade Comes Stays None path Nodes None = Stays
OfMade Comes Stays None path Halted None = Stays
OfMade Comes Stays None path status scenario = ⊥

-- a node file that was read comes to this, and where none was read no scenario was
abbrev pub OfFiles : (Made → Assembled → ExitStatus → Type 0) → Type 0 → List ℕ → List ℕ → ExitStatus → Option ReadFile → Option ReadFile → Type 0
OfFiles Comes Stays nodes path status None scenario = ReadsNone status × (scenario ≡ None) × Stays
OfFiles Comes Stays nodes path status (Some file) scenario = (file.path ≡ nodes) × OfMade Comes Stays (made_in file.text) path status scenario

-- ---- asm

-- how printing ends the program
abbrev pub status_printed : Result (Unit {0}) PrintFault → ExitStatus
status_printed (Ok x) = Done
status_printed (Err print.Write) = Stream
status_printed (Err print.Memory) = Halted

-- the events are printed, and the status tells how that ended; or nothing is printed, and the status tells why
abbrev pub Assembles : Place → Place → Assembled → ExitStatus → Type 0
Assembles old new said status =
    ((events : List Event) × (done : Result (Unit {0}) PrintFault) × (said ≡ Ok events) × EventsPrinted done old new events [] × (status ≡ status_printed done))
    ⊎ ((new ≡ old) × BlamesIt said status)

abbrev pub AssemblesFile : Place → Place → List ℕ → ExitStatus → Option ReadFile → Type 0
AssemblesFile old new path status scenario = OfScenario (Assembles old new) (new ≡ old) path status scenario

-- ---- run and trace

-- how a run of events ends the program
abbrev pub status_told : Result (Unit {0}) RunFault → ExitStatus
status_told (Ok x) = Done
status_told (Err fault.Write) = Stream
status_told (Err fault.Memory) = Halted
status_told (Err (fault.Step f)) = Halted

-- The events happen to the server of what was made, from the first on, these lines of what it does are printed, and the status
-- tells how that ended; or nothing is printed, and the status tells why
abbrev pub Tells : Lines → Place → Place → Made → Assembled → ExitStatus → Type 0
Tells lines old new made said status =
    ((events : List Event) × (ran : Result (Unit {0}) RunFault) × (after : Option World) × (said ≡ Ok events)
    × RunPrinted lines ran (Some (opening made.0 made.1)) after old new events [] × (status ≡ status_told ran))
    ⊎ ((new ≡ old) × BlamesIt said status)

abbrev pub TellsFile : Lines → Place → Place → Made → List ℕ → ExitStatus → Option ReadFile → Type 0
TellsFile lines old new made path status scenario = OfScenario (Tells lines old new made) (new ≡ old) path status scenario

abbrev pub TellsFiles : Lines → Place → Place → List ℕ → List ℕ → ExitStatus → Option ReadFile → Option ReadFile → Type 0
TellsFiles lines old new nodes path status file scenario = OfFiles (Tells lines old new) (new ≡ old) nodes path status file scenario
