-- What was read, made and said.
use Rattle.std.specs.Prelude.{◌≡◌, ⊤, List, [], ℕ, Option, Some, None, Result, Ok, Err}
use Rattle.scenario_run.specs.Held.{Place, Printed, CutShort}
use Rattle.commands.specs.NodeFiles.{ReadFile, ReadsNone, Made, made_in}
use Rattle.commands.specs.declared.exit_status.ExitStatus.{ExitStatus}
use Rattle.commands.specs.declared.exit_status.ExitStatus.TheVariants.{Done, Nodes, Halted, Stream}

-- what was made is what is said, or there was no memory; the nodes are blamed only where nothing can be made
abbrev pub MadeBy : Result Made ExitStatus → Option Made → Type 0
MadeBy (Ok made) said = said ≡ Some made
MadeBy (Err Nodes) said = said ≡ None
MadeBy (Err Halted) said = ⊤
MadeBy (Err status) said = ⊥

-- What was made comes to this. Where nothing can be made, all stays, and the nodes are blamed, or there was no memory
abbrev pub OfNodes : (Made → ExitStatus → Type 0) → Type 0 → Option Made → ExitStatus → Type 0
OfNodes Comes Stays (Some made) status = Comes made status
OfNodes Comes Stays None Nodes = Stays
OfNodes Comes Stays None Halted = Stays
OfNodes Comes Stays None status = ⊥

-- a node file that was read comes to this, and where none was read all stays
abbrev pub OfFile : (Made → ExitStatus → Type 0) → Type 0 → List ℕ → ExitStatus → Option ReadFile → Type 0
OfFile Comes Stays path status None = ReadsNone status × Stays
OfFile Comes Stays path status (Some file) = (file.path ≡ path) × OfNodes Comes Stays (made_in file.text) status

-- this text is out; or a part of it, from its beginning on, and a call of the writer failed
abbrev pub Says : List ℕ → Place → Place → ExitStatus → Type 0
Says text old new Done = Printed old new text []
Says text old new Stream = CutShort old new text
Says text old new status = ⊥
