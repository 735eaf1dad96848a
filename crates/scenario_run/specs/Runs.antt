-- A run of events on a server, and the lines of what it does.
use Rattle.std.specs.Prelude.{◌≡◌, ⊤, ℕ, ◌+◌, Bool, true, false, List, [], ◌∷◌, ◌++◌, Option, Some, None, Result, Ok, Err}
use Rattle.server_core.specs.Running.{Runs}
use Rattle.server_core.specs.declared.world.World.{World}
use Rattle.server_core.specs.declared.event.Event.{Event}
use Rattle.server_core.specs.declared.out.Step.{Step}
use Rattle.server_core.specs.declared.out.StepFault.{StepFault}
use Rattle.scenario_run.specs.Held.{Place, Printed, CutShort}
use Rattle.scenario_run.specs.Texts.{outs_lines}
use Rattle.scenario_run.specs.TraceText.{rows_text}
use Rattle.scenario_run.specs.declared.held.PrintFault.{PrintFault}
use Rattle.scenario_run.specs.declared.held.PrintFault.TheVariants as print
use Rattle.scenario_run.specs.declared.runs.Lines.{Lines}
use Rattle.scenario_run.specs.declared.runs.Lines.TheVariants.{Outs, Rows}
use Rattle.scenario_run.specs.declared.runs.RunFault.{RunFault}
use Rattle.scenario_run.specs.declared.runs.RunFault.TheVariants.{Write, Memory, Step as Unanswered}

-- the lines of a step that came of the event of this number
abbrev pub step_lines : Lines → ℕ → Step → List ℕ
step_lines Outs number step = outs_lines step.outs
step_lines Rows number step = rows_text number step.rows

-- those of steps, whose events count from this number on
abbrev pub lines_from : Lines → ℕ → List Step → List ℕ
lines_from lines number [] = []
lines_from lines number (step ∷ steps) = step_lines lines number step ++ lines_from lines (number + 1) steps

-- those of all steps of a run
abbrev pub lines_of : Lines → List Step → List ℕ
lines_of lines steps = lines_from lines 1 steps

abbrev pub fault_of : PrintFault → RunFault
fault_of print.Write = Write
fault_of print.Memory = Memory

abbrev pub is_cut_short : Result (Unit {0}) RunFault → Bool
is_cut_short (Err Write) = true
is_cut_short ran = false

-- lines that are held may still fail once the server didn't answer an event, and those of rows are never held
abbrev pub MayFailBehind : Lines → Option StepFault → Type 0
MayFailBehind Outs fault = ⊤
MayFailBehind Rows fault = fault ≡ None

-- The lines of all steps are out, but for what is held. Where the server doesn't answer an event, they are those of the
-- steps before it; where there is no room for the lines of a step, those of the steps before that, which the server took.
-- Where a write fails, a part of the lines is out, from their beginning on.
abbrev pub RunPrinted : Lines → Result (Unit {0}) RunFault → Option World → Option World → Place → Place → List Event → List ℕ → Type 0
RunPrinted lines (Ok x) server after old new events held =
    (steps : List Step) × Runs None steps server events after × Printed old new (lines_of lines steps) held
RunPrinted lines (Err (Unanswered fault)) server after old new events held =
    (steps : List Step) × Runs (Some fault) steps server events after × Printed old new (lines_of lines steps) held
RunPrinted lines (Err Memory) server after old new events held =
    (taken : List Event) × (left : List Event) × (steps : List Step) × (last : Step) × (events ≡ taken ++ left)
    × Runs None (steps ++ last ∷ []) server taken after × Printed old new (lines_of lines steps) held
RunPrinted lines (Err Write) server after old new events held =
    (taken : List Event) × (left : List Event) × (fault : Option StepFault) × (steps : List Step) × (events ≡ taken ++ left)
    × MayFailBehind lines fault × Runs fault steps server taken after × CutShort old new (lines_of lines steps)
