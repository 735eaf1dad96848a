-- What a text means: its statements, or the first bad line.
use Rattle.std.specs.Prelude.{◌≡◌, ◌≢◌, ℕ, ◌+◌, List, [], ◌∷◌, ◌++◌, Option, Some, None, Result, Ok, Err}
use Rattle.std.specs.Str.Lines.{lines}
use Rattle.scenario_text.specs.Statements.{nothing_known, statement_of, after_line}
use Rattle.scenario_text.specs.declared.fault.AsmFault.{AsmFault}
use Rattle.scenario_text.specs.declared.fault.Cause.{Cause}
use Rattle.scenario_text.specs.declared.fault.Cause.TheVariants.{Memory}
use Rattle.scenario_text.specs.declared.known.Known.{Known}
use Rattle.scenario_text.specs.declared.scenario.Line.{Line}
use Rattle.scenario_text.specs.declared.scenario.Scenario.{Scenario}
use Rattle.scenario_text.specs.declared.statement.Statement.{Statement}

-- a text that ends well here, or at a bad line
abbrev pub at_end : Scenario
at_end = record { lines = []; fault = None }

abbrev pub at_fault : Cause → ℕ → Scenario
at_fault cause number = record { lines = []; fault = Some (record { cause = cause; line = number }) }

-- a line that says something
abbrev pub listed : ℕ → Option Statement → List Line
listed number None = []
listed number (Some statement) = record { number = number; statement = statement } ∷ []

abbrev pub preceded : List Line → Scenario → Scenario
preceded front others = record others { lines = front ++ others.lines }

abbrev pub on_line : ℕ → Result (Option Statement) Cause → (Option Statement → Scenario) → Scenario
on_line number (Err cause) others = at_fault cause number
on_line number (Ok said) others = preceded (listed number said) (others said)

-- the lines from a number on, each judged against what is known after those before it
unfoldable pub scenario_from : Known → ℕ → List (List ℕ) → Scenario
scenario_from known number [] = at_end
scenario_from known number (t ∷ ts) = on_line number (statement_of known t) (λ said. scenario_from (after_line known said) (number + 1) ts)

-- what a text says up to its first bad line: all lines count, from 1
abbrev pub scenario_of : List ℕ → Scenario
scenario_of text = scenario_from nothing_known 1 (lines text)

abbrev pub unless_bad : List Line → Option AsmFault → Result (List Line) AsmFault
unless_bad ls None = Ok ls
unless_bad ls (Some f) = Err f

-- the statements of a text, or its first bad line with the cause of its leftmost bad word
abbrev pub meaning_of : List ℕ → Result (List Line) AsmFault
meaning_of text = let s = scenario_of text in unless_bad s.lines s.fault

-- a call gives what a text means, unless memory ran out
abbrev pub Means : {A : Type 0} → Result A AsmFault → Result A AsmFault → Type 0
Means (Ok x) said = said ≡ Ok x
Means (Err f) said = f.cause ≢ Memory → said ≡ Err f
