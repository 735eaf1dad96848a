use Rattle.std.proofs.Common.{◌≡◌, ◌+◌}
use Rattle.scenario_text.specs.Scenarios.{preceded, scenario_from, scenario_of}
use Rattle.scenario_text.proofs.Lines.{from_place}
use Rattle.scenario_text.proofs.scenario.readable.Given as goal

-- the lines so far, and what is read of the others
abbrev pub invariant-loop-place : goal.invariant-loop-place
invariant-loop-place l =
    preceded l.lines.items (scenario_from l.known (l.place + 1) (from_place l.place l.text-items)) ≡ scenario_of l.fn.text
