use Rattle.std.proofs.Common.{◌≡◌, ◌++◌, string_bytes, take}
use Rattle.std.specs.List.{flat_map}
use Rattle.scenario_run.specs.TraceText.{other_text}
use Rattle.scenario_run.proofs.trace_text.append_others_in.Given as goal

-- what is said of the rows so far
abbrev pub invariant-loop-row : goal.invariant-loop-row
invariant-loop-row l = string_bytes l.out ≡ string_bytes l.initial.out ++ flat_map (other_text l.fired) (take l.row-index l.table)
