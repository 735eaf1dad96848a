use Rattle.std.proofs.Common.{◌≡◌, ◌++◌, string_bytes, take}
use Rattle.scenario_run.specs.TraceText.{rows_text}
use Rattle.scenario_run.proofs.trace_text.append_lines.Given as goal

-- the lines so far
abbrev pub invariant-loop-fired : goal.invariant-loop-fired
invariant-loop-fired l = string_bytes l.out ≡ string_bytes l.initial.out ++ rows_text l.event (take l.fired-index l.rows)
