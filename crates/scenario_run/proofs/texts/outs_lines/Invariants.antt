use Rattle.std.proofs.Common.{◌≡◌, take, string_bytes}
use Rattle.scenario_run.specs.Texts.{outs_lines}
use Rattle.scenario_run.proofs.texts.outs_lines.Given as goal

abbrev pub invariant-loop-out : goal.invariant-loop-out
invariant-loop-out l = string_bytes l.lines ≡ outs_lines (take l.out-index l.outs)
