use Rattle.std.proofs.Common.{codes}
use Rattle.std.proofs.lemmas.Result.{IfOk-weaker}
use Rattle.command_line.specs.Words.{option_rule, serve_place}
use Rattle.command_line.proofs.Adding.{adds}
use Rattle.command_line.proofs.program.serve_bounds.Goals as goal

pub returns : goal.returns
returns c =
    let turns = adds serve_place (option_rule (codes "turns")) c.in_ok-serve_place.ensures c.option.ensures.local c.option.ensures.rule c.in_ok-arg.ensures in
    let idle = adds _ (option_rule (codes "idle")) turns c.option-2.ensures.local c.option-2.ensures.rule c.in_ok-arg-2.ensures in
    IfOk-weaker c.arg-3.result _ _ (λ r added. adds _ (option_rule (codes "per-address")) idle c.option-3.ensures.local c.option-3.ensures.rule added) c.arg-3.ensures
