use Rattle.std.proofs.Common.{codes}
use Rattle.std.proofs.lemmas.Result.{IfOk-weaker}
use Rattle.command_line.specs.Words.{option_rule, serve_totals}
use Rattle.command_line.proofs.Adding.{adds}
use Rattle.command_line.proofs.program.serve_paths.Goals as goal

pub returns : goal.returns
returns c =
    let url = adds serve_totals (option_rule (codes "url")) c.in_ok-serve_totals.ensures c.option.ensures.local c.option.ensures.rule c.in_ok-arg.ensures in
    let stop_file = adds _ (option_rule (codes "stop-file")) url c.option-2.ensures.local c.option-2.ensures.rule c.in_ok-arg-2.ensures in
    IfOk-weaker c.arg-3.result _ _ (λ r added. adds _ (option_rule (codes "store")) stop_file c.option-3.ensures.local c.option-3.ensures.rule added) c.arg-3.ensures
