use Rattle.std.proofs.Common.{codes}
use Rattle.std.proofs.lemmas.Result.{IfOk-weaker}
use Rattle.command_line.specs.Words.{flag_rule, serve_paths}
use Rattle.command_line.proofs.Adding.{adds}
use Rattle.command_line.proofs.program.serve.Goals as goal

pub returns : goal.returns
returns c =
    let trace = adds serve_paths (flag_rule (codes "trace")) c.in_ok-serve_paths.ensures c.flag.ensures.local c.flag.ensures.rule c.in_ok-arg.ensures in
    let quiet = adds _ (flag_rule (codes "quiet")) trace c.flag-2.ensures.local c.flag-2.ensures.rule c.in_ok-arg-2.ensures in
    IfOk-weaker c.arg-3.result _ _ (λ r added. adds _ (flag_rule (codes "summary")) quiet c.flag-3.ensures.local c.flag-3.ensures.rule added) c.arg-3.ensures
