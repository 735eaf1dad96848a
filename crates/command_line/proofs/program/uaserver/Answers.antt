use Rattle.std.proofs.Common.{◌≡◌, ◌∙◌, ap, ap₂}
use Rattle.std.proofs.lemmas.Result.{IfOk-weaker}
use Rattle.clap.specs.Simple.{app_of_fields}
use Rattle.clap.specs.Words.{App, app_of, with_subcommand}
use Rattle.command_line.specs.Words.{program}
use Rattle.command_line.proofs.program.uaserver.Goals as goal

pub returns : goal.returns
returns c =
    let top = λ (a : App). a.top in
    let is : app_of c.in_ok-subcommand.field-0 ≡ program =
    c.in_ok-subcommand.ensures.shape c.in_ok-serve.ensures.1 ∙ ap₂ with_subcommand c.in_ok-with_scenarios.ensures (ap top c.in_ok-serve.ensures.0) in
    IfOk-weaker c.bin_name.result _ _ (λ r named. ap app_of_fields named.0 ∙ is) c.bin_name.ensures
