use Rattle.std.proofs.Common.{◌≡◌, ◌∙◌, ap, ap₂}
use Rattle.std.proofs.lemmas.Result.{IfOk-weaker}
use Rattle.clap.specs.Words.{App, app_of, with_subcommand}
use Rattle.command_line.specs.Words.{asm_app, run_app, with_nodes}
use Rattle.command_line.proofs.program.with_scenarios.Goals as goal

pub returns : goal.returns
returns c =
    let top = λ (a : App). a.top in
    let first_is : app_of c.in_ok-subcommand.field-0 ≡ with_subcommand with_nodes asm_app.top =
    c.in_ok-subcommand.ensures.shape c.in_ok-asm.ensures.1 ∙ ap₂ with_subcommand c.in_ok-with_nodes.ensures (ap top c.in_ok-asm.ensures.0) in
    let second_is : app_of c.in_ok-subcommand-2.field-0 ≡ with_subcommand (with_subcommand with_nodes asm_app.top) run_app.top =
    c.in_ok-subcommand-2.ensures.shape c.in_ok-run.ensures.1 ∙ ap₂ with_subcommand first_is (ap top c.in_ok-run.ensures.0) in
    IfOk-weaker c.subcommand-3.result _ _ (λ r added. added.shape c.in_ok-trace.ensures.1 ∙ ap₂ with_subcommand second_is (ap top c.in_ok-trace.ensures.0)) c.subcommand-3.ensures
