use Rattle.std.proofs.Common.{rules, ◌≡◌, ◌∙◌, ap, ap₂}
use Rattle.std.proofs.lemmas.Result.{IfOk-weaker}
use Rattle.clap.specs.Words.{App, app_of, with_subcommand}
use Rattle.command_line.specs.Words.{bare_program, pipe_app}
use Rattle.command_line.proofs.program.with_nodes.Goals as goal

pub returns : goal.returns
returns c =
    let top = λ (a : App). a.top in
    let bare_is : app_of c.arg_required_else_help.result ≡ bare_program = search rules in
    let first_is : app_of c.in_ok-subcommand.field-0 ≡ with_subcommand bare_program pipe_app.top =
    c.in_ok-subcommand.ensures.shape c.in_ok-pipe.ensures.1 ∙ ap₂ with_subcommand bare_is (ap top c.in_ok-pipe.ensures.0) in
    IfOk-weaker c.subcommand-2.result _ _ (λ r added. added.shape c.in_ok-check.ensures.1 ∙ ap₂ with_subcommand first_is (ap top c.in_ok-check.ensures.0)) c.subcommand-2.ensures
