use Rattle.std.proofs.Common.{◌∙◌, Option, Some, IfSome, ap, ap₂, refl, sym, subst, codes, option_map}
use Rattle.std.proofs.lemmas.Option.{none-some}
use Rattle.std.specs.Borrow.{Bor}
use Rattle.clap.specs.Words.{Text, first_value, found_of, subcommand_rows_of}
use Rattle.command_line.specs.Words.{IsServedWith, is_given, option_of}
use Rattle.command_line.proofs.ProgramLemmas.{asked_met, no_asm, no_nodes, no_run, no_serve, no_trace, option_met, options_met, served_at}
use Rattle.command_line.proofs.parsing.command_of.Goals as goal

pub returns-in-pipe-clause-some : goal.returns-in-pipe-clause-some
returns-in-pipe-clause-some c =
    let met = asked_met c.args.matches.now c.in_ok-name.name c.in_ok-name.given c.get_str-nodes.result c.in_ok-name.ensures.name c.in_ok-name.ensures.rows c.get_str-nodes.ensures in
    (met ∙ ap (λ n. Some (n, option_map (λ n. n.now) c.get_str-nodes.result)) c.in-pipe.is, tt)

pub returns-in_ok-nodes-in-check-clause-some : goal.returns-in_ok-nodes-in-check-clause-some
returns-in_ok-nodes-in-check-clause-some c =
    let met = asked_met c.args.matches.now c.in_ok-name.name c.in_ok-name.given c.get_str-nodes.result c.in_ok-name.ensures.name c.in_ok-name.ensures.rows c.get_str-nodes.ensures in
    let there = option_met c.args.matches.now c.in_ok-name.given (codes "explain") c.get_str.result c.in_ok-name.name c.in_ok-name.ensures.name c.in_ok-name.ensures.rows c.get_str.ensures in
    (met ∙ ap₂ (λ n m. Some (n, option_map (λ n. n.now) m)) c.in-check.is c.in_ok-nodes-in-check.was, ap is_given there ∙ sym c.is_given.ensures)

pub returns-in_err-nodes-in-check-clause-none : goal.returns-in_err-nodes-in-check-clause-none
returns-in_err-nodes-in-check-clause-none c = λ is_none.
    let met = asked_met c.args.matches.now c.in_ok-name.name c.in_ok-name.given c.get_str-nodes.result c.in_ok-name.ensures.name c.in_ok-name.ensures.rows c.get_str-nodes.ensures in
    no_nodes _ (met ∙ ap₂ (λ n m. Some (n, option_map (λ n. n.now) m)) c.in-check.is c.in_err-nodes-in-check.was)

pub returns-in_ok-serve_options-in-serve-clause-some : goal.returns-in_ok-serve_options-in-serve-clause-some
returns-in_ok-serve_options-in-serve-clause-some c =
    let met = asked_met c.args.matches.now c.in_ok-name.name c.in_ok-name.given c.get_str-nodes.result c.in_ok-name.ensures.name c.in_ok-name.ensures.rows c.get_str-nodes.ensures in
    let word = first_value (found_of c.in_ok-name.given.now) in
    let has = subst (λ r. IfSome r (IsServedWith word)) c.in_ok-serve_options-in-serve.was c.serve_options.ensures.some in (
      met ∙ ap₂ (λ n m. Some (n, m)) c.in-serve.is (c.get_str-nodes.ensures ∙ has.nodes),
      served_at word (λ name. option_of name (subcommand_rows_of c.args.matches.now)) c.in_ok-serve_options-in-serve.field-0
          (options_met c.args.matches.now c.in_ok-name.given c.in_ok-name.name c.in_ok-name.ensures.name c.in_ok-name.ensures.rows) has,
    )

pub returns-in_err-serve_options-in-serve-clause-none : goal.returns-in_err-serve_options-in-serve-clause-none
returns-in_err-serve_options-in-serve-clause-none c = λ is_none.
    let met = asked_met c.args.matches.now c.in_ok-name.name c.in_ok-name.given c.get_str-nodes.result c.in_ok-name.ensures.name c.in_ok-name.ensures.rows c.get_str-nodes.ensures in
    let word = first_value (found_of c.in_ok-name.given.now) in
    no_serve _ _ (met ∙ ap (λ n. Some (n, option_map (λ n. n.now) c.get_str-nodes.result)) c.in-serve.is)
    (λ options has. c.serve_options.ensures.none (rw c.in_err-serve_options-in-serve.was refl) options
    (served_at (λ name. option_of name (subcommand_rows_of c.args.matches.now)) word options
    (λ id. sym (options_met c.args.matches.now c.in_ok-name.given c.in_ok-name.name c.in_ok-name.ensures.name c.in_ok-name.ensures.rows id)) has))

-- `asm`, `run` and `trace`
abbrev texts : Option (Bor Text) → Option Text
texts = option_map (λ t. t.now)

pub returns-in_ok-scenario-in-None-clause-some : goal.returns-in_ok-scenario-in-None-clause-some
returns-in_ok-scenario-in-None-clause-some c =
    let met = asked_met c.args.matches.now c.in_ok-name.name c.in_ok-name.given c.get_str-nodes.result c.in_ok-name.ensures.name c.in_ok-name.ensures.rows c.get_str-nodes.ensures in
    let there = option_met c.args.matches.now c.in_ok-name.given (codes "SCENARIO") c.get_str-scenario.result c.in_ok-name.name c.in_ok-name.ensures.name c.in_ok-name.ensures.rows c.get_str-scenario.ensures in
    (met ∙ ap₂ (λ n m. Some (n, texts m)) c.in-asm.is c.in-None.is, there ∙ ap texts c.in_ok-scenario-in-None.was)

pub returns-in_err-scenario-in-None-clause-none : goal.returns-in_err-scenario-in-None-clause-none
returns-in_err-scenario-in-None-clause-none c = λ is_none.
    let met = asked_met c.args.matches.now c.in_ok-name.name c.in_ok-name.given c.get_str-nodes.result c.in_ok-name.ensures.name c.in_ok-name.ensures.rows c.get_str-nodes.ensures in
    let there = option_met c.args.matches.now c.in_ok-name.given (codes "SCENARIO") c.get_str-scenario.result c.in_ok-name.name c.in_ok-name.ensures.name c.in_ok-name.ensures.rows c.get_str-scenario.ensures in
    no_asm _ _ (met ∙ ap (λ n. Some (n, texts c.get_str-nodes.result)) c.in-asm.is)
    (λ s none has. none-some s (sym (there ∙ ap texts c.in_err-scenario-in-None.was) ∙ has))

pub returns-in-Some-clause-none : goal.returns-in-Some-clause-none
returns-in-Some-clause-none c = λ is_none.
    let met = asked_met c.args.matches.now c.in_ok-name.name c.in_ok-name.given c.get_str-nodes.result c.in_ok-name.ensures.name c.in_ok-name.ensures.rows c.get_str-nodes.ensures in
    no_asm _ _ (met ∙ ap₂ (λ n m. Some (n, texts m)) c.in-asm.is c.in-Some.is) (λ s none has. none-some _ (sym none))

pub returns-in_ok-scenario-in-run-clause-some : goal.returns-in_ok-scenario-in-run-clause-some
returns-in_ok-scenario-in-run-clause-some c =
    let met = asked_met c.args.matches.now c.in_ok-name.name c.in_ok-name.given c.get_str-nodes.result c.in_ok-name.ensures.name c.in_ok-name.ensures.rows c.get_str-nodes.ensures in
    let there = option_met c.args.matches.now c.in_ok-name.given (codes "SCENARIO") c.get_str-scenario.result c.in_ok-name.name c.in_ok-name.ensures.name c.in_ok-name.ensures.rows c.get_str-scenario.ensures in
    (met ∙ ap₂ (λ n m. Some (n, texts m)) c.in-run.is c.in_ok-nodes-in-run.was, there ∙ ap texts c.in_ok-scenario-in-run.was)

pub returns-in_err-nodes-in-run-clause-none : goal.returns-in_err-nodes-in-run-clause-none
returns-in_err-nodes-in-run-clause-none c = λ is_none.
    let met = asked_met c.args.matches.now c.in_ok-name.name c.in_ok-name.given c.get_str-nodes.result c.in_ok-name.ensures.name c.in_ok-name.ensures.rows c.get_str-nodes.ensures in
    no_run _ _ (met ∙ ap₂ (λ n m. Some (n, texts m)) c.in-run.is c.in_err-nodes-in-run.was) (λ n s is has. none-some n is)

pub returns-in_err-scenario-in-run-clause-none : goal.returns-in_err-scenario-in-run-clause-none
returns-in_err-scenario-in-run-clause-none c = λ is_none.
    let met = asked_met c.args.matches.now c.in_ok-name.name c.in_ok-name.given c.get_str-nodes.result c.in_ok-name.ensures.name c.in_ok-name.ensures.rows c.get_str-nodes.ensures in
    let there = option_met c.args.matches.now c.in_ok-name.given (codes "SCENARIO") c.get_str-scenario.result c.in_ok-name.name c.in_ok-name.ensures.name c.in_ok-name.ensures.rows c.get_str-scenario.ensures in
    no_run _ _ (met ∙ ap (λ n. Some (n, texts c.get_str-nodes.result)) c.in-run.is)
    (λ n s is has. none-some s (sym (there ∙ ap texts c.in_err-scenario-in-run.was) ∙ has))

pub returns-in_ok-scenario-in-trace-clause-some : goal.returns-in_ok-scenario-in-trace-clause-some
returns-in_ok-scenario-in-trace-clause-some c =
    let met = asked_met c.args.matches.now c.in_ok-name.name c.in_ok-name.given c.get_str-nodes.result c.in_ok-name.ensures.name c.in_ok-name.ensures.rows c.get_str-nodes.ensures in
    let there = option_met c.args.matches.now c.in_ok-name.given (codes "SCENARIO") c.get_str-scenario.result c.in_ok-name.name c.in_ok-name.ensures.name c.in_ok-name.ensures.rows c.get_str-scenario.ensures in
    (met ∙ ap₂ (λ n m. Some (n, texts m)) c.in-trace.is c.in_ok-nodes-in-trace.was, there ∙ ap texts c.in_ok-scenario-in-trace.was)

pub returns-in_err-nodes-in-trace-clause-none : goal.returns-in_err-nodes-in-trace-clause-none
returns-in_err-nodes-in-trace-clause-none c = λ is_none.
    let met = asked_met c.args.matches.now c.in_ok-name.name c.in_ok-name.given c.get_str-nodes.result c.in_ok-name.ensures.name c.in_ok-name.ensures.rows c.get_str-nodes.ensures in
    no_trace _ _ (met ∙ ap₂ (λ n m. Some (n, texts m)) c.in-trace.is c.in_err-nodes-in-trace.was) (λ n s is has. none-some n is)

pub returns-in_err-scenario-in-trace-clause-none : goal.returns-in_err-scenario-in-trace-clause-none
returns-in_err-scenario-in-trace-clause-none c = λ is_none.
    let met = asked_met c.args.matches.now c.in_ok-name.name c.in_ok-name.given c.get_str-nodes.result c.in_ok-name.ensures.name c.in_ok-name.ensures.rows c.get_str-nodes.ensures in
    let there = option_met c.args.matches.now c.in_ok-name.given (codes "SCENARIO") c.get_str-scenario.result c.in_ok-name.name c.in_ok-name.ensures.name c.in_ok-name.ensures.rows c.get_str-scenario.ensures in
    no_trace _ _ (met ∙ ap (λ n. Some (n, texts c.get_str-nodes.result)) c.in-trace.is)
    (λ n s is has. none-some s (sym (there ∙ ap texts c.in_err-scenario-in-trace.was) ∙ has))
