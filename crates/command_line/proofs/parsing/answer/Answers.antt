use Rattle.std.proofs.Common.{rules, ◌≡◌, ◌∙◌, map, ap, sym, subst}
use Rattle.clap.specs.Words.{app_of, fault_of, is_simple_and_free, kind_of, subcommand_rows_of}
use Rattle.clap.specs.Kinds.{HasKind}
use Rattle.command_line.specs.Words.{IsAskedBy, IsNoCommand, program}
use Rattle.command_line.proofs.ProgramLemmas.{found-rows, program-is_free, stops_by, stops_by_name}
use Rattle.command_line.proofs.parsing.answer.Goals as goal

pub returns-in-Some-clause-ok : goal.returns-in-Some-clause-ok
returns-in-Some-clause-ok c =
    let is : app_of c.in_ok-program.program ≡ program = search rules in
    let named : IsAskedBy (subcommand_rows_of c.in-Ok.matches) c.in-Some.command = search rules in
    let none = c.in-Ok.ensures.kinds (ap is_simple_and_free is ∙ program-is_free) in (
      ap (λ a. fault_of a (map (λ w. w.now) c.args.words.now)) (sym is) ∙ none,
      subst (λ f. IsAskedBy f c.in-Some.command) (found-rows (app_of c.in_ok-program.program) (map (λ w. w.now) c.args.words.now) c.in-Ok.matches is c.in-Ok.ensures.ok.2) named,
    )

pub returns-in-Ok-clause-err : goal.returns-in-Ok-clause-err
returns-in-Ok-clause-err c =
    let is : app_of c.in_ok-program.program ≡ program = search rules in
    let none : IsNoCommand (subcommand_rows_of c.in-Ok.matches) = c.command_of.ensures.none (search rules) in
    let rows = found-rows (app_of c.in_ok-program.program) (map (λ w. w.now) c.args.words.now) c.in-Ok.matches is c.in-Ok.ensures.ok.2 in
    let right = c.in-Ok.ensures.kinds (ap is_simple_and_free is ∙ program-is_free) in
    stops_by_name (map (λ w. w.now) c.args.words.now) _ c.stop_of.result (search rules)
    (ap (λ a. fault_of a (map (λ w. w.now) c.args.words.now)) (sym is) ∙ right) (subst IsNoCommand rows none) c.stop_of.ensures

pub returns-clause-err : goal.returns-clause-err
returns-clause-err c =
    let is : app_of c.in_ok-program.program ≡ program = search rules in
    let has = c.in-Err.ensures.kinds (ap is_simple_and_free is ∙ program-is_free) in
    stops_by (map (λ w. w.now) c.args.words.now) (kind_of c.in-Err.error) c.stop_of-in-Err.result
    (subst (λ a. HasKind (fault_of a (map (λ w. w.now) c.args.words.now)) c.in-Err.error) is has)
    c.stop_of-in-Err.ensures
