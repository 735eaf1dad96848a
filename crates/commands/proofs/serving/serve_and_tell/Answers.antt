use Rattle.std.proofs.Common.{◌≡◌, false, is_some, refl, subst, sym}
use Rattle.stream_taps.specs.Tapped.{Tapped}
use Rattle.socket_server.specs.Keeping.{keeping}
use Rattle.scenario_run.specs.TraceText.{rows_text}
use Rattle.socket_server.specs.Serving.{unknown, uncounted}
use Rattle.socket_server.specs.Output.{no_output}
use Rattle.socket_server.proofs.ServingLemmas.{ran, run_writer}
use Rattle.scenario_run.specs.Held.{place}
use Rattle.commands.specs.Serving.{ServesWith, text_of, output_at}
use Rattle.commands.proofs.ServeLemmas.{served_with, served_without}
use Rattle.commands.proofs.serving.serve_and_tell.Goals as goal

pub returns-then-options : goal.returns-then-options
returns-then-options g c =
    let contents = g.O.Write.contents in
    let first = keeping g.K.Keeper.kept c.args.listening.server.now in
    let o = c.args.options.now in
    let asks = is_some o.stop_file in
    let old = place contents c.args.output.now in
    let new = place contents c.run_until.new.observer.output.now in
    let w' = c.run_until.new.observer.output.ghost_name in
    let kept = run_writer unknown unknown uncounted rows_text asks o.turns _ _ c.run_until.result c.run_until.ensures in
    let last : c.output-1.given.0 ≡ c.run_until.new.observer.output.now = c.output-1.given.1 (sym kept) in
    let went =
    ran rows_text first first (keeping g.K.Keeper.kept c.run_until.new.server) c.args.listening.serve.now c.run_until.new.serve (output_at _ old) (output_at w' new) asks o.turns c.run_until.result
    refl c.run_until.ensures
    in
    subst (λ (p : Tapped g.row.O.Denot). ServesWith o c.args.listening.serve.now first old (place contents p) c.run_until.result) (sym last)
    (served_with o c.args.listening.serve.now first old new c.if-options.true _ w' c.run_until.result kept went)

pub returns : goal.returns
returns g c =
    let first = keeping g.K.Keeper.kept c.args.listening.server.now in
    let o = c.args.options.now in
    let at = place g.O.Write.contents c.args.output.now in
    let went =
    ran (text_of false) first first (keeping g.K.Keeper.kept c.run_until-else-options.new.server) c.args.listening.serve.now c.run_until-else-options.new.serve no_output no_output (is_some o.stop_file) o.turns
    c.run_until-else-options.result refl c.run_until-else-options.ensures
    in
    served_without o c.args.listening.serve.now first at at c.if-options.false c.run_until-else-options.result refl went
