use Rattle.std.proofs.Common.{◌∙◌, List, ℕ, refl, subst, sym}
use Rattle.socket_server.specs.Keeping.{keeping}
use Rattle.socket_server.specs.declared.serve_fault.ServeFault.TheVariants as serve_fault
use Rattle.scenario_run.specs.Held.{place}
use Rattle.commands.specs.Said.{Says}
use Rattle.commands.specs.Serving.{ServesOn, listening_line}
use Rattle.commands.specs.declared.exit_status.ExitStatus.{ExitStatus}
use Rattle.commands.specs.declared.exit_status.ExitStatus.TheVariants.{Done}
use Rattle.commands.proofs.ServeLemmas.{ended, refused}
use Rattle.commands.proofs.serving.serve_on.Goals as goal

pub returns-in_default : goal.returns-in_default
returns-in_default g c =
    let first = keeping g.K.Keeper.kept c.args.server.now in
    let at = place g.O.Write.contents c.args.output.now in
    subst (ServesOn at at c.args.asked.idle c.args.asked.options.now first) (sym c.no_memory.ensures)
    (refused at at c.args.asked.idle c.args.asked.options.now first serve_fault.Memory tt refl)

pub returns-in-Err : goal.returns-in-Err
returns-in-Err g c =
    let first = keeping g.K.Keeper.kept c.args.server.now in
    let at = place g.O.Write.contents c.args.output.now in
    subst (ServesOn at at c.args.asked.idle c.args.asked.options.now first) (sym c.served.ensures)
    (refused at at c.args.asked.idle c.args.asked.options.now first c.in-Err.fault c.in-Err.ensures.err refl)

pub returns-in-Done : goal.returns-in-Done
returns-in-Done g c =
    let first = keeping g.K.Keeper.kept c.args.server.now in
    let old = place g.O.Write.contents c.args.output.now in
    let mid = place g.O.Write.contents c.say.new.output in
    let new = place g.O.Write.contents c.serve_and_log-ran.new.output in
    let said : Says (listening_line c.args.asked.options.now.port) old mid Done =
    subst (λ (text : List ℕ). Says text old mid Done) (c.as_str.ensures.value ∙ c.in-Ok.ensures)
    (subst (λ (status : ExitStatus). Says c.as_str.result.now old mid status) c.in-Done.is c.say.ensures)
    in
    subst (ServesOn old new c.args.asked.idle c.args.asked.options.now first) (sym c.served-in-Done.ensures)
    (ended old new c.args.asked.idle c.args.asked.options.now first c.serve_and_log-ran.result (_, c.in-Ok-listen.ensures.ok, mid, said, c.serve_and_log-ran.ensures))
