use Rattle.std.proofs.Common.{subst, sym, MatchResult}
use Rattle.server_core.specs.World.{world_of}
use Rattle.stream_server.specs.Pumped as pump
use Rattle.stream_server.specs.Pumped.{State, scene}
use Rattle.commands.specs.Commands.{Pipes}
use Rattle.commands.specs.declared.exit_status.ExitStatus.{ExitStatus}
use Rattle.commands.proofs.PipeLemmas.{piped}
use Rattle.commands.proofs.program.pipe.Goals as goal

pub returns : goal.returns
returns g c =
    let made = c.args.made in
    let remaining = g.I.Read.remaining in
    let contents = g.O.Write.contents in
    let input = c.args.input.now in
    let output = c.args.output.now in
    let input' = c.run-ran.new.reader in
    let output' = c.run-ran.new.writer in
    let server = world_of c.run-ran.new.server in
    let sent = c.run-ran.new.self in
    subst (λ (s : ExitStatus). Pipes remaining contents input input' output output' made s) (sym c.pumped.ensures)
    (piped remaining contents input input' output output' made server sent c.run-ran.result
    (subst (λ (s : State). MatchResult c.run-ran.result
    (λ x. pump.Done 1 (scene remaining contents 0 s input output) (scene remaining contents sent server input' output'))
    (pump.Stopped 1 (scene remaining contents 0 s input output) (scene remaining contents sent server input' output')))
    c.in-Ok.ensures c.run-ran.ensures))
