use Rattle.std.proofs.Common.{refl}
use Rattle.socket_server.specs.Keeping.{keeping, Settles}
use Rattle.socket_server.specs.Serving.{scene}
use Rattle.socket_server.proofs.ServingLemmas.{settled_none}
use Rattle.socket_server.proofs.events.send_out.Goals as goal

pub returns-in-Ok-flush_touched : goal.returns-in-Ok-flush_touched
returns-in-Ok-flush_touched g c text keys events output =
    let old = keeping g.K.Keeper.kept c.args.server.now in
    let new = keeping g.K.Keeper.kept c.settle.new.self in
    let settles : Settles old new = c.in-Ok.ensures in
    (scene keys new c.args.peers.now events output, (settles, refl), (settled_none old new settles, c.in-Ok-flush_touched.ensures, (refl, refl, refl, refl)))
