use Rattle.std.proofs.Common.{[]}
use Rattle.socket_server.specs.Keeping.{keeping}
use Rattle.socket_server.specs.Serving.{scene}
use Rattle.socket_server.proofs.ServingLemmas.{wound_up}
use Rattle.socket_server.proofs.events.wind_up.Goals as goal

pub returns-in_default : goal.returns-in_default
returns-in_default g c keys events output =
    wound_up g.S.Socket.remaining g.S.Socket.contents g.S.Socket.calls (λ event rows. []) (scene keys (keeping g.K.Keeper.kept c.args.server.now) c.args.peers.now events output)
    (scene keys (keeping g.K.Keeper.kept c.send_out.new.server) c.send_out.new.peers events output) c.args.fault c.send_out.result c.in_default.not-Store
    (c.send_out.ensures (λ event rows. []) keys events output)
