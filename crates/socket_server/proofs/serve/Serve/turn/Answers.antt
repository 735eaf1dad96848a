use Rattle.std.proofs.Common.{subst, sym}
use Rattle.mio.specs.declared.net.stream.TcpStream.{TcpStream}
use Rattle.socket_server.specs.Keeping.{keeping}
use Rattle.socket_server.specs.Sockets.{Sockets, key_stream}
use Rattle.socket_server.specs.Output.{Output}
use Rattle.socket_server.specs.Serving.{scene, unknown, uncounted, TakesTurn, Stops}
use Rattle.socket_server.proofs.serve.Serve.turn.Goals as goal

pub returns-in-Ok : goal.returns-in-Ok
returns-in-Ok g c =
    let at = (scene (key_stream c.args.self.now.keys) (keeping g.K.Keeper.kept c.args.server.now) c.args.self.now.peers c.args.self.now.events (g.W.Observer.output c.args.observer.now)) in
    let sockets = c.take_turn.new.self in
    subst (λ (o : Output). TakesTurn unknown unknown uncounted g.W.Observer.text at (scene (key_stream sockets.keys) (keeping g.K.Keeper.kept c.take_turn.new.server) sockets.peers sockets.events o))
    (sym c.turned.ensures) c.in-Ok.ensures

pub returns-in-Err : goal.returns-in-Err
returns-in-Err g c =
    let server = keeping g.K.Keeper.kept c.take_turn.new.server in
    let output = g.W.Observer.output c.take_turn.new.observer in
    let at = (scene (key_stream c.args.self.now.keys) (keeping g.K.Keeper.kept c.args.server.now) c.args.self.now.peers c.args.self.now.events (g.W.Observer.output c.args.observer.now)) in
    let keys = key_stream c.self.inside.keys in
    let stopped = (scene keys server c.self.inside.peers c.self.inside.events_so_far output) in
    let stops : Stops unknown unknown uncounted g.W.Observer.text at stopped c.in-Err.fault =
    subst (λ (s : Sockets TcpStream). Stops unknown unknown uncounted g.W.Observer.text at (scene (key_stream s.keys) server s.peers s.events output) c.in-Err.fault) (sym c.self.view_is) c.in-Err.ensures
    in
    (stopped, stops, c.wind_up.ensures keys c.self.inside.events_so_far output)
