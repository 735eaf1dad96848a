use Rattle.std.proofs.Common.{subst, sym}
use Rattle.mio.specs.declared.net.stream.TcpStream.{TcpStream}
use Rattle.socket_server.specs.Keeping.{keeping}
use Rattle.socket_server.specs.Sockets.{Sockets, key_stream}
use Rattle.socket_server.specs.Serving.{scene, unknown, uncounted, TakesInSome}
use Rattle.socket_server.proofs.serve.Serve.accept_all.Goals as goal

pub returns-in-Ok : goal.returns-in-Ok
returns-in-Ok g c =
    let at = (scene (key_stream c.args.self.now.keys) (keeping g.K.Keeper.kept c.args.server.now) c.args.self.now.peers c.args.self.now.events (g.W.Observer.output c.args.observer.now)) in
    subst (λ (s : Sockets TcpStream). TakesInSome unknown unknown uncounted g.W.Observer.text at (scene (key_stream s.keys) (keeping g.K.Keeper.kept c.accept_some.new.server) s.peers s.events (g.W.Observer.output c.accept_some.new.observer)))
    (sym c.self.view_is) c.in-Ok.ensures
