use Rattle.std.proofs.Common.{subst}
use Rattle.mio.specs.declared.net.stream.TcpStream.{TcpStream}
use Rattle.socket_server.specs.Keeping.{keeping}
use Rattle.socket_server.specs.Sockets.{Sockets, key_stream}
use Rattle.socket_server.specs.Serving.{scene, Takes, Fails}
use Rattle.socket_server.proofs.serve.Serve.tell.Goals as goal
use Rattle.socket_server.proofs.serve.Serve.tell.Goals.{in-Ok, in-Err}

pub returns : goal.returns
returns g c =
    let output = g.W.Observer.output c.args.observer.now in
    let keys = key_stream c.self.inside.keys in
    let new = scene keys (keeping g.K.Keeper.kept c.hand_in.new.server) c.hand_in.new.peers c.hand_in.new.events (g.W.Observer.output c.hand_in.new.observer) in
    elim c.match-hand_in.branch [
      | in-Ok w ↦ rw w.result-is (subst
          (λ (s : Sockets TcpStream). Takes g.W.Observer.text c.args.event.now (scene (key_stream s.keys) (keeping g.K.Keeper.kept c.args.server.now) s.peers s.events output) new)
          c.self.view_is (w.in-Ok.ensures keys))
      | in-Err w ↦ rw w.result-is (subst
          (λ (s : Sockets TcpStream). Fails g.W.Observer.text c.args.event.now (scene (key_stream s.keys) (keeping g.K.Keeper.kept c.args.server.now) s.peers s.events output) new w.in-Err.fault)
          c.self.view_is (w.in-Err.ensures keys))
    ]
