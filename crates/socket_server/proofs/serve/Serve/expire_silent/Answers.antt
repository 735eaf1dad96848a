use Rattle.std.proofs.Common.{MatchResult, subst}
use Rattle.mio.specs.declared.net.stream.TcpStream.{TcpStream}
use Rattle.socket_server.specs.Keeping.{keeping}
use Rattle.socket_peers.specs.Peers.{is_sweep_due}
use Rattle.socket_server.specs.Sockets.{Sockets, key_stream}
use Rattle.socket_server.specs.Serving.{scene, unknown, uncounted, SweepsIfDue, Stops}
use Rattle.socket_server.proofs.serve.Serve.expire_silent.Goals as goal

pub returns : goal.returns
returns g c =
    let output = g.W.Observer.output c.args.observer.now in
    let new = scene (key_stream c.self.inside.keys) (keeping g.K.Keeper.kept c.sweep.new.server) c.sweep.new.peers c.sweep.new.events (g.W.Observer.output c.sweep.new.observer) in
    subst (λ (s : Sockets TcpStream). MatchResult c.sweep.result (λ _. SweepsIfDue unknown unknown uncounted g.W.Observer.text (is_sweep_due s.peers) (scene (key_stream s.keys) (keeping g.K.Keeper.kept c.args.server.now) s.peers s.events output) new)
    (Stops unknown unknown uncounted g.W.Observer.text (scene (key_stream s.keys) (keeping g.K.Keeper.kept c.args.server.now) s.peers s.events output) new)) c.self.view_is
    (c.sweep.ensures (key_stream c.self.inside.keys))
