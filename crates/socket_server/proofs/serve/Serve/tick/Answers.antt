use Rattle.std.proofs.Common.{MatchResult, subst}
use Rattle.mio.specs.declared.net.stream.TcpStream.{TcpStream}
use Rattle.socket_server.specs.Keeping.{keeping}
use Rattle.server_core.specs.declared.event.Event.TheVariants as ending
use Rattle.socket_server.specs.Sockets.{Sockets, key_stream}
use Rattle.socket_server.specs.Serving.{scene, unknown, uncounted, Passes, Does, Fails}
use Rattle.socket_server.proofs.ServingLemmas.{time_told}
use Rattle.socket_server.proofs.serve.Serve.tick.Goals as goal

pub returns : goal.returns
returns g c =
    let output = g.W.Observer.output c.args.observer.now in
    let inside = scene (key_stream c.self.inside.keys) (keeping g.K.Keeper.kept c.args.server.now) c.self.inside.peers c.self.inside.events_so_far output in
    let new = (scene (key_stream c.tell.new.self.keys) (keeping g.K.Keeper.kept c.tell.new.server) c.tell.new.self.peers c.tell.new.self.events (g.W.Observer.output c.tell.new.observer)) in
    subst (λ (s : Sockets TcpStream). MatchResult c.tell.result (λ _. Does unknown unknown uncounted g.W.Observer.text (Passes c.args.now) (scene (key_stream s.keys) (keeping g.K.Keeper.kept c.args.server.now) s.peers s.events output) new)
    (Fails g.W.Observer.text (ending.Tick c.args.now) (scene (key_stream s.keys) (keeping g.K.Keeper.kept c.args.server.now) s.peers s.events output) new)) c.self.view_is
    (time_told unknown unknown uncounted g.W.Observer.text c.args.now inside c.tell_time.new.self new c.tell.result c.tell_time.ensures c.tell.ensures)
