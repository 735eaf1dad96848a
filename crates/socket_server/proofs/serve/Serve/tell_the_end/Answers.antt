use Rattle.std.proofs.Common.{◌≡◌, subst, sym, ap}
use Rattle.mio.specs.declared.net.stream.TcpStream.{TcpStream}
use Rattle.socket_server.specs.Keeping.{keeping}
use Rattle.server_core.specs.declared.event.Event.TheVariants as ending
use Rattle.socket_server.specs.Sockets.{Sockets, key_stream}
use Rattle.socket_server.specs.Serving.{scene, unknown, uncounted, Takes}
use Rattle.socket_server.proofs.ServingLemmas.{ended, gives_up_so, stops_at}
use Rattle.socket_server.proofs.serve.Serve.tell_the_end.Goals as goal

pub returns-in-Err : goal.returns-in-Err
returns-in-Err g c =
    let at = (scene (key_stream c.args.self.now.keys) (keeping g.K.Keeper.kept c.args.server.now) c.args.self.now.peers c.args.self.now.events (g.W.Observer.output c.args.observer.now)) in
    let new = (scene (key_stream c.tell.new.self.keys) (keeping g.K.Keeper.kept c.tell.new.server) c.tell.new.self.peers c.tell.new.self.events (g.W.Observer.output c.tell.new.observer)) in
    gives_up_so unknown unknown uncounted g.W.Observer.text at new c.in-Err.fault
    (stops_at unknown unknown uncounted g.W.Observer.text ending.Shutdown at new c.in-Err.fault c.in-Err.ensures)

pub returns : goal.returns
returns g c =
    let output = g.W.Observer.output c.tell.new.observer in
    let keys = key_stream c.self.inside.keys in
    let events = c.self.inside.events_so_far in
    let at = (scene (key_stream c.args.self.now.keys) (keeping g.K.Keeper.kept c.args.server.now) c.args.self.now.peers c.args.self.now.events (g.W.Observer.output c.args.observer.now)) in
    let inside = (scene keys (keeping g.K.Keeper.kept c.tell.new.server) c.self.inside.peers events output) in
    let told = (scene (key_stream c.tell.new.self.keys) (keeping g.K.Keeper.kept c.tell.new.server) c.tell.new.self.peers c.tell.new.self.events output) in
    let new = (scene keys (keeping g.K.Keeper.kept c.send_out.new.server) c.send_out.new.peers events output) in
    let same : inside ≡ told = ap (λ (s : Sockets TcpStream). scene (key_stream s.keys) (keeping g.K.Keeper.kept c.tell.new.server) s.peers s.events output) c.self.view_is in
    let takes : Takes g.W.Observer.text ending.Shutdown at inside = subst (Takes g.W.Observer.text ending.Shutdown at) (sym same) c.in-Ok.ensures in
    ended unknown unknown uncounted g.W.Observer.text at inside new c.send_out.result takes (c.send_out.ensures g.W.Observer.text keys events output)
