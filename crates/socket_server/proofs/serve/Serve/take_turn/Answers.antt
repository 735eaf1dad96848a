use Rattle.std.proofs.Common.{◌≡◌, ap, refl, subst, sym}
use Rattle.mio.specs.declared.net.stream.TcpStream.{TcpStream}
use Rattle.socket_server.specs.Keeping.{keeping}
use Rattle.server_core.specs.declared.event.Event.TheVariants as ending
use Rattle.socket_peers.specs.Peers.{is_sweep_due}
use Rattle.socket_server.specs.declared.serve_fault.ServeFault.TheVariants as serve_fault
use Rattle.socket_server.specs.Sockets.{Sockets, key_stream}
use Rattle.socket_server.specs.Serving.{Scene, scene, unknown, uncounted, SweepsIfDue}
use Rattle.socket_server.proofs.ServingLemmas.{goes_trans, reported_each, reports_stop, told_time, taken_in_go, stops_after, stops_at, stops_here, turned}
use Rattle.socket_server.proofs.serve.Serve.take_turn.Goals as goal

pub returns-in-Err : goal.returns-in-Err
returns-in-Err g c =
    let at = (scene (key_stream c.args.self.now.keys) (keeping g.K.Keeper.kept c.args.server.now) c.args.self.now.peers c.args.self.now.events (g.W.Observer.output c.args.observer.now)) in
    let new = (scene (key_stream c.wait.new.self.keys) (keeping g.K.Keeper.kept c.args.server.now) c.wait.new.self.peers c.wait.new.self.events (g.W.Observer.output c.args.observer.now)) in
    stops_here unknown unknown uncounted g.W.Observer.text at new c.in-Err.fault c.in-Err.ensures.outside refl refl

pub returns-in_default : goal.returns-in_default
returns-in_default g c =
    let at = (scene (key_stream c.args.self.now.keys) (keeping g.K.Keeper.kept c.args.server.now) c.args.self.now.peers c.args.self.now.events (g.W.Observer.output c.args.observer.now)) in
    let mid = (scene (key_stream c.wait.new.self.keys) (keeping g.K.Keeper.kept c.args.server.now) c.wait.new.self.peers c.wait.new.self.events (g.W.Observer.output c.args.observer.now)) in
    let is = c.in-Ok.ensures.ok in
    let waited = reported_each unknown unknown uncounted g.W.Observer.text is.0 at mid (ap (λ (s : Sockets TcpStream). s.peers) is.1)
    (refl, ap (λ (s : Sockets TcpStream). s.events) is.1, refl, ap (λ (s : Sockets TcpStream). key_stream s.keys) is.1) in
    reports_stop unknown unknown uncounted g.W.Observer.text at mid mid serve_fault.Network waited (stops_here unknown unknown uncounted g.W.Observer.text mid mid serve_fault.Network tt refl refl)

pub returns-in-Err-tick : goal.returns-in-Err-tick
returns-in-Err-tick g c =
    let at = (scene (key_stream c.args.self.now.keys) (keeping g.K.Keeper.kept c.args.server.now) c.args.self.now.peers c.args.self.now.events (g.W.Observer.output c.args.observer.now)) in
    let mid = (scene (key_stream c.wait.new.self.keys) (keeping g.K.Keeper.kept c.args.server.now) c.wait.new.self.peers c.wait.new.self.events (g.W.Observer.output c.args.observer.now)) in
    let is = c.in-Ok.ensures.ok in
    let waited = reported_each unknown unknown uncounted g.W.Observer.text is.0 at mid (ap (λ (s : Sockets TcpStream). s.peers) is.1)
    (refl, ap (λ (s : Sockets TcpStream). s.events) is.1, refl, ap (λ (s : Sockets TcpStream). key_stream s.keys) is.1) in
    let new = (scene (key_stream c.tick.new.self.keys) (keeping g.K.Keeper.kept c.tick.new.server) c.tick.new.self.peers c.tick.new.self.events (g.W.Observer.output c.tick.new.observer)) in
    reports_stop unknown unknown uncounted g.W.Observer.text at mid new c.in-Err-tick.fault waited (stops_at unknown unknown uncounted g.W.Observer.text (ending.Tick c.in-Ok-moment.now) mid new c.in-Err-tick.fault c.in-Err-tick.ensures)

pub returns-in-Err-accept_all : goal.returns-in-Err-accept_all
returns-in-Err-accept_all g c =
    let at = (scene (key_stream c.args.self.now.keys) (keeping g.K.Keeper.kept c.args.server.now) c.args.self.now.peers c.args.self.now.events (g.W.Observer.output c.args.observer.now)) in
    let mid = (scene (key_stream c.wait.new.self.keys) (keeping g.K.Keeper.kept c.args.server.now) c.wait.new.self.peers c.wait.new.self.events (g.W.Observer.output c.args.observer.now)) in
    let is = c.in-Ok.ensures.ok in
    let waited = reported_each unknown unknown uncounted g.W.Observer.text is.0 at mid (ap (λ (s : Sockets TcpStream). s.peers) is.1)
    (refl, ap (λ (s : Sockets TcpStream). s.events) is.1, refl, ap (λ (s : Sockets TcpStream). key_stream s.keys) is.1) in
    let tick = (scene (key_stream c.tick.new.self.keys) (keeping g.K.Keeper.kept c.tick.new.server) c.tick.new.self.peers c.tick.new.self.events (g.W.Observer.output c.tick.new.observer)) in
    let new = (scene (key_stream c.accept_all.new.self.keys) (keeping g.K.Keeper.kept c.accept_all.new.server) c.accept_all.new.self.peers c.accept_all.new.self.events (g.W.Observer.output c.accept_all.new.observer)) in
    stops_after unknown unknown uncounted g.W.Observer.text 1 at tick new c.in-Err-accept_all.fault (told_time unknown unknown uncounted g.W.Observer.text at mid tick c.in-Ok-moment.now waited c.in-Ok-tick.ensures) c.in-Err-accept_all.ensures

pub returns-in-Err-expire_silent : goal.returns-in-Err-expire_silent
returns-in-Err-expire_silent g c =
    let at = (scene (key_stream c.args.self.now.keys) (keeping g.K.Keeper.kept c.args.server.now) c.args.self.now.peers c.args.self.now.events (g.W.Observer.output c.args.observer.now)) in
    let mid = (scene (key_stream c.wait.new.self.keys) (keeping g.K.Keeper.kept c.args.server.now) c.wait.new.self.peers c.wait.new.self.events (g.W.Observer.output c.args.observer.now)) in
    let is = c.in-Ok.ensures.ok in
    let waited = reported_each unknown unknown uncounted g.W.Observer.text is.0 at mid (ap (λ (s : Sockets TcpStream). s.peers) is.1)
    (refl, ap (λ (s : Sockets TcpStream). s.events) is.1, refl, ap (λ (s : Sockets TcpStream). key_stream s.keys) is.1) in
    let tick = (scene (key_stream c.tick.new.self.keys) (keeping g.K.Keeper.kept c.tick.new.server) c.tick.new.self.peers c.tick.new.self.events (g.W.Observer.output c.tick.new.observer)) in
    let there = (scene (key_stream c.accept_all.new.self.keys) (keeping g.K.Keeper.kept c.accept_all.new.server) c.accept_all.new.self.peers c.accept_all.new.self.events (g.W.Observer.output c.accept_all.new.observer)) in
    let new = (scene (key_stream c.expire_silent.new.self.keys) (keeping g.K.Keeper.kept c.expire_silent.new.server) c.expire_silent.new.self.peers c.expire_silent.new.self.events (g.W.Observer.output c.expire_silent.new.observer)) in
    let ticked = told_time unknown unknown uncounted g.W.Observer.text at mid tick c.in-Ok-moment.now waited c.in-Ok-tick.ensures in
    let joined = goes_trans unknown unknown uncounted g.W.Observer.text 1 0 at tick there ticked (taken_in_go unknown unknown uncounted g.W.Observer.text 256 tick there c.in-Ok-accept_all.ensures) in
    stops_after unknown unknown uncounted g.W.Observer.text 1 at there new c.in-Err-expire_silent.fault joined c.in-Err-expire_silent.ensures

pub returns-in-Ok-expire_silent : goal.returns-in-Ok-expire_silent
returns-in-Ok-expire_silent g c =
    let at = (scene (key_stream c.args.self.now.keys) (keeping g.K.Keeper.kept c.args.server.now) c.args.self.now.peers c.args.self.now.events (g.W.Observer.output c.args.observer.now)) in
    let mid = (scene (key_stream c.wait.new.self.keys) (keeping g.K.Keeper.kept c.args.server.now) c.wait.new.self.peers c.wait.new.self.events (g.W.Observer.output c.args.observer.now)) in
    let is = c.in-Ok.ensures.ok in
    let waited = reported_each unknown unknown uncounted g.W.Observer.text is.0 at mid (ap (λ (s : Sockets TcpStream). s.peers) is.1)
    (refl, ap (λ (s : Sockets TcpStream). s.events) is.1, refl, ap (λ (s : Sockets TcpStream). key_stream s.keys) is.1) in
    let tick = (scene (key_stream c.tick.new.self.keys) (keeping g.K.Keeper.kept c.tick.new.server) c.tick.new.self.peers c.tick.new.self.events (g.W.Observer.output c.tick.new.observer)) in
    let there = (scene (key_stream c.accept_all.new.self.keys) (keeping g.K.Keeper.kept c.accept_all.new.server) c.accept_all.new.self.peers c.accept_all.new.self.events (g.W.Observer.output c.accept_all.new.observer)) in
    let swept = (scene (key_stream c.expire_silent.new.self.keys) (keeping g.K.Keeper.kept c.expire_silent.new.server) c.expire_silent.new.self.peers c.expire_silent.new.self.events (g.W.Observer.output c.expire_silent.new.observer)) in
    let inside = (scene (key_stream c.self.inside.keys) (keeping g.K.Keeper.kept c.expire_silent.new.server) c.self.inside.peers c.self.inside.events_so_far (g.W.Observer.output c.expire_silent.new.observer)) in
    let new = (scene (key_stream c.self.inside.keys) (keeping g.K.Keeper.kept c.attend_all.new.server) c.attend_all.new.peers c.attend_all.new.events (g.W.Observer.output c.attend_all.new.observer)) in
    let same : inside ≡ swept = ap (λ (s : Sockets TcpStream). scene (key_stream s.keys) (keeping g.K.Keeper.kept c.expire_silent.new.server) s.peers s.events (g.W.Observer.output c.expire_silent.new.observer)) c.self.view_is in
    let sweeping = subst (λ (s : Scene TcpStream). SweepsIfDue unknown unknown uncounted g.W.Observer.text (is_sweep_due c.accept_all.new.self.peers) there s) (sym same) c.in-Ok-expire_silent.ensures in
    turned unknown unknown uncounted g.W.Observer.text at mid tick there inside new c.in-Ok-moment.now c.attend_all.result waited c.in-Ok-tick.ensures c.in-Ok-accept_all.ensures sweeping (c.attend_all.ensures (key_stream c.self.inside.keys))
