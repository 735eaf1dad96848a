use Rattle.std.proofs.Common.{rules, ◌≡◌, ◌≤◌, ap, refl, arith}
use Rattle.mio.specs.declared.net.stream.TcpStream.{TcpStream}
use Rattle.socket_server.specs.Keeping.{keeping}
use Rattle.socket_server.specs.Sockets.{Sockets, key_stream}
use Rattle.socket_server.specs.Serving.{scene, unknown, uncounted}
use Rattle.socket_server.proofs.ServingLemmas.{none_taken_in, next_taken_in, fewer_taken_in, taken_in_go, stops_after}
use Rattle.socket_server.proofs.serve.Serve.accept_some.Goals as goal

pub loop-accept-init : goal.loop-accept-init
loop-accept-init g c = none_taken_in unknown unknown uncounted g.W.Observer.text _

pub returns-in_default : goal.returns-in_default
returns-in_default g c =
    let at = (scene (key_stream c.loop-accept.self.keys) (keeping g.K.Keeper.kept c.loop-accept.server) c.loop-accept.self.peers c.loop-accept.self.events (g.W.Observer.output c.loop-accept.observer)) in
    let mid = (scene (key_stream c.accept.new.self.keys) (keeping g.K.Keeper.kept c.loop-accept.server) c.accept.new.self.peers c.accept.new.self.events (g.W.Observer.output c.loop-accept.observer)) in
    let same : mid ≡ at = ap (λ (s : Sockets TcpStream). scene (key_stream s.keys) (keeping g.K.Keeper.kept c.loop-accept.server) s.peers s.events (g.W.Observer.output c.loop-accept.observer)) c.accept.ensures.still in
    let most : c.loop-accept._accept ≤ 256 = search rules in
    fewer_taken_in unknown unknown uncounted g.W.Observer.text c.loop-accept._accept 256 _ at mid most same c.loop-accept.invariant

pub returns-in-Err : goal.returns-in-Err
returns-in-Err g c =
    let at = (scene (key_stream c.loop-accept.self.keys) (keeping g.K.Keeper.kept c.loop-accept.server) c.loop-accept.self.peers c.loop-accept.self.events (g.W.Observer.output c.loop-accept.observer)) in
    let mid = (scene (key_stream c.accept.new.self.keys) (keeping g.K.Keeper.kept c.loop-accept.server) c.accept.new.self.peers c.accept.new.self.events (g.W.Observer.output c.loop-accept.observer)) in
    let same : mid ≡ at = ap (λ (s : Sockets TcpStream). scene (key_stream s.keys) (keeping g.K.Keeper.kept c.loop-accept.server) s.peers s.events (g.W.Observer.output c.loop-accept.observer)) c.accept.ensures.still in
    let new = (scene (key_stream c.take_in.new.self.keys) (keeping g.K.Keeper.kept c.take_in.new.server) c.take_in.new.self.peers c.take_in.new.self.events (g.W.Observer.output c.take_in.new.observer)) in
    let taken = fewer_taken_in unknown unknown uncounted g.W.Observer.text c.loop-accept._accept c.loop-accept._accept _ at mid (omega arith) same c.loop-accept.invariant in
    stops_after unknown unknown uncounted g.W.Observer.text 0 _ mid new c.in-Err.fault (taken_in_go unknown unknown uncounted g.W.Observer.text c.loop-accept._accept _ mid taken) c.in-Err.ensures

pub loop-accept-preserved : goal.loop-accept-preserved
loop-accept-preserved g c =
    let at = (scene (key_stream c.loop-accept.self.keys) (keeping g.K.Keeper.kept c.loop-accept.server) c.loop-accept.self.peers c.loop-accept.self.events (g.W.Observer.output c.loop-accept.observer)) in
    let mid = (scene (key_stream c.accept.new.self.keys) (keeping g.K.Keeper.kept c.loop-accept.server) c.accept.new.self.peers c.accept.new.self.events (g.W.Observer.output c.loop-accept.observer)) in
    let same : mid ≡ at = ap (λ (s : Sockets TcpStream). scene (key_stream s.keys) (keeping g.K.Keeper.kept c.loop-accept.server) s.peers s.events (g.W.Observer.output c.loop-accept.observer)) c.accept.ensures.still in
    let taken = fewer_taken_in unknown unknown uncounted g.W.Observer.text c.loop-accept._accept c.loop-accept._accept _ at mid (omega arith) same c.loop-accept.invariant in
    next_taken_in unknown unknown uncounted g.W.Observer.text c.loop-accept._accept _ _ mid _ taken c.in-Ok.ensures

pub returns : goal.returns
returns g c =
    let at = (scene (key_stream c.loop-accept.self.keys) (keeping g.K.Keeper.kept c.loop-accept.server) c.loop-accept.self.peers c.loop-accept.self.events (g.W.Observer.output c.loop-accept.observer)) in
    let most : c.loop-accept._accept ≤ 256 = search rules in
    fewer_taken_in unknown unknown uncounted g.W.Observer.text c.loop-accept._accept 256 _ at at most refl c.loop-accept.invariant
