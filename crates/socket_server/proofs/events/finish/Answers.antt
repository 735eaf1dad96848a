use Rattle.std.proofs.Common.{refl}
use Rattle.rand_core.specs.Stream.{Stream}
use Rattle.socket_server.specs.Keeping.{keeping}
use Rattle.socket_server.specs.Serving.{scene}
use Rattle.socket_server.proofs.ServingLemmas.{released_after}
use Rattle.socket_server.proofs.DepartLemmas.{released_told}
use Rattle.socket_server.proofs.events.finish.Goals as goal

pub returns-in-Ok : goal.returns-in-Ok
returns-in-Ok g c =
    let at = λ (keys : Stream). (scene keys (keeping g.K.Keeper.kept c.args.server.now) c.args.peers.now c.args.events.now (g.W.Observer.output c.args.observer.now)) in
    let mid = λ (keys : Stream). (scene keys (keeping g.K.Keeper.kept c.depart.new.server) c.depart.new.peers c.depart.new.events (g.W.Observer.output c.depart.new.observer)) in
    let new = λ (keys : Stream). (scene keys (keeping g.K.Keeper.kept c.depart.new.server) c.release.new.self c.depart.new.events (g.W.Observer.output c.depart.new.observer)) in
    record {
      serves = λ keys. released_after g.S.Socket.remaining g.S.Socket.contents g.S.Socket.calls g.W.Observer.text c.args.number (at keys) (mid keys) (new keys) c.release.result (c.in-Ok.ensures.serves keys) c.release.ensures (refl, refl, refl, refl);
      told = released_told c.args.number c.depart.new.peers c.release.new.self c.release.result c.in-Ok.ensures.told c.release.ensures;
    }
