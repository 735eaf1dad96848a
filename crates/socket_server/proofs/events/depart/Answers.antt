use Rattle.std.proofs.Common.{rules, ◌≡◌, true, false, sym, subst, ap}
use Rattle.rand_core.specs.Stream.{Stream}
use Rattle.socket_peers.specs.Peers.{departs_at, with_departed}
use Rattle.socket_server.specs.Keeping.{keeping}
use Rattle.socket_server.specs.Serving.{scene}
use Rattle.socket_server.proofs.ServingLemmas.{gone_serves, none_leaves}
use Rattle.socket_server.proofs.DepartLemmas.{told_by, empty_stream}
use Rattle.socket_server.proofs.events.depart.Goals as goal

pub returns-then-depart : goal.returns-then-depart
returns-then-depart g c =
    let at = λ (keys : Stream). (scene keys (keeping g.K.Keeper.kept c.args.server.now) c.args.peers.now c.args.events.now (g.W.Observer.output c.args.observer.now)) in
    let new = λ (keys : Stream). (scene keys (keeping g.K.Keeper.kept c.hand_in_end.new.server) c.hand_in_end.new.peers c.hand_in_end.new.events (g.W.Observer.output c.hand_in_end.new.observer)) in
    let departs : (departs_at c.args.peers.now c.args.number ≡ true) × (c.depart.new.self ≡ with_departed c.args.peers.now c.args.number) = search rules in
    record {
      serves = λ keys. gone_serves g.S.Socket.remaining g.S.Socket.contents g.S.Socket.calls g.W.Observer.text c.args.number (at keys) c.depart.new.self (new keys) c.hand_in_end.result departs (c.hand_in_end.ensures keys);
      told = told_by g.W.Observer.text c.args.number (at empty_stream) c.depart.new.self (new empty_stream) c.hand_in_end.result departs.1 (c.hand_in_end.ensures empty_stream);
    }

pub returns : goal.returns
returns g c =
    let same : c.depart.new.self ≡ c.args.peers.now = search rules in
    let still : departs_at c.args.peers.now c.args.number ≡ false = search rules in
    record {
      serves = λ keys. none_leaves g.S.Socket.remaining g.S.Socket.contents g.S.Socket.calls g.W.Observer.text c.args.number (scene keys (keeping g.K.Keeper.kept c.args.server.now) c.args.peers.now c.args.events.now (g.W.Observer.output c.args.observer.now)) _ still (ap (λ p. scene keys (keeping g.K.Keeper.kept c.args.server.now) p c.args.events.now (g.W.Observer.output c.args.observer.now)) same);
      told = subst (λ p. departs_at p c.args.number ≡ false) (sym same) still;
    }
