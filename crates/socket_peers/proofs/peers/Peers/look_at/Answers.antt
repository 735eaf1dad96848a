use Rattle.std.proofs.Common.{subst}
use Rattle.socket_peers.specs.Peer.{Flushes}
use Rattle.collections.proofs.NumberMaps.{lent_found, given_back}
use Rattle.socket_peers.proofs.MapLemmas.{both_ok, look_at}
use Rattle.socket_peers.proofs.peers.Peers.look_at.Goals as goal

pub returns : goal.returns
returns g c =
    let there = lent_found c.get_mut.result _ c.in-Some.peer c.in-Some.is c.get_mut.ensures.found in
    let back = given_back _ c.get_mut.result c.in-Some.peer c.in-Some.is (c.get_mut.follows.holds c.wake_if.new.peer) in
    let flushes = subst (λ p. Flushes g.S.Socket.remaining g.S.Socket.contents g.S.Socket.calls p c.flush-is_interrupted.new.self c.flush-is_interrupted.result) c.set_awake.ensures c.flush-is_interrupted.ensures.flushes in
    both_ok _ _ _ c.wake_if.result c.wake_if.ensures.list c.wake_if.ensures.peer (λ list woken.
    look_at g.S.Socket.remaining g.S.Socket.contents g.S.Socket.calls _ c.args.self.now c.args.number c.in-Some.peer.now c.flush-is_interrupted.new.self c.wake_if.new.peer c.flush-is_interrupted.result _
    c.wake_if.new.awake.items c.self.view_is there flushes back list woken)
