use Rattle.collections.proofs.NumberMaps.{lent_found, given_back}
use Rattle.socket_peers.proofs.MapLemmas.{both_ok, reported_back}
use Rattle.socket_peers.proofs.peers.Peers.report.Goals as goal

pub returns : goal.returns
returns g c =
    let there = lent_found c.get_mut.result _ c.in-Some.peer c.in-Some.is c.get_mut.ensures.found in
    let back = given_back _ c.get_mut.result c.in-Some.peer c.in-Some.is (c.get_mut.follows.holds c.wake_if.new.peer) in
    both_ok _ _ _ c.wake_if.result c.wake_if.ensures.list c.wake_if.ensures.peer (λ list woken.
    reported_back _ c.args.self.now c.args.number c.args.readiness c.report.new.self c.in-Some.peer.now c.wake_if.new.peer _ c.wake_if.new.awake.items
    c.self.view_is there c.report.ensures back list woken)
