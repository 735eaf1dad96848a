use Rattle.std.proofs.Common.{rules, ◌≡◌, true, false}
use Rattle.socket_peers.specs.Peer.{departs}
use Rattle.collections.proofs.NumberMaps.{lent_found, given_back}
use Rattle.socket_peers.proofs.MapLemmas.{departed_back, kept_back}
use Rattle.socket_peers.proofs.peers.Peers.depart.Goals as goal

pub returns-then-not-departs : goal.returns-then-not-departs
returns-then-not-departs g c =
    let there = lent_found c.get_mut.result _ c.in-Some.peer c.in-Some.is c.get_mut.ensures.found in
    let back = given_back _ c.get_mut.result c.in-Some.peer c.in-Some.is (c.get_mut.follows.holds c.in-Some.peer.now) in
    let none : departs c.in-Some.peer.now ≡ false = search rules in
    kept_back _ c.args.self.now c.args.number c.in-Some.peer.now _ c.self.view_is there none back

pub returns : goal.returns
returns g c =
    let there = lent_found c.get_mut.result _ c.in-Some.peer c.in-Some.is c.get_mut.ensures.found in
    let back = given_back _ c.get_mut.result c.in-Some.peer c.in-Some.is (c.get_mut.follows.holds c.depart.new.self) in
    let news : departs c.in-Some.peer.now ≡ true = search rules in
    departed_back _ c.args.self.now c.args.number c.in-Some.peer.now c.depart.new.self _ c.self.view_is there news c.depart.ensures back
