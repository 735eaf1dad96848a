use Rattle.std.proofs.Common.{◌≡◌, IfOk, OnErr, length, rules, subst}
use Rattle.collections.proofs.NumberMaps.{lent_found, given_back}
use Rattle.socket_peers.specs.Peer.{Reads, Loses}
use Rattle.socket_peers.proofs.MapLemmas.{reads_at, loses_at}
use Rattle.socket_peers.proofs.peers.Peers.read.Goals as goal

pub returns-clause-heard : goal.returns-clause-heard
returns-clause-heard g c =
    let size : length c.self.inside.room ≡ 4096 = search rules in
    let there = lent_found c.get_mut.result _ c.in-Some.peer c.in-Some.is c.get_mut.ensures.found in
    let back = given_back _ c.get_mut.result c.in-Some.peer c.in-Some.is (c.get_mut.follows.holds c.read.new.self) in
    let reads = subst (λ n. IfOk c.read.result (λ heard. Reads g.S.Socket.remaining g.S.Socket.contents g.S.Socket.calls c.in-Some.peer.now c.read.new.self n c.read.new.piece.items heard)) size c.read.ensures.heard in
    reads_at g.S.Socket.remaining g.S.Socket.contents g.S.Socket.calls c.read.result _ c.args.self.now c.args.number 4096 c.read.new.piece.items c.in-Some.peer.now c.read.new.self _
    c.self.view_is there reads back

pub returns-clause-lost : goal.returns-clause-lost
returns-clause-lost g c =
    let size : length c.self.inside.room ≡ 4096 = search rules in
    let there = lent_found c.get_mut.result _ c.in-Some.peer c.in-Some.is c.get_mut.ensures.found in
    let back = given_back _ c.get_mut.result c.in-Some.peer c.in-Some.is (c.get_mut.follows.holds c.read.new.self) in
    let loses = subst (λ n. OnErr c.read.result (Loses g.S.Socket.remaining g.S.Socket.contents g.S.Socket.calls c.in-Some.peer.now c.read.new.self n)) size c.read.ensures.lost in
    loses_at g.S.Socket.remaining g.S.Socket.contents g.S.Socket.calls c.read.result _ c.args.self.now c.args.number 4096 c.in-Some.peer.now c.read.new.self _
    c.self.view_is there loses back
