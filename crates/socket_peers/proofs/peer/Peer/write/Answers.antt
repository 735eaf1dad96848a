use Rattle.std.proofs.Common.{rules, ◌<◌, length, subst, sym}
use Rattle.socket_peers.specs.declared.socket.Missed.{Missed}
use Rattle.socket_peers.specs.Socket.{OneMissed}
use Rattle.socket_peers.proofs.PeerLemmas.{writes_failed}
use Rattle.socket_peers.proofs.peer.Peer.write.Goals as goal

pub returns-in-Failed-clause-writes : goal.returns-in-Failed-clause-writes
returns-in-Failed-clause-writes g c =
    let some : 0 < length c.front.result.now = search rules in
    let missed = subst (λ (w : Missed). OneMissed w (g.S.Socket.calls c.self.inside.stream) (g.S.Socket.calls c.send.new.self)) (sym c.why_missed.ensures) (c.in-Err.ensures.calls some) in
    writes_failed g.S.Socket.remaining g.S.Socket.contents g.S.Socket.calls _ c.args.self.now c.send.new.self c.fail-in-Failed.new.self c.why_missed.result c.self.view_is c.requires.failed c.fail-in-Failed.ensures
    c.in-Failed.is c.in-Err.ensures.bytes c.send.ensures.read missed
