use Rattle.std.proofs.Common.{rules, ◌≡◌, ◌+◌, ◌≤◌, ◌||◌, true, nat_lt, length}
use Rattle.socket_peers.specs.Peer.{Writes}
use Rattle.socket_peers.proofs.PeerLemmas.{writes_trans, one_less}
use Rattle.socket_peers.proofs.peer.Peer.drain.Goals as goal

pub loop-write-preserved : goal.loop-write-preserved
loop-write-preserved g c =
    let wrote : Writes g.S.Socket.remaining g.S.Socket.contents g.S.Socket.calls c.loop-write.self c.write.new.self 0 = search rules in
    let moves : (c.write.new.self.is_full || c.write.new.self.has_failed || nat_lt (length c.write.new.self.owed) (length c.loop-write.self.owed)) ≡ true = search rules in
    let left : length c.loop-write.self.owed + c.loop-write._write ≤ length c.args.self.now.owed = search rules in (
      writes_trans g.S.Socket.remaining g.S.Socket.contents g.S.Socket.calls _ c.loop-write.self c.write.new.self 0 c.loop-write.invariant.0 wrote,
      λ none. one_less c.write.new.self.is_full c.write.new.self.has_failed (length c.write.new.self.owed) (length c.loop-write.self.owed) c.loop-write._write (length c.args.self.now.owed) moves left none,
    )
