use Rattle.std.proofs.Common.{◌≡◌, ◌+◌, ◌≤◌, ◌||◌, false, length}
use Rattle.socket_peers.specs.Peer.{Writes}
use Rattle.socket_peers.proofs.peer.Peer.drain.Given as goal

-- until the stream is full or failed, each write takes a byte at least
abbrev pub invariant-loop-write : goal.invariant-loop-write
invariant-loop-write g l =
    Writes g.S.Socket.remaining g.S.Socket.contents g.S.Socket.calls l.initial.self l.self 0
    × ((l.self.is_full || l.self.has_failed) ≡ false → length l.self.owed + l._write ≤ length l.initial.self.owed)
