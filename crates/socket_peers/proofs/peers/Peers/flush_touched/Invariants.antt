use Rattle.std.proofs.Common.{◌≡◌, drop}
use Rattle.socket_peers.specs.Peers.{PeersState, FlushesEach}
use Rattle.socket_peers.proofs.peers.Peers.flush_touched.Given as goal

-- those that are left are to be flushed still
abbrev pub invariant-loop-place : goal.invariant-loop-place
invariant-loop-place g l =
    (l.self.touched ≡ l.initial.self.touched)
    × ((end : PeersState g.row.S.Denot) → FlushesEach g.S.Socket.remaining g.S.Socket.contents g.S.Socket.calls (drop l.place l.initial.self.touched) l.self end
    → FlushesEach g.S.Socket.remaining g.S.Socket.contents g.S.Socket.calls l.initial.self.touched l.initial.self end)
