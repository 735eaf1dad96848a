use Rattle.std.proofs.Common.{◌≡◌, List, ℕ}
use Rattle.std.specs.List.{concat}
use Rattle.std.specs.Slice.Iter.{chunks_rest, chunks_size}
use Rattle.rand_core.specs.Stream.{Stream}
use Rattle.socket_server.specs.Keeping.{keeping}
use Rattle.socket_server.specs.Serving.{Scene, scene, Goes, AttendsGroups, AttendsAll}
use Rattle.socket_server.proofs.events.attend_all.Given as goal

-- those that are left are to be attended to still, in groups of at most 16
abbrev pub invariant-loop-group : goal.invariant-loop-group
invariant-loop-group g l =
    ((keys : Stream) → Goes g.S.Socket.remaining g.S.Socket.contents g.S.Socket.calls g.W.Observer.text 0 (scene keys (keeping g.K.Keeper.kept l.fn.server) l.fn.peers l.fn.events (g.W.Observer.output l.fn.observer))
    (scene keys (keeping g.K.Keeper.kept l.server) l.peers l.events (g.W.Observer.output l.observer)))
    × (chunks_size l.group-iterator ≡ 16)
    × ((keys : Stream) → (end : Scene g.row.S.Denot) → (groups : List (List ℕ)) → concat groups ≡ chunks_rest l.group-iterator
    → AttendsGroups g.S.Socket.remaining g.S.Socket.contents g.S.Socket.calls g.W.Observer.text groups
    (scene keys (keeping g.K.Keeper.kept l.server) l.peers l.events (g.W.Observer.output l.observer)) end
    → AttendsAll g.S.Socket.remaining g.S.Socket.contents g.S.Socket.calls g.W.Observer.text
    (scene keys (keeping g.K.Keeper.kept l.fn.server) l.fn.peers l.fn.events (g.W.Observer.output l.fn.observer)) end)
