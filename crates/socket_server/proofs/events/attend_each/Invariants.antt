use Rattle.std.proofs.Common.{drop}
use Rattle.rand_core.specs.Stream.{Stream}
use Rattle.socket_server.specs.Keeping.{keeping}
use Rattle.socket_server.specs.Serving.{Scene, scene, Goes, AttendsEach}
use Rattle.socket_server.proofs.events.attend_each.Given as goal

-- those that are left are to be attended to still
abbrev pub invariant-loop-number : goal.invariant-loop-number
invariant-loop-number g l =
    ((keys : Stream) → Goes g.S.Socket.remaining g.S.Socket.contents g.S.Socket.calls g.W.Observer.text 0 (scene keys (keeping g.K.Keeper.kept l.initial.server) l.initial.peers l.initial.events (g.W.Observer.output l.initial.observer))
    (scene keys (keeping g.K.Keeper.kept l.server) l.peers l.events (g.W.Observer.output l.observer)))
    × ((keys : Stream) → (end : Scene g.row.S.Denot)
    → AttendsEach g.S.Socket.remaining g.S.Socket.contents g.S.Socket.calls g.W.Observer.text (drop l.number-index l.numbers)
    (scene keys (keeping g.K.Keeper.kept l.server) l.peers l.events (g.W.Observer.output l.observer)) end
    → AttendsEach g.S.Socket.remaining g.S.Socket.contents g.S.Socket.calls g.W.Observer.text l.numbers
    (scene keys (keeping g.K.Keeper.kept l.initial.server) l.initial.peers l.initial.events (g.W.Observer.output l.initial.observer)) end)
