use Rattle.std.proofs.Common.{◌≡◌, ℕ, true, drop}
use Rattle.rand_core.specs.Stream.{Stream}
use Rattle.socket_server.specs.Keeping.{keeping}
use Rattle.socket_peers.specs.Peers.{is_silent_at}
use Rattle.socket_server.specs.Serving.{scene, is_among}
use Rattle.socket_server.proofs.ServingLemmas.{ExpiresSome}
use Rattle.socket_server.proofs.events.expire_each.Given as goal

-- who is silent was so before, and is one of those that are left, or none of these at all
abbrev pub invariant-loop-number : goal.invariant-loop-number
invariant-loop-number g l =
    ((keys : Stream) → ExpiresSome g.S.Socket.remaining g.S.Socket.contents g.S.Socket.calls g.W.Observer.text (scene keys (keeping g.K.Keeper.kept l.initial.server) l.initial.peers l.initial.events (g.W.Observer.output l.initial.observer))
    (scene keys (keeping g.K.Keeper.kept l.server) l.peers l.events (g.W.Observer.output l.observer)))
    × ((q : ℕ) → is_silent_at l.peers q ≡ true
    → (is_silent_at l.initial.peers q ≡ true) × (is_among q l.numbers ≡ true → is_among q (drop l.number-index l.numbers) ≡ true))
