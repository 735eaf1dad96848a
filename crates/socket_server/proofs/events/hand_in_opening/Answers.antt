use Rattle.socket_server.specs.Keeping.{keeping}
use Rattle.server_core.specs.declared.event.Event.TheVariants as happening
use Rattle.socket_server.specs.Serving.{scene}
use Rattle.socket_server.proofs.ServingLemmas.{takes_same}
use Rattle.socket_server.proofs.events.hand_in_opening.Goals as goal

pub returns-in-Ok-true : goal.returns-in-Ok-true
returns-in-Ok-true g c keys =
    takes_same g.S.Socket.remaining g.S.Socket.contents g.S.Socket.calls g.W.Observer.text (happening.Opened c.args.arrival.number c.args.arrival.key)
    (scene keys (keeping g.K.Keeper.kept c.args.server.now) c.args.peers.now c.args.events.now (g.W.Observer.output c.args.observer.now)) keys (keeping g.K.Keeper.kept c.hand_in.new.server) c.hand_in.new.peers c.hand_in.new.events
    (g.W.Observer.output c.hand_in.new.observer) (g.W.Observer.output c.refused.new.self) c.refused.ensures (c.in-Ok-true.ensures keys)

pub returns-in-Ok-false : goal.returns-in-Ok-false
returns-in-Ok-false g c keys =
    takes_same g.S.Socket.remaining g.S.Socket.contents g.S.Socket.calls g.W.Observer.text (happening.Opened c.args.arrival.number c.args.arrival.key)
    (scene keys (keeping g.K.Keeper.kept c.args.server.now) c.args.peers.now c.args.events.now (g.W.Observer.output c.args.observer.now)) keys (keeping g.K.Keeper.kept c.hand_in.new.server) c.hand_in.new.peers c.hand_in.new.events
    (g.W.Observer.output c.hand_in.new.observer) (g.W.Observer.output c.connected.new.self) c.connected.ensures (c.in-Ok-false.ensures keys)
