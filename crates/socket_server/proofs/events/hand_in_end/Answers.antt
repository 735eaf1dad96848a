use Rattle.socket_server.specs.Keeping.{keeping}
use Rattle.server_core.specs.declared.event.Event.TheVariants as happening
use Rattle.socket_server.specs.Serving.{scene}
use Rattle.socket_server.proofs.ServingLemmas.{takes_same}
use Rattle.socket_server.proofs.events.hand_in_end.Goals as goal

pub returns-in-Ok : goal.returns-in-Ok
returns-in-Ok g c keys =
    takes_same g.S.Socket.remaining g.S.Socket.contents g.S.Socket.calls g.W.Observer.text (happening.Gone c.args.departure.number)
    (scene keys (keeping g.K.Keeper.kept c.args.server.now) c.args.peers.now c.args.events.now (g.W.Observer.output c.args.observer.now)) keys (keeping g.K.Keeper.kept c.hand_in.new.server) c.hand_in.new.peers c.hand_in.new.events
    (g.W.Observer.output c.hand_in.new.observer) (g.W.Observer.output c.closed.new.self) c.closed.ensures (c.in-Ok.ensures keys)
