use Rattle.std.proofs.Common.{rules, ◌≡◌, subst}
use Rattle.socket_server.specs.Keeping.{keeping}
use Rattle.server_core.specs.declared.event.Event.TheVariants as happening
use Rattle.socket_server.specs.Serving.{scene, Takes, Fails}
use Rattle.socket_server.proofs.events.hand_in_piece.Goals as goal

pub returns-in-Ok-hand_in : goal.returns-in-Ok-hand_in
returns-in-Ok-hand_in g c keys =
    let same : c.in-Ok.bytes ≡ c.args.piece.items = search rules in
    let old = (scene keys (keeping g.K.Keeper.kept c.args.server.now) c.args.peers.now c.args.events.now (g.W.Observer.output c.args.observer.now)) in
    let new = (scene keys (keeping g.K.Keeper.kept c.hand_in.new.server) c.hand_in.new.peers c.hand_in.new.events (g.W.Observer.output c.hand_in.new.observer)) in
    subst (λ l. Takes g.W.Observer.text (happening.Bytes c.args.number l) old new) same (c.in-Ok-hand_in.ensures keys)

pub returns : goal.returns
returns g c keys =
    let same : c.in-Ok.bytes ≡ c.args.piece.items = search rules in
    let old = (scene keys (keeping g.K.Keeper.kept c.args.server.now) c.args.peers.now c.args.events.now (g.W.Observer.output c.args.observer.now)) in
    let new = (scene keys (keeping g.K.Keeper.kept c.hand_in.new.server) c.hand_in.new.peers c.hand_in.new.events (g.W.Observer.output c.hand_in.new.observer)) in
    subst (λ l. Fails g.W.Observer.text (happening.Bytes c.args.number l) old new c.in-Err.fault) same (c.in-Err.ensures keys)
