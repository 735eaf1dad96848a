use Rattle.std.proofs.Common.{rules, ◌≡◌, refl}
use Rattle.socket_server.specs.declared.serve_fault.ServeFault.TheVariants as serve_fault
use Rattle.socket_server.specs.Keeping.{keeping}
use Rattle.socket_peers.specs.Peers.{with_joined}
use Rattle.socket_server.specs.Serving.{scene}
use Rattle.socket_server.proofs.ServingLemmas.{connect_does, stops_here}
use Rattle.socket_server.proofs.events.admit.Goals as goal

pub returns-then-is_err : goal.returns-then-is_err
returns-then-is_err g c keys left drawn =
    let at = (scene keys (keeping g.K.Keeper.kept c.args.server.now) c.args.peers.now c.args.events.now (g.W.Observer.output c.args.observer.now)) in
    let new = (scene left (keeping g.K.Keeper.kept c.args.server.now) c.admit.new.self c.args.events.now (g.W.Observer.output c.args.observer.now)) in
    stops_here g.S.Socket.remaining g.S.Socket.contents g.S.Socket.calls g.W.Observer.text at new serve_fault.Memory tt refl refl

pub returns : goal.returns
returns g c keys left drawn =
    let joined : c.admit.new.self ≡ with_joined c.args.peers.now c.args.arrival.address_bits c.args.stream = search rules in
    let at = (scene keys (keeping g.K.Keeper.kept c.args.server.now) c.args.peers.now c.args.events.now (g.W.Observer.output c.args.observer.now)) in
    let new = (scene left (keeping g.K.Keeper.kept c.hand_in_opening.new.server) c.hand_in_opening.new.peers c.hand_in_opening.new.events (g.W.Observer.output c.hand_in_opening.new.observer)) in
    connect_does g.S.Socket.remaining g.S.Socket.contents g.S.Socket.calls g.W.Observer.text c.args.arrival.number c.args.arrival.address_bits _ left c.args.stream at c.admit.new.self new c.hand_in_opening.result c.requires.number c.requires.room joined drawn (c.hand_in_opening.ensures left)
