use Rattle.std.proofs.Common.{refl, inl, inr, subst}
use Rattle.socket_server.specs.Keeping.{keeping}
use Rattle.socket_server.specs.Serving.{scene, GoesOn}
use Rattle.socket_server.specs.declared.serve_fault.ServeFault.TheVariants as serve_fault
use Rattle.socket_server.proofs.ServingLemmas.{one_read_goes, stops_after, stops_here}
use Rattle.socket_server.proofs.events.read_piece.Goals as goal

pub returns-in-Ok : goal.returns-in-Ok
returns-in-Ok g c keys =
    let at = (scene keys (keeping g.K.Keeper.kept c.args.server.now) c.args.peers.now c.args.events.now (g.W.Observer.output c.args.observer.now)) in
    let mid = (scene keys (keeping g.K.Keeper.kept c.hear.new.server) c.hear.new.peers c.hear.new.events (g.W.Observer.output c.hear.new.observer)) in
    let more = subst (GoesOn g.S.Socket.remaining g.S.Socket.contents g.S.Socket.calls g.W.Observer.text c.args.number at mid) c.in-Ok-true.field-0-test (c.in-Ok-true.ensures keys) in
    inr (mid, more, (c.in-Ok.ensures, (refl, refl, refl, refl)))

pub returns-in-Err-report : goal.returns-in-Err-report
returns-in-Err-report g c keys =
    let at = (scene keys (keeping g.K.Keeper.kept c.args.server.now) c.args.peers.now c.args.events.now (g.W.Observer.output c.args.observer.now)) in
    let mid = (scene keys (keeping g.K.Keeper.kept c.hear.new.server) c.hear.new.peers c.hear.new.events (g.W.Observer.output c.hear.new.observer)) in
    let new = (scene keys (keeping g.K.Keeper.kept c.hear.new.server) c.report.new.self c.hear.new.events (g.W.Observer.output c.hear.new.observer)) in
    stops_after g.S.Socket.remaining g.S.Socket.contents g.S.Socket.calls g.W.Observer.text 0 at mid new serve_fault.Memory
    (one_read_goes g.S.Socket.remaining g.S.Socket.contents g.S.Socket.calls g.W.Observer.text c.args.number at mid _ (c.in-Ok-true.ensures keys))
    (stops_here g.S.Socket.remaining g.S.Socket.contents g.S.Socket.calls g.W.Observer.text mid new serve_fault.Memory tt refl refl)

pub returns-in-Ok-false : goal.returns-in-Ok-false
returns-in-Ok-false g c keys =
    let at = (scene keys (keeping g.K.Keeper.kept c.args.server.now) c.args.peers.now c.args.events.now (g.W.Observer.output c.args.observer.now)) in
    let new = (scene keys (keeping g.K.Keeper.kept c.hear.new.server) c.hear.new.peers c.hear.new.events (g.W.Observer.output c.hear.new.observer)) in
    inl (subst (GoesOn g.S.Socket.remaining g.S.Socket.contents g.S.Socket.calls g.W.Observer.text c.args.number at new) c.in-Ok-false.field-0-test (c.in-Ok-false.ensures keys))
