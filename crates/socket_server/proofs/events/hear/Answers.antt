use Rattle.std.proofs.Common.{rules, ◌≡◌, true, false, refl, sym, subst}
use Rattle.socket_server.specs.declared.serve_fault.ServeFault.TheVariants as serve_fault
use Rattle.socket_server.specs.Keeping.{keeping}
use Rattle.socket_peers.specs.Peer.{is_piece}
use Rattle.socket_server.specs.Serving.{scene, GoesOn}
use Rattle.socket_server.proofs.ServingLemmas.{none_heeded, piece_heeded, piece_stops, stops_here}
use Rattle.socket_server.proofs.events.hear.Goals as goal

pub returns-in_default : goal.returns-in_default
returns-in_default g c keys =
    let old = (scene keys (keeping g.K.Keeper.kept c.args.server.now) c.args.peers.now c.args.events.now (g.W.Observer.output c.args.observer.now)) in
    let new = (scene keys (keeping g.K.Keeper.kept c.args.server.now) c.read.new.self c.args.events.now (g.W.Observer.output c.args.observer.now)) in
    stops_here g.S.Socket.remaining g.S.Socket.contents g.S.Socket.calls g.W.Observer.text old new serve_fault.Memory tt refl refl

pub returns-then-not-is_piece : goal.returns-then-not-is_piece
returns-then-not-is_piece g c keys =
    let none : is_piece c.in-Ok.heard ≡ false = search rules in
    let old = (scene keys (keeping g.K.Keeper.kept c.args.server.now) c.args.peers.now c.args.events.now (g.W.Observer.output c.args.observer.now)) in
    let new = (scene keys (keeping g.K.Keeper.kept c.args.server.now) c.read.new.self c.args.events.now (g.W.Observer.output c.args.observer.now)) in
    subst (GoesOn g.S.Socket.remaining g.S.Socket.contents g.S.Socket.calls g.W.Observer.text c.args.number old new) (sym c.may_be_more-more.ensures)
    (none_heeded g.S.Socket.remaining g.S.Socket.contents g.S.Socket.calls g.W.Observer.text c.args.number c.in-Ok.heard _ old new none c.in-Ok.ensures.heard (refl, refl, refl, refl))

pub returns-in-Ok-hand_in_piece : goal.returns-in-Ok-hand_in_piece
returns-in-Ok-hand_in_piece g c keys =
    let some : is_piece c.in-Ok.heard ≡ true = search rules in
    let old = (scene keys (keeping g.K.Keeper.kept c.args.server.now) c.args.peers.now c.args.events.now (g.W.Observer.output c.args.observer.now)) in
    let new = (scene keys (keeping g.K.Keeper.kept c.hand_in_piece.new.server) c.hand_in_piece.new.peers c.hand_in_piece.new.events (g.W.Observer.output c.hand_in_piece.new.observer)) in
    subst (GoesOn g.S.Socket.remaining g.S.Socket.contents g.S.Socket.calls g.W.Observer.text c.args.number old new) (sym c.may_be_more-more.ensures)
    (piece_heeded g.S.Socket.remaining g.S.Socket.contents g.S.Socket.calls g.W.Observer.text c.args.number c.in-Ok.heard _ c.read.new.self old new some c.in-Ok.ensures.heard
    (c.in-Ok-hand_in_piece.ensures keys))

pub returns-in-Err : goal.returns-in-Err
returns-in-Err g c keys =
    let old = (scene keys (keeping g.K.Keeper.kept c.args.server.now) c.args.peers.now c.args.events.now (g.W.Observer.output c.args.observer.now)) in
    let new = (scene keys (keeping g.K.Keeper.kept c.hand_in_piece.new.server) c.hand_in_piece.new.peers c.hand_in_piece.new.events (g.W.Observer.output c.hand_in_piece.new.observer)) in
    piece_stops g.S.Socket.remaining g.S.Socket.contents g.S.Socket.calls g.W.Observer.text c.args.number _ c.read.new.self old new c.in-Err.fault (c.in-Err.ensures keys)
