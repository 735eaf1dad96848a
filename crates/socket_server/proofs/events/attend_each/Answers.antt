use Rattle.std.proofs.Common.{◌≡◌, ◌+◌, ◌∷◌, drop, get_or, refl, sym, subst}
use Rattle.std.proofs.lemmas.List.{drop_all, drop_more}
use Rattle.rand_core.specs.Stream.{Stream}
use Rattle.socket_server.specs.Keeping.{keeping}
use Rattle.socket_server.specs.Serving.{scene, AttendsEach}
use Rattle.socket_server.proofs.ServingLemmas.{attends_go, goes_none, goes_on, stops_after}
use Rattle.socket_server.proofs.events.attend_each.Goals as goal

pub returns-in-Err : goal.returns-in-Err
returns-in-Err g c keys =
    let mid = (scene keys (keeping g.K.Keeper.kept c.loop-number.server) c.loop-number.peers c.loop-number.events (g.W.Observer.output c.loop-number.observer)) in
    let new = (scene keys (keeping g.K.Keeper.kept c.attend.new.server) c.attend.new.peers c.attend.new.events (g.W.Observer.output c.attend.new.observer)) in
    stops_after g.S.Socket.remaining g.S.Socket.contents g.S.Socket.calls g.W.Observer.text 0 _ mid new _ (c.loop-number.invariant.0 keys) (c.in-Err.ensures.serves keys)

pub loop-number-init : goal.loop-number-init
loop-number-init g c =
    let at = λ (keys : Stream). (scene keys (keeping g.K.Keeper.kept c.args.server.now) c.args.peers.now c.args.events.now (g.W.Observer.output c.args.observer.now)) in
    (λ keys. goes_none g.S.Socket.remaining g.S.Socket.contents g.S.Socket.calls g.W.Observer.text (at keys), λ keys end each. each)

pub loop-number-preserved : goal.loop-number-preserved
loop-number-preserved g c =
    let i = c.loop-number.number-index in
    let numbers = c.args.numbers.now in
    let number = get_or numbers i 0 in
    let next : drop i numbers ≡ number ∷ drop (i + 1) numbers = drop_more numbers i 0 c.loop-number-test.true in
    let at = λ (keys : Stream). (scene keys (keeping g.K.Keeper.kept c.loop-number.server) c.loop-number.peers c.loop-number.events (g.W.Observer.output c.loop-number.observer)) in
    let new = λ (keys : Stream). (scene keys (keeping g.K.Keeper.kept c.attend.new.server) c.attend.new.peers c.attend.new.events (g.W.Observer.output c.attend.new.observer)) in (
      λ keys. goes_on g.S.Socket.remaining g.S.Socket.contents g.S.Socket.calls g.W.Observer.text _ (at keys) (new keys) (c.loop-number.invariant.0 keys)
          (attends_go g.S.Socket.remaining g.S.Socket.contents g.S.Socket.calls g.W.Observer.text number (at keys) (new keys) (c.in-Ok.ensures.serves keys)),
      λ keys end each. c.loop-number.invariant.1 keys end
          (subst (λ l. AttendsEach g.S.Socket.remaining g.S.Socket.contents g.S.Socket.calls g.W.Observer.text l (at keys) end) (sym next)
          (new keys, c.in-Ok.ensures.serves keys, each)),
    )

pub returns : goal.returns
returns g c keys =
    let none = drop_all c.loop-number.number-index c.args.numbers.now c.loop-number-test.false in
    let at = (scene keys (keeping g.K.Keeper.kept c.loop-number.server) c.loop-number.peers c.loop-number.events (g.W.Observer.output c.loop-number.observer)) in
    c.loop-number.invariant.1 keys at
    (subst (λ l. AttendsEach g.S.Socket.remaining g.S.Socket.contents g.S.Socket.calls g.W.Observer.text l at at) (sym none) refl)
