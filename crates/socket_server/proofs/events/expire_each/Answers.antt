use Rattle.std.proofs.Common.{◌≡◌, ◌+◌, ◌∷◌, drop, get_or}
use Rattle.std.proofs.lemmas.List.{drop_all, drop_more}
use Rattle.rand_core.specs.Stream.{Stream}
use Rattle.socket_server.specs.Keeping.{keeping}
use Rattle.socket_server.specs.Serving.{scene}
use Rattle.socket_server.proofs.ServingLemmas.{expired_go, none_expired, next_expired, stops_after}
use Rattle.socket_server.proofs.SilenceLemmas.{still_among, none_among}
use Rattle.socket_server.proofs.events.expire_each.Goals as goal

pub returns-in-Err : goal.returns-in-Err
returns-in-Err g c keys =
    let mid = (scene keys (keeping g.K.Keeper.kept c.loop-number.server) c.loop-number.peers c.loop-number.events (g.W.Observer.output c.loop-number.observer)) in
    let new = (scene keys (keeping g.K.Keeper.kept c.expire.new.server) c.expire.new.peers c.expire.new.events (g.W.Observer.output c.expire.new.observer)) in
    stops_after g.S.Socket.remaining g.S.Socket.contents g.S.Socket.calls g.W.Observer.text 0 _ mid new _ (expired_go g.S.Socket.remaining g.S.Socket.contents g.S.Socket.calls g.W.Observer.text _ mid (c.loop-number.invariant.0 keys)) (c.in-Err.ensures.expires keys)

pub loop-number-init : goal.loop-number-init
loop-number-init g c =
    let at = λ (keys : Stream). (scene keys (keeping g.K.Keeper.kept c.args.server.now) c.args.peers.now c.args.events.now (g.W.Observer.output c.args.observer.now)) in
    (λ keys. none_expired g.S.Socket.remaining g.S.Socket.contents g.S.Socket.calls g.W.Observer.text (at keys), λ q silent. (silent, λ among. among))

pub loop-number-preserved : goal.loop-number-preserved
loop-number-preserved g c =
    let i = c.loop-number.number-index in
    let numbers = c.args.numbers.now in
    let number = get_or numbers i 0 in
    let next : drop i numbers ≡ number ∷ drop (i + 1) numbers = drop_more numbers i 0 c.loop-number-test.true in
    let at = λ (keys : Stream). (scene keys (keeping g.K.Keeper.kept c.loop-number.server) c.loop-number.peers c.loop-number.events (g.W.Observer.output c.loop-number.observer)) in
    let new = λ (keys : Stream). (scene keys (keeping g.K.Keeper.kept c.expire.new.server) c.expire.new.peers c.expire.new.events (g.W.Observer.output c.expire.new.observer)) in (
      λ keys. next_expired g.S.Socket.remaining g.S.Socket.contents g.S.Socket.calls g.W.Observer.text number _ (at keys) (new keys) (c.loop-number.invariant.0 keys) (c.in-Ok.ensures.expires keys),
      λ q silent.
          let one = c.in-Ok.ensures.silent q silent in
          let before = c.loop-number.invariant.1 q one.0 in
          (before.0, λ among. still_among q number (drop (i + 1) numbers) (drop i numbers) next one.1 (before.1 among)),
    )

pub returns : goal.returns
returns g c keys =
    let none = drop_all c.loop-number.number-index c.args.numbers.now c.loop-number-test.false in
    let some = c.loop-number.invariant.0 keys in (
      some.0,
      some.1,
      λ q silent.
          let before = c.loop-number.invariant.1 q silent in
          (before.0, none_among q c.args.numbers.now (drop c.loop-number.number-index c.args.numbers.now) none before.1),
    )
