use Rattle.std.proofs.Common.{rules, ◌≡◌, ◌≤◌, [], ◌∷◌, ◌++◌, List, ℕ, length, refl, sym, ap, ◌∙◌}
use Rattle.std.specs.Slice.Iter.{chunks_rest}
use Rattle.std.proofs.lemmas.List.{nil_from_length}
use Rattle.rand_core.specs.Stream.{Stream}
use Rattle.socket_server.specs.Keeping.{keeping}
use Rattle.socket_server.specs.Serving.{scene}
use Rattle.socket_server.proofs.ServingLemmas.{each_go, gathers, goes_on, sends_go, stops_after, unsent_stops}
use Rattle.socket_server.proofs.events.attend_all.Goals as goal

pub returns-in-Err : goal.returns-in-Err
returns-in-Err g c keys =
    unsent_stops g.S.Socket.remaining g.S.Socket.contents g.S.Socket.calls g.W.Observer.text _ _ c.in-Err.fault
    (c.in-Err.ensures g.W.Observer.text keys c.args.events.now (g.W.Observer.output c.args.observer.now))

pub loop-group-init : goal.loop-group-init
loop-group-init g c =
    let awake : chunks_rest c.into_iter-group-iterator.result ≡ c.send_out.new.peers.awake = search rules in
    let sixteen : c.into_iter-group-iterator.result.size ≡ 16 = search rules in
    let at = λ (keys : Stream). (scene keys (keeping g.K.Keeper.kept c.args.server.now) c.args.peers.now c.args.events.now (g.W.Observer.output c.args.observer.now)) in
    let written = λ (keys : Stream). (scene keys (keeping g.K.Keeper.kept c.send_out.new.server) c.send_out.new.peers c.args.events.now (g.W.Observer.output c.args.observer.now)) in
    let gathered = λ (keys : Stream). (scene keys (keeping g.K.Keeper.kept c.send_out.new.server) c.take_awake-awake.new.self c.args.events.now (g.W.Observer.output c.args.observer.now)) in
    let sends = λ (keys : Stream). c.in-Ok.ensures g.W.Observer.text keys c.args.events.now (g.W.Observer.output c.args.observer.now) in (
      λ keys. goes_on g.S.Socket.remaining g.S.Socket.contents g.S.Socket.calls g.W.Observer.text (at keys) (written keys) (gathered keys)
          (sends_go g.S.Socket.remaining g.S.Socket.contents g.S.Socket.calls g.W.Observer.text (at keys) (written keys) (sends keys))
          (gathers g.S.Socket.remaining g.S.Socket.contents g.S.Socket.calls g.W.Observer.text c.send_out.new.peers.awake (written keys) (gathered keys)
          (refl, c.take_awake-awake.ensures.none, (refl, refl, refl, refl))),
      sixteen,
      λ keys end groups all each. (
        written keys,
        gathered keys,
        groups,
        sends keys,
        (all ∙ awake, c.take_awake-awake.ensures.none, (refl, refl, refl, refl)),
        each,
      ),
    )

pub returns-in-Err-attend_each : goal.returns-in-Err-attend_each
returns-in-Err-attend_each g c keys =
    let mid = (scene keys (keeping g.K.Keeper.kept c.loop-group.server) c.loop-group.peers c.loop-group.events (g.W.Observer.output c.loop-group.observer)) in
    let new = (scene keys (keeping g.K.Keeper.kept c.attend_each.new.server) c.attend_each.new.peers c.attend_each.new.events (g.W.Observer.output c.attend_each.new.observer)) in
    stops_after g.S.Socket.remaining g.S.Socket.contents g.S.Socket.calls g.W.Observer.text 0 _ mid new _ (c.loop-group.invariant.0 keys) (c.in-Err-attend_each.ensures keys)

pub returns-in-Err-send_out : goal.returns-in-Err-send_out
returns-in-Err-send_out g c keys =
    let at = (scene keys (keeping g.K.Keeper.kept c.args.server.now) c.args.peers.now c.args.events.now (g.W.Observer.output c.args.observer.now)) in
    let mid = (scene keys (keeping g.K.Keeper.kept c.loop-group.server) c.loop-group.peers c.loop-group.events (g.W.Observer.output c.loop-group.observer)) in
    let attended = (scene keys (keeping g.K.Keeper.kept c.attend_each.new.server) c.attend_each.new.peers c.attend_each.new.events (g.W.Observer.output c.attend_each.new.observer)) in
    let new = (scene keys (keeping g.K.Keeper.kept c.send_out-in-loop-group.new.server) c.send_out-in-loop-group.new.peers c.attend_each.new.events (g.W.Observer.output c.attend_each.new.observer)) in
    stops_after g.S.Socket.remaining g.S.Socket.contents g.S.Socket.calls g.W.Observer.text 0 at attended new c.in-Err-send_out.fault
    (goes_on g.S.Socket.remaining g.S.Socket.contents g.S.Socket.calls g.W.Observer.text at mid attended (c.loop-group.invariant.0 keys)
    (each_go g.S.Socket.remaining g.S.Socket.contents g.S.Socket.calls g.W.Observer.text c.in-Some.group.now mid attended (c.in-Ok-attend_each.ensures keys)))
    (unsent_stops g.S.Socket.remaining g.S.Socket.contents g.S.Socket.calls g.W.Observer.text attended new c.in-Err-send_out.fault
    (c.in-Err-send_out.ensures g.W.Observer.text keys c.attend_each.new.events (g.W.Observer.output c.attend_each.new.observer)))

pub loop-group-preserved : goal.loop-group-preserved
loop-group-preserved g c =
    let size : c.loop-group.group-iterator.size ≡ 16 = c.loop-group.invariant.1 in
    let next : chunks_rest c.loop-group.group-iterator ≡ c.in-Some.group.now ++ chunks_rest c.next.new.self = search rules in
    let few : length c.in-Some.group.now ≤ 16 = search rules in
    let still : c.next.new.self.size ≡ 16 = search rules in
    let at = λ (keys : Stream). (scene keys (keeping g.K.Keeper.kept c.loop-group.server) c.loop-group.peers c.loop-group.events (g.W.Observer.output c.loop-group.observer)) in
    let attended = λ (keys : Stream). (scene keys (keeping g.K.Keeper.kept c.attend_each.new.server) c.attend_each.new.peers c.attend_each.new.events (g.W.Observer.output c.attend_each.new.observer)) in
    let written = λ (keys : Stream). (scene keys (keeping g.K.Keeper.kept c.send_out-in-loop-group.new.server) c.send_out-in-loop-group.new.peers c.attend_each.new.events (g.W.Observer.output c.attend_each.new.observer)) in
    let sends = λ (keys : Stream). c.in-Ok-send_out.ensures g.W.Observer.text keys c.attend_each.new.events (g.W.Observer.output c.attend_each.new.observer) in (
      λ keys. goes_on g.S.Socket.remaining g.S.Socket.contents g.S.Socket.calls g.W.Observer.text _ (at keys) (written keys) (c.loop-group.invariant.0 keys)
          (goes_on g.S.Socket.remaining g.S.Socket.contents g.S.Socket.calls g.W.Observer.text (at keys) (attended keys) (written keys)
          (each_go g.S.Socket.remaining g.S.Socket.contents g.S.Socket.calls g.W.Observer.text c.in-Some.group.now (at keys) (attended keys) (c.in-Ok-attend_each.ensures keys))
          (sends_go g.S.Socket.remaining g.S.Socket.contents g.S.Socket.calls g.W.Observer.text (attended keys) (written keys) (sends keys))),
      still,
      λ keys end groups all rest. c.loop-group.invariant.2 keys end (c.in-Some.group.now ∷ groups) (ap (λ (l : List ℕ). c.in-Some.group.now ++ l) all ∙ sym next)
          (attended keys, written keys, few, c.in-Ok-attend_each.ensures keys, sends keys, rest),
    )

pub returns : goal.returns
returns g c keys =
    let ends : length (chunks_rest c.loop-group.group-iterator) ≡ 0 = search rules in
    let none : chunks_rest c.loop-group.group-iterator ≡ [] = nil_from_length _ ends in
    let at = (scene keys (keeping g.K.Keeper.kept c.loop-group.server) c.loop-group.peers c.loop-group.events (g.W.Observer.output c.loop-group.observer)) in
    c.loop-group.invariant.2 keys at [] (sym none) refl
