use Rattle.std.proofs.Common.{◌≡◌, ◌∙◌, false, true, refl, ap, inl}
use Rattle.rand_core.specs.Stream.{Stream}
use Rattle.socket_peers.specs.Peers.{PeersState, is_gone_at}
use Rattle.socket_server.specs.Keeping.{keeping}
use Rattle.server_core.specs.declared.event.Event.TheVariants as happening
use Rattle.socket_server.specs.Serving.{scene}
use Rattle.socket_server.proofs.ServingLemmas.{expires_told, expires_untold}
use Rattle.socket_server.proofs.SilenceLemmas.{one_expired, none_expired, handed_silent}
use Rattle.socket_server.proofs.DepartLemmas.{empty_stream}
use Rattle.socket_server.proofs.events.expire.Goals as goal

pub returns-in-Some-false : goal.returns-in-Some-false
returns-in-Some-false g c =
    let is = c.in-Some-false.ensures in
    let untold : is_gone_at c.args.peers.now c.args.number ≡ false = is.1 ∙ c.in-Some-false.field-0-test in
    let at = λ (keys : Stream). (scene keys (keeping g.K.Keeper.kept c.args.server.now) c.args.peers.now c.args.events.now (g.W.Observer.output c.args.observer.now)) in
    let gone = λ (keys : Stream). (scene keys (keeping g.K.Keeper.kept c.args.server.now) c.expire.new.self c.args.events.now (g.W.Observer.output c.args.observer.now)) in
    let new = λ (keys : Stream). (scene keys (keeping g.K.Keeper.kept c.hand_in_end.new.server) c.hand_in_end.new.peers c.hand_in_end.new.events (g.W.Observer.output c.hand_in_end.new.observer)) in
    record {
      expires = λ keys. expires_untold g.S.Socket.remaining g.S.Socket.contents g.S.Socket.calls g.W.Observer.text c.args.number (at keys) c.expire.new.self (new keys) c.hand_in_end.result is.0 untold is.2 (c.hand_in_end.ensures keys);
      silent = handed_silent g.W.Observer.text (happening.Gone c.args.number) c.args.number c.args.peers.now (gone empty_stream) (new empty_stream) c.hand_in_end.result
          (one_expired c.args.number c.args.peers.now c.expire.new.self is.2) (c.hand_in_end.ensures empty_stream);
    }

pub returns-in-Some-true : goal.returns-in-Some-true
returns-in-Some-true g c =
    let is = c.in-Some-true.ensures in
    let told : is_gone_at c.args.peers.now c.args.number ≡ true = is.1 ∙ c.in-Some-true.field-0-test in
    let at = λ (keys : Stream). (scene keys (keeping g.K.Keeper.kept c.args.server.now) c.args.peers.now c.args.events.now (g.W.Observer.output c.args.observer.now)) in
    let gone = λ (keys : Stream). (scene keys (keeping g.K.Keeper.kept c.args.server.now) c.expire.new.self c.args.events.now (g.W.Observer.output c.args.observer.now)) in
    record {
      expires = λ keys. expires_told g.S.Socket.remaining g.S.Socket.contents g.S.Socket.calls g.W.Observer.text c.args.number (at keys) (gone keys) is.0 told is.2 (refl, refl, refl, refl);
      silent = one_expired c.args.number c.args.peers.now c.expire.new.self is.2;
    }

pub returns-in-None : goal.returns-in-None
returns-in-None g c =
    let is = c.in-None.ensures in
    record {
      expires = λ keys. inl (ap (λ (p : PeersState g.row.S.Denot). scene keys (keeping g.K.Keeper.kept c.args.server.now) p c.args.events.now (g.W.Observer.output c.args.observer.now)) is.1);
      silent = none_expired c.args.number c.args.peers.now c.expire.new.self is.0 is.1;
    }
