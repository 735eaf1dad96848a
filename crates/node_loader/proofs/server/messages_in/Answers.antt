use Rattle.std.proofs.Common.{refl}
use Rattle.std.proofs.lemmas.Result.{err_from_is_err_and}
use Rattle.node_loader.specs.Server.{messages_of}
use Rattle.node_loader.proofs.server.messages_in.Goals as goal

pub returns-in_err-kept-clause-given : goal.returns-in_err-kept-clause-given
unfolding messages_of
returns-in_err-kept-clause-given c =
    let p = err_from_is_err_and c.from_residual-in_err-kept.result c.from_residual-in_err-kept.ensures.1 in
    rw (p.1, p.2) (rw (← c.in_ok-publish_queue.ensures.given, ← c.in_err-kept.ensures.given) refl)

pub returns-in_err-notifications-clause-given : goal.returns-in_err-notifications-clause-given
unfolding messages_of
returns-in_err-notifications-clause-given c =
    let p = err_from_is_err_and c.from_residual-in_err-notifications.result c.from_residual-in_err-notifications.ensures.1 in
    rw (p.1, p.2) (rw (← c.in_ok-publish_queue.ensures.given, ← c.in_ok-kept.ensures.given, ← c.in_err-notifications.ensures.given) refl)

pub returns-in_err-points-clause-given : goal.returns-in_err-points-clause-given
unfolding messages_of
returns-in_err-points-clause-given c =
    let p = err_from_is_err_and c.from_residual-in_err-points.result c.from_residual-in_err-points.ensures.1 in
    rw (p.1, p.2) (rw (← c.in_ok-publish_queue.ensures.given, ← c.in_ok-kept.ensures.given, ← c.in_ok-notifications.ensures.given, ← c.in_err-points.ensures.given) refl)

pub returns-clause-given : goal.returns-clause-given
unfolding messages_of
returns-clause-given c = rw (← c.in_ok-publish_queue.ensures.given, ← c.in_ok-kept.ensures.given, ← c.in_ok-notifications.ensures.given, ← c.in_ok-points.ensures.given) refl
