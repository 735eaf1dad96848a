use Rattle.std.proofs.Common.{refl}
use Rattle.std.proofs.lemmas.Result.{err_from_is_err_and}
use Rattle.node_loader.specs.Server.{tables_of}
use Rattle.node_loader.proofs.server.tables_in.Goals as goal

pub returns-in_err-sessions-clause-given : goal.returns-in_err-sessions-clause-given
unfolding tables_of
returns-in_err-sessions-clause-given c =
    let p = err_from_is_err_and c.from_residual-in_err-sessions.result c.from_residual-in_err-sessions.ensures.1 in
    rw (p.1, p.2) (rw (← c.in_ok-connections.ensures.given, ← c.in_err-sessions.ensures.given) refl)

pub returns-in_err-subscriptions-clause-given : goal.returns-in_err-subscriptions-clause-given
unfolding tables_of
returns-in_err-subscriptions-clause-given c =
    let p = err_from_is_err_and c.from_residual-in_err-subscriptions.result c.from_residual-in_err-subscriptions.ensures.1 in
    rw (p.1, p.2) (rw (← c.in_ok-connections.ensures.given, ← c.in_ok-sessions.ensures.given, ← c.in_err-subscriptions.ensures.given) refl)

pub returns-in_err-items-clause-given : goal.returns-in_err-items-clause-given
unfolding tables_of
returns-in_err-items-clause-given c =
    let p = err_from_is_err_and c.from_residual-in_err-items.result c.from_residual-in_err-items.ensures.1 in
    rw (p.1, p.2) (rw (← c.in_ok-connections.ensures.given, ← c.in_ok-sessions.ensures.given, ← c.in_ok-subscriptions.ensures.given, ← c.in_err-items.ensures.given) refl)

pub returns-in_err-queue-clause-given : goal.returns-in_err-queue-clause-given
unfolding tables_of
returns-in_err-queue-clause-given c =
    let p = err_from_is_err_and c.from_residual-in_err-queue.result c.from_residual-in_err-queue.ensures.1 in
    rw (p.1, p.2) (rw (← c.in_ok-connections.ensures.given, ← c.in_ok-sessions.ensures.given, ← c.in_ok-subscriptions.ensures.given, ← c.in_ok-items.ensures.given, ← c.in_err-queue.ensures.given) refl)

pub returns-clause-given : goal.returns-clause-given
unfolding tables_of
returns-clause-given c = rw (← c.in_ok-connections.ensures.given, ← c.in_ok-sessions.ensures.given, ← c.in_ok-subscriptions.ensures.given, ← c.in_ok-items.ensures.given, ← c.in_ok-queue.ensures.given) refl
