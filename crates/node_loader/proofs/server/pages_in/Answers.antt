use Rattle.std.proofs.Common.{refl}
use Rattle.std.proofs.lemmas.Result.{err_from_is_err_and}
use Rattle.node_loader.specs.Server.{pages_of}
use Rattle.node_loader.proofs.server.pages_in.Goals as goal

pub returns-in_err-operations-clause-given : goal.returns-in_err-operations-clause-given
unfolding pages_of
returns-in_err-operations-clause-given c =
    let p = err_from_is_err_and c.from_residual-in_err-operations.result c.from_residual-in_err-operations.ensures.1 in
    rw (p.1, p.2) (rw (← c.in_ok-references.ensures.given, ← c.in_err-operations.ensures.given) refl)

pub returns-in_err-history_page-clause-given : goal.returns-in_err-history_page-clause-given
unfolding pages_of
returns-in_err-history_page-clause-given c =
    let p = err_from_is_err_and c.from_residual-in_err-history_page.result c.from_residual-in_err-history_page.ensures.1 in
    rw (p.1, p.2) (rw (← c.in_ok-references.ensures.given, ← c.in_ok-operations.ensures.given, ← c.in_err-history_page.ensures.given) refl)

pub returns-in_err-history-clause-given : goal.returns-in_err-history-clause-given
unfolding pages_of
returns-in_err-history-clause-given c =
    let p = err_from_is_err_and c.from_residual-in_err-history.result c.from_residual-in_err-history.ensures.1 in
    rw (p.1, p.2) (rw (← c.in_ok-references.ensures.given, ← c.in_ok-operations.ensures.given, ← c.in_ok-history_page.ensures.given, ← c.in_err-history.ensures.given) refl)

pub returns-clause-given : goal.returns-clause-given
unfolding pages_of
returns-clause-given c = rw (← c.in_ok-references.ensures.given, ← c.in_ok-operations.ensures.given, ← c.in_ok-history_page.ensures.given, ← c.in_ok-history.ensures.given) refl
