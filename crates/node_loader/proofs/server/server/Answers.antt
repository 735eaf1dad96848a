use Rattle.std.proofs.Common.{refl, arith, w64}
use Rattle.std.proofs.lemmas.Int.{to_z_pos}
use Rattle.std.proofs.lemmas.Result.{err_from_is_err_and}
use Rattle.node_loader.specs.Server.{server_of}
use Rattle.node_loader.proofs.server.server.Goals as goal

pub returns-in_err-names-clause-given : goal.returns-in_err-names-clause-given
unfolding server_of
returns-in_err-names-clause-given c =
    let p = err_from_is_err_and c.from_residual-in_err-names.result c.from_residual-in_err-names.ensures.1 in
    rw (p.1, p.2) (λ other. rw (← c.in_ok-known.ensures, c.in_err-names.ensures.given other) refl)

pub returns-in_err-start-clause-given : goal.returns-in_err-start-clause-given
unfolding server_of
returns-in_err-start-clause-given c =
    let p = err_from_is_err_and c.from_residual-in_err-start.result c.from_residual-in_err-start.ensures.1 in
    rw (p.1, p.2) (λ other. rw (← c.in_ok-known.ensures, c.in_ok-names.ensures.given, ← c.in_err-start.ensures.given) refl)

pub returns-in_err-sizes-clause-given : goal.returns-in_err-sizes-clause-given
unfolding server_of
returns-in_err-sizes-clause-given c =
    let p = err_from_is_err_and c.from_residual-in_err-sizes.result c.from_residual-in_err-sizes.ensures.1 in
    rw (p.1, p.2) (λ other. rw (← c.in_ok-known.ensures, c.in_ok-names.ensures.given, ← c.in_ok-start.ensures.given, ← c.in_err-sizes.ensures.given) refl)

pub returns-in_err-tables-clause-given : goal.returns-in_err-tables-clause-given
unfolding server_of
returns-in_err-tables-clause-given c =
    let p = err_from_is_err_and c.from_residual-in_err-tables.result c.from_residual-in_err-tables.ensures.1 in
    rw (p.1, p.2) (λ other. rw (← c.in_ok-known.ensures, c.in_ok-names.ensures.given, ← c.in_ok-start.ensures.given, ← c.in_ok-sizes.ensures.given, ← c.in_err-tables.ensures.given) refl)

pub returns-in_err-messages-clause-given : goal.returns-in_err-messages-clause-given
unfolding server_of
returns-in_err-messages-clause-given c =
    let p = err_from_is_err_and c.from_residual-in_err-messages.result c.from_residual-in_err-messages.ensures.1 in
    rw (p.1, p.2) (λ other. rw (← c.in_ok-known.ensures, c.in_ok-names.ensures.given, ← c.in_ok-start.ensures.given, ← c.in_ok-sizes.ensures.given, ← c.in_ok-tables.ensures.given, ← c.in_err-messages.ensures.given) refl)

pub returns-in_err-pages-clause-given : goal.returns-in_err-pages-clause-given
unfolding server_of
returns-in_err-pages-clause-given c =
    let p = err_from_is_err_and c.from_residual-in_err-pages.result c.from_residual-in_err-pages.ensures.1 in
    rw (p.1, p.2) (λ other. rw (← c.in_ok-known.ensures, c.in_ok-names.ensures.given, ← c.in_ok-start.ensures.given, ← c.in_ok-sizes.ensures.given, ← c.in_ok-tables.ensures.given, ← c.in_ok-messages.ensures.given, ← c.in_err-pages.ensures.given) refl)

pub returns-in_err-times-clause-given : goal.returns-in_err-times-clause-given
unfolding server_of
returns-in_err-times-clause-given c =
    let p = err_from_is_err_and c.from_residual-in_err-times.result c.from_residual-in_err-times.ensures.1 in
    rw (p.1, p.2) (λ other. rw (← c.in_ok-known.ensures, c.in_ok-names.ensures.given, ← c.in_ok-start.ensures.given, ← c.in_ok-sizes.ensures.given, ← c.in_ok-tables.ensures.given, ← c.in_ok-messages.ensures.given, ← c.in_ok-pages.ensures.given, ← c.in_err-times.ensures.given) refl)

pub returns-in_err-durations-clause-given : goal.returns-in_err-durations-clause-given
unfolding server_of
returns-in_err-durations-clause-given c =
    let p = err_from_is_err_and c.from_residual-in_err-durations.result c.from_residual-in_err-durations.ensures.1 in
    rw (p.1, p.2) (λ other. rw (← c.in_ok-known.ensures, c.in_ok-names.ensures.given, ← c.in_ok-start.ensures.given, ← c.in_ok-sizes.ensures.given, ← c.in_ok-tables.ensures.given, ← c.in_ok-messages.ensures.given, ← c.in_ok-pages.ensures.given, ← c.in_ok-times.ensures.given, ← c.in_err-durations.ensures) refl)

pub returns-clause-given : goal.returns-clause-given
unfolding server_of
returns-clause-given c = rw (← c.in_ok-known.ensures, c.in_ok-names.ensures.given, ← c.in_ok-start.ensures.given, ← c.in_ok-sizes.ensures.given, ← c.in_ok-tables.ensures.given, ← c.in_ok-messages.ensures.given, ← c.in_ok-pages.ensures.given, ← c.in_ok-times.ensures.given, ← c.in_ok-durations.ensures, to_z_pos w64 c.in_ok-start.start (let range = c.in_ok-start.ensures.range (omega arith, omega arith) in omega (arith, range))) refl
