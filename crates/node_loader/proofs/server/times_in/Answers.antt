use Rattle.std.proofs.Common.{refl}
use Rattle.std.proofs.lemmas.Result.{err_from_is_err_and}
use Rattle.node_loader.specs.Server.{times_of}
use Rattle.node_loader.proofs.server.times_in.Goals as goal

pub returns-in_err-publish_time-clause-given : goal.returns-in_err-publish_time-clause-given
unfolding times_of
returns-in_err-publish_time-clause-given c =
    let p = err_from_is_err_and c.from_residual-in_err-publish_time.result c.from_residual-in_err-publish_time.ensures.1 in
    rw (p.1, p.2) (rw (← c.in_ok-session_time.ensures.given, ← c.in_err-publish_time.ensures.given) refl)

pub returns-clause-given : goal.returns-clause-given
unfolding times_of
returns-clause-given c = rw (← c.in_ok-session_time.ensures.given, ← c.in_ok-publish_time.ensures.given) refl
