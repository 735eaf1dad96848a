use Rattle.std.proofs.Common.{refl}
use Rattle.std.proofs.lemmas.Result.{err_from_is_err_and}
use Rattle.node_loader.specs.Server.{names_of}
use Rattle.node_loader.proofs.server.names_in.Goals as goal

pub returns-in_err-texts_at-clause-given : goal.returns-in_err-texts_at-clause-given
unfolding names_of
returns-in_err-texts_at-clause-given c =
    let p = err_from_is_err_and c.from_residual-in_err-texts_at.result c.from_residual-in_err-texts_at.ensures.1 in
    rw (p.1, p.2) (λ other. rw (c.in_ok-uri.ensures.given, c.in_ok-name.ensures.given, c.in_ok-url.ensures.given, c.in_err-texts_at.ensures.given other) refl)
