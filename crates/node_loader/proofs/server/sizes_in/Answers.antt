use Rattle.std.proofs.Common.{refl}
use Rattle.std.proofs.lemmas.Result.{err_from_is_err_and}
use Rattle.node_loader.specs.Server.{sizes_of}
use Rattle.node_loader.proofs.server.sizes_in.Goals as goal

pub returns-in_err-send_size-clause-given : goal.returns-in_err-send_size-clause-given
unfolding sizes_of
returns-in_err-send_size-clause-given c =
    let p = err_from_is_err_and c.from_residual-in_err-send_size.result c.from_residual-in_err-send_size.ensures.1 in
    rw (p.1, p.2) (rw (← c.in_ok-receive_size.ensures.given, ← c.in_err-send_size.ensures.given) refl)

pub returns-in_err-max_message-clause-given : goal.returns-in_err-max_message-clause-given
unfolding sizes_of
returns-in_err-max_message-clause-given c =
    let p = err_from_is_err_and c.from_residual-in_err-max_message.result c.from_residual-in_err-max_message.ensures.1 in
    rw (p.1, p.2) (rw (← c.in_ok-receive_size.ensures.given, ← c.in_ok-send_size.ensures.given, ← c.in_err-max_message.ensures.given) refl)

pub returns-in_err-max_chunks-clause-given : goal.returns-in_err-max_chunks-clause-given
unfolding sizes_of
returns-in_err-max_chunks-clause-given c =
    let p = err_from_is_err_and c.from_residual-in_err-max_chunks.result c.from_residual-in_err-max_chunks.ensures.1 in
    rw (p.1, p.2) (rw (← c.in_ok-receive_size.ensures.given, ← c.in_ok-send_size.ensures.given, ← c.in_ok-max_message.ensures.given, ← c.in_err-max_chunks.ensures.given) refl)

pub returns-in_err-lifetime_ms-clause-given : goal.returns-in_err-lifetime_ms-clause-given
unfolding sizes_of
returns-in_err-lifetime_ms-clause-given c =
    let p = err_from_is_err_and c.from_residual-in_err-lifetime_ms.result c.from_residual-in_err-lifetime_ms.ensures.1 in
    rw (p.1, p.2) (rw (← c.in_ok-receive_size.ensures.given, ← c.in_ok-send_size.ensures.given, ← c.in_ok-max_message.ensures.given, ← c.in_ok-max_chunks.ensures.given, ← c.in_err-lifetime_ms.ensures.given) refl)

pub returns-clause-given : goal.returns-clause-given
unfolding sizes_of
returns-clause-given c = rw (← c.in_ok-receive_size.ensures.given, ← c.in_ok-send_size.ensures.given, ← c.in_ok-max_message.ensures.given, ← c.in_ok-max_chunks.ensures.given, ← c.in_ok-lifetime_ms.ensures.given) refl
