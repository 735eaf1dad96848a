use Rattle.std.proofs.Common.{refl}
use Rattle.std.proofs.lemmas.Result.{err_from_is_err_and}
use Rattle.node_loader.specs.Server.{durations_of}
use Rattle.node_loader.proofs.server.durations_in.Goals as goal

pub returns-in_err-publish_duration : goal.returns-in_err-publish_duration
unfolding durations_of
returns-in_err-publish_duration c =
    let p = err_from_is_err_and c.from_residual-in_err-publish_duration.result c.from_residual-in_err-publish_duration.ensures.1 in
    rw (p.1, p.2) (rw (← c.in_ok-session_duration.ensures, ← c.in_err-publish_duration.ensures) refl)

pub returns-in_err-sampling_duration : goal.returns-in_err-sampling_duration
unfolding durations_of
returns-in_err-sampling_duration c =
    let p = err_from_is_err_and c.from_residual-in_err-sampling_duration.result c.from_residual-in_err-sampling_duration.ensures.1 in
    rw (p.1, p.2) (rw (← c.in_ok-session_duration.ensures, ← c.in_ok-publish_duration.ensures, ← c.in_err-sampling_duration.ensures) refl)

pub returns : goal.returns
unfolding durations_of
returns c = rw (← c.in_ok-session_duration.ensures, ← c.in_ok-publish_duration.ensures, ← c.in_ok-sampling_duration.ensures) refl
