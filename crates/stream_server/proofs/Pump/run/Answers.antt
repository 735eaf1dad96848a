use Rattle.std.proofs.Common.{arith, refl, ap, Err}
use Rattle.stream_server.proofs.RunLemmas.{Goes-none, Goes-more, Goes-done, Goes-stopped}
use Rattle.stream_server.proofs.Pump.run.Goals as goal

pub returns-in-Ok-false : goal.returns-in-Ok-false
returns-in-Ok-false g c = Goes-done _ _ _ _ _ c.loop-read.invariant (rw c.in-Ok-false.field-0-test at c.in-Ok-false.ensures.went)

pub returns-in-Err : goal.returns-in-Err
returns-in-Err g c = Goes-stopped _ _ _ _ _ _ (λ e. c.in-Err.ensures.no_turns (ap Err e)) c.loop-read.invariant c.in-Err.ensures.went

pub loop-read-init : goal.loop-read-init
loop-read-init g c = Goes-none _ _ refl

pub loop-read-preserved : goal.loop-read-preserved
loop-read-preserved g c = Goes-more _ _ _ _ _ c.loop-read.invariant (rw c.in-Ok-true.field-0-test at c.in-Ok-true.ensures.went)

pub turn-requires : goal.turn-requires
turn-requires g c = omega (arith, c.loop-read.invariant.1.moved.count)
