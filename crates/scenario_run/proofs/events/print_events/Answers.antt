use Rattle.std.proofs.Common.{◌≡◌, true, rules}
use Rattle.std.specs.Prelude.{is_err}
use Rattle.scenario_run.proofs.HeldLemmas.{events_broken, events_ended, put_short}
use Rattle.scenario_run.proofs.events.print_events.Goals as goal

pub returns-in-Ok : goal.returns-in-Ok
returns-in-Ok g c = events_ended c.put_held.result _ _ _ _ _ _ c.in-Ok.ensures c.put_held.ensures

pub returns-then-is_err : goal.returns-then-is_err
returns-then-is_err g c =
    let failed : is_err c.put_held-in-Err-Memory.result ≡ true = search rules in
    let printed = rw c.in-Err-Memory.field-0-is at c.in-Err-Memory.ensures in
    events_broken _ _ _ _ printed.0 printed.1 _ printed.2 printed.3 (put_short c.put_held-in-Err-Memory.result _ _ _ _ failed c.put_held-in-Err-Memory.ensures)
