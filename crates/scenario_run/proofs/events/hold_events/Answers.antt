use Rattle.std.proofs.Common.{◌+◌, take, drop, subst}
use Rattle.std.specs.Prelude.{string_bytes}
use Rattle.scenario_run.specs.Held.{Printed, place}
use Rattle.scenario_run.proofs.HeldLemmas.{around, lines_before, stopped, then_printed}
use Rattle.scenario_run.proofs.events.hold_events.Goals as goal

pub returns-in-Err : goal.returns-in-Err
returns-in-Err g c =
    let events = c.args.events.now in
    let i = c.loop-event.event-index in
    let event = c.event-item.result in
    stopped c.in-Err.fault _ _ _ events (take i events) (drop (i + 1) events) event _ _ (around events i event c.loop-event-test.true c.event-item.is) c.loop-event.invariant c.in-Err.ensures

pub loop-event-preserved : goal.loop-event-preserved
loop-event-preserved g c =
    let old = place g.W.Write.contents c.args.writer.now in
    let new = place g.W.Write.contents c.hold_event.new.writer in
    subst (λ text. Printed old new text (string_bytes c.hold_event.new.held))
    (lines_before c.args.events.now c.loop-event.event-index c.event-item.result c.loop-event-test.true c.event-item.is)
    (then_printed _ _ _ _ _ _ c.loop-event.invariant _ c.in_default.ensures)
