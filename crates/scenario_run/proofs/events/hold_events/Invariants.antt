use Rattle.std.proofs.Common.{take, string_bytes}
use Rattle.scenario_run.specs.Held.{Printed, place}
use Rattle.scenario_run.specs.Texts.{events_lines}
use Rattle.scenario_run.proofs.events.hold_events.Given as goal

abbrev pub invariant-loop-event : goal.invariant-loop-event
invariant-loop-event g l =
    Printed (place g.W.Write.contents l.initial.writer) (place g.W.Write.contents l.writer) (events_lines (take l.event-index l.events)) (string_bytes l.held)
