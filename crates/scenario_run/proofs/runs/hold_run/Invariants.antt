use Rattle.std.proofs.Common.{◌≡◌, drop, string_bytes}
use Rattle.server_core.specs.World.{world_of}
use Rattle.scenario_run.specs.Held.{place}
use Rattle.scenario_run.proofs.RunLemmas.{Going}
use Rattle.scenario_run.proofs.runs.hold_run.Given as goal

abbrev pub invariant-loop-event : goal.invariant-loop-event
invariant-loop-event g l = record {
  number : l.number ≡ l.event-index;
  going : Going l.lines (world_of l.initial.server) (world_of l.server) (place g.W.Write.contents l.initial.writer) (place g.W.Write.contents l.writer) l.events
      (drop l.event-index l.events) l.number (string_bytes l.held);
}
