use Rattle.std.proofs.Common.{◌≡◌, ◌+◌, false, Err, drop, subst, sym, refl, arith}
use Rattle.std.specs.Prelude.{string_bytes}
use Rattle.server_core.specs.World.{world_of}
use Rattle.scenario_run.specs.Held.{place}
use Rattle.scenario_run.specs.Runs.{RunPrinted, is_cut_short}
use Rattle.scenario_run.specs.declared.runs.RunFault.{RunFault}
use Rattle.scenario_run.proofs.RunLemmas.{at_start, at_event, breaks_off, goes_on, none_held, unanswered}
use Rattle.scenario_run.proofs.runs.hold_run.Goals as goal

pub loop-event-init : goal.loop-event-init
loop-event-init g c = record {
  number = refl;
  going = at_start c.args.lines (world_of c.args.server.now) (place g.W.Write.contents c.args.writer.now) c.args.events.now _ c.requires;
}

pub returns-in-Err : goal.returns-in-Err
returns-in-Err g c =
    let events = c.args.events.now in
    let i = c.loop-event.event-index in
    let event = c.event-item.result in
    let old = place g.W.Write.contents c.args.writer.now in
    let mid = place g.W.Write.contents c.loop-event.writer in
    let server = world_of c.args.server.now in
    let before = world_of c.loop-event.server in
    let held = string_bytes c.loop-event.held in
    let going = at_event c.args.lines server before old mid events i c.loop-event.number event held c.loop-event-test.true c.event-item.is c.loop-event.invariant.going in
    record {
      printed = unanswered c.args.lines server before (world_of c.step.new.self) old mid mid events (drop (i + 1) events) c.loop-event.number event held going c.in-Err.fault c.in-Err.ensures.step;
      rows = λ rows short. going.rows rows;
    }

pub returns-in-Err-hold_step : goal.returns-in-Err-hold_step
returns-in-Err-hold_step g c =
    let events = c.args.events.now in
    let i = c.loop-event.event-index in
    let event = c.event-item.result in
    let old = place g.W.Write.contents c.args.writer.now in
    let mid = place g.W.Write.contents c.loop-event.writer in
    let new = place g.W.Write.contents c.hold_step.new.writer in
    let server = world_of c.args.server.now in
    let before = world_of c.loop-event.server in
    let now = world_of c.step.new.self in
    let held = string_bytes c.loop-event.held in
    let after = string_bytes c.hold_step.new.held in
    let number = c.loop-event.number in
    let left = drop (i + 1) events in
    let going = at_event c.args.lines server before old mid events i number event held c.loop-event-test.true c.event-item.is c.loop-event.invariant.going in
    record {
      printed = subst (λ (fault : RunFault). RunPrinted c.args.lines (Err fault) server now old new events after) (sym c.from.ensures)
          (breaks_off c.args.lines server before now old mid new events left number event held going c.in-Err-hold_step.fault c.in-Ok.step after c.in-Ok.ensures.step c.in-Ok.ensures.counted
          c.in-Err-hold_step.ensures.holds);
      rows = λ rows short. none_held c.args.lines server before now old mid new events left number event held going c.in-Err-hold_step.fault c.in-Ok.step after c.in-Err-hold_step.ensures.holds rows
          (subst (λ (fault : RunFault). is_cut_short (Err fault) ≡ false) c.from.ensures short);
    }

pub loop-event-preserved : goal.loop-event-preserved
loop-event-preserved g c =
    let events = c.args.events.now in
    let i = c.loop-event.event-index in
    let event = c.event-item.result in
    let old = place g.W.Write.contents c.args.writer.now in
    let mid = place g.W.Write.contents c.loop-event.writer in
    let new = place g.W.Write.contents c.hold_step.new.writer in
    let server = world_of c.args.server.now in
    let before = world_of c.loop-event.server in
    let held = string_bytes c.loop-event.held in
    let number = c.loop-event.number in
    record {
      number = omega (arith, c.loop-event.invariant.number);
      going = goes_on c.args.lines server before (world_of c.step.new.self) old mid new events (drop (i + 1) events) number event held
          (at_event c.args.lines server before old mid events i number event held c.loop-event-test.true c.event-item.is c.loop-event.invariant.going) c.in-Ok.step (string_bytes c.hold_step.new.held)
          c.in-Ok.ensures.step c.in-Ok.ensures.counted c.in_default.ensures.holds c.in_default.ensures.rows;
    }
