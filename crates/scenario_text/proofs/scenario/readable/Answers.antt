use Rattle.scenario_text.specs.Scenarios.{scenario_of}
use Rattle.scenario_text.proofs.Lines.{goes_on, fails, ends}
use Rattle.scenario_text.proofs.scenario.readable.Goals as goal

pub returns-in-Err : goal.returns-in-Err
returns-in-Err c =
    let e = c.in_ok-fault-in-Err.ensures in
    rw (c.from_vec.ensures, e.fault) (fails c.loop-place.known c.loop-place.lines.items c.deref-text-items.result.now c.loop-place.place _ c.in-Err.cause (scenario_of c.args.text.now) c.loop-place-test.true (c.in-Err.ensures.given e.said) c.loop-place.invariant)

pub loop-place-preserved : goal.loop-place-preserved
loop-place-preserved c =
    rw (c.in_ok-keep-in-Ok.ensures.known, c.in_ok-keep-in-Ok.ensures.lines)
    (goes_on c.loop-place.known c.loop-place.lines.items c.deref-text-items.result.now c.loop-place.place _ c.in-Ok.said (scenario_of c.args.text.now) c.loop-place-test.true c.in-Ok.ensures.given c.loop-place.invariant)

pub returns : goal.returns
returns c =
    rw c.from_vec-2.ensures (ends c.loop-place.known c.loop-place.lines.items c.deref-text-items.result.now c.loop-place.place (scenario_of c.args.text.now) c.loop-place-test.false c.loop-place.invariant)
