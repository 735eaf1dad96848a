use Rattle.std.proofs.Common.{◌∙◌, sym, ap, length, length-append, arith}
use Rattle.collections.proofs.Reading.{last_some, last_none, last_sorted, others_sorted}
use Rattle.collections.proofs.runs.RunsDoubleEndedIterator.next_back.Goals as goal

pub within-self-inside-requires : goal.within-self-inside-requires
within-self-inside-requires g c =
    let low = c.loop-segment.self-inside.low in
    let high = c.loop-segment.self-inside.high in
    let ss = c.loop-segment.self-inside.segments in
    let rs = c.next_back-in-loop-segment.new.self in
    let is = c.in-Some-next_back.ensures.steps in
    last_sorted low high c.args.self.now (c.in-Some-next_back.field-0-0.now, c.in-Some-next_back.segment.now) ss rs c.loop-segment.invariant.sorted is

pub invariant_of-self-in-Some-next_back-2 : goal.invariant_of-self-in-Some-next_back-2
invariant_of-self-in-Some-next_back-2 g c =
    let low = c.loop-segment.self-inside.low in
    let high = c.loop-segment.self-inside.high in
    let ss = c.loop-segment.self-inside.segments in
    let rs = c.next_back-in-loop-segment.new.self in
    let is = c.in-Some-next_back.ensures.steps in
    others_sorted low high c.args.self.now (c.in-Some-next_back.field-0-0.now, c.in-Some-next_back.segment.now) ss rs c.loop-segment.invariant.sorted is

pub loop-segment-preserved : goal.loop-segment-preserved
loop-segment-preserved g c =
    let low = c.loop-segment.self-inside.low in
    let high = c.loop-segment.self-inside.high in
    let ss = c.loop-segment.self-inside.segments in
    let rs = c.next_back-in-loop-segment.new.self in
    let is = c.in-Some-next_back.ensures.steps in
    let none = sym c.within-self-inside.ensures ∙ c.in_default-next_back-2.ensures.0 in
    record {
      left = last_none low high c.args.self.now (c.in-Some-next_back.field-0-0.now, c.in-Some-next_back.segment.now) ss rs c.loop-segment.self-inside.front c.loop-segment.invariant.left is none;
      back = c.in_default-next_back-2.ensures.1;
      sorted = others_sorted low high c.args.self.now (c.in-Some-next_back.field-0-0.now, c.in-Some-next_back.segment.now) ss rs c.loop-segment.invariant.sorted is;
    }

pub returns-in-Some-next_back-2-clause-steps : goal.returns-in-Some-next_back-2-clause-steps
returns-in-Some-next_back-2-clause-steps g c =
    let low = c.loop-segment.self-inside.low in
    let high = c.loop-segment.self-inside.high in
    let ss = c.loop-segment.self-inside.segments in
    let rs = c.next_back-in-loop-segment.new.self in
    let is = c.in-Some-next_back.ensures.steps in
    let some = sym c.within-self-inside.ensures ∙ c.in-Some-next_back-2.ensures.1 in
    (c.in-Some-next_back-2.ensures.0, last_some low high c.args.self.now (c.in-Some-next_back.field-0-0.now, c.in-Some-next_back.segment.now) ss rs c.loop-segment.self-inside.front c.next_back-in-Some-next_back.new.self _ c.loop-segment.invariant.left is some)

pub returns-in-Some-next_back-2-clause-goes : goal.returns-in-Some-next_back-2-clause-goes
returns-in-Some-next_back-2-clause-goes g c =
    let low = c.loop-segment.self-inside.low in
    let high = c.loop-segment.self-inside.high in
    let ss = c.loop-segment.self-inside.segments in
    let rs = c.next_back-in-loop-segment.new.self in
    let is = c.in-Some-next_back.ensures.steps in
    let some = sym c.within-self-inside.ensures ∙ c.in-Some-next_back-2.ensures.1 in
    let steps = last_some low high c.args.self.now (c.in-Some-next_back.field-0-0.now, c.in-Some-next_back.segment.now) ss rs c.loop-segment.self-inside.front c.next_back-in-Some-next_back.new.self _ c.loop-segment.invariant.left is some in
    let sizes = simp length-append at (ap length steps) in
    let some_run = c.in-Some-next_back-2.ensures.0 in
    record { on = λ f. (tt, tt, simp length-append (omega (arith, sizes, some_run))); keeps = tt; rests = λ f. tt }
