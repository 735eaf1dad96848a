use Rattle.std.proofs.Common.{◌∙◌, sym}
use Rattle.collections.proofs.Reading.{first_none, first_sorted, rest_sorted}
use Rattle.collections.proofs.runs.RunsIterator.next.Goals as goal

pub within-self-inside-requires : goal.within-self-inside-requires
within-self-inside-requires g c =
    let low = c.loop-segment.self-inside.low in
    let high = c.loop-segment.self-inside.high in
    let ss = c.loop-segment.self-inside.segments in
    let rs = c.next-in-loop-segment.new.self in
    let is = c.in-Some-next.ensures.steps in
    first_sorted low high c.args.self.now (c.in-Some-next.field-0-0.now, c.in-Some-next.segment.now) ss rs c.loop-segment.invariant.sorted is

pub invariant_of-self-in-Some-next-2 : goal.invariant_of-self-in-Some-next-2
invariant_of-self-in-Some-next-2 g c =
    let low = c.loop-segment.self-inside.low in
    let high = c.loop-segment.self-inside.high in
    let ss = c.loop-segment.self-inside.segments in
    let rs = c.next-in-loop-segment.new.self in
    let is = c.in-Some-next.ensures.steps in
    rest_sorted low high c.args.self.now (c.in-Some-next.field-0-0.now, c.in-Some-next.segment.now) ss rs c.loop-segment.invariant.sorted is

pub loop-segment-preserved : goal.loop-segment-preserved
loop-segment-preserved g c =
    let low = c.loop-segment.self-inside.low in
    let high = c.loop-segment.self-inside.high in
    let ss = c.loop-segment.self-inside.segments in
    let rs = c.next-in-loop-segment.new.self in
    let is = c.in-Some-next.ensures.steps in
    let none = sym c.within-self-inside.ensures ∙ c.in_default-next-2.ensures.0 in
    record {
      left = first_none low high c.args.self.now (c.in-Some-next.field-0-0.now, c.in-Some-next.segment.now) ss rs c.loop-segment.self-inside.back c.loop-segment.invariant.left is none;
      front = c.in_default-next-2.ensures.1;
      sorted = rest_sorted low high c.args.self.now (c.in-Some-next.field-0-0.now, c.in-Some-next.segment.now) ss rs c.loop-segment.invariant.sorted is;
    }
