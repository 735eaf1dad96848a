use Rattle.std.proofs.Common.{◌∙◌, sym, w64, FitsSigned, rules}
use Rattle.std.proofs.lemmas.Int.{to_z-of_z}
use Rattle.collections.proofs.Changes.{found, found_sorted, looked_up}
use Rattle.collections.proofs.Ends.{none_there}
use Rattle.collections.proofs.Segmented.{laid_ordered}
use Rattle.collections.proofs.laid.value_at.Goals as goal

pub returns-in_default : goal.returns-in_default
returns-in_default g c = sym (none_there c.args.time c.args.segments.now.entries c.requires.laid (rw (to_z-of_z w64 c.args.time c.ranges.time) at c.in_default.ensures))

pub value_in-requires : goal.value_in-requires
value_in-requires g c =
    let fits : FitsSigned w64 c.in-Some.start = search rules in
    let is = rw (to_z-of_z w64 c.in-Some.start fits) at c.in-Some-get.ensures.value in
    let b = rw (to_z-of_z w64 c.args.time c.ranges.time) at c.in-Some.ensures in
    found_sorted c.args.time c.args.segments.now.entries c.in-Some.start b (laid_ordered c.args.segments.now.entries c.requires.laid) c.requires.laid c.in-Some-get.segment.now c.requires.sorted is

pub returns-in-None : goal.returns-in-None
returns-in-None g c =
    let fits : FitsSigned w64 c.in-Some.start = search rules in
    let is = rw (to_z-of_z w64 c.in-Some.start fits) at c.in-None.ensures.value in
    let b = rw (to_z-of_z w64 c.args.time c.ranges.time) at c.in-Some.ensures in
    let there = found c.args.time c.args.segments.now.entries c.in-Some.start b (laid_ordered c.args.segments.now.entries c.requires.laid) c.requires.laid in
    cc

pub returns-in-Some-get : goal.returns-in-Some-get
returns-in-Some-get g c =
    let fits : FitsSigned w64 c.in-Some.start = search rules in
    let is = rw (to_z-of_z w64 c.in-Some.start fits) at c.in-Some-get.ensures.value in
    let b = rw (to_z-of_z w64 c.args.time c.ranges.time) at c.in-Some.ensures in
    let value = rw (to_z-of_z w64 c.args.time c.ranges.time) at c.value_in.ensures in
    value ∙ sym (looked_up c.args.time c.args.segments.now.entries c.in-Some.start b (laid_ordered c.args.segments.now.entries c.requires.laid) c.requires.laid c.in-Some-get.segment.now is)
