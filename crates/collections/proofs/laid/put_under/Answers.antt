use Rattle.std.proofs.Common.{w64}
use Rattle.std.proofs.lemmas.Int.{to_z-of_z}
use Rattle.collections.proofs.Changes.{found, found_sorted, put_into}
use Rattle.collections.proofs.laid.put_under.Goals as goal

pub unreachable-requires : goal.unreachable-requires
unreachable-requires g c =
    let is = rw (to_z-of_z w64 c.args.start c.ranges.start) at c.in-None.ensures.value in
    let there = found c.args.time c.args.segments.now.entries c.args.start c.requires.belongs c.get_mut.ensures.ordered c.requires.laid in
    cc

pub put-requires : goal.put-requires
put-requires g c =
    let is = rw (to_z-of_z w64 c.args.start c.ranges.start) at c.in-Some.ensures.value in
    found_sorted c.args.time c.args.segments.now.entries c.args.start c.requires.belongs c.get_mut.ensures.ordered c.requires.laid c.in-Some.segment.now c.requires.sorted is

pub returns : goal.returns
returns g c =
    let is = rw (to_z-of_z w64 c.args.start c.ranges.start) at c.in-Some.ensures.value in
    let set = rw (to_z-of_z w64 c.args.start c.ranges.start) at (c.get_mut.follows.holds c.put.new.segment).0 in
    let was = rw (to_z-of_z w64 c.args.time c.ranges.time) at c.put.ensures.old in
    let ok = rw (to_z-of_z w64 c.args.time c.ranges.time) at c.put.ensures.ok in
    put_into c.args.time c.args.segments.now.entries c.args.start c.requires.belongs c.get_mut.ensures.ordered c.requires.laid c.args.value c.in-Some.segment.now c.put.new.segment _ c.put.result c.requires.sorted c.requires.room
    is set was ok c.put.ensures.err
