use Rattle.std.proofs.Common.{◌≤◌, ◌<◌, inl, inr, length, subst, w64, ℤ, arith}
use Rattle.std.proofs.lemmas.Int.{to_z-of_z}
use Rattle.collections.proofs.Changes.{found, found_sorted}
use Rattle.collections.proofs.Entries.{has_entry}
use Rattle.collections.proofs.Segmented.{laid_ordered}
use Rattle.collections.specs.Places.{IsAt}
use Rattle.collections.proofs.laid.has_room.Goals as goal

pub returns-in_default-clause-full : goal.returns-in_default-clause-full
returns-in_default-clause-full g c h =
    let is = rw (to_z-of_z w64 c.args.start c.ranges.start) at c.in_default.ensures.value in
    let there = found c.args.time c.args.segments.now.entries c.args.start c.requires.belongs (laid_ordered c.args.segments.now.entries c.requires.laid) c.requires.laid in
    cc

pub returns-then-len-lt-MOST-clause-room : goal.returns-then-len-lt-MOST-clause-room
returns-then-len-lt-MOST-clause-room g c h =
    let is = rw (to_z-of_z w64 c.args.start c.ranges.start) at c.in-Some.ensures.value in
    let few : length c.in-Some.segment.now.items < 64 = let same = c.in-Some.segment.now.ok.0 in omega (arith, same, c.len.ensures, c.if-len-lt-MOST.true) in
    rw (← is) (inl few)

pub place-requires : goal.place-requires
place-requires g c =
    let is = rw (to_z-of_z w64 c.args.start c.ranges.start) at c.in-Some.ensures.value in
    found_sorted c.args.time c.args.segments.now.entries c.args.start c.requires.belongs (laid_ordered c.args.segments.now.entries c.requires.laid) c.requires.laid c.in-Some.segment.now c.requires.sorted is

pub returns-in-Ok-clause-room : goal.returns-in-Ok-clause-room
returns-in-Ok-clause-room g c h =
    let is = rw (to_z-of_z w64 c.args.start c.ranges.start) at c.in-Some.ensures.value in
    let at = subst (λ (t : ℤ). IsAt t c.in-Some.segment.now.items c.in-Ok.field-0) (to_z-of_z w64 c.args.time c.ranges.time) c.in-Ok.ensures in
    let order = found_sorted c.args.time c.args.segments.now.entries c.args.start c.requires.belongs (laid_ordered c.args.segments.now.entries c.requires.laid) c.requires.laid c.in-Some.segment.now c.requires.sorted is in
    let there = has_entry c.args.time c.in-Some.segment.now.items c.in-Ok.field-0 order at in
    rw (← is) (inr there)

pub returns-in-Err-clause-full : goal.returns-in-Err-clause-full
returns-in-Err-clause-full g c h =
    let is = rw (to_z-of_z w64 c.args.start c.ranges.start) at c.in-Some.ensures.value in
    let many : 64 ≤ length c.in-Some.segment.now.items = let same = c.in-Some.segment.now.ok.0 in omega (arith, same, c.len.ensures, c.if-len-lt-MOST.false) in
    rw (← is) many
