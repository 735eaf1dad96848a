use Rattle.std.proofs.Common.{w64}
use Rattle.std.proofs.lemmas.Int.{to_z-of_z}
use Rattle.collections.proofs.Counting.{at_before, gap_before}
use Rattle.collections.proofs.part.count_before.Goals as goal

pub returns-in-Ok : goal.returns-in-Ok
returns-in-Ok g c = at_before c.args.time c.args.segment.now.items c.in-Ok.at c.requires (rw (to_z-of_z w64 c.args.time c.ranges.time) at c.in-Ok.ensures)

pub returns-in-Err : goal.returns-in-Err
returns-in-Err g c = gap_before c.args.time c.args.segment.now.items c.in-Err.at (rw (to_z-of_z w64 c.args.time c.ranges.time) at c.in-Err.ensures)
