use Rattle.std.proofs.Common.{w64, arith}
use Rattle.std.proofs.lemmas.Int.{to_z-of_z}
use Rattle.collections.proofs.Counting.{at_up_to, gap_up_to}
use Rattle.collections.proofs.part.count_up_to.Goals as goal

pub returns-in-Ok : goal.returns-in-Ok
returns-in-Ok g c = at_up_to c.args.time c.args.segment.now.items c.in-Ok.at _ c.requires (rw (to_z-of_z w64 c.args.time c.ranges.time) at c.in-Ok.ensures) (omega arith)

pub returns-in-Err : goal.returns-in-Err
returns-in-Err g c = gap_up_to c.args.time c.args.segment.now.items c.in-Err.at (rw (to_z-of_z w64 c.args.time c.ranges.time) at c.in-Err.ensures)
