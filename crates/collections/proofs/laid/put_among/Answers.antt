use Rattle.std.proofs.Common.{sym, w64, FitsSigned, rules}
use Rattle.std.proofs.lemmas.Int.{to_z-of_z}
use Rattle.collections.proofs.Ends.{none_there, none_past}
use Rattle.collections.specs.Laid.{joined}
use Rattle.collections.proofs.laid.put_among.Goals as goal

pub returns-in_default-clause-old : goal.returns-in_default-clause-old
returns-in_default-clause-old g c = sym (none_there c.args.time c.args.segments.now.entries c.requires.laid (rw (to_z-of_z w64 c.args.time c.ranges.time) at c.in_default.ensures))

pub returns-then-is_past_all-clause-old : goal.returns-then-is_past_all-clause-old
returns-then-is_past_all-clause-old g c = sym (none_past c.args.time (joined c.args.segments.now.entries) (rw (to_z-of_z w64 c.args.time c.ranges.time) at (c.is_past_all.ensures c.if-is_past_all.true)))

pub put_under-requires-2-clause-room : goal.put_under-requires-2-clause-room
put_under-requires-2-clause-room g c =
    let fits : FitsSigned w64 c.in_ok-half.half = search rules in
    rw (to_z-of_z w64 c.in_ok-half.half fits) c.in_ok-half.ensures.room
