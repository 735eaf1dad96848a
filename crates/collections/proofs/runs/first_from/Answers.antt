use Rattle.std.proofs.Common.{w64, FitsSigned, rules}
use Rattle.std.proofs.lemmas.Int.{to_z-of_z}
use Rattle.collections.proofs.Reading.{first_at, first_past}
use Rattle.collections.proofs.runs.first_from.Goals as goal

pub returns-in-Some-clause-at : goal.returns-in-Some-clause-at
returns-in-Some-clause-at g c =
    let fits : FitsSigned w64 c.in-Some.start = search rules in
    rw (to_z-of_z w64 c.in-Some.start fits) (first_at c.args.time c.args.segments.now.entries c.in-Some.start (rw (to_z-of_z w64 c.args.time c.ranges.time) at c.in-Some.ensures) c.requires)

pub returns-in-Some-clause-past : goal.returns-in-Some-clause-past
returns-in-Some-clause-past g c =
    let fits : FitsSigned w64 c.in-Some.start = search rules in
    rw (to_z-of_z w64 c.in-Some.start fits) (first_past c.args.time c.args.segments.now.entries c.in-Some.start (rw (to_z-of_z w64 c.args.time c.ranges.time) at c.in-Some.ensures) c.requires)
