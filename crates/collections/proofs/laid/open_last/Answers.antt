use Rattle.std.proofs.Common.{◌∙◌, ap, subst, sym, w64}
use Rattle.std.proofs.lemmas.Int.{to_z-of_z}
use Rattle.collections.proofs.Ends.{last_opened}
use Rattle.collections.specs.Laid.{joined, IsLaid}
use Rattle.collections.proofs.laid.open_last.Goals as goal

pub returns-clause-ok : goal.returns-clause-ok
returns-clause-ok g c =
    let entries = rw (to_z-of_z w64 c.args.time c.ranges.time) at c.in_ok-insert.ensures.entries in
    let items = rw (to_z-of_z w64 c.args.time c.ranges.time) at c.in_ok-segment.ensures in
    ap joined entries ∙ (last_opened c.args.time c.args.value c.in_ok-segment.segment c.args.segments.now.entries items c.requires.past c.requires.laid).ok

pub returns-clause-laid : goal.returns-clause-laid
returns-clause-laid g c =
    let entries = rw (to_z-of_z w64 c.args.time c.ranges.time) at c.in_ok-insert.ensures.entries in
    let items = rw (to_z-of_z w64 c.args.time c.ranges.time) at c.in_ok-segment.ensures in
    subst IsLaid (sym entries) (last_opened c.args.time c.args.value c.in_ok-segment.segment c.args.segments.now.entries items c.requires.past c.requires.laid).laid
