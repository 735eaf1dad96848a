use Rattle.std.proofs.Common.{◌∙◌, ap, subst, sym, w64}
use Rattle.std.proofs.lemmas.Int.{to_z-of_z}
use Rattle.collections.proofs.Ends.{first_opened}
use Rattle.collections.proofs.Times.{least_first}
use Rattle.collections.specs.Laid.{joined, IsLaid}
use Rattle.collections.proofs.laid.open_first.Goals as goal

pub returns-clause-ok : goal.returns-clause-ok
returns-clause-ok g c =
    let items = rw (to_z-of_z w64 c.args.time c.ranges.time) at c.in_ok-segment.ensures in
    ap joined c.in_ok-insert.ensures.entries
    ∙ (first_opened _ c.args.time c.args.value c.in_ok-segment.segment c.args.segments.now.entries (least_first c.args.time c.ranges.time) items c.requires.none c.requires.laid).ok

pub returns-clause-laid : goal.returns-clause-laid
returns-clause-laid g c =
    let items = rw (to_z-of_z w64 c.args.time c.ranges.time) at c.in_ok-segment.ensures in
    subst IsLaid (sym c.in_ok-insert.ensures.entries)
    (first_opened _ c.args.time c.args.value c.in_ok-segment.segment c.args.segments.now.entries (least_first c.args.time c.ranges.time) items c.requires.none c.requires.laid).laid
