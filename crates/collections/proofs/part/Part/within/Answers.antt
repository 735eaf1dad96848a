use Rattle.std.proofs.Common.{drop, take, ap, ◌∙◌}
use Rattle.collections.proofs.Counting.{cut, cut_apart}
use Rattle.collections.proofs.part.Part.within.Goals as goal

pub returns : goal.returns
returns g c =
    let start = c.start_in-start.ensures in
    let end = c.end_in-end.ensures in
    let i = c.start_in-start.result in
    let j = c.end_in-end.result in
    let first = c.as_slices.result.0.now in
    let second = c.as_slices.result.1.now in
    rw (c.cut.ensures, c.cut-2.ensures)
    (cut_apart first second i j c.saturating_sub.result c.saturating_sub-2.result c.saturating_sub.ensures c.saturating_sub-2.ensures
    ∙ ap (λ l. drop i (take j l)) c.as_slices.ensures.items
    ∙ cut c.args.low c.args.high c.args.segment.now.items i j start.1 start.2 end.1 end.2)
