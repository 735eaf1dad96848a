use Rattle.std.proofs.Common.{◌∙◌, ℤ, Some, sym, ap, subst, w64}
use Rattle.std.proofs.lemmas.Int.{to_z-of_z}
use Rattle.collections.proofs.Entries.{found_at, absent_at}
use Rattle.collections.specs.Places.{IsAt, IsGapFor}
use Rattle.collections.proofs.segment.value_in.Goals as goal

pub returns-in-Ok : goal.returns-in-Ok
returns-in-Ok g c =
    let at = subst (λ (t : ℤ). IsAt t c.args.segment.now.items c.in-Ok.at) (to_z-of_z w64 c.args.time c.ranges.time) c.in-Ok.ensures in
    ap Some (ap (λ e. e.1) c.index.ensures) ∙ sym (found_at c.args.time c.args.segment.now.items c.in-Ok.at c.index.result.now c.requires at)

pub returns-in-Err : goal.returns-in-Err
returns-in-Err g c =
    let at = subst (λ (t : ℤ). IsGapFor t c.args.segment.now.items c.in-Err.field-0) (to_z-of_z w64 c.args.time c.ranges.time) c.in-Err.ensures in
    sym (absent_at c.args.time c.args.segment.now.items c.in-Err.field-0 at)
