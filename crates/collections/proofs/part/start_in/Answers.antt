use Rattle.std.proofs.Common.{ℤ, w64, FitsSigned, rules, sym, subst}
use Rattle.std.proofs.lemmas.Int.{to_z-of_z}
use Rattle.std.specs.declared.ops.Bound.{Bound}
use Rattle.collections.proofs.Counting.{start_included, start_excluded, start_unbounded}
use Rattle.collections.specs.Parts.{IsStartIn}
use Rattle.collections.proofs.part.start_in.Goals as goal

pub returns-in-Included : goal.returns-in-Included
returns-in-Included g c =
    let fits : FitsSigned w64 c.in-Included.time = search rules in
    let count = rw (to_z-of_z w64 c.in-Included.time fits) at c.count_before.ensures in
    subst (λ (b : Bound ℤ). IsStartIn b c.args.segment.now.items c.count_before.result) (sym c.in-Included.is) (start_included c.in-Included.time c.args.segment.now.items c.count_before.result count)

pub returns-in-Excluded : goal.returns-in-Excluded
returns-in-Excluded g c =
    let fits : FitsSigned w64 c.in-Excluded.time = search rules in
    let count = rw (to_z-of_z w64 c.in-Excluded.time fits) at c.count_up_to.ensures in
    subst (λ (b : Bound ℤ). IsStartIn b c.args.segment.now.items c.count_up_to.result) (sym c.in-Excluded.is) (start_excluded c.in-Excluded.time c.args.segment.now.items c.count_up_to.result count)

pub returns-in-Unbounded : goal.returns-in-Unbounded
returns-in-Unbounded g c = subst (λ (b : Bound ℤ). IsStartIn b c.args.segment.now.items 0) (sym c.in-Unbounded.is) (start_unbounded c.args.segment.now.items)
