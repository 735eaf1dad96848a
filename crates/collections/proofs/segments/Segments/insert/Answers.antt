use Rattle.std.proofs.Common.{◌∙◌, ◌+◌, cond, is_some, ap, subst, sym, w64, length, arith}
use Rattle.std.proofs.lemmas.Int.{to_z-of_z}
use Rattle.std.specs.List.Sorted.{IsStrictlySortedBy}
use Rattle.std.specs.Map.{keys_of}
use Rattle.std.specs.Ordering.{int_cmp}
use Rattle.collections.proofs.Segmented.{how_many, sorted_put}
use Rattle.collections.specs.Laid.{joined}
use Rattle.collections.proofs.segments.Segments.insert.Goals as goal

pub invariant_of-self-then-is_none : goal.invariant_of-self-then-is_none
invariant_of-self-then-is_none g c =
    let ok = rw (to_z-of_z w64 c.args.time c.ranges.time) at c.in_ok-old.ensures.ok in
    let old = rw (to_z-of_z w64 c.args.time c.ranges.time) at c.in_ok-old.ensures.old in
    let es = joined c.self.inside.segments.entries in
    let more = how_many c.args.time c.args.value es c.self.invariant.1 in
    let size = ap length ok ∙ more ∙ ap (λ b. length es + cond b 0 1) (ap is_some (sym old) ∙ c.if-is_none.ensures) in
    let len = c.self.invariant.2 in
    (c.in_ok-old.ensures.laid, subst (λ l. IsStrictlySortedBy int_cmp (keys_of l)) (sym ok) (sorted_put c.args.time c.args.value es c.self.invariant.1), omega (arith, size, len))

pub invariant_of-self-else-is_none : goal.invariant_of-self-else-is_none
invariant_of-self-else-is_none g c =
    let ok = rw (to_z-of_z w64 c.args.time c.ranges.time) at c.in_ok-old.ensures.ok in
    let old = rw (to_z-of_z w64 c.args.time c.ranges.time) at c.in_ok-old.ensures.old in
    let es = joined c.self.inside.segments.entries in
    let more = how_many c.args.time c.args.value es c.self.invariant.1 in
    let size = ap length ok ∙ more ∙ ap (λ b. length es + cond b 0 1) (ap is_some (sym old) ∙ c.if-is_none.ensures) in
    let len = c.self.invariant.2 in
    (c.in_ok-old.ensures.laid, subst (λ l. IsStrictlySortedBy int_cmp (keys_of l)) (sym ok) (sorted_put c.args.time c.args.value es c.self.invariant.1), omega (arith, size, len))
