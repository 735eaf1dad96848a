use Rattle.std.proofs.Common.{◌≡◌, ◌<◌, ℕ, subst, w64, rules, length, get_or, FitsSigned, refl}
use Rattle.std.proofs.lemmas.Int.{to_z-of_z}
use Rattle.collections.proofs.Outside.{from_first}
use Rattle.collections.proofs.Times.{le_is_le}
use Rattle.collections.proofs.part.is_from.Goals as goal

pub returns-in-Some : goal.returns-in-Some
returns-in-Some g c h =
    let entry = c.in-Some.field-0.now in
    let q = c.args.segment.now in
    let fits : FitsSigned w64 entry.0 = search rules in
    let near = le_is_le c.args.time entry.0 (rw (to_z-of_z w64 entry.0 fits, to_z-of_z w64 c.args.time c.ranges.time) at h) in
    let some : 0 < length q.items = subst (λ (n : ℕ). 0 < n) q.ok.0 (c.in-Some.ensures.variant.0 refl) in
    let is : entry ≡ get_or q.items 0 entry = c.in-Some.ensures.lookup in
    from_first c.args.time q.items entry some is c.requires near
