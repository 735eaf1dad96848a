use Rattle.std.proofs.Common.{◌≡◌, ◌<◌, ◌-◌, ℕ, subst, w64, rules, length, get_or, FitsSigned, refl}
use Rattle.std.proofs.lemmas.Int.{to_z-of_z}
use Rattle.collections.proofs.Outside.{before_last}
use Rattle.collections.proofs.Times.{lt_is_less}
use Rattle.collections.proofs.part.is_before.Goals as goal

pub returns-in-Some : goal.returns-in-Some
returns-in-Some g c h =
    let entry = c.in-Some.field-0.now in
    let q = c.args.segment.now in
    let fits : FitsSigned w64 entry.0 = search rules in
    let near = lt_is_less entry.0 c.args.time (rw (to_z-of_z w64 entry.0 fits, to_z-of_z w64 c.args.time c.ranges.time) at h) in
    let some : 0 < length q.items = subst (λ (n : ℕ). 0 < n) q.ok.0 (c.in-Some.ensures.variant.0 refl) in
    let is : entry ≡ get_or q.items (length q.items - 1) entry = subst (λ (n : ℕ). entry ≡ get_or q.items (n - 1) entry) q.ok.0 c.in-Some.ensures.lookup in
    before_last c.args.time q.items entry some is c.requires near
