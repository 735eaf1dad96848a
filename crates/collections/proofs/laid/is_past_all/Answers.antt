use Rattle.std.proofs.Common.{◌≡◌, ◌<◌, ◌-◌, ℕ, subst, w64, rules, length, get_or, FitsSigned, refl}
use Rattle.std.proofs.lemmas.Int.{to_z-of_z}
use Rattle.collections.proofs.Ends.{past_last}
use Rattle.collections.proofs.Times.{lt_is_less}
use Rattle.collections.proofs.laid.is_past_all.Goals as goal

pub returns : goal.returns
returns g c h =
    let last = c.in-Some-back.field-0.now in
    let q = c.in-Some.segment.now in
    let fits : FitsSigned w64 last.0 = search rules in
    let less = lt_is_less last.0 c.args.time (rw (to_z-of_z w64 last.0 fits, to_z-of_z w64 c.args.time c.ranges.time) at h) in
    let some : 0 < length q.items = subst (λ (n : ℕ). 0 < n) q.ok.0 (c.in-Some-back.ensures.variant.0 refl) in
    let is : last ≡ get_or q.items (length q.items - 1) last = subst (λ (n : ℕ). last ≡ get_or q.items (n - 1) last) q.ok.0 c.in-Some-back.ensures.lookup in
    past_last c.args.time (c.in-Some.field-0-0.now, q) last c.args.segments.now.entries c.in-Some.ensures.last some is c.requires less
