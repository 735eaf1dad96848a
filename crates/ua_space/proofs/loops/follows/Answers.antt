use Rattle.std.proofs.Common.{suc, sym, ◌∙◌}
use Rattle.ua_types.proofs.SameIds.{same_id_true}
use Rattle.ua_space.proofs.Chains.{has_from_contains, walk_found}
use Rattle.ua_space.proofs.loops.follows.Goals as goal

pub loop-place-init : goal.loop-place-init
loop-place-init c = λ upper n w. (n, w)

pub loop-place-preserved : goal.loop-place-preserved
loop-place-preserved c =
    λ upper n w. c.loop-place.invariant upper (suc n)
    (c.in-Some.triple.now, has_from_contains c.args.triples.now c.in-Some.triple.now _ c.in-Some.ensures.lookup.3.0 (sym c.in-Some.ensures.lookup.1), sym c.leads_to.ensures ∙ c.if-not-leads_to.false, w)

pub returns : goal.returns
returns c =
    λ same.
    let r = c.loop-place.invariant c.args.upper.now 0 (same_id_true c.loop-place.reached.now c.args.upper.now (sym c.eq.ensures ∙ same)) in
    walk_found c.args.triples.now r.0 c.args.lower.now c.args.upper.now r.1
