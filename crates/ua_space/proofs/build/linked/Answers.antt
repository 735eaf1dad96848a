use Rattle.std.proofs.Common.{sym, ◌∙◌}
use Rattle.ua_space.proofs.Building.{bad_end, given_twice, goes_on, all_good, seen_more, not_true, not_false}
use Rattle.ua_space.proofs.build.linked.Goals as goal

pub returns-then-not-fits : goal.returns-then-not-fits
returns-then-not-fits c =
    λ _. bad_end c.args.nodes.now.entries c.args.triples.now c.loop-triple.triple-index c.triple-item.result _ c.loop-triple-test.true c.triple-item.is (rw (← c.fits.ensures) c.if-not-fits.true) c.loop-triple.invariant.0

pub returns-then-not-branch : goal.returns-then-not-branch
returns-then-not-branch c =
    λ _. given_twice c.args.nodes.now.entries c.args.triples.now c.loop-triple.triple-index c.triple-item.result _ c.loop-triple-test.true c.triple-item.is (rw (← c.fits.ensures) c.if-not-fits.false)
    (sym (c.loop-triple.invariant.1 c.triple-item.result) ∙ not_false _ (sym c.in_ok-insert.ensures.added ∙ c.if-not-branch.true)) c.loop-triple.invariant.0

pub loop-triple-preserved : goal.loop-triple-preserved
loop-triple-preserved c = (
  goes_on c.args.nodes.now.entries c.args.triples.now c.loop-triple.triple-index c.triple-item.result _ c.loop-triple-test.true c.triple-item.is (rw (← c.fits.ensures) c.if-not-fits.false)
      (sym (c.loop-triple.invariant.1 c.triple-item.result) ∙ not_true _ (sym c.in_ok-insert.ensures.added ∙ c.if-not-branch.false)) c.loop-triple.invariant.0,
  seen_more _ _ c.triple-item.result _ _ c.loop-triple-test.true c.triple-item.is c.in_ok-insert.ensures.updates.0 c.loop-triple.invariant.1,
)

pub returns : goal.returns
returns c = all_good c.args.nodes.now.entries c.args.triples.now c.loop-triple.triple-index _ c.loop-triple-test.false c.loop-triple.invariant.0
