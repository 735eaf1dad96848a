use Rattle.std.proofs.Common.{sym, ◌∙◌}
use Rattle.ua_space.specs.Subtypes.{lies_on_loop}
use Rattle.ua_space.proofs.Ranking.{found_here, not_here, nowhere}
use Rattle.ua_space.proofs.loops.first_on_loop.Goals as goal

pub returns-then-is_looped : goal.returns-then-is_looped
returns-then-is_looped c =
    found_here (lies_on_loop c.args.triples.now) c.args.triples.now c.loop-triple.triple-index c.triple-item.result _ c.loop-triple-test.true c.triple-item.is (sym c.is_looped.ensures ∙ c.if-is_looped.true) c.loop-triple.invariant

pub loop-triple-preserved : goal.loop-triple-preserved
loop-triple-preserved c =
    not_here (lies_on_loop c.args.triples.now) c.args.triples.now c.loop-triple.triple-index c.triple-item.result _ c.loop-triple-test.true c.triple-item.is (sym c.is_looped.ensures ∙ c.if-is_looped.false) c.loop-triple.invariant

pub returns : goal.returns
returns c = nowhere (lies_on_loop c.args.triples.now) c.args.triples.now c.loop-triple.triple-index _ c.loop-triple-test.false c.loop-triple.invariant
