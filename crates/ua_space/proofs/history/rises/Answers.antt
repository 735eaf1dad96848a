use Rattle.std.proofs.Common.{sym, ◌∙◌}
use Rattle.ua_space.specs.Histories.{rises}
use Rattle.ua_space.proofs.Histories.{all_rise, rises_more, too_early, untimed}
use Rattle.ua_space.proofs.history.rises.Goals as goal

pub returns-in_default : goal.returns-in_default
returns-in_default c =
    sym (untimed c.loop-value.last c.args.values.now c.loop-value.value-index c.value-item.result (rises c.args.values.now) c.loop-value-test.true c.value-item.is c.in_default.is c.loop-value.invariant)

pub returns-then-not-follows : goal.returns-then-not-follows
returns-then-not-follows c =
    sym (too_early c.loop-value.last c.args.values.now c.loop-value.value-index c.value-item.result c.in-Some.time (rises c.args.values.now) c.loop-value-test.true c.value-item.is c.in-Some.is (sym c.follows.ensures ∙ c.if-not-follows.true) c.loop-value.invariant)

pub loop-value-preserved : goal.loop-value-preserved
loop-value-preserved c =
    rises_more c.loop-value.last c.args.values.now c.loop-value.value-index c.value-item.result c.in-Some.time (rises c.args.values.now) c.loop-value-test.true c.value-item.is c.in-Some.is (sym c.follows.ensures ∙ c.if-not-follows.false) c.loop-value.invariant

pub returns : goal.returns
returns c = sym (all_rise c.loop-value.last c.args.values.now c.loop-value.value-index (rises c.args.values.now) c.loop-value-test.false c.loop-value.invariant)
