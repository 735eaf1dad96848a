use Rattle.std.proofs.Common.{map}
use Rattle.std.proofs.lemmas.Result.{err_from_is_err_and}
use Rattle.scenario_text.specs.Elements.{element_of, all_of}
use Rattle.scenario_text.proofs.ElementLists.{begins, goes_on, fails, ends}
use Rattle.scenario_text.proofs.elements.elements.Goals as goal

pub loop-text-init : goal.loop-text-init
loop-text-init g c =
    let one = element_of g.T.Element.said in
    rw c.new-items.ensures.items (begins (all_of one (map (λ t. t.now) c.args.texts.now)))

pub returns-in_err-item : goal.returns-in_err-item
returns-in_err-item g c =
    let one = element_of g.T.Element.said in
    let p = err_from_is_err_and c.from_residual.result c.from_residual.ensures.1 in
    rw (p.1, p.2) (λ other. fails one c.loop-text.items.items c.args.texts.now c.loop-text.text-index _ _ (all_of one (map (λ t. t.now) c.args.texts.now)) c.loop-text-test.true (c.in_err-item.ensures other) c.loop-text.invariant)

pub loop-text-preserved : goal.loop-text-preserved
loop-text-preserved g c =
    let one = element_of g.T.Element.said in
    rw c.in_ok-push.ensures.items (goes_on one c.loop-text.items.items c.args.texts.now c.loop-text.text-index _ c.in_ok-item.item (all_of one (map (λ t. t.now) c.args.texts.now)) c.loop-text-test.true c.in_ok-item.ensures c.loop-text.invariant)

pub returns : goal.returns
returns g c =
    let one = element_of g.T.Element.said in
    ends one c.loop-text.items.items c.args.texts.now c.loop-text.text-index (all_of one (map (λ t. t.now) c.args.texts.now)) c.loop-text-test.false c.loop-text.invariant
