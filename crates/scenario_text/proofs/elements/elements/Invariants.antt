use Rattle.std.proofs.Common.{◌≡◌, map}
use Rattle.scenario_text.specs.Elements.{element_of, all_of}
use Rattle.scenario_text.proofs.ElementLists.{with_front}
use Rattle.scenario_text.proofs.Lines.{from_place}
use Rattle.scenario_text.proofs.elements.elements.Given as goal

-- the elements so far and those to come are those of all texts
abbrev pub invariant-loop-text : goal.invariant-loop-text
invariant-loop-text g l =
    let one = element_of g.T.Element.said in
    with_front l.items.items (all_of one (from_place l.text-index l.texts)) ≡ all_of one (map (λ t. t.now) l.fn.texts)
