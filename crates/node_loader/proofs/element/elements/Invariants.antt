use Rattle.std.proofs.Common.{◌≡◌, ◌+◌, drop}
use Rattle.std.specs.Vec.{vec_len}
use Rattle.toml.specs.View.{items_view}
use Rattle.node_loader.specs.Elements.{elements}
use Rattle.node_loader.specs.Lists.{each, after}
use Rattle.node_loader.proofs.element.elements.Given as goal

-- the elements so far, and what the others say
abbrev pub invariant-loop-value : goal.invariant-loop-value
invariant-loop-value g l = record {
  elements : after l.all.items (each (λ _ d. g.T.Element.reading l.highest d) (l.value-index + 1) (items_view (drop l.value-index l.values))) ≡ elements (g.T.Element.reading l.highest) (items_view l.values);
  count : vec_len l.all ≡ l.value-index;
}
