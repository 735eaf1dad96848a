use Rattle.std.proofs.Common.{sym, ◌∙◌, arith}
use Rattle.std.specs.Vec.Iter.{into_iter_items}
use Rattle.ua_space.proofs.Building.{named_twice, named_badly, named_once, nodes_end}
use Rattle.ua_space.proofs.build.named.Goals as goal

pub returns-then-contains_key : goal.returns-then-contains_key
returns-then-contains_key c =
    λ _. named_twice c.loop-node.number c.loop-node.known.entries (into_iter_items c.loop-node.node-iterator) (into_iter_items c.next.new.self) c.in-Some.node _ c.in-Some.ensures.steps.0 (sym c.contains_key.ensures ∙ c.if-contains_key.true) c.loop-node.invariant.0

pub returns-then-not-is_history : goal.returns-then-not-is_history
returns-then-not-is_history c =
    λ _. named_badly c.loop-node.number c.loop-node.known.entries (into_iter_items c.loop-node.node-iterator) (into_iter_items c.next.new.self) c.in-Some.node _ c.in-Some.ensures.steps.0 (sym c.contains_key.ensures ∙ c.if-contains_key.false) (sym c.is_history.ensures ∙ c.if-not-is_history.true) c.loop-node.invariant.0

pub loop-node-preserved : goal.loop-node-preserved
loop-node-preserved c = (
  rw (c.in_ok-insert.ensures.entries, c.in_ok-id.ensures.copy)
      (named_once c.loop-node.number c.loop-node.known.entries (into_iter_items c.loop-node.node-iterator) (into_iter_items c.next.new.self) c.in-Some.node _ c.in-Some.ensures.steps.0 (sym c.contains_key.ensures ∙ c.if-contains_key.false) (sym c.is_history.ensures ∙ c.if-not-is_history.false) c.loop-node.invariant.0),
  omega (arith, c.in-Some.ensures.steps.1, c.loop-node.invariant.1),
)

pub returns : goal.returns
returns c =
    nodes_end c.loop-node.number c.loop-node.known.entries (into_iter_items c.loop-node.node-iterator) _ (omega (arith, c.loop-node.node-iterator.rest.ok.0, c.in-None.ensures.steps.0)) c.loop-node.invariant.0
