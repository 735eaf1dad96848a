use Rattle.std.proofs.Common.{rules}
use Rattle.std.proofs.lemmas.Fn.{always_returns_same}
use Rattle.ua_types.specs.NodeIdOrder.{id_cmp}
use Rattle.ua_types.specs.declared.node_id.NodeId.{NodeId}
use Rattle.ua_space.specs.declared.node.Node.{Node}
use Rattle.ua_space.proofs.node_table.search.Goals as goal

pub returns : goal.returns
returns c =
    let facts = c.binary_search_by.ensures in
    let ends = facts.position (λ (e : NodeId × Node). id_cmp e.0 c.args.id.now) (always_returns_same _ _ _ (λ a r g called. search rules)) in
    rw (← c.deref.ensures.value) (facts.bound, ends)
