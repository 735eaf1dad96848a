use Rattle.std.proofs.Common.{◌≡◌, Option, Some, None, IfSome, Bor, sym, ap, subst, ◌∙◌}
use Rattle.std.specs.Option.{option_copied}
use Rattle.ua_types.specs.declared.node_id.NodeId.{NodeId}
use Rattle.ua_space.specs.declared.node.Node.{Node}
use Rattle.ua_space.specs.Nodes.{Nodes, node_at}
use Rattle.ua_space.specs.Spaces.{StandUnderTheirIds}
use Rattle.ua_space.proofs.Placing.{node_there}
use Rattle.ua_space.proofs.space.Space.node_in_order.Goals as goal

own : (nodes : Nodes) → StandUnderTheirIds nodes → (id : NodeId) (found : Option (Bor Node)) → option_copied found ≡ node_at id nodes → IfSome found (λ node. node.now.id ≡ id)
own nodes under id None some = tt
own nodes under id (Some node) some = under id node.now (sym some)

pub returns-clause-own : goal.returns-clause-own
returns-clause-own c = λ id is.
    let nodes = ap (λ s. s.nodes) c.self.view_is in
    let under : StandUnderTheirIds c.args.self.now.nodes = subst StandUnderTheirIds nodes c.self.invariant.sound.own_ids in
    own c.args.self.now.nodes under id c.node_in_order.result ((rw nodes at c.node_in_order.ensures) ∙ node_there id c.args.self.now.nodes c.args.place is)
