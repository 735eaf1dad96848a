use Rattle.std.proofs.Common.{Result, subst}
use Rattle.std.specs.BTreeMap.{BTreeMap}
use Rattle.ua_types.specs.Answers.{GivesAs}
use Rattle.ua_types.specs.declared.node_id.NodeId.{NodeId}
use Rattle.ua_space.specs.declared.node.Node.{Node}
use Rattle.ua_space.specs.declared.fault.SpaceFault.{SpaceFault}
use Rattle.ua_space.specs.declared.fault.SpaceFault.TheVariants.{Memory}
use Rattle.ua_space.specs.Nodes.{Nodes}
use Rattle.ua_space.proofs.Building.{base_fails, base_stands}
use Rattle.ua_space.proofs.build.all_named.Goals as goal

pub returns-in-Err : goal.returns-in-Err
returns-in-Err c = λ other. base_fails c.args.base.items c.args.nodes.items c.new.result.entries c.in-Err.fault c.new.ensures.empty (c.in-Err.ensures other)

pub returns-in-Ok : goal.returns-in-Ok
returns-in-Ok c =
    let P : Result Nodes SpaceFault → Type 0 = GivesAs Memory (λ (m : BTreeMap NodeId Node). m.entries) c.named-in-Ok.result in
    subst P (base_stands c.args.base.items c.args.nodes.items c.new.result.entries c.in-Ok.known.entries c.new.ensures.empty c.in-Ok.ensures) c.named-in-Ok.ensures
