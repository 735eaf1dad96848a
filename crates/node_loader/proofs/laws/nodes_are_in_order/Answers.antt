use Rattle.node_loader.proofs.Ordering.{nodes_in_order}
use Rattle.node_loader.proofs.laws.nodes_are_in_order.Goals as goal

pub returns : goal.returns
returns c = nodes_in_order
