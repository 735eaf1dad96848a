use Rattle.node_loader.proofs.Rising.{nodes_have_histories}
use Rattle.node_loader.proofs.laws.nodes_have_histories.Goals as goal

pub returns : goal.returns
returns c = nodes_have_histories
