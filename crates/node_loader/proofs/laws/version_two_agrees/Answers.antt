use Rattle.node_loader.proofs.Kept.{version_two_agrees}
use Rattle.node_loader.proofs.laws.version_two_agrees.Goals as goal

pub returns : goal.returns
returns c = version_two_agrees
