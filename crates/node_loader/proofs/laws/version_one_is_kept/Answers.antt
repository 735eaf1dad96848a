use Rattle.node_loader.proofs.Kept.{version_one_kept}
use Rattle.node_loader.proofs.laws.version_one_is_kept.Goals as goal

pub returns : goal.returns
returns c = version_one_kept
