use Rattle.server_core.proofs.CutLemmas.{fed-cut}
use Rattle.server_core.proofs.laws.any_cut.Goals as goal

pub returns : goal.returns
returns c = fed-cut
