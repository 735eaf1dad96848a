use Rattle.server_core.proofs.RecutLemmas.{recut_same}
use Rattle.server_core.proofs.laws.any_recut.Goals as goal

pub returns : goal.returns
returns c = recut_same
