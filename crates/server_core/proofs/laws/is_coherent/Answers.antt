use Rattle.server_core.proofs.CoherentLemmas.{reached_right}
use Rattle.server_core.proofs.laws.is_coherent.Goals as goal

pub returns : goal.returns
returns c = λ config space events configured. (reached_right config space events configured).0
