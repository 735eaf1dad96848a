use Rattle.server_core.proofs.CoherentLemmas.{reached_fits}
use Rattle.server_core.proofs.laws.faults_fit.Goals as goal

pub returns : goal.returns
returns c = reached_fits
