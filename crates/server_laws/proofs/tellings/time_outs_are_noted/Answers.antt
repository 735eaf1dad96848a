use Rattle.server_laws.proofs.NotingLemmas.{time_outs_noted}
use Rattle.server_laws.proofs.tellings.time_outs_are_noted.Goals as goal

pub returns : goal.returns
returns c = time_outs_noted
