use Rattle.server_core.proofs.ApartLemmas.{fed_apart}
use Rattle.server_core.proofs.laws.keeps_other_connections.Goals as goal

pub returns : goal.returns
returns c = fed_apart
