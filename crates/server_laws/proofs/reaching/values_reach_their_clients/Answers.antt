use Rattle.server_laws.proofs.ReachingLemmas.{values_have_come}
use Rattle.server_laws.proofs.reaching.values_reach_their_clients.Goals as goal

pub returns : goal.returns
returns c = values_have_come
