use Rattle.subscription_laws.proofs.Reached.{none_beside}
use Rattle.subscription_laws.proofs.none_waits_beside_a_request.Goals as goal

pub returns : goal.returns
returns c = none_beside
