use Rattle.subscription_laws.proofs.RequestCounts.{answered_once}
use Rattle.subscription_laws.proofs.requests_are_answered_once.Goals as goal

pub returns : goal.returns
returns c = answered_once
