use Rattle.subscription_laws.proofs.Others.{requests_stay_apart}
use Rattle.subscription_laws.proofs.sessions_stay_apart.Goals as goal

pub returns : goal.returns
returns c = requests_stay_apart
