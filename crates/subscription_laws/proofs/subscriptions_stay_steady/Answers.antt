use Rattle.subscription_laws.proofs.Reached.{all_steady}
use Rattle.subscription_laws.proofs.subscriptions_stay_steady.Goals as goal

pub returns : goal.returns
returns c = all_steady
