use Rattle.ua_monitored_items.proofs.Apart.{subscriptions_stay_apart}
use Rattle.ua_monitored_items.proofs.laws.subscriptions_stay_apart.Goals as goal

pub returns : goal.returns
returns c = subscriptions_stay_apart
