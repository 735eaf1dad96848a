use Rattle.subscription_laws.proofs.RowSteady.{stays_steady}
use Rattle.subscription_laws.proofs.rows_keep_subscriptions_steady.Goals as goal

pub returns : goal.returns
returns c = stays_steady
