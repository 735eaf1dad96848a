use Rattle.subscription_laws.proofs.Reached.{none_skipped}
use Rattle.subscription_laws.proofs.no_keep_alive_is_skipped.Goals as goal

pub returns : goal.returns
returns c = none_skipped
