use Rattle.subscription_laws.proofs.TellingRuns.{numbers_follow}
use Rattle.subscription_laws.proofs.tellings.keep_alives_are_numbered.Goals as goal

pub returns : goal.returns
returns c = numbers_follow
