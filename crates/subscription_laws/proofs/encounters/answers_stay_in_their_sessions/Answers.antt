use Rattle.subscription_laws.proofs.OwnAnswers.{answers_are_own}
use Rattle.subscription_laws.proofs.encounters.answers_stay_in_their_sessions.Goals as goal

pub returns : goal.returns
returns c = answers_are_own
