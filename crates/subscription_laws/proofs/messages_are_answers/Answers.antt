use Rattle.subscription_laws.proofs.TellingRuns.{messages_brought}
use Rattle.subscription_laws.proofs.messages_are_answers.Goals as goal

pub returns : goal.returns
returns c = messages_brought
