use Rattle.subscription_laws.proofs.TellingRuns.{all_are_told, messages_told}
use Rattle.subscription_laws.proofs.tellings.answers_are_told.Goals as goal

pub returns : goal.returns
returns c = record { answers = all_are_told; messages = messages_told }
