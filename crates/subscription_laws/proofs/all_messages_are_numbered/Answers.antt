use Rattle.subscription_laws.proofs.RunMessages.{messages_numbered, messages_live, messages_kept, messages_given_again, messages_noted}
use Rattle.subscription_laws.proofs.all_messages_are_numbered.Goals as goal

pub returns : goal.returns
returns c = record { numbered = messages_numbered; live = messages_live; kept = messages_kept; republished = messages_given_again; notes = messages_noted }
