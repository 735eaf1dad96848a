use Rattle.subscription_laws.proofs.MessageContentLemmas.{messages_tell_takings, takings_are_what_was_sent}
use Rattle.subscription_laws.proofs.sent_values_stand_in_messages.Goals as goal

pub returns : goal.returns
returns c = record { told = messages_tell_takings; sent = takings_are_what_was_sent }
