use Rattle.ua_monitored_items.proofs.Sent.{notes_are_of_givings, givings_are_what_was_sent}
use Rattle.ua_monitored_items.proofs.laws.messages_take_what_is_sent.Goals as goal

pub returns : goal.returns
returns c = record { notes = notes_are_of_givings; sent = givings_are_what_was_sent }
