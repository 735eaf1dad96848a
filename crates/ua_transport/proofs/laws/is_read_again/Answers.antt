use Rattle.ua_transport.proofs.ReadAgainLemmas.{message_read}
use Rattle.ua_transport.proofs.laws.is_read_again.Goals as goal

pub returns : goal.returns
returns c = message_read
