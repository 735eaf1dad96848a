use Rattle.ua_transport.proofs.EncodedLemmas.{split_read}
use Rattle.ua_transport.proofs.laws.reads_what_is_encoded.Goals as goal

pub returns : goal.returns
returns c = split_read
