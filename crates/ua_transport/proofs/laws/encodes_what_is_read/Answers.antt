use Rattle.ua_transport.proofs.DecodedLemmas.{read_split}
use Rattle.ua_transport.proofs.laws.encodes_what_is_read.Goals as goal

pub returns : goal.returns
returns c = read_split
