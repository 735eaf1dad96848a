use Rattle.ua_transport.proofs.FeedingLemmas.{feeding-pieces}
use Rattle.ua_transport.proofs.laws.any_pieces.Goals as goal

pub returns : goal.returns
returns c = feeding-pieces
