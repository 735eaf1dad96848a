use Rattle.ua_transport.proofs.FeedingLemmas.{feeding-cut}
use Rattle.ua_transport.proofs.laws.any_cut.Goals as goal

pub returns : goal.returns
returns c = feeding-cut
