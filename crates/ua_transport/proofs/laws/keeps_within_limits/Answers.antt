use Rattle.ua_transport.proofs.LimitLemmas.{kept_within}
use Rattle.ua_transport.proofs.laws.keeps_within_limits.Goals as goal

pub returns : goal.returns
returns c = kept_within
