use Rattle.ua_transport.proofs.FittingLemmas.{fits}
use Rattle.ua_transport.proofs.laws.small_answers_fit.Goals as goal

pub returns : goal.returns
returns c = fits
