use Rattle.ua_transport.proofs.FittingLemmas.{opening_fits}
use Rattle.ua_transport.proofs.laws.small_openings_fit.Goals as goal

pub returns : goal.returns
returns c = opening_fits
