use Rattle.server_laws.proofs.ClockLemmas.{has_one_clock, keeps_its_configuration}
use Rattle.server_laws.proofs.bounds.clocks_are_one.Goals as goal

pub returns : goal.returns
returns c = record { clock = has_one_clock; configuration = keeps_its_configuration }
