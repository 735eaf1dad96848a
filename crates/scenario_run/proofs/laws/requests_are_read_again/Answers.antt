use Rattle.scenario_run.proofs.ReadLemmas.{request_read}
use Rattle.scenario_run.proofs.laws.requests_are_read_again.Goals as goal

pub returns : goal.returns
returns c = request_read
