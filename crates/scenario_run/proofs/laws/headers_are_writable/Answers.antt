use Rattle.scenario_run.proofs.CountLemmas.{assembled_counted, nothing_counted}
use Rattle.scenario_run.proofs.laws.headers_are_writable.Goals as goal

pub returns : goal.returns
returns c = record { first = nothing_counted; next = assembled_counted }
