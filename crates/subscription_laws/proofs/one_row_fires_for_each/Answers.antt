use Rattle.subscription_laws.proofs.Concerned.{one_told, one_row_for_each}
use Rattle.subscription_laws.specs.Runs.{run}
use Rattle.subscription_laws.proofs.one_row_fires_for_each.Goals as goal

pub returns : goal.returns
returns c = record {
  step = λ config moves move. one_told (run config moves) move;
  all = one_row_for_each;
}
