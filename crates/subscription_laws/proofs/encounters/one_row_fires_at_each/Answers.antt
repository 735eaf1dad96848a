use Rattle.subscription_laws.proofs.CallRows.{one_row_each}
use Rattle.subscription_laws.proofs.encounters.one_row_fires_at_each.Goals as goal

pub returns : goal.returns
returns c = one_row_each
