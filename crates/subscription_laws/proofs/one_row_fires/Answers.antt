use Rattle.subscription_laws.proofs.RowSteady.{one_row_fires}
use Rattle.subscription_laws.proofs.one_row_fires.Goals as goal

pub returns : goal.returns
returns c = one_row_fires
