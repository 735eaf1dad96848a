use Rattle.value_store.proofs.Texts.{renewals_are}
use Rattle.value_store.proofs.renewals_are_understood.Goals as goal

pub returns : goal.returns
returns c = renewals_are
