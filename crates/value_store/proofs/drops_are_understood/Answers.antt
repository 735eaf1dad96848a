use Rattle.value_store.proofs.Texts.{drops_are}
use Rattle.value_store.proofs.drops_are_understood.Goals as goal

pub returns : goal.returns
returns c = drops_are
