use Rattle.value_store.proofs.Texts.{adds_are}
use Rattle.value_store.proofs.adds_are_understood.Goals as goal

pub returns : goal.returns
returns c = adds_are
