use Rattle.value_store.proofs.Texts.{reads_are}
use Rattle.value_store.proofs.reads_are_understood.Goals as goal

pub returns : goal.returns
returns c = reads_are
