use Rattle.value_store.proofs.Texts.{tables_are}
use Rattle.value_store.proofs.tables_are_understood.Goals as goal

pub returns : goal.returns
returns c = tables_are
