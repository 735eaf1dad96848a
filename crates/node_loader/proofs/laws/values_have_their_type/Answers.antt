use Rattle.node_loader.proofs.Typed.{ranked_typed}
use Rattle.node_loader.proofs.laws.values_have_their_type.Goals as goal

pub returns : goal.returns
returns c = ranked_typed
