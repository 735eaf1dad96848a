use Rattle.server_core.proofs.AlikeLemmas.{fed_alike}
use Rattle.server_core.proofs.laws.hears_its_own_stream.Goals as goal

pub returns-clause-worlds : goal.returns-clause-worlds
returns-clause-worlds c = λ a b conn bytes p. (fed_alike a b conn bytes p).0

pub returns-clause-effects : goal.returns-clause-effects
returns-clause-effects c = λ a b conn bytes p. (fed_alike a b conn bytes p).1
