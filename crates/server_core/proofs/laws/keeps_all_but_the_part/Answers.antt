use Rattle.server_core.proofs.PartLemmas.{parts_keep}
use Rattle.server_core.proofs.laws.keeps_all_but_the_part.Goals as goal

pub returns-clause-world : goal.returns-clause-world
returns-clause-world c = λ world conn bytes h. (parts_keep world conn bytes h).0

pub returns-clause-effects : goal.returns-clause-effects
returns-clause-effects c = λ world conn bytes h. (parts_keep world conn bytes h).1
