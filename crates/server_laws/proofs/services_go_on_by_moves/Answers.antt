use Rattle.server_laws.proofs.MovingLemmas.{serving_on, ticking_on, forgotten_on}
use Rattle.server_laws.proofs.services_go_on_by_moves.Goals as goal

pub returns : goal.returns
returns c = record { serves = serving_on; ticks = ticking_on; forgets = forgotten_on }
