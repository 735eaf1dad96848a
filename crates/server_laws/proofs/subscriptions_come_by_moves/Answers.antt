use Rattle.server_laws.proofs.TableLemmas.{comes_by_moves}
use Rattle.server_laws.proofs.subscriptions_come_by_moves.Goals as goal

pub returns : goal.returns
returns c = comes_by_moves
