use Rattle.server_laws.proofs.BoundLemmas.{few_subscriptions_kept}
use Rattle.server_laws.proofs.FewLemmas.{sessions_few, points_few, histories_few}
use Rattle.server_laws.proofs.bounds.bounds_hold.Goals as goal

pub returns : goal.returns
returns c = record { subscriptions = few_subscriptions_kept; sessions = sessions_few; points = points_few; histories = histories_few }
