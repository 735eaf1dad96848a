use Rattle.store_restoring.proofs.Ids.{keys_stay}
use Rattle.store_restoring.proofs.opened.Opened.close.Goals as goal

pub returns-clause-ids : goal.returns-clause-ids
returns-clause-ids c = rw c.put_history.ensures.nodes (keys_stay c.from_vec.result c.args.space.now.nodes c.self.inside.place)
