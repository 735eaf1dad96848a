use Rattle.ua_space.proofs.Emptying.{keys_left}
use Rattle.ua_space.proofs.node_table.NodeTable.put_history.Goals as goal

pub invariant_of-self : goal.invariant_of-self
invariant_of-self c = rw (c.put_in.ensures, keys_left c.args.values c.self.inside.entries.items c.args.place) c.self.invariant
