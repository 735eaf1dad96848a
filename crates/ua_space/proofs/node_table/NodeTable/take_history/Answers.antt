use Rattle.std.proofs.Common.{[]}
use Rattle.ua_space.proofs.Emptying.{keys_left}
use Rattle.ua_space.proofs.node_table.NodeTable.take_history.Goals as goal

pub invariant_of-self : goal.invariant_of-self
invariant_of-self c = rw (c.take_in.ensures.left, keys_left [] c.self.inside.entries.items c.args.place) c.self.invariant
