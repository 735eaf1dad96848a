use Rattle.ua_space.proofs.Searching.{keys_kept}
use Rattle.ua_space.proofs.node_table.NodeTable.set_value_in.Goals as goal

pub invariant_of-self : goal.invariant_of-self
invariant_of-self c = rw (c.set_in.ensures, keys_kept c.self.inside.entries.items c.args.place c.args.value) c.self.invariant
