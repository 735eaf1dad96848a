use Rattle.std.specs.BTreeMap as tree
use Rattle.std.specs.Ordering.{nat_cmp}
use Rattle.ua_monitored_items.specs.Counts.{counts_with}
use Rattle.ua_monitored_items.proofs.Counting.{counts_alike}
use Rattle.ua_monitored_items.proofs.counted_items.CountedItems.give.Goals as goal

pub give_all-given-requires : goal.give_all-given-requires
give_all-given-requires c =
    counts_alike (tree.get nat_cmp c.self.inside.counts) (counts_with c.self.inside.counts c.of-tally.result) c.self.inside.items c.of-tally.ensures c.self.invariant

pub invariant_of-self : goal.invariant_of-self
invariant_of-self c =
    counts_alike (counts_with c.give_all-given.new.counts c.give_all-given.new.tally) (tree.get nat_cmp c.put_back.new.counts) c.give_all-given.new.items c.put_back.ensures c.give_all-given.ensures.counts
