use Rattle.std.proofs.Common.{ap, sym}
use Rattle.std.specs.Prelude.{nat_lt}
use Rattle.ua_monitored_items.proofs.Counting.{can_count_less, counts_removed}
use Rattle.ua_monitored_items.proofs.counted_items.CountedItems.remove.Goals as goal

pub count-requires : goal.count-requires
count-requires c =
    can_count_less c.self.inside.counts c.self.inside.items c.self.invariant c.args.number c.in_ok-item.item (sym c.in_ok-item.ensures.value) (nat_lt 0 c.waiting.result) (ap (nat_lt 0) c.waiting.ensures)
    c.len-most.result c.len-most.ensures.count

pub invariant_of-self-2 : goal.invariant_of-self-2
invariant_of-self-2 c =
    counts_removed c.self.inside.counts c.self.inside.items c.self.invariant c.args.number c.in_ok-item.item (sym c.in_ok-item.ensures.value) (nat_lt 0 c.waiting.result) (ap (nat_lt 0) c.waiting.ensures)
    c.remove.new.self c.remove.ensures.entries c.count.new.counts c.count.ensures
