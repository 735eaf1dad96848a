use Rattle.std.proofs.Common.{refl, ap, subst, sym, ◌∙◌}
use Rattle.std.specs.Prelude.{nat_lt}
use Rattle.ua_monitored_items.specs.ItemTables.{item_at}
use Rattle.ua_monitored_items.specs.Counts.{AreCounts}
use Rattle.ua_monitored_items.proofs.Counting.{held_counts, can_count_more, counts_put}
use Rattle.ua_monitored_items.proofs.counted_items.CountedItems.insert.Goals as goal

pub invariant_of-self-in_err-insert : goal.invariant_of-self-in_err-insert
invariant_of-self-in_err-insert c =
    subst (AreCounts c.hold.new.counts) (sym c.in_err-insert.ensures.err) (held_counts c.self.inside.counts c.self.inside.items c.self.invariant c.args.item.subscription c.hold.new.counts c.in-Ok.ensures.ok)

pub count-requires : goal.count-requires
count-requires c =
    can_count_more c.self.inside.counts c.self.inside.items c.self.invariant c.args.item.subscription c.hold.new.counts c.in-Ok.ensures.ok c.args.number c.args.item refl (nat_lt 0 c.waiting.result) (ap (nat_lt 0) c.waiting.ensures)
    (ap (item_at c.args.number) c.self.view_is ∙ c.requires) c.insert.new.self c.in_ok-insert.ensures.ok c.len.result c.len.ensures.count

pub invariant_of-self-2 : goal.invariant_of-self-2
invariant_of-self-2 c =
    counts_put c.self.inside.counts c.self.inside.items c.self.invariant c.args.item.subscription c.hold.new.counts c.in-Ok.ensures.ok c.args.number c.args.item refl (nat_lt 0 c.waiting.result) (ap (nat_lt 0) c.waiting.ensures)
    (ap (item_at c.args.number) c.self.view_is ∙ c.requires) c.insert.new.self c.in_ok-insert.ensures.ok c.count.new.counts c.count.ensures
