use Rattle.std.proofs.Common.{refl, sym, ◌∙◌}
use Rattle.ua_monitored_items.specs.Item.{gave}
use Rattle.ua_monitored_items.specs.ItemTables.{item_at}
use Rattle.ua_monitored_items.specs.Items.{nat_least, nothing_taken}
use Rattle.ua_monitored_items.specs.Taking.{waiting_at}
use Rattle.ua_monitored_items.proofs.Counting.{can_count, counts_changed, taken_is}
use Rattle.ua_monitored_items.proofs.counted_items.CountedItems.send_from.Goals as goal

pub count-requires : goal.count-requires
count-requires c =
    let items = c.self.inside.items in
    can_count c.self.inside.counts items c.self.invariant c.args.number (gave (nat_least c.args.left (waiting_at (item_at c.args.number items))))
    c.in-Some.recount (sym c.in-Some.is ∙ c.send_at-wanted.ensures.recount) c.len-most.result c.len-most.ensures.count

pub invariant_of-self : goal.invariant_of-self
invariant_of-self c =
    let items = c.self.inside.items in
    counts_changed c.self.inside.counts items c.self.invariant c.args.number (gave (nat_least c.args.left (waiting_at (item_at c.args.number items))))
    c.in-Some.recount (sym c.in-Some.is ∙ c.send_at-wanted.ensures.recount) (λ item. refl)
    c.send_at-wanted.new.items (c.send_at-wanted.ensures.items ∙ taken_is (nothing_taken items c.args.left) c.args.number) c.count.new.counts c.count.ensures
