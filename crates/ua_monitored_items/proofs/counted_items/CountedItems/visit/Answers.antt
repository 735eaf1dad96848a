use Rattle.std.proofs.Common.{sym, ◌∙◌}
use Rattle.ua_monitored_items.specs.Item.{seen}
use Rattle.ua_monitored_items.proofs.Counting.{can_count, counts_changed}
use Rattle.ua_monitored_items.proofs.Tables.{there_seen}
use Rattle.ua_monitored_items.proofs.counted_items.CountedItems.visit.Goals as goal

pub count-requires : goal.count-requires
count-requires c =
    can_count c.self.inside.counts c.self.inside.items c.self.invariant c.args.number (seen c.args.value.now)
    c.in-Some.recount (sym c.in-Some.is ∙ c.in_ok-recount.ensures.recount) c.len-most.result c.len-most.ensures.count

pub invariant_of-self-in-Some : goal.invariant_of-self-in-Some
invariant_of-self-in-Some c =
    counts_changed c.self.inside.counts c.self.inside.items c.self.invariant c.args.number (seen c.args.value.now)
    c.in-Some.recount (sym c.in-Some.is ∙ c.in_ok-recount.ensures.recount) (λ item. (there_seen c.args.value.now item).subscription)
    c.visit_at.new.items c.in_ok-recount.ensures.ok c.count.new.counts c.count.ensures
