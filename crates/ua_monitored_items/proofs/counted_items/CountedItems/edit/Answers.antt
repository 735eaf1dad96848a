use Rattle.ua_monitored_items.specs.Editing.{edited}
use Rattle.ua_monitored_items.proofs.Counting.{can_count, counts_changed}
use Rattle.ua_monitored_items.proofs.Editing.{there_edited}
use Rattle.ua_monitored_items.proofs.counted_items.CountedItems.edit.Goals as goal

pub count-requires : goal.count-requires
count-requires c =
    can_count c.self.inside.counts c.self.inside.items c.self.invariant c.args.number (edited c.args.edit)
    c.in-Some.recount c.in-Some.ensures.recount c.len-most.result c.len-most.ensures.count

pub invariant_of-self : goal.invariant_of-self
invariant_of-self c =
    counts_changed c.self.inside.counts c.self.inside.items c.self.invariant c.args.number (edited c.args.edit)
    c.in-Some.recount c.in-Some.ensures.recount (λ item. (there_edited c.args.edit item).subscription)
    c.edit_at.new.items c.in-Some.ensures.items c.count.new.counts c.count.ensures
