use Rattle.std.proofs.Common.{◌≡◌, ℕ, Option, Some, refl, ap, subst, sym, ◌∙◌}
use Rattle.std.specs.Borrow.{MutBor}
use Rattle.std.specs.Option.{option_copied_mut}
use Rattle.collections.proofs.NumberMaps.{lent_found}
use Rattle.ua_monitored_items.specs.Counts.{counts_with, recount_by, AreCountsBy}
use Rattle.ua_monitored_items.specs.Item.{gave, waiting_in}
use Rattle.ua_monitored_items.specs.ItemTables.{NumberedItems, item_at}
use Rattle.ua_monitored_items.specs.Items.{nat_least, taken_from, nothing_taken}
use Rattle.ua_monitored_items.specs.Taking.{waiting_at}
use Rattle.ua_monitored_items.specs.declared.item.Item.{Item}
use Rattle.ua_monitored_items.specs.declared.tally.Recount.{Recount}
use Rattle.ua_monitored_items.proofs.Counting.{can_count_by, counts_changed_by, taken_is}
use Rattle.ua_monitored_items.proofs.Edits.{changed_there, same_there}
use Rattle.ua_monitored_items.proofs.Serving.{on_any}
use Rattle.ua_monitored_items.proofs.taking.give_at.Goals as goal

pub returns-in_err-wanted-clause-err : goal.returns-in_err-wanted-clause-err
returns-in_err-wanted-clause-err c =
    on_any c.from_residual.result
    (same_there c.args.number c.args.items.now (c.get_mut.follows.lender c.give_some.new.item) c.get_mut.result c.in-Some.item c.give_some.new.item
    c.in-Some.is c.get_mut.ensures.value (c.get_mut.follows.holds c.give_some.new.item) c.in_err-wanted.ensures.err)

pub returns-in_err-wanted-clause-counts : goal.returns-in_err-wanted-clause-counts
returns-in_err-wanted-clause-counts c =
    subst (λ (es : NumberedItems). AreCountsBy (counts_with c.args.counts.now c.args.tally.now) es)
    (sym (same_there c.args.number c.args.items.now (c.get_mut.follows.lender c.give_some.new.item) c.get_mut.result c.in-Some.item c.give_some.new.item
    c.in-Some.is c.get_mut.ensures.value (c.get_mut.follows.holds c.give_some.new.item) c.in_err-wanted.ensures.err))
    c.requires

-- what the lent item gave is what the item of this number gives
recount_is : (items : NumberedItems) (number left : ℕ) (lent : Option (MutBor Item)) (item : MutBor Item) (recount : Recount) → lent ≡ Some item → option_copied_mut lent ≡ item_at number items
    → Some recount ≡ recount_by (gave (nat_least left (waiting_in item.now))) (Some item.now) → Some recount ≡ recount_by (gave (nat_least left (waiting_at (item_at number items)))) (item_at number items)
recount_is items number left lent item recount is found gives =
    gives ∙ sym (ap (λ (there : Option Item). recount_by (gave (nat_least left (waiting_at there))) there) (lent_found lent (item_at number items) item is found))

pub follow-requires : goal.follow-requires
follow-requires c =
    let items = c.args.items.now in
    can_count_by (counts_with c.args.counts.now c.args.tally.now) items c.requires c.args.number (gave (nat_least c.args.left (waiting_at (item_at c.args.number items))))
    c.in_ok-wanted.recount (recount_is items c.args.number c.args.left c.get_mut.result c.in-Some.item c.in_ok-wanted.recount c.in-Some.is c.get_mut.ensures.value c.in_ok-wanted.ensures.recount)
    c.len-most.result c.len-most.ensures.count

pub returns-clause-items : goal.returns-clause-items
returns-clause-items c =
    let items = c.args.items.now in
    let number = c.args.number in
    changed_there number (gave (nat_least c.args.left (waiting_in c.in-Some.item.now))) items (c.get_mut.follows.lender c.give_some.new.item) c.get_mut.result c.in-Some.item c.give_some.new.item
    c.in-Some.is c.get_mut.ensures.value (c.get_mut.follows.holds c.give_some.new.item) c.in_ok-wanted.ensures.item
    ∙ sym (ap (λ found. (taken_from (nothing_taken items c.args.left) number found).items) (lent_found c.get_mut.result (item_at number items) c.in-Some.item c.in-Some.is c.get_mut.ensures.value))

pub returns-clause-counts : goal.returns-clause-counts
returns-clause-counts c =
    let items = c.args.items.now in
    counts_changed_by (counts_with c.args.counts.now c.args.tally.now) items c.requires c.args.number (gave (nat_least c.args.left (waiting_at (item_at c.args.number items))))
    c.in_ok-wanted.recount (recount_is items c.args.number c.args.left c.get_mut.result c.in-Some.item c.in_ok-wanted.recount c.in-Some.is c.get_mut.ensures.value c.in_ok-wanted.ensures.recount)
    (λ item. refl) (c.get_mut.follows.lender c.give_some.new.item) (returns-clause-items c ∙ taken_is (nothing_taken items c.args.left) c.args.number)
    (counts_with c.follow.new.counts c.follow.new.self) c.follow.ensures
