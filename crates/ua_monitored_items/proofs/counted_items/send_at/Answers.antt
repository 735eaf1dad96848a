use Rattle.std.proofs.Common.{◌≡◌, ℕ, ap, rules, sym, ◌∙◌}
use Rattle.collections.proofs.NumberMaps.{lent_found}
use Rattle.ua_monitored_items.specs.Item.{gave, waiting_in}
use Rattle.ua_monitored_items.specs.ItemTables.{item_at}
use Rattle.ua_monitored_items.specs.Items.{nat_least, taken_from, nothing_taken}
use Rattle.ua_monitored_items.proofs.Edits.{changed_there}
use Rattle.ua_monitored_items.proofs.counted_items.send_at.Goals as goal

pub returns-clause-items : goal.returns-clause-items
returns-clause-items c =
    let items = c.args.items.now in
    let number = c.args.number in
    let count : c.min-count.result ≡ nat_least c.args.left (waiting_in c.in-Some.item.now) = search rules in
    changed_there number (gave (nat_least c.args.left (waiting_in c.in-Some.item.now))) items (c.get_mut.follows.lender c.send.new.self) c.get_mut.result c.in-Some.item c.send.new.self
    c.in-Some.is c.get_mut.ensures.value (c.get_mut.follows.holds c.send.new.self) (c.send.ensures ∙ ap (λ (n : ℕ). gave n c.in-Some.item.now) count)
    ∙ sym (ap (λ found. (taken_from (nothing_taken items c.args.left) number found).items) (lent_found c.get_mut.result (item_at number items) c.in-Some.item c.in-Some.is c.get_mut.ensures.value))
