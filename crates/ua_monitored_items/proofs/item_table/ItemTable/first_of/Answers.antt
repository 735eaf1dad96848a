use Rattle.std.proofs.Common.{◌≡◌, subst, ap, rules}
use Rattle.std.specs.Prelude.{IfSome}
use Rattle.ua_monitored_items.specs.ItemTables.{NumberedItems, numbers_of, IsOwn}
use Rattle.ua_monitored_items.specs.Items.{first_number}
use Rattle.ua_monitored_items.proofs.Ending.{own_if}
use Rattle.ua_monitored_items.proofs.item_table.ItemTable.first_of.Goals as goal

pub returns-clause-own : goal.returns-clause-own
returns-clause-own c =
    let first : c.copied.result ≡ first_number (numbers_of c.args.subscription c.self.inside.items) = search rules in
    subst (λ (es : NumberedItems). IfSome c.copied.result (λ number. IsOwn c.args.subscription number es)) (ap (λ s. s.items) c.self.view_is)
    (own_if c.args.subscription c.self.inside.items c.self.invariant.rising c.copied.result first)
