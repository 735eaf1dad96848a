use Rattle.std.proofs.Common.{◌≡◌, ℕ, ap, sym, subst, ◌∙◌}
use Rattle.std.specs.Prelude.{nat_lt}
use Rattle.ua_monitored_items.specs.Counts.{IsCountOf, with_value}
use Rattle.ua_monitored_items.specs.ItemTables.{numbers_of}
use Rattle.ua_monitored_items.specs.Items.{any_waits}
use Rattle.ua_monitored_items.proofs.Counting.{any_value}
use Rattle.ua_monitored_items.proofs.counted_items.CountedItems.has_value.Goals as goal

pub returns-in-Some : goal.returns-in-Some
returns-in-Some c =
    let q = c.subscription.inside.0 in
    let state = c.args.self.now in
    let items = c.self.inside.items in
    let counted : c.in-Some.count.now ≡ with_value q items = subst (IsCountOf q items) (sym c.in-Some.ensures.value) (c.self.invariant q) in
    ap (nat_lt 0) (counted ∙ ap (with_value q) c.self.view_is) ∙ any_value q state c.requires ∙ ap (λ (n : ℕ). any_waits state (numbers_of n state)) c.subscription.view_is
