use Rattle.std.proofs.Common.{◌≡◌, ℕ, ◌-◌, sym, ap, subst, ◌∙◌}
use Rattle.std.specs.BTreeMap.{is_at}
use Rattle.std.specs.Map.{remove_entry}
use Rattle.std.specs.Ordering.{nat_cmp}
use Rattle.ua_monitored_items.specs.ItemTables.{NumberedItems, TableState, IsTable}
use Rattle.ua_monitored_items.proofs.Tables.{table_back}
use Rattle.ua_monitored_items.proofs.item_table.ItemTable.take_back.Goals as goal

pub invariant_of-self : goal.invariant_of-self
invariant_of-self c =
    let t = c.self.inside in
    let u = c.self-2.inside in
    let rest : NumberedItems = remove_entry (is_at (nat_cmp t.made)) t.items in
    let is : record { made = u.made; items = u.items } ≡ record { made = t.made; items = rest } =
    c.self-2.view_is ∙ c.remove.ensures ∙ ap (λ (s : TableState). record { made = s.made; items = remove_entry (is_at (nat_cmp t.made)) s.items }) (sym c.self.view_is) in
    let items : u.items ≡ rest = ap (λ (s : TableState). s.items) is in
    let made : u.made ≡ t.made = ap (λ (s : TableState). s.made) is in
    let after : IsTable t.made rest u.of_subscription u.on_node =
    subst (λ (n : ℕ). IsTable n rest u.of_subscription u.on_node) made (subst (λ (es : NumberedItems). IsTable u.made es u.of_subscription u.on_node) items c.self-2.invariant) in
    subst (λ (es : NumberedItems). IsTable (t.made - 1) es u.of_subscription u.on_node) (sym items)
    (table_back t.made t.items t.of_subscription t.on_node c.self.invariant u.of_subscription u.on_node after)
