-- The end of a subscription's items, one by one.
use Rattle.std.proofs.Common.{◌≡◌, ℕ, ◌+◌, arith, List, [], ◌∷◌, length, Option, Some, None, true, refl, sym, ap, ◌∙◌}
use Rattle.std.specs.BTreeMap.{is_at}
use Rattle.std.specs.Map.{remove_entry}
use Rattle.std.specs.Ordering.{nat_cmp}
use Rattle.std.specs.Set.{remove_key}
use Rattle.std.specs.Prelude.{IfSome}
use Rattle.std.specs.Cmp.{nat_cmp_total, eq_by_cmp_equiv}
use Rattle.ua_monitored_items.specs.ItemTables.{NumberedItems, numbers_of, is_of, IsOwn, AreRising, TableState}
use Rattle.ua_monitored_items.specs.Items.{without_all, first_number}
use Rattle.ua_monitored_items.proofs.Tables.{where_removed, others_stay, first_found}

pub none_if_short : (ns : List ℕ) → length ns ≡ 0 → ns ≡ []
none_if_short [] e = refl
none_if_short (n ∷ ns) e = absurd (omega (arith, e))

shorter : (ns : List ℕ) (number : ℕ) → first_number ns ≡ Some number → length (remove_key (is_at (nat_cmp number)) ns) + 1 ≡ length ns
shorter [] number first = absurd cc
shorter (n ∷ ns) number first =
    let is : n ≡ number = cc in
    let equal : is_at (nat_cmp number) n ≡ true = ap (is_at (nat_cmp number)) is ∙ (eq_by_cmp_equiv nat_cmp_total).refl number in
    rw equal (omega arith)

-- one item of a subscription is taken out
pub one_less : (subscription number : ℕ) (items : NumberedItems) → first_number (numbers_of subscription items) ≡ Some number → IsOwn subscription number items
    → length (numbers_of subscription (remove_entry (is_at (nat_cmp number)) items)) + 1 ≡ length (numbers_of subscription items)
one_less subscription number items first (item, found, own) =
    ap (λ (ns : List ℕ). length ns + 1) (where_removed (is_of subscription) number item own items found) ∙ shorter (numbers_of subscription items) number first

pub others_left : (subscription number : ℕ) (items : NumberedItems) → IsOwn subscription number items → without_all subscription (remove_entry (is_at (nat_cmp number)) items) ≡ without_all subscription items
others_left subscription number items (item, found, own) = others_stay subscription number items item found own

none_there : (ns : List ℕ) → first_number ns ≡ None → length ns ≡ 0
none_there [] none = refl
none_there (n ∷ ns) none = absurd cc

pub none_if_first : (subscription : ℕ) (items : NumberedItems) → first_number (numbers_of subscription items) ≡ None → length (numbers_of subscription items) ≡ 0
none_if_first subscription items none = none_there (numbers_of subscription items) none

pub whole : (t : TableState) (made : ℕ) (items : NumberedItems) → t.made ≡ made → t.items ≡ items → t ≡ record { made = made; items = items }
whole t made items e f = rw (e, f) refl

pub own_if : (subscription : ℕ) (items : NumberedItems) → AreRising items → (r : Option ℕ) → r ≡ first_number (numbers_of subscription items) → IfSome r (λ number. IsOwn subscription number items)
own_if subscription items rising None e = tt
own_if subscription items rising (Some number) e = first_found (is_of subscription) items rising number (sym e)
