-- A value in the place of itself, and an item that was changed where it stands.
use Rattle.std.proofs.Common.{◌≡◌, ℕ, Bool, true, false, cond, List, [], ◌∷◌, Option, Some, refl, ap, sym, ◌∙◌}
use Rattle.std.specs.Borrow.{MutBor}
use Rattle.std.specs.BTreeMap.{is_at}
use Rattle.std.specs.Map.{lookup, set_value}
use Rattle.std.specs.Option.{OnSome, option_copied_mut}
use Rattle.std.specs.Ordering.{nat_cmp}
use Rattle.collections.proofs.NumberMaps.{lent_found, given_back}
use Rattle.ua_monitored_items.specs.ItemTables.{NumberedItems, item_at, with_found, with_item}
use Rattle.ua_monitored_items.specs.declared.item.Item.{Item}

module _ {K X : Type 0} (test : K → Bool) where
  pub set_same : (es : List (K × X)) (v : X) → lookup test es ≡ Some v → set_value test es v ≡ es
  set_same [] v found = refl
  set_same (e ∷ es) v found = by (test e.0) found (set_same es v)
    where
      by : (b : Bool) → cond b (Some e.1) (lookup test es) ≡ Some v → (lookup test es ≡ Some v → set_value test es v ≡ es)
          → cond b ((e.0, v) ∷ es) (e ∷ set_value test es v) ≡ e ∷ es
      by true here rest = ap (λ (w : X). (e.0, w) ∷ es) (let is : v ≡ e.1 = cc in is)
      by false here rest = ap (λ (fs : List (K × X)). e ∷ fs) (rest here)

-- an item that was lent, and is given back as the change leaves it
pub changed_there : (number : ℕ) (change : Item → Item) (items after : NumberedItems) (lent : Option (MutBor Item)) (item : MutBor Item) (left : Item) → lent ≡ Some item
    → option_copied_mut lent ≡ item_at number items → OnSome lent (after ≡ set_value (is_at (nat_cmp number)) items left) → left ≡ change item.now → after ≡ with_item number change items
changed_there number change items after lent item left is found wrote made =
    given_back (after ≡ set_value (is_at (nat_cmp number)) items left) lent item is wrote
    ∙ ap (set_value (is_at (nat_cmp number)) items) made
    ∙ sym (ap (with_found number change items) (lent_found lent (item_at number items) item is found))

-- one that is given back as it was
pub same_there : (number : ℕ) (items after : NumberedItems) (lent : Option (MutBor Item)) (item : MutBor Item) (left : Item) → lent ≡ Some item
    → option_copied_mut lent ≡ item_at number items → OnSome lent (after ≡ set_value (is_at (nat_cmp number)) items left) → left ≡ item.now → after ≡ items
same_there number items after lent item left is found wrote same =
    given_back (after ≡ set_value (is_at (nat_cmp number)) items left) lent item is wrote
    ∙ ap (set_value (is_at (nat_cmp number)) items) same
    ∙ set_same (is_at (nat_cmp number)) items item.now (lent_found lent (item_at number items) item is found)
