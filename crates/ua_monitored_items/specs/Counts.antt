-- How many of each subscription's items have a value to send.
use Rattle.std.specs.Prelude.{◌≡◌, ◌≤◌, ℕ, ◌+◌, ◌-◌, ◌==◌, ◌&&◌, Bool, true, false, nat_lt, [], ◌∷◌, Option, Some, None, if◌then◌else◌}
use Rattle.std.specs.BTreeMap as tree
use Rattle.std.specs.BTreeMap.{BTreeMap}
use Rattle.std.specs.Option.{option_map}
use Rattle.std.specs.Ordering.{nat_cmp}
use Rattle.ua_monitored_items.specs.Item.{waiting_in}
use Rattle.ua_monitored_items.specs.ItemTables.{NumberedItems, is_of, numbers_of}
use Rattle.ua_monitored_items.specs.declared.item.Item.{Item}
use Rattle.ua_monitored_items.specs.declared.tally.Recount.{Recount}
use Rattle.ua_monitored_items.specs.declared.tally.Tally.{Tally}

-- an item has a value to send
abbrev pub has_value : Item → Bool
has_value item = nat_lt 0 (waiting_in item)

abbrev pub one_if : Bool → ℕ
one_if true = 1
one_if false = 0

-- how many of a subscription's items have one
abbrev pub with_value : ℕ → NumberedItems → ℕ
with_value q [] = 0
with_value q (e ∷ es) = one_if (is_of q e.1 && has_value e.1) + with_value q es

-- each count is that of its subscription, and one without a count has no item
abbrev pub IsCountOf : ℕ → NumberedItems → Option ℕ → Type 0
IsCountOf q items None = numbers_of q items ≡ []
IsCountOf q items (Some n) = n ≡ with_value q items

abbrev pub AreCountsBy : (ℕ → Option ℕ) → NumberedItems → Type 0
AreCountsBy count items = (q : ℕ) → IsCountOf q items (count q)

abbrev pub AreCounts : BTreeMap ℕ ℕ → NumberedItems → Type 0
AreCounts counts items = AreCountsBy (tree.get nat_cmp counts) items

-- ---- what a change of an item does to the counts

abbrev pub recount_by : (Item → Item) → Option Item → Option Recount
recount_by change None = None
recount_by change (Some item) = Some (record { subscription = item.subscription; had = has_value item; has = has_value (change item) })

abbrev pub count_after : Recount → ℕ → ℕ
count_after recount n = (n + one_if recount.has) - one_if recount.had

abbrev pub AreRecountedBy : (ℕ → Option ℕ) → (ℕ → Option ℕ) → Recount → Type 0
AreRecountedBy old new recount = (q : ℕ) → new q ≡ (if recount.subscription == q then option_map (count_after recount) (old q) else old q)

abbrev pub AreRecounted : BTreeMap ℕ ℕ → BTreeMap ℕ ℕ → Recount → Type 0
AreRecounted old new recount = AreRecountedBy (tree.get nat_cmp old) (tree.get nat_cmp new) recount

-- a count is neither below none nor above that number
abbrev pub CanCountBy : (ℕ → Option ℕ) → Recount → ℕ → Type 0
CanCountBy count recount most = (n : ℕ) → count recount.subscription ≡ Some n → (one_if recount.had ≤ n) × (n + one_if recount.has ≤ most + one_if recount.had)

abbrev pub CanCount : BTreeMap ℕ ℕ → Recount → ℕ → Type 0
CanCount counts recount most = CanCountBy (tree.get nat_cmp counts) recount most

abbrev pub or_zero : Option ℕ → ℕ
or_zero None = 0
or_zero (Some n) = n

-- a subscription has a count; and each has what it had
abbrev pub AreHeld : BTreeMap ℕ ℕ → BTreeMap ℕ ℕ → ℕ → Type 0
AreHeld old new subscription = (q : ℕ) → tree.get nat_cmp new q ≡ (if subscription == q then Some (or_zero (tree.get nat_cmp old q)) else tree.get nat_cmp old q)

abbrev pub AreSame : BTreeMap ℕ ℕ → BTreeMap ℕ ℕ → Type 0
AreSame old new = (q : ℕ) → tree.get nat_cmp new q ≡ tree.get nat_cmp old q

-- ---- the count of one subscription, kept beside the others

-- this count in the place of one that there is
abbrev pub in_place : ℕ → Option ℕ → Option ℕ
in_place count None = None
in_place count (Some n) = Some count

abbrev pub counts_with : BTreeMap ℕ ℕ → Tally → ℕ → Option ℕ
counts_with counts tally q = if tally.subscription == q then in_place tally.waiting (tree.get nat_cmp counts q) else tree.get nat_cmp counts q
