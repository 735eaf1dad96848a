-- Items under their numbers.
use Rattle.std.specs.Prelude.{◌≡◌, ◌≤◌, ◌<◌, ⊤, ℕ, ◌==◌, ◌&&◌, Bool, true, false, List, [], ◌∷◌, Option, Some, None, if◌then◌else◌}
use Rattle.std.specs.BTreeMap as tree
use Rattle.std.specs.BTreeMap.{BTreeMap, is_at}
use Rattle.std.specs.BTreeSet.{BTreeSet, insert_key}
use Rattle.std.specs.Set.{remove_key}
use Rattle.std.specs.Map.{lookup, set_value}
use Rattle.std.specs.Ordering.{nat_cmp}
use Rattle.std.specs.declared.cmp.Ordering.{Ordering}
use Rattle.ua_types.specs.NodeIdOrder.{id_cmp, same_id}
use Rattle.ua_types.specs.declared.node_id.NodeId.{NodeId}
use Rattle.ua_monitored_items.specs.Item.{is_enabled}
use Rattle.ua_monitored_items.specs.declared.item.Item.{Item}

-- items under their numbers, which rise
abbrev pub NumberedItems : Type 0
NumberedItems = List (ℕ × Item)

-- the item with a number
abbrev pub item_at : ℕ → NumberedItems → Option Item
item_at number items = lookup (is_at (nat_cmp number)) items

-- the numbers of some of the items, rising
abbrev pub numbers_where : (Item → Bool) → NumberedItems → List ℕ
numbers_where p [] = []
numbers_where p (e ∷ es) = if p e.1 then e.0 ∷ numbers_where p es else numbers_where p es

abbrev pub is_of : ℕ → Item → Bool
is_of subscription item = item.subscription == subscription

-- the numbers of a subscription's items
abbrev pub numbers_of : ℕ → NumberedItems → List ℕ
numbers_of subscription items = numbers_where (is_of subscription) items

-- an item is of the value of this node
abbrev pub is_on : NodeId → Item → Bool
is_on id item = item.attribute_id == 13 && same_id item.node_id id

-- the numbers of the items of a node's value
abbrev pub numbers_on : NodeId → NumberedItems → List ℕ
numbers_on id items = numbers_where (is_on id) items

-- a number is that of an item of a subscription
abbrev pub IsOwn : ℕ → ℕ → NumberedItems → Type 0
IsOwn subscription number items = (item : Item) × (item_at number items ≡ Some item) × (is_of subscription item ≡ true)

abbrev pub with_found : ℕ → (Item → Item) → NumberedItems → Option Item → NumberedItems
with_found number change items None = items
with_found number change items (Some item) = set_value (is_at (nat_cmp number)) items (change item)

-- the items, where something is done with the one of this number, if there is one
abbrev pub with_item : ℕ → (Item → Item) → NumberedItems → NumberedItems
with_item number change items = with_found number change items (item_at number items)

-- the items, and the number of the last one that was made
pub record TableState : Type 0 where
  pub made : ℕ
  pub items : NumberedItems

-- ---- what the fields of an `ItemTable` keep

abbrev pub numbers_in : Option (BTreeSet ℕ) → List ℕ
numbers_in None = []
numbers_in (Some numbers) = numbers.keys

-- the numbers under a key
abbrev pub numbers_at : {K : Type 0} → (K → K → Ordering) → BTreeMap K (BTreeSet ℕ) → K → List ℕ
numbers_at cmp index key = numbers_in (tree.get cmp index key)

-- the keys that pass a test have one number more, or one less, and the others have what they had; each key has what it had,
-- where a number that is put in and taken out again leaves it so; and each key has what it had
module _ {K : Type 0} (cmp : K → K → Ordering) (old new : BTreeMap K (BTreeSet ℕ)) where
  abbrev pub IsPut : (K → Bool) → ℕ → Type 0
  IsPut p number = (q : K) → numbers_at cmp new q ≡ (if p q then insert_key nat_cmp (numbers_at cmp old q) number else numbers_at cmp old q)

  abbrev pub IsTakenOut : (K → Bool) → ℕ → Type 0
  IsTakenOut p number = (q : K) → numbers_at cmp new q ≡ (if p q then remove_key (is_at (nat_cmp number)) (numbers_at cmp old q) else numbers_at cmp old q)

  abbrev pub IsPutBack : ℕ → Type 0
  IsPutBack number = (q : K) → remove_key (is_at (nat_cmp number)) (insert_key nat_cmp (numbers_at cmp old q) number) ≡ numbers_at cmp old q
      → numbers_at cmp new q ≡ numbers_at cmp old q

  abbrev pub IsKept : Type 0
  IsKept = (q : K) → numbers_at cmp new q ≡ numbers_at cmp old q

-- no number above that one is given
abbrev pub AreWithin : ℕ → NumberedItems → Type 0
AreWithin made [] = ⊤
AreWithin made (e ∷ es) = (e.0 ≤ made) × AreWithin made es

-- the numbers are above that one
abbrev pub AreAbove : ℕ → NumberedItems → Type 0
AreAbove number [] = ⊤
AreAbove number (e ∷ es) = (number < e.0) × AreAbove number es

-- the numbers rise
abbrev pub AreRising : NumberedItems → Type 0
AreRising [] = ⊤
AreRising (e ∷ es) = AreAbove e.0 es × AreRising es

-- where an item is disabled, no value waits in its queue
abbrev pub DisabledIsEmpty : Item → Type 0
DisabledIsEmpty item = is_enabled item.mode ≡ false → item.queue.entries ≡ []

abbrev pub DisabledAreEmpty : NumberedItems → Type 0
DisabledAreEmpty [] = ⊤
DisabledAreEmpty (e ∷ es) = DisabledIsEmpty e.1 × DisabledAreEmpty es

-- each key leads to the numbers of its items, and no disabled item has a value
pub record IsTable (made : ℕ) (items : NumberedItems) (of_subscription : BTreeMap ℕ (BTreeSet ℕ)) (on_node : BTreeMap NodeId (BTreeSet ℕ)) : Type 0 where
  pub within : AreWithin made items
  pub rising : AreRising items
  pub disabled : DisabledAreEmpty items
  pub subscriptions : (subscription : ℕ) → numbers_at nat_cmp of_subscription subscription ≡ numbers_of subscription items
  pub nodes : (id : NodeId) → numbers_at id_cmp on_node id ≡ numbers_on id items
