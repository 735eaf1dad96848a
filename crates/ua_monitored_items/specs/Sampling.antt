-- The visits that an index of nodes leads to.
use Rattle.std.specs.Prelude.{◌≡◌, ℕ, List, ◌∷◌, ◌++◌, map, fold}
use Rattle.std.specs.BTreeMap.{BTreeMap}
use Rattle.std.specs.BTreeSet.{BTreeSet}
use Rattle.ua_types.specs.NodeIdOrder.{id_cmp}
use Rattle.ua_types.specs.declared.node_id.NodeId.{NodeId}
use Rattle.ua_types.specs.declared.data_value.DataValue.{DataValue}
use Rattle.ua_read_write.specs.declared.writing.Change.{Change}
use Rattle.ua_monitored_items.specs.ItemTables.{NumberedItems, numbers_at}
use Rattle.ua_monitored_items.specs.Items.{Visit, VisitedSome}
use Rattle.ua_monitored_items.specs.Releases.{seen_by_all}

abbrev pub visits_by : DataValue → List ℕ → List Visit
visits_by value numbers = map (λ number. record { number = number; value = value }) numbers

abbrev pub index_visits : BTreeMap NodeId (BTreeSet ℕ) → Change → List Visit
index_visits on_node change = visits_by change.value (numbers_at id_cmp on_node change.node_id)

-- the items to which the index leads see what was written
abbrev pub index_shown : BTreeMap NodeId (BTreeSet ℕ) → NumberedItems → Change → NumberedItems
index_shown on_node items change = seen_by_all items (index_visits on_node change)

-- some of the values were shown, from the first on, some but not all visits of the next one were made, and nothing else was done
abbrev pub IndexShownSome : BTreeMap NodeId (BTreeSet ℕ) → NumberedItems → NumberedItems → List Change → Type 0
IndexShownSome on_node old new changed =
    (front : List Change) × (change : Change) × (rest : List Change) × (front ++ change ∷ rest ≡ changed)
    × VisitedSome (fold (index_shown on_node) old front) new (index_visits on_node change)
