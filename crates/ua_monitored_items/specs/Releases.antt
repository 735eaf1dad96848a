-- What items that queue a value do to those that are linked to them (IEC 62541-4, "Triggering model").
use Rattle.std.specs.Prelude.{◌≡◌, ℕ, ◌&&◌, not, List, [], ◌∷◌, ◌++◌, map, flat_map, fold, Option, Some, None, if◌then◌else◌}
use Rattle.std.specs.BTreeSet.{insert_key}
use Rattle.std.specs.declared.cmp.Ordering.{Ordering}
use Rattle.ua_types.specs.declared.moment.Moment.{Moment}
use Rattle.ua_types.specs.declared.status.Status.{Status}
use Rattle.ua_space.specs.Nodes.{Nodes}
use Rattle.ua_read_write.specs.declared.writing.Change.{Change}
use Rattle.ua_monitored_items.specs.contracts.releases.ReleaseOrd.TheImpl as order
use Rattle.ua_monitored_items.specs.Item.{is_enabled, takes, released_in}
use Rattle.ua_monitored_items.specs.ItemTables.{NumberedItems, item_at, with_item}
use Rattle.ua_monitored_items.specs.Items.{ItemsState, Served, all_served, own_item, mode_one, Visit, visits_of, visited, sampled_items, VisitedSome}
use Rattle.ua_monitored_items.specs.declared.item.Item.{Item}
use Rattle.ua_monitored_items.specs.declared.kinds.Mode.{Mode}
use Rattle.ua_monitored_items.specs.declared.releases.Release.{Release}

-- what an item releases when it queues a value: all that is linked to it
abbrev pub releases_of : Item → List Release
releases_of item = map (λ number. record { subscription = item.subscription; number = number }) item.links

-- releases by the subscription, then by the number, each once, with more of them
abbrev pub release_cmp : Release → Release → Ordering
release_cmp = order.ghosts.cmp

abbrev pub with_releases : List Release → List Release → List Release
with_releases releases more = fold (insert_key release_cmp) releases more

abbrev pub with_release : NumberedItems → Release → NumberedItems
with_release items release = with_item release.number (released_in release.subscription) items

-- items are released; neither the order nor the number of times makes a difference
abbrev pub all_released : NumberedItems → List Release → NumberedItems
all_released items releases = fold with_release items releases

-- ---- values that were written

-- an item that queues what it sees
abbrev pub visit_releases : Visit → Option Item → List Release
visit_releases visit None = []
visit_releases visit (Some item) = if takes item visit.value then releases_of item else []

abbrev pub sample_releases : NumberedItems → List Visit → List Release
sample_releases items [] = []
sample_releases items (v ∷ vs) = visit_releases v (item_at v.number items) ++ sample_releases (visited items v) vs

-- items see a value, and once all have, those that queued it release what is linked to them
abbrev pub seen_by_all : NumberedItems → List Visit → NumberedItems
seen_by_all items visits = all_released (sampled_items items visits) (sample_releases items visits)

-- the items of a node's value see what was written there
abbrev pub shown_one : NumberedItems → Change → NumberedItems
shown_one items change = seen_by_all items (visits_of items change)

-- and so do those of all that was written, one value after the other
abbrev pub shown : NumberedItems → List Change → NumberedItems
shown items changed = fold shown_one items changed

-- some of the values were shown, from the first on, some but not all visits of the next one were made, and nothing else was done
abbrev pub ShownSome : NumberedItems → NumberedItems → List Change → Type 0
ShownSome old new changed =
    (front : List Change) × (change : Change) × (rest : List Change) × (front ++ change ∷ rest ≡ changed)
    × VisitedSome (shown old front) new (visits_of (shown old front) change)

-- ---- SetMonitoringMode

-- an item that a mode enables queues what stands
abbrev pub mode_releases : Mode → Option Item → List Release
mode_releases mode None = []
mode_releases mode (Some item) = if is_enabled mode && not (is_enabled item.mode) then releases_of item else []

-- what the items of a subscription that a request enables release
abbrev pub modes_release : ItemsState → ℕ → Mode → List ℕ → List Release
modes_release s subscription mode numbers = flat_map (λ number. mode_releases mode (own_item s subscription number)) numbers

-- items get a mode, one after the other, and once all have, those that were enabled release what is linked to them
abbrev pub modes_set : Nodes → Moment → ℕ → Mode → ItemsState → List ℕ → Served Status
modes_set nodes clock subscription mode s numbers =
    let served = all_served (mode_one nodes clock subscription mode) s numbers in
    record served { state = record served.state { items = all_released served.state.items (modes_release s subscription mode numbers) } }
