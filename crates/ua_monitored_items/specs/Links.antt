-- Links from an item to others of its subscription (IEC 62541-4, "SetTriggering").
use Rattle.std.specs.Prelude.{◌≡◌, ℕ, ◌==◌, ◌&&◌, Bool, true, false, not, filter, List, [], ◌∷◌, ◌++◌, fold, is_some, Option, Some, None, Result, Ok, Err, if◌then◌else◌}
use Rattle.std.specs.BTreeMap.{is_at}
use Rattle.std.specs.BTreeSet.{insert_key}
use Rattle.std.specs.List.{list_any}
use Rattle.std.specs.Ordering.{nat_cmp}
use Rattle.std.specs.Set.{remove_key}
use Rattle.ua_types.specs.declared.status.Status.{Status}
use Rattle.ua_types.specs.declared.status.TheConstants.Status as status
use Rattle.ua_monitored_items.specs.Item.{with_links}
use Rattle.ua_monitored_items.specs.Items.{ItemsState, own_item, with_change}
use Rattle.ua_monitored_items.specs.declared.item.Item.{Item}
use Rattle.ua_monitored_items.specs.declared.links.Linked.{Linked}

-- the results of some entries, and the numbers that are linked after them
pub record Linking : Type 0 where
  pub statuses : List Status
  pub numbers : List ℕ

-- what a request comes to: its results, and the items after it
pub record Linkage : Type 0 where
  pub added : List Status
  pub removed : List Status
  pub state : ItemsState

abbrev pub link_status : Bool → Status
link_status true = status.GOOD
link_status false = status.BAD_MONITORED_ITEM_ID_INVALID

abbrev pub with_status : Linking → Bool → List ℕ → Linking
with_status before good numbers = record { statuses = before.statuses ++ link_status good ∷ []; numbers = numbers }

-- a link is taken away; refused where there is none
abbrev pub unlinked : Linking → ℕ → Linking
unlinked before number = with_status before (list_any (is_at (nat_cmp number)) before.numbers) (remove_key (is_at (nat_cmp number)) before.numbers)

abbrev pub is_own : ItemsState → ℕ → ℕ → Bool
is_own s subscription number = is_some (own_item s subscription number)

-- an item may be linked to another of its subscription
abbrev pub may_link : ItemsState → ℕ → ℕ → ℕ → Bool
may_link s subscription triggering number = is_own s subscription number && not (number == triggering)

-- an item is linked, also where it is already; refused where it may not be
abbrev pub linked_if : Bool → Linking → ℕ → Linking
linked_if may before number = with_status before may (if may then insert_key nat_cmp before.numbers number else before.numbers)

abbrev pub linked : ItemsState → ℕ → ℕ → Linking → ℕ → Linking
linked s subscription triggering before number = linked_if (may_link s subscription triggering number) before number

-- numbers in their order, each once
abbrev pub in_order : List ℕ → List ℕ
in_order numbers = fold (insert_key nat_cmp) [] numbers

-- what is linked to an item where a request has an entry: those of its numbers that are items of the subscription yet, since what is
-- deleted is no more linked; without an entry all stay
abbrev pub linked_yet : ItemsState → ℕ → Item → List ℕ → List ℕ → List ℕ
linked_yet s subscription item [] [] = item.links
linked_yet s subscription item add remove = in_order (filter (is_own s subscription) item.links)

abbrev pub linked_by : ItemsState → ℕ → ℕ → List ℕ → List ℕ → Option Item → Result Linkage Status
linked_by s subscription triggering add remove None = Err status.BAD_MONITORED_ITEM_ID_INVALID
linked_by s subscription triggering add remove (Some item) =
    let less = fold unlinked (record { statuses = []; numbers = linked_yet s subscription item add remove }) remove in
    let more = fold (linked s subscription triggering) (record { statuses = []; numbers = less.numbers }) add in
    Ok (record { added = more.statuses; removed = less.statuses; state = with_change s triggering (with_links more.numbers) })

-- links of a triggering item are taken away, then others are added, and without an entry nothing changes; all is refused where that
-- item is unknown
unfoldable pub link : ItemsState → ℕ → ℕ → List ℕ → List ℕ → Result Linkage Status
link s subscription triggering add remove = linked_by s subscription triggering add remove (own_item s subscription triggering)

-- the items after it
abbrev pub after_link : ItemsState → Result Linkage Status → ItemsState
after_link s (Ok done) = done.state
after_link s (Err code) = s

-- what is answered
abbrev pub IsAnswer : Result Linked Status → Result Linkage Status → Type 0
IsAnswer (Ok answer) (Ok done) = (answer.added.items ≡ done.added) × (answer.removed.items ≡ done.removed)
IsAnswer (Ok answer) (Err code) = ⊥
IsAnswer (Err status) (Ok done) = ⊥
IsAnswer (Err status) (Err code) = status ≡ code
