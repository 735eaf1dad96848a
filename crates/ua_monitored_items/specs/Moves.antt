-- Whatever is done with the items of a server, told as moves on their queues.
use Rattle.std.specs.Prelude.{◌≡◌, ◌<◌, ◌≤◌, ℕ, ◌==◌, All, List, [], ◌∷◌, ◌++◌, take, fold, Option, Some, None, false, if◌then◌else◌}
use Rattle.ua_types.specs.Configuration.{Configuration}
use Rattle.ua_types.specs.declared.moment.Moment.{Moment}
use Rattle.ua_types.specs.declared.data_value.DataValue.{DataValue}
use Rattle.ua_space.specs.Nodes.{Nodes}
use Rattle.ua_read_write.specs.declared.timestamps.Timestamps.{Timestamps}
use Rattle.ua_read_write.specs.declared.writing.Change.{Change}
use Rattle.ua_subscription_messages.specs.declared.monitored_items.MonitoredItemCreateRequest.{MonitoredItemCreateRequest}
use Rattle.ua_subscription_messages.specs.declared.monitored_items.MonitoredItemModifyRequest.{MonitoredItemModifyRequest}
use Rattle.ua_subscription_messages.specs.declared.publishing.MonitoredItemNotification.{MonitoredItemNotification}
use Rattle.ua_item_queue.specs.Fates.{AccountEntry, account, waiting, LossesAreMarked, IsInOrder, GoesOn}
use Rattle.ua_item_queue.specs.ItemQueue.{QueueMove, queue}
use Rattle.ua_item_queue.specs.ItemQueue.QueueMove.{Send}
use Rattle.ua_item_queue.specs.declared.entry.Entry.{Entry}
use Rattle.ua_monitored_items.specs.Item.{tells, notes_of, seen_queue_moves, waiting_in}
use Rattle.ua_monitored_items.specs.ItemTables.{NumberedItems, item_at, numbers_of, is_of}
use Rattle.ua_monitored_items.specs.Items.{ItemsState, no_items, ItemQueueMove, queue_moves_on, Served, all_served, create_one, modify_one, delete_one, ended, end_queue_moves, Visit, visits_of, visited, Taking, nat_least, with_taken, nothing_taken, taken_of}
use Rattle.ua_monitored_items.specs.Links.{link, after_link}
use Rattle.ua_monitored_items.specs.Releases.{modes_set, shown_one, shown}
use Rattle.ua_monitored_items.specs.declared.item.Item.{Item}
use Rattle.ua_monitored_items.specs.declared.kinds.Mode.{Mode}

-- a call of `Items`
pub data Move : Type 0 where
  Create : Nodes → Moment → (subscription : ℕ) → Timestamps → List MonitoredItemCreateRequest → Move
  Modify : (subscription : ℕ) → Timestamps → List MonitoredItemModifyRequest → Move
  SetMode : Nodes → Moment → (subscription : ℕ) → Mode → List ℕ → Move
  Link : (subscription triggering : ℕ) → (add remove : List ℕ) → Move
  Delete : (subscription : ℕ) → List ℕ → Move
  End : (subscription : ℕ) → Move
  Show : List Change → Move
  TakeNotes : (subscription : ℕ) → ℕ → Move

-- the items after a call, and the moves by which their queues changed
pub record Moved : Type 0 where
  pub state : ItemsState
  pub queue_moves : List ItemQueueMove

abbrev pub of_served : {R : Type 0} → Served R → Moved
of_served s = record { state = s.state; queue_moves = s.queue_moves }

-- an item that takes a value that was written queues it
abbrev pub visit_queue_moves : Visit → Option Item → List ItemQueueMove
visit_queue_moves visit None = []
visit_queue_moves visit (Some item) = queue_moves_on visit.number (seen_queue_moves visit.value item)

abbrev pub sample_queue_moves : NumberedItems → List Visit → List ItemQueueMove
sample_queue_moves items [] = []
sample_queue_moves items (v ∷ vs) = visit_queue_moves v (item_at v.number items) ++ sample_queue_moves (visited items v) vs

abbrev pub show_queue_moves : NumberedItems → List Change → List ItemQueueMove
show_queue_moves items [] = []
show_queue_moves items (c ∷ cs) = sample_queue_moves items (visits_of items c) ++ show_queue_moves (shown_one items c) cs

-- an item that gives values sends them
abbrev pub give_queue_moves : ℕ → ℕ → Option Item → List ItemQueueMove
give_queue_moves left number None = []
give_queue_moves left number (Some item) = queue_moves_on number (Send (nat_least left (waiting_in item)) ∷ [])

abbrev pub take_queue_moves : Taking → List ℕ → List ItemQueueMove
take_queue_moves before [] = []
take_queue_moves before (n ∷ ns) = give_queue_moves before.left n (item_at n before.items) ++ take_queue_moves (with_taken before n) ns

abbrev pub moved : ItemsState → Move → Moved
moved s (Create nodes clock subscription timestamps requests) = of_served (all_served (create_one nodes clock subscription timestamps) s requests)
moved s (Modify subscription timestamps requests) = of_served (all_served (modify_one subscription timestamps) s requests)
moved s (SetMode nodes clock subscription mode numbers) = of_served (modes_set nodes clock subscription mode s numbers)
moved s (Link subscription triggering add remove) = record { state = after_link s (link s subscription triggering add remove); queue_moves = [] }
moved s (Delete subscription numbers) = of_served (all_served (delete_one subscription) s numbers)
moved s (End subscription) = record { state = ended s subscription; queue_moves = end_queue_moves s subscription }
moved s (Show changed) = record { state = record s { items = shown s.items changed }; queue_moves = show_queue_moves s.items changed }
moved s (TakeNotes subscription n) =
    let numbers = numbers_of subscription s.items in
    record { state = record s { items = (taken_of s.items n numbers).items }; queue_moves = take_queue_moves (nothing_taken s.items n) numbers }

abbrev pub moved_on : Moved → Move → Moved
moved_on before move =
    let after = moved before.state move in
    record { state = after.state; queue_moves = before.queue_moves ++ after.queue_moves }

-- the items after any calls from the first on, and all moves
abbrev pub run : Configuration → List Move → Moved
run config moves = fold moved_on (record { state = no_items config; queue_moves = [] }) moves

-- ---- one item's part

abbrev pub queue_moves_of : ℕ → List ItemQueueMove → List (QueueMove DataValue)
queue_moves_of number [] = []
queue_moves_of number (d ∷ ds) = if d.number == number then d.queue_move ∷ queue_moves_of number ds else queue_moves_of number ds

abbrev pub queue_in : Option Item → List (Entry DataValue)
queue_in None = []
queue_in (Some item) = item.queue.entries

-- the values that wait in the item of a number; none where there is no such item
abbrev pub queue_at : ℕ → NumberedItems → List (Entry DataValue)
queue_at number items = queue_in (item_at number items)

-- the account of all that the item of a number ever queued
abbrev pub account_of : Configuration → List Move → ℕ → List (AccountEntry DataValue)
account_of config moves number = account (queue_moves_of number (run config moves).queue_moves)

-- ---- what the laws say

-- each item's queue is what its moves made of it, and so what waits of its account
abbrev pub QueuesAreTheirMoves : Type 0
QueuesAreTheirMoves = (config : Configuration) (moves : List Move) (number : ℕ) →
    queue_at number (run config moves).state.items ≡ queue (queue_moves_of number (run config moves).queue_moves)

abbrev pub QueuesAreWhatWaits : Type 0
QueuesAreWhatWaits = (config : Configuration) (moves : List Move) (number : ℕ) →
    waiting (account_of config moves number) ≡ queue_at number (run config moves).state.items

-- values are sent in the order of sampling, and behind each value that was lost the first one that is left carries a mark
abbrev pub AccountsAreInOrder : Type 0
AccountsAreInOrder = (config : Configuration) (moves : List Move) (number : ℕ) → IsInOrder (account_of config moves number)

abbrev pub AccountsMarkLosses : Type 0
AccountsMarkLosses = (config : Configuration) (moves : List Move) (number : ℕ) → LossesAreMarked (account_of config moves number)

-- each value keeps its place in its item's account, and once it doesn't wait nothing of it changes, whatever is called later
abbrev pub FatesAreFinal : Type 0
FatesAreFinal = (config : Configuration) (moves more : List Move) (number : ℕ) → GoesOn (account_of config moves number) (account_of config (moves ++ more) number)

-- the items of one table that are not of this subscription are in another, under the same numbers
abbrev pub OthersAreIn : ℕ → NumberedItems → NumberedItems → Type 0
OthersAreIn subscription items there = (number : ℕ) (item : Item) → item_at number items ≡ Some item → is_of subscription item ≡ false → item_at number there ≡ Some item

-- the items that are not of this subscription are after what they were: each stays, and none appears
abbrev pub OthersStay : ℕ → NumberedItems → NumberedItems → Type 0
OthersStay subscription before after = OthersAreIn subscription before after × OthersAreIn subscription after before

-- a call of one subscription
abbrev pub IsOfSubscription : ℕ → Move → Type 0
IsOfSubscription subscription (Create nodes clock own timestamps requests) = own ≡ subscription
IsOfSubscription subscription (Modify own timestamps requests) = own ≡ subscription
IsOfSubscription subscription (SetMode nodes clock own mode numbers) = own ≡ subscription
IsOfSubscription subscription (Link own triggering add remove) = own ≡ subscription
IsOfSubscription subscription (Delete own numbers) = own ≡ subscription
IsOfSubscription subscription (End own) = own ≡ subscription
IsOfSubscription subscription (Show changed) = ⊥
IsOfSubscription subscription (TakeNotes own n) = own ≡ subscription

-- a call of one subscription leaves each item of another as it is, and makes none
abbrev pub SubscriptionsStayApart : Type 0
SubscriptionsStayApart = (config : Configuration) (moves : List Move) (move : Move) (subscription : ℕ) → IsOfSubscription subscription move →
    OthersStay subscription (run config moves).state.items (run config (moves ++ move ∷ [])).state.items

-- a number that was given, and whose item is of this subscription, where it lives yet
abbrev pub LeadsInto : ℕ → ItemsState → ℕ → Type 0
LeadsInto subscription s number = (0 < number) × (number ≤ s.made) × ((item : Item) → item_at number s.items ≡ Some item → item.subscription ≡ subscription)

-- what is linked to an item was given, and is of the item's own subscription, where it lives yet
abbrev pub LinksStayInside : Type 0
LinksStayInside = (config : Configuration) (moves : List Move) (number : ℕ) (item : Item) → let s = (run config moves).state in
    item_at number s.items ≡ Some item → All (LeadsInto item.subscription s) item.links

-- what an item has to tell: nothing unless it reports or is released
abbrev pub told_notes : Item → List MonitoredItemNotification
told_notes item = if tells item then notes_of item else []

-- what a subscription's items have to tell: the items by rising number, the values of each oldest first
abbrev pub all_notes : ℕ → NumberedItems → List MonitoredItemNotification
all_notes subscription [] = []
all_notes subscription (e ∷ es) = if is_of subscription e.1 then told_notes e.1 ++ all_notes subscription es else all_notes subscription es

-- what a message takes is the first of that
abbrev pub NotesAreTheFirst : Type 0
NotesAreTheFirst = (config : Configuration) (moves : List Move) (subscription n : ℕ) →
    (taken_of (run config moves).state.items n (numbers_of subscription (run config moves).state.items)).notes ≡ take n (all_notes subscription (run config moves).state.items)
