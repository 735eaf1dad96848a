-- The monitored items of a server: what is done with them, and the refusals in their order (IEC 62541-4, "MonitoredItem
-- Service Set").
use Rattle.std.specs.Prelude.{◌≡◌, ℕ, ◌+◌, ◌-◌, ◌^◌, ◌==◌, ◌||◌, Bool, true, false, not, filter, List, [], ◌∷◌, ◌++◌, map, flat_map, fold, take, length, nat_le, nat_lt, Option, Some, None, Result, Ok, Err, if◌then◌else◌}
use Rattle.std.specs.BTreeMap.{insert_entry, is_at}
use Rattle.std.specs.Map.{remove_entry}
use Rattle.std.specs.Ordering.{nat_cmp}
use Rattle.ua_types.specs.NodeIds.{numeric_id}
use Rattle.ua_types.specs.declared.duration.Duration.{Duration}
use Rattle.ua_types.specs.declared.extension_object.ExtensionObject.{ExtensionObject}
use Rattle.ua_types.specs.declared.extension_object.ExtensionObjectBody.TheVariants.{Absent}
use Rattle.ua_types.specs.declared.moment.Moment.{Moment}
use Rattle.ua_types.specs.declared.status.Status.{Status}
use Rattle.ua_types.specs.declared.status.TheConstants.Status as status
use Rattle.ua_types.specs.Configuration.{Configuration}
use Rattle.ua_types.specs.declared.data_value.DataValue.{DataValue}
use Rattle.ua_space.specs.Nodes.{Nodes}
use Rattle.ua_read_write.specs.Attributes.{Attributed}
use Rattle.ua_read_write.specs.Reading.{readable}
use Rattle.ua_read_write.specs.declared.timestamps.Timestamps.{Timestamps}
use Rattle.ua_read_write.specs.declared.writing.Change.{Change}
use Rattle.ua_subscription_messages.specs.declared.monitored_items.MonitoredItemCreateRequest.{MonitoredItemCreateRequest}
use Rattle.ua_subscription_messages.specs.declared.monitored_items.MonitoredItemCreateResult.{MonitoredItemCreateResult}
use Rattle.ua_subscription_messages.specs.declared.monitored_items.MonitoredItemModifyRequest.{MonitoredItemModifyRequest}
use Rattle.ua_subscription_messages.specs.declared.monitored_items.MonitoredItemModifyResult.{MonitoredItemModifyResult}
use Rattle.ua_subscription_messages.specs.declared.publishing.MonitoredItemNotification.{MonitoredItemNotification}
use Rattle.ua_item_queue.specs.ItemQueue.{QueueMove}
use Rattle.ua_item_queue.specs.ItemQueue.QueueMove.{Clear}
use Rattle.ua_monitored_items.specs.Kinds.{mode_numbered, trigger_of}
use Rattle.ua_monitored_items.specs.Item.{is_enabled, takes, queued, seen, reading, moded, revised_size, modified, gave, notes_of, waiting_in, sample_queue_move, mode_queue_moves, modify_queue_moves}
use Rattle.ua_monitored_items.specs.ItemTables.{NumberedItems, item_at, is_of, numbers_of, numbers_on, with_item}
use Rattle.ua_monitored_items.specs.declared.item.Item.{Item}
use Rattle.ua_monitored_items.specs.declared.kinds.Kind.{Kind}
use Rattle.ua_monitored_items.specs.declared.kinds.Mode.{Mode}
use Rattle.ua_monitored_items.specs.declared.kinds.Trigger.{Trigger}

-- how many items a subscription may have, and how many all may have; how many values an item may keep, the sampling interval
-- that clients are told, the number of the last item that was made, and the items under their numbers, which rise
pub record ItemsState : Type 0 where
  pub most : ℕ
  pub most_in_all : ℕ
  pub longest : ℕ
  pub interval : Duration
  pub made : ℕ
  pub items : NumberedItems

abbrev pub no_items : Configuration → ItemsState
no_items config = record { most = config.items; most_in_all = config.items_in_all; longest = config.queue; interval = config.sampling_duration; made = 0; items = [] }

-- a move on the queue of the item with this number
pub record ItemQueueMove : Type 0 where
  pub number : ℕ
  pub queue_move : QueueMove DataValue

abbrev pub queue_moves_on : ℕ → List (QueueMove DataValue) → List ItemQueueMove
queue_moves_on number queue_moves = map (λ d. record { number = number; queue_move = d }) queue_moves

-- ---- entries of a request, one after the other

-- what one entry comes to: its result, the items after it, and the moves by which their queues changed, which no code keeps
pub record One (R : Type 0) : Type 0 where
  pub result : R
  pub state : ItemsState
  pub queue_moves : List ItemQueueMove

-- what some come to
pub record Served (R : Type 0) : Type 0 where
  pub results : List R
  pub state : ItemsState
  pub queue_moves : List ItemQueueMove

abbrev pub nothing_served : {R : Type 0} → ItemsState → Served R
nothing_served s = record { results = []; state = s; queue_moves = [] }

abbrev pub with_one : {A R : Type 0} → (ItemsState → A → One R) → Served R → A → Served R
with_one serve before x =
    let one = serve before.state x in
    record { results = before.results ++ one.result ∷ []; state = one.state; queue_moves = before.queue_moves ++ one.queue_moves }

abbrev pub all_served : {A R : Type 0} → (ItemsState → A → One R) → ItemsState → List A → Served R
all_served serve s xs = fold (with_one serve) (nothing_served s) xs

-- ---- CreateMonitoredItems

-- as many items as a subscription may have are held, or as many as the server may have, or no number is left
abbrev pub is_full : ItemsState → ℕ → Bool
is_full s subscription = nat_le s.most (length (numbers_of subscription s.items)) || (nat_le s.most_in_all (length s.items) || nat_le (2 ^ 32 - 1) s.made)

abbrev pub filter_judged : Bool → Mode → Option Trigger → Result Kind Status
filter_judged full mode None = Err status.BAD_MONITORED_ITEM_FILTER_UNSUPPORTED
filter_judged full mode (Some trigger) = if full then Err status.BAD_TOO_MANY_MONITORED_ITEMS else Ok (record { mode = mode; trigger = trigger })

abbrev pub mode_judged : Bool → Option Mode → Option Trigger → Result Kind Status
mode_judged full None trigger = Err status.BAD_MONITORING_MODE_INVALID
mode_judged full (Some mode) trigger = filter_judged full mode trigger

abbrev pub reading_judged : Bool → Option Mode → Option Trigger → Result Attributed Status → Result Kind Status
reading_judged full mode trigger (Err code) = Err code
reading_judged full mode trigger (Ok attribute) = mode_judged full mode trigger

-- whether an item may be made, or why not: as Read refuses, then by its mode, its filter, and the number of items
unfoldable pub create_judged : ItemsState → Nodes → ℕ → MonitoredItemCreateRequest → Result Kind Status
create_judged s nodes subscription request =
    let what = request.item_to_monitor in
    reading_judged (is_full s subscription) (mode_numbered request.monitoring_mode) (trigger_of request.requested_parameters.filter)
    (readable nodes what.node_id what.attribute_id what.index_range)

abbrev pub null_object : ExtensionObject
null_object = record { type_id = numeric_id 0 0; body = Absent }

abbrev pub zero_duration : Duration
zero_duration = record { 0 = 0 ∷ 0 ∷ 0 ∷ 0 ∷ 0 ∷ 0 ∷ 0 ∷ 0 ∷ [] }

-- an item as it is made, before anything is sampled
abbrev pub new_item : ItemsState → ℕ → Timestamps → MonitoredItemCreateRequest → Kind → Item
new_item s subscription timestamps request kind =
    let wanted = request.requested_parameters in
    record {
      subscription = subscription;
      node_id = request.item_to_monitor.node_id;
      attribute_id = request.item_to_monitor.attribute_id;
      client_handle = wanted.client_handle;
      timestamps = timestamps;
      mode = kind.mode;
      trigger = kind.trigger;
      queue = record { entries = []; size = revised_size s.longest wanted.queue_size; discard_oldest = wanted.discard_oldest; last = None };
      released = false;
      links = [];
    }

-- an item that is made enabled queues what stands
abbrev pub begun : Nodes → Moment → Item → Item
begun nodes clock item = if is_enabled item.mode then queued (reading nodes clock item) item else item

abbrev pub begin_queue_moves : Nodes → Moment → Item → List (QueueMove DataValue)
begin_queue_moves nodes clock item = if is_enabled item.mode then sample_queue_move (reading nodes clock item) item else []

abbrev pub create_result : ItemsState → MonitoredItemCreateRequest → MonitoredItemCreateResult
create_result s request = record {
  status_code = status.GOOD;
  monitored_item_id = s.made + 1;
  revised_sampling_interval = s.interval;
  revised_queue_size = revised_size s.longest request.requested_parameters.queue_size;
  filter_result = null_object;
}

abbrev pub create_refused : Status → MonitoredItemCreateResult
create_refused code = record {
  status_code = code;
  monitored_item_id = 0;
  revised_sampling_interval = zero_duration;
  revised_queue_size = 0;
  filter_result = null_object;
}

-- one more item, under the next number
abbrev pub with_new_item : ItemsState → Item → ItemsState
with_new_item s item = record s { made = s.made + 1; items = insert_entry nat_cmp s.items (s.made + 1) item }

abbrev pub created_by : Nodes → Moment → ℕ → Timestamps → ItemsState → MonitoredItemCreateRequest → Result Kind Status → One MonitoredItemCreateResult
created_by nodes clock subscription timestamps s request (Err code) = record { result = create_refused code; state = s; queue_moves = [] }
created_by nodes clock subscription timestamps s request (Ok kind) =
    let item = new_item s subscription timestamps request kind in
    record {
      result = create_result s request;
      state = with_new_item s (begun nodes clock item);
      queue_moves = queue_moves_on (s.made + 1) (begin_queue_moves nodes clock item);
    }

unfoldable pub create_one : Nodes → Moment → ℕ → Timestamps → ItemsState → MonitoredItemCreateRequest → One MonitoredItemCreateResult
create_one nodes clock subscription timestamps s request = created_by nodes clock subscription timestamps s request (create_judged s nodes subscription request)

-- ---- an item of a subscription

abbrev pub own_if : ℕ → Option Item → Option Item
own_if subscription None = None
own_if subscription (Some item) = if item.subscription == subscription then Some item else None

-- the item with this number, if it is of this subscription
abbrev pub own_item : ItemsState → ℕ → ℕ → Option Item
own_item s subscription number = own_if subscription (item_at number s.items)

abbrev pub with_change : ItemsState → ℕ → (Item → Item) → ItemsState
with_change s number change = record s { items = with_item number change s.items }

-- ---- ModifyMonitoredItems

abbrev pub modify_result : ItemsState → MonitoredItemModifyRequest → MonitoredItemModifyResult
modify_result s request = record {
  status_code = status.GOOD;
  revised_sampling_interval = s.interval;
  revised_queue_size = revised_size s.longest request.requested_parameters.queue_size;
  filter_result = null_object;
}

abbrev pub modify_refused : Status → MonitoredItemModifyResult
modify_refused code = record {
  status_code = code;
  revised_sampling_interval = zero_duration;
  revised_queue_size = 0;
  filter_result = null_object;
}

abbrev pub modified_by : Timestamps → ItemsState → MonitoredItemModifyRequest → Option Item → Option Trigger → One MonitoredItemModifyResult
modified_by timestamps s request None trigger = record { result = modify_refused status.BAD_MONITORED_ITEM_ID_INVALID; state = s; queue_moves = [] }
modified_by timestamps s request (Some item) None = record { result = modify_refused status.BAD_MONITORED_ITEM_FILTER_UNSUPPORTED; state = s; queue_moves = [] }
modified_by timestamps s request (Some item) (Some trigger) = record {
  result = modify_result s request;
  state = with_change s request.monitored_item_id (modified s.longest timestamps trigger request.requested_parameters);
  queue_moves = queue_moves_on request.monitored_item_id (modify_queue_moves s.longest request.requested_parameters);
}

-- an item gets other parameters; refused where it is unknown, then by its filter
unfoldable pub modify_one : ℕ → Timestamps → ItemsState → MonitoredItemModifyRequest → One MonitoredItemModifyResult
modify_one subscription timestamps s request =
    modified_by timestamps s request (own_item s subscription request.monitored_item_id) (trigger_of request.requested_parameters.filter)

-- ---- SetMonitoringMode

abbrev pub moded_by : Nodes → Moment → Mode → ItemsState → ℕ → Option Item → One Status
moded_by nodes clock mode s number None = record { result = status.BAD_MONITORED_ITEM_ID_INVALID; state = s; queue_moves = [] }
moded_by nodes clock mode s number (Some item) = record {
  result = status.GOOD;
  state = with_change s number (moded nodes clock mode);
  queue_moves = queue_moves_on number (mode_queue_moves nodes clock mode item);
}

-- an item gets a mode; refused where it is unknown
unfoldable pub mode_one : Nodes → Moment → ℕ → Mode → ItemsState → ℕ → One Status
mode_one nodes clock subscription mode s number = moded_by nodes clock mode s number (own_item s subscription number)

-- ---- DeleteMonitoredItems

abbrev pub without : ItemsState → ℕ → ItemsState
without s number = record s { items = remove_entry (is_at (nat_cmp number)) s.items }

abbrev pub deleted_by : ItemsState → ℕ → Option Item → One Status
deleted_by s number None = record { result = status.BAD_MONITORED_ITEM_ID_INVALID; state = s; queue_moves = [] }
deleted_by s number (Some item) = record { result = status.GOOD; state = without s number; queue_moves = queue_moves_on number (Clear ∷ []) }

-- an item is deleted; refused where it is unknown
unfoldable pub delete_one : ℕ → ItemsState → ℕ → One Status
delete_one subscription s number = deleted_by s number (own_item s subscription number)

-- ---- the end of a subscription

abbrev pub is_of_other : ℕ → ℕ × Item → Bool
is_of_other subscription e = not (is_of subscription e.1)

-- the items that are not of a subscription
abbrev pub without_all : ℕ → NumberedItems → NumberedItems
without_all subscription items = filter (is_of_other subscription) items

-- all items of a subscription are deleted
abbrev pub ended : ItemsState → ℕ → ItemsState
ended s subscription = record s { items = without_all subscription s.items }

abbrev pub end_queue_moves : ItemsState → ℕ → List ItemQueueMove
end_queue_moves s subscription = flat_map (λ number. queue_moves_on number (Clear ∷ [])) (numbers_of subscription s.items)

abbrev pub first_number : List ℕ → Option ℕ
first_number [] = None
first_number (number ∷ numbers) = Some number

-- ---- values that were written

-- an item that is to see a value
pub record Visit : Type 0 where
  pub number : ℕ
  pub value : DataValue

-- the items of a node's value see what was written there, by rising numbers
abbrev pub visits_of : NumberedItems → Change → List Visit
visits_of items change = map (λ number. record { number = number; value = change.value }) (numbers_on change.node_id items)

abbrev pub visited : NumberedItems → Visit → NumberedItems
visited items visit = with_item visit.number (seen visit.value) items

-- each item sees the values that were written to its node, in their order
abbrev pub sampled_items : NumberedItems → List Visit → NumberedItems
sampled_items items visits = fold visited items visits

-- whether the item that is visited, if there is one, queues what it sees
abbrev pub visit_takes : Visit → Option Item → Bool
visit_takes visit None = false
visit_takes visit (Some item) = takes item visit.value

-- some of the visits were made, from the first on, the next one, at which an item was to queue the value, wasn't, and nothing else was done
abbrev pub VisitedSome : NumberedItems → NumberedItems → List Visit → Type 0
VisitedSome old new visits =
    (front : List Visit) × (next : Visit) × (rest : List Visit) × (front ++ next ∷ rest ≡ visits) × (new ≡ sampled_items old front)
    × (visit_takes next (item_at next.number new) ≡ true)

-- ---- what a message takes

abbrev pub waits_in : Option Item → Bool
waits_in None = false
waits_in (Some item) = nat_lt 0 (waiting_in item)

-- whether one of these items has a value to send
abbrev pub any_waits : NumberedItems → List ℕ → Bool
any_waits items [] = false
any_waits items (number ∷ numbers) = waits_in (item_at number items) || any_waits items numbers

-- whether an item of a subscription that reports or is released has a value
abbrev pub is_available : ItemsState → ℕ → Bool
is_available s subscription = any_waits s.items (numbers_of subscription s.items)

-- values that were taken, and the items after it
pub record Taking : Type 0 where
  pub notes : List MonitoredItemNotification
  pub items : NumberedItems
  pub left : ℕ

abbrev pub nat_least : ℕ → ℕ → ℕ
nat_least a b = if nat_le a b then a else b

abbrev pub taken_from : Taking → ℕ → Option Item → Taking
taken_from before number None = before
taken_from before number (Some item) =
    let n = nat_least before.left (waiting_in item) in
    record { notes = before.notes ++ take n (notes_of item); items = with_item number (gave n) before.items; left = before.left - n }

-- an item gives its oldest values, as many as are wanted yet
abbrev pub with_taken : Taking → ℕ → Taking
with_taken before number = taken_from before number (item_at number before.items)

abbrev pub nothing_taken : NumberedItems → ℕ → Taking
nothing_taken items n = record { notes = []; items = items; left = n }

-- the first n values of these items, the items by rising number and the values of each oldest first
abbrev pub taken_of : NumberedItems → ℕ → List ℕ → Taking
taken_of items n numbers = fold with_taken (nothing_taken items n) numbers
