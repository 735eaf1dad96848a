-- A monitored item (IEC 62541-4, "MonitoredItem model"), and what is done with one.
use Rattle.std.specs.Prelude.{ℕ, ◌==◌, ◌&&◌, ◌||◌, Bool, true, false, not, List, [], ◌∷◌, map, length, bit_or, nat_eq, nat_le, nat_lt, Option, Some, None, if◌then◌else◌}
use Rattle.std.specs.Option.{option_eq}
use Rattle.std.specs.Ordering.{int_eq}
use Rattle.ua_types.specs.declared.moment.Moment.{Moment}
use Rattle.ua_types.specs.declared.status.Status.{Status}
use Rattle.ua_types.specs.contracts.variant.VariantPartialEq.TheImpl as variants
use Rattle.ua_types.specs.declared.data_value.DataValue.{DataValue}
use Rattle.ua_subscription_messages.specs.declared.monitoring_parameters.MonitoringParameters.{MonitoringParameters}
use Rattle.ua_subscription_messages.specs.declared.publishing.MonitoredItemNotification.{MonitoredItemNotification}
use Rattle.ua_space.specs.Nodes.{Nodes}
use Rattle.ua_read_write.specs.Reading.{attribute_read}
use Rattle.ua_read_write.specs.Timestamps.{has_source, has_server}
use Rattle.ua_read_write.specs.declared.timestamps.Timestamps.{Timestamps}
use Rattle.ua_read_write.specs.declared.timestamps.Timestamps.TheVariants as choices
use Rattle.ua_item_queue.specs.ItemQueue.{QueueMove, sampled, sent, cleared, resized}
use Rattle.ua_item_queue.specs.ItemQueue.QueueMove.{Sample, Clear, Resize}
use Rattle.ua_item_queue.specs.declared.entry.Entry.{Entry}
use Rattle.ua_monitored_items.specs.declared.item.Item.{Item}
use Rattle.ua_monitored_items.specs.declared.kinds.Mode.{Mode}
use Rattle.ua_monitored_items.specs.declared.kinds.Mode.TheVariants as modes
use Rattle.ua_monitored_items.specs.declared.kinds.Trigger.{Trigger}
use Rattle.ua_monitored_items.specs.declared.kinds.Trigger.TheVariants as triggers

abbrev pub is_enabled : Mode → Bool
is_enabled modes.Disabled = false
is_enabled modes.Sampling = true
is_enabled modes.Reporting = true

abbrev pub is_reporting : Mode → Bool
is_reporting modes.Disabled = false
is_reporting modes.Sampling = false
is_reporting modes.Reporting = true

abbrev pub is_sampling : Mode → Bool
is_sampling modes.Disabled = false
is_sampling modes.Sampling = true
is_sampling modes.Reporting = false

-- ---- which changes are taken

abbrev pub same_status : DataValue → DataValue → Bool
same_status v w = nat_eq v.status.0 w.status.0

abbrev pub same_value : DataValue → DataValue → Bool
same_value v w = option_eq variants.ghosts.eq v.value w.value

abbrev pub same_moment : Moment → Moment → Bool
same_moment a b = int_eq a.0 b.0

abbrev pub same_time : DataValue → DataValue → Bool
same_time v w = option_eq same_moment v.source_time w.source_time

-- whether a trigger sees a change between two samples
abbrev pub is_change : Trigger → DataValue → DataValue → Bool
is_change triggers.Status last v = not (same_status last v)
is_change triggers.StatusValue last v = not (same_status last v && same_value last v)
is_change triggers.StatusValueTime last v = not (same_status last v && same_value last v && same_time last v)

-- the last one that was queued is compared as it was before any mark
abbrev pub is_change_since : Trigger → Option DataValue → DataValue → Bool
is_change_since trigger None v = true
is_change_since trigger (Some last) v = is_change trigger last v

-- whether an item queues a value that was written
abbrev pub takes : Item → DataValue → Bool
takes item v = is_enabled item.mode && is_change_since item.trigger item.queue.last v

-- ---- what is done with an item

-- a value is queued
abbrev pub queued : DataValue → Item → Item
queued v item = record item { queue = sampled item.queue v }

-- a value was written
abbrev pub seen : DataValue → Item → Item
seen v item = if takes item v then queued v item else item

-- what Read gives of the item's attribute, with both times
abbrev pub reading : Nodes → Moment → Item → DataValue
reading nodes clock item = attribute_read nodes clock choices.Both item.node_id item.attribute_id None

-- a disabled item that is enabled queues what stands
abbrev pub enabled : Nodes → Moment → Item → Item
enabled nodes clock item = if is_enabled item.mode then item else queued (reading nodes clock item) item

-- a mode that is set ends a release
abbrev pub with_mode : Mode → Item → Item
with_mode mode item = record item { mode = mode; released = false }

abbrev pub disabled : Item → Item
disabled item = record item { queue = cleared item.queue; mode = modes.Disabled; released = false }

-- an item gets a mode: it is disabled, which clears its queue, or it is enabled
abbrev pub moded : Nodes → Moment → Mode → Item → Item
moded nodes clock mode item = if is_enabled mode then with_mode mode (enabled nodes clock item) else disabled item

-- how many values a queue may hold, where so many were asked for
abbrev pub revised_size : ℕ → ℕ → ℕ
revised_size longest asked = if asked == 0 then 1 else (if nat_le asked longest then asked else longest)

-- other parameters take the place of all that the item had
abbrev pub modified : ℕ → Timestamps → Trigger → MonitoringParameters → Item → Item
modified longest timestamps trigger parameters item = record item {
  client_handle = parameters.client_handle;
  timestamps = timestamps;
  trigger = trigger;
  queue = resized item.queue (revised_size longest parameters.queue_size) parameters.discard_oldest;
}

abbrev pub with_sent : ℕ → Item → Item
with_sent n item = record item { queue = sent item.queue n }

-- so many values, if they are any, are all that an item holds
abbrev pub takes_last : ℕ → Item → Bool
takes_last n item = nat_lt 0 n && nat_le (length item.queue.entries) n

-- its oldest values are sent; the last one ends a release
abbrev pub gave : ℕ → Item → Item
gave n item = record (with_sent n item) { released = item.released && not (takes_last n item) }

-- ---- what is told of its values

abbrev pub time_if : Bool → Option Moment → Option Moment
time_if true time = time
time_if false time = None

-- the Overflow bit, and that the information bits are of a data value
abbrev pub marked_status : Bool → Status → Status
marked_status true code = record { 0 = bit_or code.0 1152 }
marked_status false code = code

-- a value as a client is told it: with the mark in its status, and the times that are wanted
abbrev pub shown : Timestamps → Entry DataValue → DataValue
shown timestamps e = record {
  value = e.value.value;
  status = marked_status e.marked e.value.status;
  source_time = time_if (has_source timestamps) e.value.source_time;
  server_time = time_if (has_server timestamps) e.value.server_time;
}

abbrev pub note_of : ℕ → Timestamps → Entry DataValue → MonitoredItemNotification
note_of handle timestamps e = record { client_handle = handle; value = shown timestamps e }

-- what an item tells of its values, oldest first
abbrev pub notes_of : Item → List MonitoredItemNotification
notes_of item = map (note_of item.client_handle item.timestamps) item.queue.entries

-- whether its values are sent: it reports, or it is released
abbrev pub tells : Item → Bool
tells item = is_reporting item.mode || item.released

-- how many of its values wait to be sent
abbrev pub waiting_in : Item → ℕ
waiting_in item = if tells item then length item.queue.entries else 0

-- ---- links to other items

-- a linked item of its own subscription is released, if it samples and holds a value
abbrev pub released_in : ℕ → Item → Item
released_in subscription item =
    if (item.subscription == subscription && is_sampling item.mode) && nat_lt 0 (length item.queue.entries) then record item { released = true } else item

-- other links take the place of those that it had
abbrev pub with_links : List ℕ → Item → Item
with_links numbers item = record item { links = numbers }

-- ---- the same, as moves on its queue

-- a value is queued
abbrev pub sample_queue_move : DataValue → Item → List (QueueMove DataValue)
sample_queue_move v item = Sample item.queue.size item.queue.discard_oldest v ∷ []

abbrev pub seen_queue_moves : DataValue → Item → List (QueueMove DataValue)
seen_queue_moves v item = if takes item v then sample_queue_move v item else []

abbrev pub mode_queue_moves : Nodes → Moment → Mode → Item → List (QueueMove DataValue)
mode_queue_moves nodes clock mode item =
    if is_enabled mode then (if is_enabled item.mode then [] else sample_queue_move (reading nodes clock item) item) else Clear ∷ []

abbrev pub modify_queue_moves : ℕ → MonitoringParameters → List (QueueMove DataValue)
modify_queue_moves longest parameters = Resize (revised_size longest parameters.queue_size) parameters.discard_oldest ∷ []
