-- What items give to messages: their oldest values, with their marks.
use Rattle.std.specs.Prelude.{◌≡◌, ℕ, ◌==◌, List, [], ◌∷◌, ◌++◌, map, take, Option, Some, None, if◌then◌else◌}
use Rattle.ua_types.specs.Configuration.{Configuration}
use Rattle.ua_types.specs.declared.data_value.DataValue.{DataValue}
use Rattle.ua_read_write.specs.declared.timestamps.Timestamps.{Timestamps}
use Rattle.ua_subscription_messages.specs.declared.publishing.MonitoredItemNotification.{MonitoredItemNotification}
use Rattle.ua_item_queue.specs.Sendings.{sent_of}
use Rattle.ua_item_queue.specs.declared.entry.Entry.{Entry}
use Rattle.ua_monitored_items.specs.Item.{note_of, waiting_in}
use Rattle.ua_monitored_items.specs.ItemTables.{NumberedItems, item_at, numbers_of}
use Rattle.ua_monitored_items.specs.Items.{ItemsState, no_items, Taking, nat_least, with_taken, nothing_taken, taken_of}
use Rattle.ua_monitored_items.specs.Moves.{Move, moved, account_of}
use Rattle.ua_monitored_items.specs.Moves.Move.{Create, Modify, SetMode, Link, Delete, End, Show, TakeNotes}
use Rattle.ua_monitored_items.specs.declared.item.Item.{Item}

-- what the item of a number gives: its oldest values; and how a client is told them
pub record Giving : Type 0 where
  pub number : ℕ
  pub entries : List (Entry DataValue)
  pub handle : ℕ
  pub timestamps : Timestamps

abbrev pub giving : ℕ → ℕ → Item → Giving
giving n number item = record { number = number; entries = take n item.queue.entries; handle = item.client_handle; timestamps = item.timestamps }

-- as many as are wanted yet
abbrev pub given_from : ℕ → ℕ → Option Item → List Giving
given_from left number None = []
given_from left number (Some item) = giving (nat_least left (waiting_in item)) number item ∷ []

abbrev pub givings : Taking → List ℕ → List Giving
givings before [] = []
givings before (n ∷ ns) = given_from before.left n (item_at n before.items) ++ givings (with_taken before n) ns

-- what a message tells of them
abbrev pub notes_given : List Giving → List MonitoredItemNotification
notes_given [] = []
notes_given (g ∷ gs) = map (note_of g.handle g.timestamps) g.entries ++ notes_given gs

-- what is given to the message for which the items of a subscription are asked, so many values at most
abbrev pub given_to : ItemsState → ℕ → ℕ → List Giving
given_to s subscription n = givings (nothing_taken s.items n) (numbers_of subscription s.items)

-- by a call
abbrev pub given : ItemsState → Move → List Giving
given s (TakeNotes subscription n) = given_to s subscription n
given s (Create nodes clock subscription timestamps requests) = []
given s (Modify subscription timestamps requests) = []
given s (SetMode nodes clock subscription mode numbers) = []
given s (Link subscription triggering add remove) = []
given s (Delete subscription numbers) = []
given s (End subscription) = []
given s (Show changed) = []

-- by any calls, one after the other
abbrev pub all_given : ItemsState → List Move → List Giving
all_given s [] = []
all_given s (m ∷ ms) = given s m ++ all_given (moved s m).state ms

-- the values that the item of a number gave
abbrev pub entries_of : ℕ → List Giving → List (Entry DataValue)
entries_of number [] = []
entries_of number (g ∷ gs) = if g.number == number then g.entries ++ entries_of number gs else entries_of number gs

-- ---- what the laws say

-- what a message takes is told of what the items give
abbrev pub NotesAreOfGivings : Type 0
NotesAreOfGivings = (items : NumberedItems) (n : ℕ) (numbers : List ℕ) → (taken_of items n numbers).notes ≡ notes_given (givings (nothing_taken items n) numbers)

-- what an item ever gave are the values of its account that were sent, with their marks
abbrev pub GivingsAreWhatWasSent : Type 0
GivingsAreWhatWasSent = (config : Configuration) (moves : List Move) (number : ℕ) → entries_of number (all_given (no_items config) moves) ≡ sent_of (account_of config moves number)
