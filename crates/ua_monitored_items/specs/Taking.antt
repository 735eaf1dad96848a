-- What a message takes of the items, where it may be stopped by want of memory.
use Rattle.std.specs.Prelude.{◌≡◌, ℕ, List, [], ◌∷◌, ◌++◌, Option, Some, None}
use Rattle.ua_subscription_messages.specs.declared.publishing.MonitoredItemNotification.{MonitoredItemNotification}
use Rattle.ua_monitored_items.specs.Item.{waiting_in}
use Rattle.ua_monitored_items.specs.ItemTables.{NumberedItems, item_at}
use Rattle.ua_monitored_items.specs.Items.{taken_of}
use Rattle.ua_monitored_items.specs.Moves.{told_notes}
use Rattle.ua_monitored_items.specs.declared.item.Item.{Item}

-- how many values of an item wait to be sent, if there is such an item
abbrev pub waiting_at : Option Item → ℕ
waiting_at None = 0
waiting_at (Some item) = waiting_in item

-- of at most so many values of these items some were taken, those of the first items, and nothing else was done
abbrev pub TakenSome : NumberedItems → NumberedItems → ℕ → List ℕ → Type 0
TakenSome old new n numbers = (front : List ℕ) × (rest : List ℕ) × (front ++ rest ≡ numbers) × (new ≡ (taken_of old n front).items)

-- ---- what items have to tell, while none of them has sent it yet

-- what an item has to tell, if there is such an item
abbrev pub told_at : Option Item → List MonitoredItemNotification
told_at None = []
told_at (Some item) = told_notes item

-- what the items of some numbers have to tell, one after the other
abbrev pub told_by : NumberedItems → List ℕ → List MonitoredItemNotification
told_by items [] = []
told_by items (number ∷ numbers) = told_at (item_at number items) ++ told_by items numbers
