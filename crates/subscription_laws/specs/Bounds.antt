-- How many of each thing there are at most, as the server's configuration says.
use Rattle.std.specs.Prelude.{◌≡◌, ◌≤◌, ℕ, length, Some}
use Rattle.ua_types.specs.Configuration.{Configuration}
use Rattle.ua_monitored_items.specs.ItemTables.{NumberedItems, item_at, numbers_of}
use Rattle.ua_monitored_items.specs.declared.item.Item.{Item}
use Rattle.ua_subscriptions.specs.Tables.{TableState, part_at, subscription_at}
use Rattle.ua_subscriptions.specs.declared.subscription.Subscription.{Subscription}

-- no more values of an item wait than its queue's size says, which is from 1 to the longest that the server allows
pub record KeepsWithinSize (longest : ℕ) (item : Item) : Type 0 where
  pub waiting : length item.queue.entries ≤ item.queue.size
  pub least : 1 ≤ item.queue.size
  pub most : item.queue.size ≤ longest

-- so it is with each item: no queue is longer than `queue`
abbrev pub QueuesAreWithin : Configuration → NumberedItems → Type 0
QueuesAreWithin config items = (number : ℕ) (item : Item) → item_at number items ≡ Some item → KeepsWithinSize config.queue item

-- each subscription has at most `items` items
abbrev pub ItemsAreWithin : Configuration → NumberedItems → Type 0
ItemsAreWithin config items = (subscription : ℕ) → length (numbers_of subscription items) ≤ config.items

-- all subscriptions have at most `items_in_all` items
abbrev pub AllItemsAreWithin : Configuration → NumberedItems → Type 0
AllItemsAreWithin config items = length items ≤ config.items_in_all

-- each session has at most `publish_queue` queued Publish requests
abbrev pub RequestsAreWithin : Configuration → TableState → Type 0
RequestsAreWithin config t = (session : ℕ) → length (part_at session t.sessions).requests ≤ config.publish_queue

-- each session has at most `subscriptions` subscriptions
abbrev pub SubscriptionsAreWithin : Configuration → TableState → Type 0
SubscriptionsAreWithin config t = (session : ℕ) → length (part_at session t.sessions).numbers ≤ config.subscriptions

-- at most `subscriptions_in_all` subscriptions live, those whose sessions ended among them
abbrev pub AllSubscriptionsAreWithin : Configuration → TableState → Type 0
AllSubscriptionsAreWithin config t = length t.subscriptions ≤ config.subscriptions_in_all

-- each subscription keeps at most `kept` messages
abbrev pub KeptAreWithin : Configuration → TableState → Type 0
KeptAreWithin config t = (number : ℕ) (s : Subscription) → subscription_at number t.subscriptions ≡ Some s → length s.kept ≤ config.kept
