-- Whose the monitored items are.
use Rattle.std.specs.Prelude.{◌≡◌, ℕ, true, List, Some}
use Rattle.std.specs.Option.{is_some}
use Rattle.ua_monitored_items.specs.ItemTables.{NumberedItems, item_at}
use Rattle.ua_monitored_items.specs.declared.item.Item.{Item}
use Rattle.ua_subscriptions.specs.declared.subscription.Subscription.{Subscription}
use Rattle.ua_subscriptions.specs.Tables.{subscription_at}

-- each item is of a live subscription
abbrev pub AreOfLive : List (ℕ × Subscription) → NumberedItems → Type 0
AreOfLive subscriptions items = (number : ℕ) (item : Item) → item_at number items ≡ Some item → is_some (subscription_at item.subscription subscriptions) ≡ true
