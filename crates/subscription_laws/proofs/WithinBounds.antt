-- The bounds of the configuration hold, whatever is called.
use Rattle.std.proofs.Common.{◌≡◌, ◌≤◌, ℕ, Bool, true, false, cond, List, [], ◌∷◌, length, Option, Some, unwrap_or, sym, subst}
use Rattle.std.specs.BTreeMap.{is_at}
use Rattle.std.specs.List.{AllByRecursion}
use Rattle.std.specs.Ordering.{nat_cmp}
use Rattle.ua_types.specs.Configuration.{Configuration, IsConfigured}
use Rattle.ua_monitored_items.specs.Items.{ItemsState}
use Rattle.ua_monitored_items.specs.ItemTables.{NumberedItems, item_at}
use Rattle.ua_monitored_items.specs.declared.item.Item.{Item}
use Rattle.ua_subscriptions.specs.Settings.{bounds_of}
use Rattle.ua_subscriptions.specs.Subscriptions.{unborn}
use Rattle.ua_subscriptions.specs.declared.subscription.Subscription.{Subscription}
use Rattle.subscription_laws.specs.Bounds.{KeepsWithinSize, QueuesAreWithin, ItemsAreWithin, AllItemsAreWithin, RequestsAreWithin, SubscriptionsAreWithin, AllSubscriptionsAreWithin, KeptAreWithin}
use Rattle.subscription_laws.specs.ItemCalls.{item_calls}
use Rattle.subscription_laws.specs.Runs.{Move, run}
use Rattle.subscription_laws.proofs.ItemsCalled.{items_come_by_their_calls}
use Rattle.subscription_laws.proofs.QueuesWithin.{AreFew, items_bounded}
use Rattle.subscription_laws.proofs.TablesWithin.{part_bounded, kept_found, subs_bounded}

found_keeps : (longest number : ℕ) (item : Item) (es : NumberedItems) → AllByRecursion (λ (e : ℕ × Item). KeepsWithinSize longest e.1) es → item_at number es ≡ Some item → KeepsWithinSize longest item
found_keeps longest number item [] h found = absurd (cc)
found_keeps longest number item (e ∷ es) h found = by (is_at (nat_cmp number) e.0) found (found_keeps longest number item es h.1)
  where
    by : (b : Bool) → cond b (Some e.1) (item_at number es) ≡ Some item → (item_at number es ≡ Some item → KeepsWithinSize longest item) → KeepsWithinSize longest item
    by true here more = let is : e.1 ≡ item = cc in subst (KeepsWithinSize longest) is h.0
    by false here more = more here

items_within : (config : Configuration) → IsConfigured config → (moves : List Move) → AreFew config.items config.items_in_all config.queue (run config moves).items.items
items_within config is moves = subst (λ (s : ItemsState). AreFew config.items config.items_in_all config.queue s.items) (sym (items_come_by_their_calls config moves)) (items_bounded config is (item_calls config moves)).items

pub queues_within : (config : Configuration) → IsConfigured config → (moves : List Move) → let r = run config moves in QueuesAreWithin config r.items.items
queues_within config is moves number item found = found_keeps config.queue number item (run config moves).items.items (items_within config is moves).keep found

pub few_items : (config : Configuration) → IsConfigured config → (moves : List Move) → let r = run config moves in ItemsAreWithin config r.items.items
few_items config is moves = (items_within config is moves).few

pub few_items_in_all : (config : Configuration) → IsConfigured config → (moves : List Move) → let r = run config moves in AllItemsAreWithin config r.items.items
few_items_in_all config is moves = (items_within config is moves).few_in_all

pub few_requests : (config : Configuration) → IsConfigured config → (moves : List Move) → let r = run config moves in RequestsAreWithin config r.subscriptions.table
few_requests config is moves session = (part_bounded (bounds_of config) is.publish_queue.0 session (run config moves).subscriptions.table.sessions (subs_bounded config is moves).sessions).requests

pub few_subscriptions : (config : Configuration) → IsConfigured config → (moves : List Move) → let r = run config moves in SubscriptionsAreWithin config r.subscriptions.table
few_subscriptions config is moves session = (part_bounded (bounds_of config) is.publish_queue.0 session (run config moves).subscriptions.table.sessions (subs_bounded config is moves).sessions).numbers

pub few_subscriptions_in_all : (config : Configuration) → IsConfigured config → (moves : List Move) → let r = run config moves in AllSubscriptionsAreWithin config r.subscriptions.table
few_subscriptions_in_all config is moves = (subs_bounded config is moves).few

pub few_kept : (config : Configuration) → IsConfigured config → (moves : List Move) → let r = run config moves in KeptAreWithin config r.subscriptions.table
few_kept config is moves number s found =
    let t = (run config moves).subscriptions.table in
    subst (λ (o : Option Subscription). length (unwrap_or o (unborn 0)).kept ≤ config.kept) found
    (kept_found (bounds_of config) is.publish_queue.0 number t.subscriptions (subs_bounded config is moves).subscriptions)
