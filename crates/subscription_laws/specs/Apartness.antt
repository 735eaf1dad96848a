-- A request of one session, and what is of others.
use Rattle.std.specs.Prelude.{◌≡◌, ◌≢◌, ◌⊎◌, ℕ, true, false, None, Some}
use Rattle.ua_monitored_items.specs.Items.{ItemsState}
use Rattle.ua_monitored_items.specs.ItemTables.{item_at}
use Rattle.ua_monitored_items.specs.declared.item.Item.{Item}
use Rattle.ua_subscriptions.specs.declared.subscription.Subscription.{Subscription}
use Rattle.ua_subscriptions.specs.Named.{is_own}
use Rattle.subscription_laws.specs.Runs.{Move}
use Rattle.ua_subscriptions.specs.Tables.{TableState, part_at, subscription_at}

-- a call is a request of a session; one on items is so where the subscription is the session's
abbrev pub IsRequestOf : ℕ → TableState → Move → Type 0
IsRequestOf session t (Move.Create clock own settings enabled) = own ≡ session
IsRequestOf session t (Move.Modify clock own number settings) = own ≡ session
IsRequestOf session t (Move.SetMode clock own numbers enabled) = own ≡ session
IsRequestOf session t (Move.Delete clock own numbers) = own ≡ session
IsRequestOf session t (Move.Publish clock own asked acks) = own ≡ session
IsRequestOf session t (Move.Republish clock own number wanted) = own ≡ session
IsRequestOf session t (Move.EndSession clock own deleting) = own ≡ session
IsRequestOf session t (Move.Items clock number asked) = is_own t session number ≡ true
IsRequestOf session t (Move.Timers clock) = ⊥
IsRequestOf session t (Move.Shutdown clock) = ⊥
IsRequestOf session t (Move.Gone conn) = ⊥
IsRequestOf session t (Move.Show changed) = ⊥

-- what is of other sessions, or of none, is as it was: their queued requests and notes, their subscriptions, with all
-- counters, messages and numbers, and the items of those. And none appears there: a subscription that isn't the session's was
-- there before, or the session had it, and has left it to no session; an item of a subscription that the session didn't have
-- was there before
pub record OthersStay (session : ℕ) (t : TableState) (items : ItemsState) (after : TableState) (items_after : ItemsState) : Type 0 where
  pub parts : (other : ℕ) → other ≢ session → part_at other after.sessions ≡ part_at other t.sessions
  pub subscriptions : (number : ℕ) (s : Subscription) → subscription_at number t.subscriptions ≡ Some s → s.session ≢ Some session → subscription_at number after.subscriptions ≡ Some s
  pub none_comes : (number : ℕ) (s : Subscription) → subscription_at number after.subscriptions ≡ Some s → s.session ≢ Some session →
      (subscription_at number t.subscriptions ≡ Some s) ⊎ ((is_own t session number ≡ true) × (s.session ≡ None))
  pub items_stay : (number : ℕ) (item : Item) → item_at number items.items ≡ Some item → is_own t session item.subscription ≡ false → item_at number items_after.items ≡ Some item
  pub no_item_comes : (number : ℕ) (item : Item) → item_at number items_after.items ≡ Some item → is_own t session item.subscription ≡ false → item_at number items.items ≡ Some item
