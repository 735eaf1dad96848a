-- What the services do, told as calls of the subscriptions and their items.
use Rattle.std.specs.Prelude.{◌≡◌, List, ◌++◌, fold}
use Rattle.server_messages.specs.declared.fired.Fired.{Fired}
use Rattle.server_messages.specs.declared.reply.Reply.{Reply}
use Rattle.ua_monitored_items.specs.Items.{ItemsState}
use Rattle.subscription_laws.specs.Answering.{HaveTheirOwn}
use Rattle.subscription_laws.specs.Runs.{Move, Ran, moved}
use Rattle.ua_subscriptions.specs.SubscriptionCalls.{SubscriptionsState}
use Rattle.ua_services.specs.declared.services.Services.{Services}
use Rattle.ua_services.specs.Serving.{Serving, rows_of}

-- the subscriptions and items of these services, once so many rows fired and such replies were given
abbrev pub ran_at : Services → List Fired → List Reply → Ran
ran_at state rows replies = record { subscriptions = state.subscriptions; items = state.items; rows = rows; replies = replies }

-- these calls lead to these subscriptions and items; all rows are these then
pub record Went (from : Ran) (moves : List Move) (subscriptions : SubscriptionsState) (items : ItemsState) (rows : List Fired) : Type 0 where
  pub replied : List Reply
  pub left : fold moved from moves ≡ record { subscriptions = subscriptions; items = items; rows = rows; replies = replied }

-- services come from others by these calls, which fire these rows behind all that fired before
abbrev pub ComesOn : Services → List Move → Services → List Fired → Type 0
ComesOn before moves after rows = (so_far : List Fired) (replies : List Reply) → Went (ran_at before so_far replies) moves after.subscriptions after.items (so_far ++ rows)

-- these replies stand among those, in order
abbrev pub StandIn : List Reply → List Reply → Type 0
StandIn replies given = HaveTheirOwn (λ (x y : Reply). x ≡ y) replies given

-- these calls lead on to these subscriptions and items, and fire these rows; their answers to Publish requests stand among these replies
pub record WentOn (from : Ran) (moves : List Move) (subscriptions : SubscriptionsState) (items : ItemsState) (rows : List Fired) (given : List Reply) : Type 0 where
  pub answers : List Reply
  pub left : fold moved from moves ≡ record { subscriptions = subscriptions; items = items; rows = from.rows ++ rows; replies = from.replies ++ answers }
  pub among : StandIn answers given

-- services come from others by these calls, which fire these rows and answer among these replies
abbrev pub ComesOnWith : Services → List Move → Services → List Fired → List Reply → Type 0
ComesOnWith before moves after rows given = (so_far : List Fired) (replies : List Reply) → WentOn (ran_at before so_far replies) moves after.subscriptions after.items rows given

-- and so they come from a serving, with its rows and replies
abbrev pub ComesOnBy : Services → List Move → Serving → Type 0
ComesOnBy state moves s = ComesOnWith state moves s.state (rows_of s.occurrences) s.replies
