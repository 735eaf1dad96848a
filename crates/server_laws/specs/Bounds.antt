-- How many of each thing a server has at most, and what time it is.
use Rattle.std.specs.Prelude.{◌≡◌, ◌≤◌, ℕ, length}
use Rattle.std.specs.FinMap.{len}
use Rattle.ua_types.specs.Configuration.{Configuration}
use Rattle.ua_types.specs.Moments.{later}
use Rattle.ua_types.specs.declared.moment.Moment.{Moment}
use Rattle.ua_types.specs.declared.node_id.NodeId.{NodeId}
use Rattle.server_messages.specs.declared.request.Request.{Request}
use Rattle.server_messages.specs.declared.setting.Setting.{Setting}
use Rattle.ua_history.specs.Histories.{history_of}
use Rattle.ua_monitored_items.specs.Items.{ItemsState}
use Rattle.ua_session.specs.Sessions.{SessionsState, points_of}
use Rattle.ua_subscriptions.specs.SubscriptionCalls.{SubscriptionsState}
use Rattle.subscription_laws.specs.Bounds.{QueuesAreWithin, ItemsAreWithin, AllItemsAreWithin, RequestsAreWithin, SubscriptionsAreWithin, AllSubscriptionsAreWithin, KeptAreWithin}
use Rattle.ua_services.specs.Services.{serving_of, ticking_of}
use Rattle.ua_services.specs.declared.services.Services.{Services}
use Rattle.server_core.specs.Handling.{setting_at}
use Rattle.server_core.specs.declared.parts.Core.{Core}
use Rattle.server_core.specs.declared.world.World.{World}

-- ---- subscriptions and items

-- no more of them, nor of what they keep, than the configuration says
pub record KeepsFewSubscriptions (config : Configuration) (world : World) : Type 0 where
  pub queues : let items : ItemsState = world.core.services.items in QueuesAreWithin config items.items
  pub items : let items : ItemsState = world.core.services.items in ItemsAreWithin config items.items
  pub all_items : let items : ItemsState = world.core.services.items in AllItemsAreWithin config items.items
  pub requests : let state : SubscriptionsState = world.core.services.subscriptions in RequestsAreWithin config state.table
  pub subscriptions : let state : SubscriptionsState = world.core.services.subscriptions in SubscriptionsAreWithin config state.table
  pub all_subscriptions : let state : SubscriptionsState = world.core.services.subscriptions in AllSubscriptionsAreWithin config state.table
  pub kept : let state : SubscriptionsState = world.core.services.subscriptions in KeptAreWithin config state.table

-- ---- sessions

-- no more sessions than `sessions`
abbrev pub SessionsAreFew : Configuration → World → Type 0
SessionsAreFew config world = let sessions : SessionsState = world.core.services.sessions in len sessions.sessions ≤ config.sessions

-- and no more continuation points of one than `points`
abbrev pub PointsAreFew : Configuration → World → Type 0
PointsAreFew config world = let sessions : SessionsState = world.core.services.sessions in (session : ℕ) → len (points_of sessions session).held ≤ config.points

-- ---- histories

-- no more values of a node are kept than `history`
abbrev pub HistoriesAreFew : Configuration → World → Type 0
HistoriesAreFew config world = let services : Services = world.core.services in (id : NodeId) → length (history_of id services.history) ≤ config.history

-- ---- the clock

-- the moment that the services are handed is that of the sessions' clock: now, once the next request was served, whatever it
-- asks, and at the next tick, whenever it comes, where both are the later of the clock and what the tick brings
pub record HasOneClock (world : World) : Type 0 where
  pub now : let core : Core = world.core in let sessions : SessionsState = core.services.sessions in sessions.clock ≡ core.setting.clock
  pub requests : (request : Request) → let core : Core = world.core in let after : SessionsState = (serving_of core.setting request core.services).state.sessions in after.clock ≡ core.setting.clock
  pub ticks : (brought : Moment) → let core : Core = world.core in let setting : Setting = setting_at core (later core.setting.clock brought) in
      let after : SessionsState = (ticking_of setting core.services).state.sessions in after.clock ≡ setting.clock

-- the configuration is the one that the server was opened with
abbrev pub KeepsItsConfiguration : Configuration → World → Type 0
KeepsItsConfiguration config world = let core : Core = world.core in core.setting.config ≡ config
