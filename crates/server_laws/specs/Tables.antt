-- What holds of the subscriptions of a server, after any events.
use Rattle.std.specs.Prelude.{◌≡◌, ◌+◌, ℕ, true, false, List, [], ◌∷◌, ◌++◌, Option, Some, None}
use Rattle.ua_types.specs.Configuration.{Configuration}
use Rattle.server_messages.specs.declared.fired.Fired.{Fired}
use Rattle.ua_types.specs.declared.moment.Moment.{Moment}
use Rattle.ua_space.specs.Nodes.{SpaceState}
use Rattle.ua_subscription_messages.specs.declared.publishing.SubscriptionAcknowledgement.{SubscriptionAcknowledgement}
use Rattle.ua_subscriptions.specs.declared.publish_call.PublishCall.{PublishCall}
use Rattle.ua_monitored_items.specs.ItemTables.{item_at}
use Rattle.ua_state_table.specs.Sound.{IsSound}
use Rattle.ua_state_table.specs.StateTable.{fires}
use Rattle.ua_state_table.specs.declared.event.TableEvent.TheVariants.{Timer}
use Rattle.ua_state_table.specs.declared.row.RowId.TheVariants.{G6}
use Rattle.ua_state_table.specs.declared.state.State.TheVariants.{Late}
use Rattle.subscription_laws.specs.Calm.{AreSteady, LivesCountTimers}
use Rattle.subscription_laws.specs.Concern.{all_concerned, AreTheRowsFor}
use Rattle.subscription_laws.specs.Histories.{counts_at, life_at}
use Rattle.subscription_laws.specs.LiveItems.{AreOfLive}
use Rattle.subscription_laws.specs.OwnRequests.{AreOwnAnswers}
use Rattle.subscription_laws.specs.Precedence.{ComesToTheBest, ComesBestFirst}
use Rattle.subscription_laws.specs.Runs.{Move, run}
use Rattle.ua_subscriptions.specs.SubscriptionCalls.{SubscriptionsState}
use Rattle.ua_subscriptions.specs.Subscriptions.{vars_of}
use Rattle.ua_subscriptions.specs.Tables.{TableState, part_of, subscription_at}
use Rattle.ua_subscriptions.specs.declared.subscription.Subscription.{Subscription}
use Rattle.ua_services.specs.declared.services.Services.{Services}
use Rattle.server_core.specs.Coherent.{reached, IfRuns}
use Rattle.server_core.specs.Effects.{fired_of}
use Rattle.server_core.specs.Running.{Running, joined_effects}
use Rattle.server_core.specs.declared.parts.Core.{Core}
use Rattle.server_core.specs.declared.world.World.{World}
use Rattle.server_core.specs.declared.event.Event.{Event}
use Rattle.server_laws.specs.Concern.{FiresForEach}
use Rattle.server_laws.specs.EventMoves.{moves_of}

-- the rows of all events, the oldest first
abbrev pub rows_of_run : Running → List Fired
rows_of_run r = fired_of (joined_effects r.steps)

-- of the subscriptions of a server, if it isn't halted
abbrev pub IfShown : (TableState → Type 0) → Option World → Type 0
IfShown P server = IfRuns (λ (world : World). let state : SubscriptionsState = world.core.services.subscriptions in P state.table) server

-- these calls lead from none to the subscriptions and items of a server, and fire these rows
pub record LeadTo (config : Configuration) (moves : List Move) (rows : List Fired) (world : World) : Type 0 where
  pub subscriptions : let services : Services = world.core.services in (run config moves).subscriptions ≡ services.subscriptions
  pub items : let services : Services = world.core.services in (run config moves).items ≡ services.items
  pub fired : (run config moves).rows ≡ rows

-- each live subscription is steady, with the counts that the rows tell
abbrev pub StaysSteady : List Fired → World → Type 0
StaysSteady rows world = let services : Services = world.core.services in AreSteady services.subscriptions.table services.items rows

-- and its variables are sound
abbrev pub VariablesAreSound : World → Type 0
VariablesAreSound world =
    let services : Services = world.core.services in
    let t : TableState = services.subscriptions.table in
    (number : ℕ) (s : Subscription) → subscription_at number t.subscriptions ≡ Some s → IsSound (vars_of s (part_of s.session t.sessions) services.items number)

-- each row that fired, with those before it
abbrev pub OfEachRow : (List Fired → Fired → Type 0) → List Fired → Type 0
OfEachRow P rows = (before : List Fired) (f : Fired) (rest : List Fired) → before ++ f ∷ rest ≡ rows → P before f

-- One row fires for each subscription that the events concern, in order, and no other; so it is with the next event, too. Each is
-- the only one that the table allows at its variables, which are sound; and each live subscription is steady, its variables sound
pub record FiresOneRow (config : Configuration) (space : SpaceState) (events : List Event) : Type 0 where
  pub each : let r = reached config space events in AreTheRowsFor (all_concerned config (moves_of config space events)) (rows_of_run r)
  pub next : IfRuns FiresForEach (reached config space events).server
  pub only : OfEachRow (λ before f. fires f.before f.event ≡ f.row ∷ []) (rows_of_run (reached config space events))
  pub sound : OfEachRow (λ before f. IsSound f.before) (rows_of_run (reached config space events))
  pub steady : let r = reached config space events in IfRuns (StaysSteady (rows_of_run r)) r.server
  pub sound_now : IfRuns VariablesAreSound (reached config space events).server

-- a timer finds as many timers started, this one included, as the life counter was last set to
abbrev pub IsLastTimer : List Fired → Fired → Type 0
IsLastTimer before f = (counts_at f.subscription before).started + 1 ≡ life_at f.subscription before

-- A subscription times out at that timer and at no other; what its life counter lacks of what it was set to are the timers since
pub record TimesOutExactly (config : Configuration) (space : SpaceState) (events : List Event) : Type 0 where
  pub then : OfEachRow (λ before f. f.row ≡ G6 → (f.event ≡ Timer) × IsLastTimer before f) (rows_of_run (reached config space events))
  pub only_then : OfEachRow (λ before f. f.event ≡ Timer → IsLastTimer before f → f.row ≡ G6) (rows_of_run (reached config space events))
  pub counted : let r = reached config space events in IfShown (LivesCountTimers (rows_of_run r)) r.server

-- one that times out is late, and no request of its session is queued
abbrev pub NoneTimesOutBesideARequest : List Fired → Type 0
NoneTimesOutBesideARequest rows = OfEachRow (λ before f. f.row ≡ G6 → (f.before.state ≡ Late) × (f.before.queued ≡ false)) rows

-- ---- the subscriptions' own

-- each monitored item is of a live subscription
abbrev pub ItemsAreOfLive : World → Type 0
ItemsAreOfLive world = let services : Services = world.core.services in AreOfLive services.subscriptions.table.subscriptions services.items.items

-- once the server was shut down, there is none
abbrev pub IsEmptyOnceShut : World → Type 0
IsEmptyOnceShut world = let core : Core = world.core in core.is_shut ≡ true → (number : ℕ) → item_at number core.services.items.items ≡ None

pub record ItemsHaveSubscriptions (config : Configuration) (space : SpaceState) (events : List Event) : Type 0 where
  pub live : IfRuns ItemsAreOfLive (reached config space events).server
  pub shut : IfRuns IsEmptyOnceShut (reached config space events).server

-- at each call of a run, what is answered about a subscription is given to a Publish request that came in that one's session
abbrev pub AnswersStayInSessions : Configuration → SpaceState → List Event → Type 0
AnswersStayInSessions config space events = (before : List Move) (m : Move) (rest : List Move) → before ++ m ∷ rest ≡ moves_of config space events → AreOwnAnswers config before m

-- Each Publish request of a run comes to the best of the subscriptions that wait for it, and each tick to those that are due, the best
-- first
pub record ServesTheBestFirst (config : Configuration) (space : SpaceState) (events : List Event) : Type 0 where
  pub asked : (before : List Move) (clock : Moment) (session : ℕ) (asked : PublishCall) (acks : List SubscriptionAcknowledgement) (rest : List Move) →
      before ++ Move.Publish clock session asked acks ∷ rest ≡ moves_of config space events → ComesToTheBest (run config before) clock session asked acks
  pub due : (before : List Move) (clock : Moment) (rest : List Move) → before ++ Move.Timers clock ∷ rest ≡ moves_of config space events → ComesBestFirst (run config before) clock
