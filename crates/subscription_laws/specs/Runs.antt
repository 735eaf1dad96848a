-- Any calls, one after the other.
use Rattle.std.specs.Prelude.{ℕ, Bool, List, [], ◌∷◌, ◌++◌, fold, Option, Some, None}
use Rattle.ua_types.specs.Configuration.{Configuration}
use Rattle.ua_types.specs.declared.moment.Moment.{Moment}
use Rattle.server_messages.specs.declared.fired.Fired.{Fired}
use Rattle.server_messages.specs.declared.reply.Reply.{Reply}
use Rattle.ua_space.specs.Nodes.{Nodes}
use Rattle.ua_read_write.specs.declared.timestamps.Timestamps.{Timestamps}
use Rattle.ua_read_write.specs.declared.writing.Change.{Change}
use Rattle.ua_subscription_messages.specs.declared.monitored_items.MonitoredItemCreateRequest.{MonitoredItemCreateRequest}
use Rattle.ua_subscription_messages.specs.declared.monitored_items.MonitoredItemModifyRequest.{MonitoredItemModifyRequest}
use Rattle.ua_subscription_messages.specs.declared.publishing.SubscriptionAcknowledgement.{SubscriptionAcknowledgement}
use Rattle.ua_state_table.specs.declared.vars.Vars.{Vars}
use Rattle.ua_monitored_items.specs.Items.{ItemsState, no_items}
use Rattle.ua_monitored_items.specs.Moves as item_moves
use Rattle.ua_monitored_items.specs.declared.kinds.Mode.{Mode}
use Rattle.ua_subscriptions.specs.declared.call.Call.TheVariants as call
use Rattle.ua_subscriptions.specs.declared.publish_call.PublishCall.{PublishCall}
use Rattle.ua_subscriptions.specs.declared.settings.Settings.{Settings}
use Rattle.ua_subscriptions.specs.Ending.{session_ended, shut_down, without_conn}
use Rattle.ua_subscriptions.specs.Making.{modified, republished, timed}
use Rattle.ua_subscriptions.specs.Named.{named_all, deleted}
use Rattle.ua_subscriptions.specs.Publishing.{published}
use Rattle.ua_subscriptions.specs.SubscriptionCalls.{SubscriptionsState, no_subscriptions, stage_of, Said, said, without_answer, created}
use Rattle.ua_subscriptions.specs.Tables.{met, vars_found}

-- what a client asks of the items of a subscription
pub data ItemsCall : Type 0 where
  Create : Nodes → Moment → Timestamps → List MonitoredItemCreateRequest → ItemsCall
  Modify : Timestamps → List MonitoredItemModifyRequest → ItemsCall
  SetMode : Nodes → Moment → Mode → List ℕ → ItemsCall
  Link : (triggering : ℕ) → (add remove : List ℕ) → ItemsCall
  Delete : List ℕ → ItemsCall

abbrev pub on_items : ℕ → ItemsCall → item_moves.Move
on_items number (ItemsCall.Create nodes clock timestamps requests) = item_moves.Move.Create nodes clock number timestamps requests
on_items number (ItemsCall.Modify timestamps requests) = item_moves.Move.Modify number timestamps requests
on_items number (ItemsCall.SetMode nodes clock mode numbers) = item_moves.Move.SetMode nodes clock number mode numbers
on_items number (ItemsCall.Link triggering add remove) = item_moves.Move.Link number triggering add remove
on_items number (ItemsCall.Delete numbers) = item_moves.Move.Delete number numbers

-- the items once they were called; a request that is refused calls nothing
abbrev pub items_asked : ItemsState → ℕ → Option ItemsCall → ItemsState
items_asked items number None = items
items_asked items number (Some asked) = (item_moves.moved items (on_items number asked)).state

-- a call: of `Subscriptions`; of the items of a subscription, of which `Subscriptions` is told then; or the items are shown what was written
pub data Move : Type 0 where
  Create : (clock : Moment) → (session : ℕ) → Settings → (enabled : Bool) → Move
  Modify : (clock : Moment) → (session number : ℕ) → Settings → Move
  SetMode : (clock : Moment) → (session : ℕ) → (numbers : List ℕ) → (enabled : Bool) → Move
  Delete : (clock : Moment) → (session : ℕ) → (numbers : List ℕ) → Move
  Publish : (clock : Moment) → (session : ℕ) → PublishCall → List SubscriptionAcknowledgement → Move
  Republish : (clock : Moment) → (session number wanted : ℕ) → Move
  Timers : (clock : Moment) → Move
  EndSession : (clock : Moment) → (session : ℕ) → (deleting : Bool) → Move
  Shutdown : (clock : Moment) → Move
  Gone : (conn : ℕ) → Move
  Items : (clock : Moment) → (number : ℕ) → Option ItemsCall → Move
  Show : List Change → Move

-- the subscriptions and the items, and what was done so far: the rows that fired, and what was answered to Publish requests
pub record Ran : Type 0 where
  pub subscriptions : SubscriptionsState
  pub items : ItemsState
  pub rows : List Fired
  pub replies : List Reply

abbrev pub start : Configuration → Ran
start config = record { subscriptions = no_subscriptions config; items = no_items config; rows = []; replies = [] }

abbrev pub ran_by : {A : Type 0} → Ran → Said A → Ran
ran_by before s = record {
  subscriptions = s.state;
  items = s.outcome.stage.items;
  rows = before.rows ++ s.outcome.stage.round.rows;
  replies = before.replies ++ s.outcome.stage.round.replies;
}

-- where the subscription has these variables, its items are served, and the row sees both
abbrev pub items_ran : Moment → ℕ → Option ItemsCall → Ran → Option Vars → Ran
items_ran clock number asked before None = before
items_ran clock number asked before (Some vars) =
    ran_by before (without_answer before.subscriptions (met (stage_of before.subscriptions (items_asked before.items number asked) clock) number (call.Items vars)))

-- what a call leaves: what its contract says
abbrev pub moved : Ran → Move → Ran
moved r (Move.Create clock session settings enabled) = ran_by r (created session settings enabled r.subscriptions r.items clock)
moved r (Move.Modify clock session number settings) = ran_by r (said r.subscriptions (modified session number settings (stage_of r.subscriptions r.items clock)))
moved r (Move.SetMode clock session numbers enabled) = ran_by r (said r.subscriptions (named_all session (call.SetMode enabled) (stage_of r.subscriptions r.items clock) numbers))
moved r (Move.Delete clock session numbers) = ran_by r (said r.subscriptions (deleted session (stage_of r.subscriptions r.items clock) numbers))
moved r (Move.Publish clock session asked acks) = ran_by r (without_answer r.subscriptions (published session asked acks (stage_of r.subscriptions r.items clock)))
moved r (Move.Republish clock session number wanted) = ran_by r (said r.subscriptions (republished session number wanted (stage_of r.subscriptions r.items clock)))
moved r (Move.Timers clock) = ran_by r (without_answer r.subscriptions (timed (stage_of r.subscriptions r.items clock)))
moved r (Move.EndSession clock session deleting) = ran_by r (without_answer r.subscriptions (session_ended session deleting (stage_of r.subscriptions r.items clock)))
moved r (Move.Shutdown clock) = ran_by r (without_answer r.subscriptions (shut_down (stage_of r.subscriptions r.items clock)))
moved r (Move.Gone conn) = let subscriptions : SubscriptionsState = r.subscriptions in record r { subscriptions = record subscriptions { table = without_conn conn subscriptions.table } }
moved r (Move.Items clock number asked) = items_ran clock number asked r (vars_found number r.items r.subscriptions.table)
moved r (Move.Show changed) = record r { items = (item_moves.moved r.items (item_moves.Move.Show changed)).state }

-- what any calls leave, from the first on
abbrev pub run : Configuration → List Move → Ran
run config moves = fold moved (start config) moves

-- what comes of several calls, each met by what those before it left
abbrev pub of_run : {A : Type 0} → (Ran → Move → List A) → Ran → List Move → List A
of_run each r [] = []
of_run each r (m ∷ ms) = each r m ++ of_run each (moved r m) ms
