-- The state table of a subscription, as it is printed (docs/SUBSCRIPTIONS.md), and the rows that fire.
use Rattle.std.specs.Prelude.{◌&&◌, Bool, not, List, [], ◌∷◌, filter, find, Option}
use Rattle.std.specs.List.{list_all}
use Rattle.ua_state_table.specs.declared.state.State.{State}
use Rattle.ua_state_table.specs.declared.state.State.TheVariants.{Closed, Normal, Late, KeepAlive}
use Rattle.ua_state_table.specs.declared.vars.Vars.{Vars}
use Rattle.ua_state_table.specs.declared.event.TableEvent.{TableEvent}
use Rattle.ua_state_table.specs.declared.event.EventKind.{EventKind}
use Rattle.ua_state_table.specs.declared.event.EventKind.TheVariants.{Create, Publish, Timer, Modify, SetMode, Republish, Delete, Items, SessionEnd, Shutdown}
use Rattle.ua_state_table.specs.declared.condition.Condition.{Condition}
use Rattle.ua_state_table.specs.declared.condition.Condition.TheVariants.{Full, Room, EnabledMore, NotEnabledMore, EnabledAvailable, NotEnabledAvailable, Queued, NotQueued, Sent, NotSent, NotSentOrEnabledAvailable, KeepOne, KeepAboveOne, KeepOneOrEnabledAvailable, LifeOne, LifeAboveOne, Kept, NotKept, Deleting, Keeping}
use Rattle.ua_state_table.specs.declared.action.Action.{Action}
use Rattle.ua_state_table.specs.declared.action.Action.TheVariants.{RefuseTooMany, Initialise, StartTimer, Answer, DeleteAcknowledged, Enqueue, Dequeue, ResetLife, ResetKeep, CountKeep, SendNotifications, SendKeepAlive, SetSent, DeleteItems, NoteTimeout, Update, LimitKeep, SetEnabled, ClearMore, AnswerKept, RefuseNotKept, CallItems, LimitMore, LeaveSession}
use Rattle.ua_state_table.specs.declared.row.RowId.{RowId}
use Rattle.ua_state_table.specs.declared.row.RowId.TheVariants.{C1, C2, N1, N2, N3, N4, N5, N6, L1, L2, L3, K1, K2, K3, K4, K5, G1, G2, G3, G4, G5, G6, G7, G8, G9, G10}
use Rattle.ua_state_table.specs.declared.row.Scope.{Scope}
use Rattle.ua_state_table.specs.declared.row.Scope.TheVariants.{In, Live}
use Rattle.ua_state_table.specs.declared.row.Next.{Next}
use Rattle.ua_state_table.specs.declared.row.Next.TheVariants.{To, Same}
use Rattle.ua_state_table.specs.Events.{same_state, is_closed, is_kind}
use Rattle.ua_state_table.specs.Conditions.{holds}

-- a printed row: the states in which it stands, its event, its conditions, its actions, and where it leads
pub record Printed : Type 0 where
  pub scope : Scope
  pub event : EventKind
  pub conditions : List Condition
  pub actions : List Action
  pub next : Next

abbrev pub row : Scope → EventKind → List Condition → List Action → Next → Printed
row scope event conditions actions next = record { scope = scope; event = event; conditions = conditions; actions = actions; next = next }

-- the state table
abbrev pub printed : RowId → Printed
printed C1 = row (In Closed) Create (Full ∷ []) (RefuseTooMany ∷ []) (To Closed)
printed C2 = row (In Closed) Create (Room ∷ []) (Initialise ∷ StartTimer ∷ Answer ∷ []) (To Normal)
printed N1 = row (In Normal) Publish (NotEnabledMore ∷ []) (DeleteAcknowledged ∷ Enqueue ∷ []) (To Normal)
printed N2 = row (In Normal) Publish (EnabledMore ∷ []) (ResetLife ∷ DeleteAcknowledged ∷ SendNotifications ∷ SetSent ∷ []) (To Normal)
printed N3 = row (In Normal) Timer (LifeAboveOne ∷ Queued ∷ EnabledAvailable ∷ []) (ResetLife ∷ StartTimer ∷ Dequeue ∷ SendNotifications ∷ SetSent ∷ []) (To Normal)
printed N4 = row (In Normal) Timer (LifeAboveOne ∷ Queued ∷ NotSent ∷ NotEnabledAvailable ∷ []) (ResetLife ∷ StartTimer ∷ Dequeue ∷ SendKeepAlive ∷ SetSent ∷ []) (To Normal)
printed N5 = row (In Normal) Timer (LifeAboveOne ∷ NotQueued ∷ NotSentOrEnabledAvailable ∷ []) (StartTimer ∷ []) (To Late)
printed N6 = row (In Normal) Timer (LifeAboveOne ∷ Sent ∷ NotEnabledAvailable ∷ []) (StartTimer ∷ ResetKeep ∷ CountKeep ∷ []) (To KeepAlive)
printed L1 = row (In Late) Publish (EnabledAvailable ∷ []) (ResetLife ∷ DeleteAcknowledged ∷ SendNotifications ∷ SetSent ∷ []) (To Normal)
printed L2 = row (In Late) Publish (NotEnabledAvailable ∷ []) (ResetLife ∷ DeleteAcknowledged ∷ SendKeepAlive ∷ ResetKeep ∷ SetSent ∷ []) (To KeepAlive)
printed L3 = row (In Late) Timer (LifeAboveOne ∷ []) (StartTimer ∷ []) (To Late)
printed K1 = row (In KeepAlive) Publish [] (DeleteAcknowledged ∷ Enqueue ∷ []) (To KeepAlive)
printed K2 = row (In KeepAlive) Timer (LifeAboveOne ∷ Queued ∷ EnabledAvailable ∷ []) (ResetLife ∷ StartTimer ∷ Dequeue ∷ SendNotifications ∷ SetSent ∷ []) (To Normal)
printed K3 = row (In KeepAlive) Timer (LifeAboveOne ∷ Queued ∷ KeepOne ∷ NotEnabledAvailable ∷ []) (ResetLife ∷ StartTimer ∷ Dequeue ∷ SendKeepAlive ∷ ResetKeep ∷ []) (To KeepAlive)
printed K4 = row (In KeepAlive) Timer (LifeAboveOne ∷ KeepAboveOne ∷ NotEnabledAvailable ∷ []) (StartTimer ∷ CountKeep ∷ []) (To KeepAlive)
printed K5 = row (In KeepAlive) Timer (LifeAboveOne ∷ NotQueued ∷ KeepOneOrEnabledAvailable ∷ []) (StartTimer ∷ []) (To Late)
printed G1 = row Live Modify [] (Update ∷ LimitKeep ∷ ResetLife ∷ Answer ∷ []) Same
printed G2 = row Live SetMode [] (ResetLife ∷ SetEnabled ∷ ClearMore ∷ Answer ∷ []) Same
printed G3 = row Live Republish (Kept ∷ []) (ResetLife ∷ AnswerKept ∷ []) Same
printed G4 = row Live Republish (NotKept ∷ []) (ResetLife ∷ RefuseNotKept ∷ []) Same
printed G5 = row Live Delete [] (DeleteItems ∷ []) (To Closed)
printed G6 = row Live Timer (LifeOne ∷ []) (DeleteItems ∷ NoteTimeout ∷ []) (To Closed)
printed G7 = row Live Items [] (ResetLife ∷ CallItems ∷ LimitMore ∷ []) Same
printed G8 = row Live SessionEnd (Deleting ∷ []) (DeleteItems ∷ []) (To Closed)
printed G9 = row Live SessionEnd (Keeping ∷ []) (LeaveSession ∷ []) Same
printed G10 = row Live Shutdown [] (DeleteItems ∷ []) (To Closed)

-- the rows, in the order of the table
abbrev pub rows : List RowId
rows = C1 ∷ C2 ∷ N1 ∷ N2 ∷ N3 ∷ N4 ∷ N5 ∷ N6 ∷ L1 ∷ L2 ∷ L3 ∷ K1 ∷ K2 ∷ K3 ∷ K4 ∷ K5 ∷ G1 ∷ G2 ∷ G3 ∷ G4 ∷ G5 ∷ G6 ∷ G7 ∷ G8 ∷ G9 ∷ G10 ∷ []

abbrev pub conditions_of : RowId → List Condition
conditions_of r = (printed r).conditions

-- what a row does, in order
abbrev pub actions_of : RowId → List Action
actions_of r = (printed r).actions

abbrev pub led_to : Next → State → State
led_to (To t) s = t
led_to Same s = s

-- the state that a row leads to
abbrev pub next_of : RowId → State → State
next_of r s = led_to (printed r).next s

abbrev pub includes : Scope → State → Bool
includes (In s) t = same_state s t
includes Live t = not (is_closed t)

-- the rows of a state and an event
abbrev pub concerns : Scope → EventKind → State → TableEvent → Bool
concerns scope kind s e = includes scope s && is_kind kind e

-- the rows of a state and an event whose conditions are all true
unfoldable pub fired : State → TableEvent → (Condition → Bool) → List RowId
fired s e is_true = filter (λ r. concerns (printed r).scope (printed r).event s e && list_all is_true (conditions_of r)) rows

-- the rows that fire
abbrev pub fires : Vars → TableEvent → List RowId
fires v e = fired v.state e (holds v e)

-- the first condition of a row that doesn't hold
unfoldable pub first_false : Vars → TableEvent → RowId → Option Condition
first_false v e r = find (λ c. not (holds v e c)) (conditions_of r)
