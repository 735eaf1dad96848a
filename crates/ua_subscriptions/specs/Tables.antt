-- Subscriptions and sessions under their numbers, and what a subscription meets.
use Rattle.std.specs.Prelude.{◌≡◌, ⊤, ℕ, true, List, [], Option, Some, None, Result, Ok, Err, unwrap_or, map, fold, if◌then◌else◌}
use Rattle.std.specs.BTreeMap.{is_at}
use Rattle.std.specs.Map.{lookup, set_value, remove_entry}
use Rattle.std.specs.Ordering.{nat_cmp}
use Rattle.server_messages.specs.declared.halt.Halt.{Halt}
use Rattle.server_messages.specs.declared.halt.Halt.TheVariants.{Memory, Exhausted}
use Rattle.ua_monitored_items.specs.Items.{ItemsState}
use Rattle.ua_subscriptions.specs.declared.call.Call.{Call}
use Rattle.ua_subscriptions.specs.declared.session_part.SessionSubscriptions.{SessionSubscriptions}
use Rattle.ua_subscriptions.specs.declared.subscription.Subscription.{Subscription}
use Rattle.ua_subscriptions.specs.declared.round.Round.{Round}
use Rattle.ua_subscriptions.specs.Firing.{fired, is_closed}
use Rattle.ua_subscriptions.specs.Scenes.{Scene, scene, is_overspent}
use Rattle.ua_subscriptions.specs.Subscriptions.{no_part, vars_of}
use Rattle.ua_subscriptions.specs.Answers.{number_of}
use Rattle.ua_state_table.specs.declared.vars.Vars.{Vars}

-- the live subscriptions, and what each session has of subscriptions, under their numbers
pub record TableState : Type 0 where
  pub subscriptions : List (ℕ × Subscription)
  pub sessions : List (ℕ × SessionSubscriptions)

abbrev pub table_of : List (ℕ × Subscription) → List (ℕ × SessionSubscriptions) → TableState
table_of subscriptions sessions = record { subscriptions = subscriptions; sessions = sessions }

abbrev pub no_table : TableState
no_table = table_of [] []

abbrev pub subscription_at : ℕ → List (ℕ × Subscription) → Option Subscription
subscription_at own subscriptions = lookup (is_at (nat_cmp own)) subscriptions

-- what a session has; nothing where it has none yet
abbrev pub part_at : ℕ → List (ℕ × SessionSubscriptions) → SessionSubscriptions
part_at session sessions = unwrap_or (lookup (is_at (nat_cmp session)) sessions) no_part

abbrev pub part_of : Option ℕ → List (ℕ × SessionSubscriptions) → SessionSubscriptions
part_of None sessions = no_part
part_of (Some session) sessions = part_at session sessions

abbrev pub vars_by : ℕ → ItemsState → List (ℕ × SessionSubscriptions) → Option Subscription → Option Vars
vars_by number items sessions None = None
vars_by number items sessions (Some s) = Some (vars_of s (part_of s.session sessions) items number)

-- the variables of the subscription of a number
abbrev pub vars_found : ℕ → ItemsState → TableState → Option Vars
vars_found number items table = vars_by number items table.sessions (subscription_at number table.subscriptions)

abbrev pub kept_numbers_by : Option Subscription → List ℕ
kept_numbers_by None = []
kept_numbers_by (Some s) = map number_of s.kept

-- the numbers of the messages that it keeps, in the order in which they were sent
abbrev pub kept_found : ℕ → TableState → List ℕ
kept_found number table = kept_numbers_by (subscription_at number table.subscriptions)

-- a session has this in the place of what it had
abbrev pub set_part : Option ℕ → List (ℕ × SessionSubscriptions) → SessionSubscriptions → List (ℕ × SessionSubscriptions)
set_part None sessions part = sessions
set_part (Some session) sessions part = set_value (is_at (nat_cmp session)) sessions part

-- the scene of a live subscription, with what its session has
abbrev pub scene_in : Round → Subscription → List (ℕ × SessionSubscriptions) → ItemsState → Scene
scene_in round s sessions items = scene round s (part_of s.session sessions) items

-- a subscription is put back under its number: one that is closed is no more
abbrev pub put_back : ℕ → Subscription → List (ℕ × Subscription) → List (ℕ × Subscription)
put_back own s subscriptions = if is_closed s then remove_entry (is_at (nat_cmp own)) (set_value (is_at (nat_cmp own)) subscriptions s) else set_value (is_at (nat_cmp own)) subscriptions s

-- the table once a subscription has become another, and its session's part this one
abbrev pub table_after : ℕ → Subscription → Subscription → SessionSubscriptions → TableState → TableState
table_after own before after part table = table_of (put_back own after table.subscriptions) (set_part before.session table.sessions part)

-- ---- a subscription under its number

-- a round, the table and the items, as the one thing that requests change
pub record Stage : Type 0 where
  pub round : Round
  pub table : TableState
  pub items : ItemsState

abbrev pub stage : Round → TableState → ItemsState → Stage
stage round table items = record { round = round; table = table; items = items }

abbrev pub with_call : Round → ℕ → Call → Round
with_call round own call = record round { own = own; call = call }

-- where a call comes to the subscription of a number
abbrev pub scene_at : Stage → ℕ → Call → Subscription → Scene
scene_at w own call s = scene_in (with_call w.round own call) s w.table.sessions w.items

-- and what a scene leaves that began with this subscription
abbrev pub stage_after : ℕ → Subscription → Scene → TableState → Stage
stage_after own s c table = stage c.round (table_after own s c.subscription c.part table) c.items

abbrev pub met_by : Stage → ℕ → Call → Option Subscription → Stage
met_by w own call None = record w { round = with_call w.round own call }
met_by w own call (Some s) = stage_after own s (fired (scene_at w own call s)) w.table

-- what comes to the subscription of a number fires one row; nothing happens where there is none
unfoldable pub met : Stage → ℕ → Call → Stage
met w own call = met_by w own call (subscription_at own w.table.subscriptions)

-- it comes to several, one after the other
abbrev pub meet_each : Call → Stage → ℕ → Stage
meet_each call w own = met w own call

abbrev pub all_met : Call → Stage → List ℕ → Stage
all_met call w numbers = fold (meet_each call) w numbers

-- ---- what the code does of it

-- a call leaves the stage that is said of it, unless memory ran out, or messages can't be counted any more
abbrev pub Meets : {A : Type 0} → Result A Halt → Stage → Stage → Type 0
Meets (Ok done) new said = new ≡ said
Meets (Err Memory) new said = ⊤
Meets (Err Exhausted) new said = is_overspent said.round ≡ true
