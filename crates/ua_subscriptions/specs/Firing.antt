-- What is met by a subscription fires one row of the state table.
use Rattle.std.specs.Prelude.{Bool, [], ◌∷◌, ◌++◌, if◌then◌else◌}
use Rattle.std.specs.BTreeMap.{is_at}
use Rattle.std.specs.Ordering.{nat_cmp}
use Rattle.std.specs.Set.{remove_key}
use Rattle.server_messages.specs.declared.fired.Fired.{Fired}
use Rattle.ua_state_table.specs.Chosen.{chosen}
use Rattle.ua_state_table.specs.Events as events
use Rattle.ua_state_table.specs.declared.row.RowId.{RowId}
use Rattle.ua_state_table.specs.declared.state.State.TheVariants.{Closed}
use Rattle.ua_state_table.specs.declared.vars.Vars.{Vars}
use Rattle.ua_subscriptions.specs.declared.call.Call.{Call}
use Rattle.ua_subscriptions.specs.declared.call.Call.TheVariants.{Create, Items}
use Rattle.ua_subscriptions.specs.declared.session_part.SessionSubscriptions.{SessionSubscriptions}
use Rattle.ua_subscriptions.specs.declared.subscription.Subscription.{Subscription}
use Rattle.ua_subscriptions.specs.declared.round.Round.{Round}
use Rattle.ua_subscriptions.specs.Calls.{event_of}
use Rattle.ua_subscriptions.specs.Scenes.{Scene, row_done}
use Rattle.ua_subscriptions.specs.Subscriptions.{vars_of, no_vars}

abbrev pub is_closed : Subscription → Bool
is_closed s = events.is_closed s.state

abbrev pub vars_in : Scene → Vars
vars_in c = vars_of c.subscription c.part c.items c.round.own

-- the variables that the row is chosen by: of one that is created, none; where its items were changed, those before that
abbrev pub before_by : Call → Scene → Vars
before_by (Create full settings enabled) c = no_vars
before_by (Items before) c = before
before_by call c = vars_in c

abbrev pub before_of : Scene → Vars
before_of c = before_by c.round.call c

-- the variables after a row: one that is closed has another state, and else those before
abbrev pub vars_after : Vars → Scene → Vars
vars_after before c = if is_closed c.subscription then record before { state = Closed } else vars_in c

abbrev pub row_of : Scene → RowId
row_of c = chosen (before_of c) (event_of c.round.call)

abbrev pub fired_in : Scene → Scene → Fired
fired_in c d = record { subscription = d.round.own; event = event_of c.round.call; before = before_of c; row = row_of c; after = vars_after (before_of c) d }

-- a row is told of; one that closes its subscription takes it from its session
abbrev pub with_row : Fired → Scene → Scene
with_row f d =
    let round : Round = d.round in
    let part : SessionSubscriptions = d.part in
    record d {
      round = record round { rows = round.rows ++ f ∷ [] };
      part = record part { numbers = if is_closed d.subscription then remove_key (is_at (nat_cmp round.own)) part.numbers else part.numbers };
    }

-- the scene after the row that the table chooses
unfoldable pub fired : Scene → Scene
fired c = with_row (fired_in c (row_done (row_of c) c)) (row_done (row_of c) c)
