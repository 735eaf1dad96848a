-- Subscriptions, and what their sessions have of them (IEC 62541-4, 5.13).
use Rattle.std.specs.Prelude.{ℕ, pos, ◌==◌, ◌&&◌, Bool, true, false, List, [], ◌∷◌, Option, Some, None}
use Rattle.std.specs.Option.{is_some}
use Rattle.ua_state_table.specs.declared.state.State.TheVariants.{Closed}
use Rattle.ua_state_table.specs.declared.vars.Vars.{Vars}
use Rattle.ua_monitored_items.specs.Items.{ItemsState, is_available}
use Rattle.ua_subscriptions.specs.declared.publish_call.PublishCall.{PublishCall}
use Rattle.ua_subscriptions.specs.declared.session_part.SessionSubscriptions.{SessionSubscriptions}
use Rattle.ua_subscriptions.specs.declared.subscription.Subscription.{Subscription}

abbrev pub no_part : SessionSubscriptions
no_part = record { numbers = []; requests = []; notes = [] }

-- a subscription that hasn't begun
abbrev pub unborn : ℕ → Subscription
unborn session = record {
  session = Some session;
  state = Closed;
  enabled = false;
  more = false;
  sent = false;
  keep_alive = 0;
  lifetime = 0;
  keep_alive_count = 0;
  lifetime_count = 0;
  notifications = 0;
  priority = 0;
  due = record { 0 = pos 0 };
  message_count = 0;
  number = 0;
  kept = [];
}

abbrev pub is_any : List PublishCall → Bool
is_any [] = false
is_any (call ∷ calls) = true

-- the variables that the state table looks at, where a request of its session waits or doesn't
abbrev pub vars_with : Subscription → Bool → ItemsState → ℕ → Vars
vars_with s waits items own = record {
  state = s.state;
  enabled = s.enabled;
  queued = is_some s.session && waits;
  available = is_available items own;
  more = s.more;
  sent = s.sent;
  keep_alive = s.keep_alive;
  lifetime = s.lifetime;
}

abbrev pub vars_of : Subscription → SessionSubscriptions → ItemsState → ℕ → Vars
vars_of s part items own = vars_with s (is_any part.requests) items own

-- the variables of one that isn't there
abbrev pub no_vars : Vars
no_vars = record { state = Closed; enabled = false; queued = false; available = false; more = false; sent = false; keep_alive = 0; lifetime = 0 }

abbrev pub is_of : Option ℕ → ℕ → Bool
is_of None session = false
is_of (Some own) session = own == session
