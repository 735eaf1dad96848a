-- A subscription as the state table sees it.
use Rattle.std.specs.Prelude.{◌≡◌, ℕ, ◌&&◌, ◌||◌, Bool, true, false}
use Rattle.std.specs.Option.{is_some}
use Rattle.ua_state_table.specs.Doing.{Standing, Circumstances, after}
use Rattle.ua_state_table.specs.declared.row.RowId.{RowId}
use Rattle.ua_state_table.specs.declared.row.RowId.TheVariants.{N2, N3, L1, K2}
use Rattle.ua_state_table.specs.declared.vars.Vars.{Vars}
use Rattle.ua_monitored_items.specs.Items.{is_available}
use Rattle.ua_subscriptions.specs.declared.subscription.Subscription.{Subscription}
use Rattle.ua_subscriptions.specs.Calls.{settings_of, asks_enabled}
use Rattle.ua_subscriptions.specs.Scenes.{Scene, row_done}
use Rattle.ua_subscriptions.specs.Settings.{revised_keep_alive_count, revised_lifetime_count}
use Rattle.ua_subscriptions.specs.Subscriptions.{vars_of, is_any}

-- the two counts that no code keeps: the timers started since the life counter was set, and those that found a request
-- since a message was sent, or one of them found none, or the counts were set
pub record Counts : Type 0 where
  pub started : ℕ
  pub answerable : ℕ

abbrev pub standing : Vars → Subscription → Counts → Standing
standing vars s counts = record { vars = vars; keep_alive_count = s.keep_alive_count; lifetime_count = s.lifetime_count; started = counts.started; answerable = counts.answerable }

-- how it stands in a scene, under its number
abbrev pub standing_in : ℕ → Scene → Counts → Standing
standing_in own c counts = standing (vars_of c.subscription c.part c.items own) c.subscription counts

abbrev pub counts_of : Standing → Counts
counts_of s = record { started = s.started; answerable = s.answerable }

abbrev pub sends_notes : RowId → Bool
sends_notes N2 = true
sends_notes N3 = true
sends_notes L1 = true
sends_notes K2 = true
sends_notes r = false

-- what the table can't tell of a row from a scene to another: what is left once it is done, and what the client asks
abbrev pub circumstances : RowId → Scene → Scene → Circumstances
circumstances r c d = record {
  available = is_available d.items c.round.own;
  left_over = sends_notes r && d.subscription.more;
  queued = (vars_of d.subscription d.part d.items c.round.own).queued;
  enabled = asks_enabled c.round.call;
  keep_alive_count = revised_keep_alive_count (settings_of c.round.call).keep_alive_count;
  lifetime_count = revised_lifetime_count (revised_keep_alive_count (settings_of c.round.call).keep_alive_count) (settings_of c.round.call).lifetime_count;
}

-- the counts after a row
abbrev pub row_counts : RowId → Scene → Counts → Counts
row_counts r c counts = counts_of (after (circumstances r c (row_done r c)) r (standing_in c.round.own c counts))

-- a request of the subscription's session is there to be queued, or waits already
pub record IsAsked (c : Scene) : Type 0 where
  pub owned : is_some c.subscription.session ≡ true
  pub asked : (is_some c.round.asked || is_any c.part.requests) ≡ true
