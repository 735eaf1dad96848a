-- What holds of every subscription that a server reaches. It is more than that its variables are sound, and every row
-- keeps it.
use Rattle.std.specs.Prelude.{◌≡◌, ◌≢◌, ◌+◌, ◌*◌, ◌≤◌, ◌&&◌, ℕ, Bool, true, false}
use Rattle.ua_state_table.specs.declared.state.State.{State}
use Rattle.ua_state_table.specs.declared.state.State.TheVariants.{Closed, Normal, Late, KeepAlive}
use Rattle.ua_state_table.specs.declared.vars.Vars.{Vars}
use Rattle.ua_state_table.specs.Doing.{Standing, Circumstances}

abbrev pub waits_in : State → Bool → Bool
waits_in Late b = true
waits_in Normal b = b
waits_in KeepAlive b = false
waits_in Closed b = false

-- a subscription waits for a Publish request where it is late, or has values left over that are wanted
abbrev pub is_waiting : Vars → Bool
is_waiting v = waits_in v.state (v.enabled && v.more)

-- the counts that a client is given
pub record AreRevised (keep_alive_count lifetime_count : ℕ) : Type 0 where
  pub keep_alive : 2 ≤ keep_alive_count
  pub lifetime : 3 * keep_alive_count ≤ lifetime_count

pub record IsSteady (s : Standing) : Type 0 where
  pub live : s.vars.state ≢ Closed
  pub revised : AreRevised s.keep_alive_count s.lifetime_count
  -- the counters
  pub keep_least : 1 ≤ s.vars.keep_alive
  pub keep_most : s.vars.keep_alive ≤ s.keep_alive_count
  pub life_least : 1 ≤ s.vars.lifetime
  pub life_counted : s.vars.lifetime + s.started ≡ s.lifetime_count
  -- where it stands, and how many timers passed
  pub normal_life : s.vars.state ≡ Normal → s.lifetime_count ≤ s.vars.lifetime + 1
  pub alive_life : s.vars.state ≡ KeepAlive → s.lifetime_count + s.vars.keep_alive ≤ s.vars.lifetime + s.keep_alive_count + 1
  pub alive_passed : s.vars.state ≡ KeepAlive → s.answerable + s.vars.keep_alive ≤ s.keep_alive_count
  pub none_passed : s.vars.state ≢ KeepAlive → s.answerable ≡ 0
  -- values left over
  pub alive_told : s.vars.state ≡ KeepAlive → s.vars.more ≡ false
  pub more_enabled : s.vars.more ≡ true → s.vars.enabled ≡ true
  pub more_available : s.vars.more ≡ true → s.vars.available ≡ true
  -- no request is queued beside one that waits for it
  pub calm : s.vars.queued ≡ true → is_waiting s.vars ≡ false

-- notifications are sent as long as values and requests are left
pub record AreFair (c : Circumstances) : Type 0 where
  pub revised : AreRevised c.keep_alive_count c.lifetime_count
  pub left_available : c.left_over ≡ true → c.available ≡ true
  pub left_unasked : c.left_over ≡ true → c.queued ≡ false
