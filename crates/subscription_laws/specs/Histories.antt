-- The rows that fired, one after the other: what they count, and what holds of each (IEC 62541-4, 5.13: the lifetime and
-- keep-alive counters).
use Rattle.std.specs.Prelude.{◌≡◌, ℕ, ◌+◌, ◌==◌, Bool, true, false, List, [], ◌∷◌, ◌++◌, fold, if◌then◌else◌}
use Rattle.std.specs.List.{list_any}
use Rattle.server_messages.specs.declared.fired.Fired.{Fired}
use Rattle.ua_state_table.specs.Doing.{answerable_after}
use Rattle.ua_state_table.specs.Sound.{IsSound}
use Rattle.ua_state_table.specs.StateTable.{actions_of, fires}
use Rattle.ua_state_table.specs.declared.action.Action.{Action}
use Rattle.ua_state_table.specs.declared.action.Action.TheVariants.{Initialise, StartTimer, ResetLife}
use Rattle.ua_state_table.specs.declared.event.TableEvent.TheVariants.{Timer}
use Rattle.ua_state_table.specs.declared.row.RowId.{RowId}
use Rattle.ua_state_table.specs.declared.row.RowId.TheVariants.{G6}
use Rattle.ua_state_table.specs.declared.state.State.TheVariants.{Late}
use Rattle.subscription_laws.specs.Standings.{Counts}

-- how often the timer was started since the life counter was last set
abbrev pub started_by : ℕ → Action → ℕ
started_by n Initialise = 0
started_by n ResetLife = 0
started_by n StartTimer = n + 1
started_by n action = n

-- the two counts after one more row
abbrev pub counts_after : Counts → Fired → Counts
counts_after counts f = record { started = fold started_by counts.started (actions_of f.row); answerable = answerable_after f.row f.before.queued counts.answerable }

abbrev pub no_counts : Counts
no_counts = record { started = 0; answerable = 0 }

abbrev pub counted_for : ℕ → Counts → Fired → Counts
counted_for number counts f = if f.subscription == number then counts_after counts f else counts

-- the counts of the subscription of a number after these rows, the oldest first
abbrev pub counts_at : ℕ → List Fired → Counts
counts_at number rows = fold (counted_for number) no_counts rows

abbrev pub is_setting_life : Action → Bool
is_setting_life Initialise = true
is_setting_life ResetLife = true
is_setting_life action = false

abbrev pub sets_life : RowId → Bool
sets_life r = list_any is_setting_life (actions_of r)

-- what the life counter was last set to: a row that sets it may have started the timer since
abbrev pub life_after : ℕ → Fired → ℕ
life_after lifetime f = if sets_life f.row then f.after.lifetime + (counts_after no_counts f).started else lifetime

abbrev pub life_for : ℕ → ℕ → Fired → ℕ
life_for number lifetime f = if f.subscription == number then life_after lifetime f else lifetime

abbrev pub life_at : ℕ → List Fired → ℕ
life_at number rows = fold (life_for number) 0 rows

-- a row that fires after others is the only one that the table allows at its variables, which are sound; a subscription
-- times out at exactly the timer that finds as many timers started, this one included, as its life counter was set to; it
-- is late then, and no request of its session is queued
pub record IsLawful (before : List Fired) (f : Fired) : Type 0 where
  pub only : fires f.before f.event ≡ f.row ∷ []
  pub sound : IsSound f.before
  pub times_out : f.row ≡ G6 → (f.event ≡ Timer) × (f.before.state ≡ Late) × (f.before.queued ≡ false) × ((counts_at f.subscription before).started + 1 ≡ life_at f.subscription before)
  pub in_time : f.event ≡ Timer → (counts_at f.subscription before).started + 1 ≡ life_at f.subscription before → f.row ≡ G6

-- of these rows, each is so after those before it
abbrev pub AreLawful : List Fired → Type 0
AreLawful rows = (before : List Fired) (f : Fired) (rest : List Fired) → before ++ f ∷ rest ≡ rows → IsLawful before f
