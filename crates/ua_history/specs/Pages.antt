-- Pages of a history: the first of its values in an interval, and where the next ones begin.
use Rattle.std.specs.Prelude.{◌≡◌, ℕ, ◌-◌, ◌++◌, nat_lt, Bool, length, slice_get, take, option_map, Option, None, if◌then◌else◌}
use Rattle.ua_types.specs.declared.moment.Moment.{Moment}
use Rattle.ua_history.specs.Histories.{Values}
use Rattle.ua_history.specs.declared.pages.Cut.{Cut}

-- the first of them
abbrev pub shown_of : ℕ → Values → Values
shown_of size values = take size values

-- whether a page of this size leaves some of them
abbrev pub is_more_than : ℕ → Values → Bool
is_more_than size values = nat_lt size (length values)

-- the time of the last of them
abbrev pub last_time : Values → Option Moment
last_time values = option_map (λ e. record { 0 = e.0 }) (slice_get values (length values - 1))

-- the last time of a page, where more are left: the next page has the times past it
abbrev pub last_given : ℕ → Values → Option Moment
last_given size values = if is_more_than size values then last_time (shown_of size values) else None

-- ---- words of the contracts

-- a page that is being filled: its order, how many values it has at most, and those that it has
pub record FillingState : Type 0 where
  pub is_falling : Bool
  pub size : ℕ
  pub values : Values

-- the first of its values and of these behind them, as many as it may have
abbrev pub filled_by : FillingState → Values → FillingState
filled_by s more = record s { values = take s.size (s.values ++ more) }

-- the code's page is the first of these values
pub record IsCut (cut : Cut) (size : ℕ) (all : Values) : Type 0 where
  pub values : cut.values ≡ shown_of size all
  pub last_given : cut.last_given ≡ last_given size all
