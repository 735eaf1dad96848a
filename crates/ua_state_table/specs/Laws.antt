-- What holds of the rows, told of a subscription that stands as every reached one does.
use Rattle.std.specs.Prelude.{◌≡◌, ◌+◌, Bool, true, false}
use Rattle.ua_state_table.specs.declared.state.State.TheVariants.{Late}
use Rattle.ua_state_table.specs.declared.vars.Vars.{Vars}
use Rattle.ua_state_table.specs.declared.event.TableEvent.{TableEvent}
use Rattle.ua_state_table.specs.declared.event.TableEvent.TheVariants.{Timer}
use Rattle.ua_state_table.specs.Doing.{Standing, with_vars}

-- it times out: at the timer that finds one life left, as late, and with no request queued
pub record TimesOut (s : Standing) (e : TableEvent) : Type 0 where
  pub at_timer : e ≡ Timer
  pub at_last : s.started + 1 ≡ s.lifetime_count
  pub late : s.vars.state ≡ Late
  pub unasked : s.vars.queued ≡ false

-- what may change between two rows: values come, and requests come and go
abbrev pub with_values : Standing → Standing
with_values s = let v : Vars = s.vars in with_vars s (record v { available = true })

abbrev pub with_queued : Standing → Bool → Standing
with_queued s queued = let v : Vars = s.vars in with_vars s (record v { queued = queued })
