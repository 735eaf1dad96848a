-- The row that fires, told as a choice.
use Rattle.std.specs.Prelude.{◌==◌, ◌&&◌, ◌||◌, Bool, not, if◌then◌else◌}
use Rattle.ua_state_table.specs.declared.state.State.{State}
use Rattle.ua_state_table.specs.declared.state.State.TheVariants.{Closed, Normal, Late, KeepAlive}
use Rattle.ua_state_table.specs.declared.vars.Vars.{Vars}
use Rattle.ua_state_table.specs.declared.event.TableEvent.{TableEvent}
use Rattle.ua_state_table.specs.declared.event.TableEvent.TheVariants.{Create, Publish, Timer, Modify, SetMode, Republish, Delete, Items, SessionEnd, Shutdown}
use Rattle.ua_state_table.specs.declared.row.RowId.{RowId}
use Rattle.ua_state_table.specs.declared.row.RowId.TheVariants.{C1, C2, N1, N2, N3, N4, N5, N6, L1, L2, L3, K1, K2, K3, K4, K5, G1, G2, G3, G4, G5, G6, G7, G8, G9, G10}

-- what the choice asks of sound variables
pub record Answers : Type 0 where
  pub enabled_available : Bool
  pub enabled_more : Bool
  pub queued : Bool
  pub sent : Bool
  pub last_keep : Bool
  pub last_life : Bool

abbrev pub answers : Vars → Answers
answers v = record {
  enabled_available = v.enabled && v.available;
  enabled_more = v.enabled && v.more;
  queued = v.queued;
  sent = v.sent;
  last_keep = v.keep_alive == 1;
  last_life = v.lifetime == 1;
}

-- at a timer that isn't the last
abbrev pub timer_row : State → Answers → RowId
timer_row Normal a = if a.queued then (if a.enabled_available then N3 else (if a.sent then N6 else N4)) else (if not a.sent || a.enabled_available then N5 else N6)
timer_row Late a = L3
timer_row KeepAlive a = if a.queued then (if a.enabled_available then K2 else (if a.last_keep then K3 else K4)) else (if a.last_keep || a.enabled_available then K5 else K4)
timer_row Closed a = G6

abbrev pub publish_row : State → Answers → RowId
publish_row Normal a = if a.enabled_more then N2 else N1
publish_row Late a = if a.enabled_available then L1 else L2
publish_row KeepAlive a = K1
publish_row Closed a = C1

abbrev pub row_chosen : State → TableEvent → Answers → RowId
row_chosen s (Create full) a = if full then C1 else C2
row_chosen s Publish a = publish_row s a
row_chosen s Timer a = if a.last_life then G6 else timer_row s a
row_chosen s Modify a = G1
row_chosen s SetMode a = G2
row_chosen s (Republish kept) a = if kept then G3 else G4
row_chosen s Delete a = G5
row_chosen s Items a = G7
row_chosen s (SessionEnd deleting) a = if deleting then G8 else G9
row_chosen s Shutdown a = G10

abbrev pub chosen : Vars → TableEvent → RowId
chosen v e = row_chosen v.state e (answers v)
