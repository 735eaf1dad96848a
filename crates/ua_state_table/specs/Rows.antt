-- The rows as TABLE holds them.
use Rattle.std.specs.Prelude.{◌&&◌, Bool, true, List, [], ◌∷◌, find, map, Option, None, Some}
use Rattle.std.specs.List.{list_all, filter_map}
use Rattle.ua_state_table.specs.declared.state.State.{State}
use Rattle.ua_state_table.specs.declared.vars.Vars.{Vars}
use Rattle.ua_state_table.specs.declared.event.TableEvent.{TableEvent}
use Rattle.ua_state_table.specs.declared.condition.Condition.{Condition}
use Rattle.ua_state_table.specs.declared.row.RowId.{RowId}
use Rattle.ua_state_table.specs.declared.row.Row.{Row}
use Rattle.ua_state_table.specs.Conditions.{holds}
use Rattle.ua_state_table.specs.StateTable.{printed, rows, concerns}

-- four places, of which the first hold the conditions
abbrev pub placed : List Condition → List (Option Condition)
placed [] = None ∷ None ∷ None ∷ None ∷ []
placed (a ∷ []) = Some a ∷ None ∷ None ∷ None ∷ []
placed (a ∷ b ∷ []) = Some a ∷ Some b ∷ None ∷ None ∷ []
placed (a ∷ b ∷ c ∷ []) = Some a ∷ Some b ∷ Some c ∷ None ∷ []
placed (a ∷ b ∷ c ∷ d ∷ _) = Some a ∷ Some b ∷ Some c ∷ Some d ∷ []

-- the row of a name, as it is printed
abbrev pub row_of : RowId → Row
row_of r = record { id = r; scope = (printed r).scope; event = (printed r).event; conditions = placed (printed r).conditions; next = (printed r).next }

-- whether what stands in a place lets a row fire
abbrev pub true_if_any : (Condition → Bool) → Option Condition → Bool
true_if_any is_true None = true
true_if_any is_true (Some c) = is_true c

abbrev pub is_fired : State → TableEvent → (Condition → Bool) → Row → Bool
is_fired s e is_true row = concerns row.scope row.event s e && list_all (true_if_any is_true) row.conditions

-- the first of some rows that fires
unfoldable pub first_fired : Vars → TableEvent → List Row → Option Row
first_fired v e rows = find (is_fired v.state e (holds v e)) rows

-- the table as the code holds it
unfoldable pub printed_table : List Row
printed_table = map row_of rows

abbrev pub place : Option Condition → Option Condition
place c = c

-- the conditions that stand in some places
abbrev pub placed_in : List (Option Condition) → List Condition
placed_in = filter_map place
