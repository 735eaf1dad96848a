-- The text of a trace: a line for each row of the state table that fired.
use Rattle.std.specs.Prelude.{◌&&◌, ℕ, Bool, not, List, [], ◌++◌, codes, Option, Some, None, if◌then◌else◌}
use Rattle.std.specs.List.{flat_map}
use Rattle.std.specs.Fmt.{decimal}
use Rattle.ua_state_table.specs.declared.condition.Condition.{Condition}
use Rattle.ua_state_table.specs.declared.row.RowId.{RowId}
use Rattle.ua_state_table.specs.declared.row.Row.{Row}
use Rattle.ua_state_table.specs.contracts.row.RowIdPartialEq.TheImpl as row_ids
use Rattle.ua_state_table.specs.StateTable.{concerns, first_false}
use Rattle.ua_state_table.specs.Rows.{printed_table}
use Rattle.ua_state_table.specs.Texts.{row_text, state_text, condition_text}
use Rattle.server_messages.specs.declared.fired.Fired.{Fired}

abbrev pub same_row : RowId → RowId → Bool
same_row = row_ids.ghosts.eq

-- whether a row is another one of the state and the event at which this one fired
abbrev pub is_other : Fired → Row → Bool
is_other fired row = concerns row.scope row.event fired.before.state fired.event && not (same_row row.id fired.row)

-- ` ROW:CONDITION`
abbrev pub reason_text : RowId → Option Condition → List ℕ
reason_text row None = []
reason_text row (Some condition) = codes " " ++ row_text row ++ codes ":" ++ condition_text condition

-- why another row didn't fire: its first condition that doesn't hold
abbrev pub other_text : Fired → Row → List ℕ
other_text fired row = if is_other fired row then reason_text row.id (first_false fired.before fired.event row.id) else []

-- of each other row, in the order of the table
abbrev pub others_text : Fired → List ℕ
others_text fired = flat_map (other_text fired) printed_table

-- `ROW OLD -> NEW`
abbrev pub move_text : Fired → List ℕ
move_text fired = row_text fired.row ++ codes " " ++ state_text fired.before.state ++ codes " -> " ++ state_text fired.after.state

-- `Kk Ll`, the counters after the row
abbrev pub counters_text : Fired → List ℕ
counters_text fired = codes "K" ++ decimal fired.after.keep_alive ++ codes " L" ++ decimal fired.after.lifetime

-- `EVENT SUB ROW OLD -> NEW Kk Ll`, the other rows, and the end of the line
unfoldable pub row_line : ℕ → Fired → List ℕ
row_line event fired =
    decimal event ++ codes " " ++ decimal fired.subscription ++ codes " " ++ move_text fired ++ codes " " ++ counters_text fired
    ++ others_text fired ++ codes "\n"

-- the lines of the rows that fired at an event
abbrev pub rows_text : ℕ → List Fired → List ℕ
rows_text event fired = flat_map (row_line event) fired
