-- What the tables keep, in the words of the server.
use Rattle.std.specs.Prelude.{◌≡◌, ◌&&◌, ℤ, Bool, false, List, fold, Option, Some, None, Result, Ok, Err, if◌then◌else◌}
use Rattle.std.specs.Option.{option_and_then}
use Rattle.ua_types.specs.IdTexts.{id_text, id_of}
use Rattle.ua_types.specs.declared.id_texts.IdFault.{IdFault}
use Rattle.ua_types.specs.declared.node_id.NodeId.{NodeId}
use Rattle.ua_types.specs.declared.data_value.DataValue.{DataValue}
use Rattle.server_messages.specs.Kept.{Kept, Past, is_same, with_all_stored, AreAlike}
use Rattle.server_messages.specs.declared.stored.Stored.{Stored}
use Rattle.sqlite.specs.State.{State, HasCleanDisk}
use Rattle.sqlite.specs.Tree.{Trees}
use Rattle.value_store.specs.declared.rows.RowChange.{RowChange}
use Rattle.value_store.specs.declared.rows.TableName.TheVariants as table
use Rattle.value_store.specs.Forms.{said_in}
use Rattle.value_store.specs.Model.{Rows, rows_at, rows_with}

abbrev pub is_read : NodeId → Result NodeId IdFault → Bool
is_read id (Ok other) = is_same other id
is_read id (Err e) = false

-- the id is read again of its text, as each is whose identifier isn't null
abbrev pub is_readable : NodeId → Bool
is_readable id = is_read id (id_of (id_text id))

-- what the rows under the text of an id say
abbrev pub kept_by : Rows → Kept
kept_by rows = record {
  values = λ id. if is_readable id then option_and_then (said_in table.Value) (rows table.Value (id_text id) None) else None;
  histories = λ id time. if is_readable id then option_and_then (said_in table.History) (rows table.History (id_text id) (Some time)) else None;
}

abbrev pub kept_at : Trees → Kept
kept_at trees = kept_by (rows_at trees)

-- what a store keeps, where its disk has kept its word and it is open
abbrev pub kept_in : State → Option Kept
kept_in s = if s.is_clean && s.is_open then Some (kept_at s.now.trees) else None

-- what the next start may find, where the disk keeps its word
abbrev pub MayFind : State → Kept → Type 0
MayFind s found = HasCleanDisk s × (trees : Trees) × s.may_leave trees × AreAlike (kept_at trees) found

-- ---- what changes of rows mean

abbrev pub kept_after : Rows → List RowChange → Kept
kept_after rows changes = kept_by (fold rows_with rows changes)

-- the second has the value, and all else as the first
pub record HasValue (id : NodeId) (value : DataValue) (a b : Kept) : Type 0 where
  pub values : (other : NodeId) → b.values other ≡ (if is_same id other then Some value else a.values other)
  pub histories : (other : NodeId) (time : ℤ) → b.histories other time ≡ a.histories other time

-- the second has what becomes of the variable's history, and all else as the first
pub record HasHistory (id : NodeId) (become : Past → Past) (a b : Kept) : Type 0 where
  pub values : (other : NodeId) → b.values other ≡ a.values other
  pub histories : (other : NodeId) (time : ℤ) → b.histories other time ≡ (if is_same id other then become (a.histories other) time else a.histories other time)

-- whatever was kept before, what some more changes make of it
abbrev pub Grows : (Kept → Kept → Type 0) → List RowChange → List RowChange → Type 0
Grows Becomes old new = (rows : Rows) → Becomes (kept_after rows old) (kept_after rows new)

-- the changes make of whatever was kept what the values say
abbrev pub AreChanges : List Stored → List RowChange → Type 0
AreChanges stored changes = (rows : Rows) → AreAlike (with_all_stored (kept_by rows) stored) (kept_after rows changes)

-- the second has what the first has, with all of the values
abbrev pub HasAll : List Stored → Trees → Trees → Type 0
HasAll stored old new = AreAlike (with_all_stored (kept_at old) stored) (kept_at new)
