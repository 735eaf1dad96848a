-- What the texts of the statements mean.
use Rattle.std.specs.Prelude.{◌≡◌, false, [], ◌∷◌, None, Ok, codes, List, ℕ, pos, negsuc}
use Rattle.sqlite.specs.declared.types.Value.TheVariants.{Null, Int}
use Rattle.sqlite.specs.Term.{Term, lit, col, op2}
use Rattle.sqlite.specs.Source.TheVariants.{Values}
use Rattle.sqlite.specs.Collation.TheVariants.{Binary}
use Rattle.sqlite_sql.specs.declared.ops.BinaryOp.TheVariants.{Compare}
use Rattle.sqlite_sql.specs.declared.ops.CompareOp.TheVariants.{Eq}
use Rattle.sqlite.specs.Command.TheVariants.{Insert, Select, Update, Delete}
use Rattle.sqlite.specs.Listing.{understood, reads_listing}
use Rattle.sqlite.specs.Query.{Query, inner, end}
use Rattle.sqlite_schema.specs.declared.program.Program.{Program}
use Rattle.sqlite.specs.Change.{created}
use Rattle.sqlite.specs.Compile.{table_defined_by}
use Rattle.sqlite.proofs.Callers.{command_of}
use Rattle.value_store.specs.declared.rows.TableName.{TableName}
use Rattle.value_store.specs.declared.rows.TableName.TheVariants as table
use Rattle.value_store.specs.Model.{tree_of}
use Rattle.value_store.specs.Tables.{value_text, history_text, value_table, history_table, no_schema, store_schema}

abbrev pub add_text : TableName → List ℕ
add_text table.Value = codes "INSERT INTO value (node, type, value, status, source_time, server_time) VALUES (?1, ?2, ?3, ?4, ?5, ?6)"
add_text table.History = codes "INSERT INTO history (node, time, type, value, status, server_time) VALUES (?1, ?2, ?3, ?4, ?5, ?6)"

abbrev pub renew_text : TableName → List ℕ
renew_text table.Value = codes "UPDATE value SET node = ?1, type = ?2, value = ?3, status = ?4, source_time = ?5, server_time = ?6 WHERE node = ?1"
renew_text table.History = codes "UPDATE history SET node = ?1, time = ?2, type = ?3, value = ?4, status = ?5, server_time = ?6 WHERE node = ?1 AND time = ?2"

abbrev pub forget_text : List ℕ
forget_text = codes "DELETE FROM history WHERE node = ?1 AND time = ?2"

abbrev pub rows_text : TableName → List ℕ
rows_text table.Value = codes "SELECT rowid, node, type, value, status, source_time, server_time FROM value"
rows_text table.History = codes "SELECT rowid, node, time, type, value, status, server_time FROM history"

-- the texts of the tables make the schema of the store
abbrev pub TablesAreUnderstood : Type 0
TablesAreUnderstood =
    (table_defined_by value_text ≡ Ok value_table) × (table_defined_by history_text ≡ Ok (record history_table { tree = 0 }))
    × (created (created no_schema value_table) history_table ≡ store_schema)

-- no number, and the six columns
abbrev pub terms : List Term
terms = lit Null ∷ col 0 0 ∷ col 0 1 ∷ col 0 2 ∷ col 0 3 ∷ col 0 4 ∷ col 0 5 ∷ []

-- the place of a table in the schema
abbrev pub place_of : TableName → ℕ
place_of table.Value = 0
place_of table.History = 1

abbrev pub AddsAreUnderstood : Type 0
AddsAreUnderstood = (t : TableName) → command_of (understood store_schema (add_text t)) ≡ Insert (place_of t) (Values terms 7)

-- the rows of one table that pass some tests, shown in some way
abbrev pub rows_where : ℕ → List Term → List Term → Query
rows_where tree tests shown = record {
  from = inner tree end;
  filter = tests;
  group = None;
  project = shown;
  distinct = false;
  collations = [];
  order = [];
  limit = lit (Int (negsuc 0));
  offset = lit (Int (pos 0));
}

-- the column is what is given
abbrev pub is_given : ℕ → ℕ → Term
is_given at place = op2 (Compare Eq Binary) (col 1 at) (col 0 place)

abbrev pub key_tests : TableName → List Term
key_tests table.Value = is_given 1 0 ∷ []
key_tests table.History = is_given 1 0 ∷ is_given 2 1 ∷ []

-- the rows with a key, shown in some way
abbrev pub with_key : TableName → List Term → Program
with_key t shown = record { lets = []; body = rows_where (tree_of t) (key_tests t) shown }

-- the old number, and then the new row: the same number, and the six columns
abbrev pub renewal : List Term
renewal = col 1 0 ∷ col 1 0 ∷ col 0 0 ∷ col 0 1 ∷ col 0 2 ∷ col 0 3 ∷ col 0 4 ∷ col 0 5 ∷ []

abbrev pub RenewalsAreUnderstood : Type 0
RenewalsAreUnderstood = (t : TableName) → command_of (understood store_schema (renew_text t)) ≡ Update (place_of t) (with_key t renewal)

abbrev pub number_alone : List Term
number_alone = col 1 0 ∷ []

abbrev pub DropsAreUnderstood : Type 0
DropsAreUnderstood = command_of (understood store_schema forget_text) ≡ Delete (place_of table.History) (with_key table.History number_alone)

-- each row of one table
abbrev pub rows_of : ℕ → Query
rows_of tree = rows_where tree [] (col 1 0 ∷ col 1 1 ∷ col 1 2 ∷ col 1 3 ∷ col 1 4 ∷ col 1 5 ∷ col 1 6 ∷ [])

abbrev pub names_in : TableName → List (List ℕ)
names_in table.Value = codes "rowid" ∷ codes "node" ∷ codes "type" ∷ codes "value" ∷ codes "status" ∷ codes "source_time" ∷ codes "server_time" ∷ []
names_in table.History = codes "rowid" ∷ codes "node" ∷ codes "time" ∷ codes "type" ∷ codes "value" ∷ codes "status" ∷ codes "server_time" ∷ []

abbrev pub ReadsAreUnderstood : Type 0
ReadsAreUnderstood =
    (t : TableName) → (command_of (understood store_schema (rows_text t)) ≡ Select (record { lets = []; body = rows_of (tree_of t) }) (names_in t)) × (reads_listing store_schema (rows_text t) ≡ false)
