-- What the store holds: for each node one value, and for each node and time one value of its past.
use Rattle.std.specs.Prelude.{◌≡◌, ◌≤◌, ℕ, ℤ, List, string_bytes, bytes_eq, fold, find, map, length, filter, IsPermutation, Option, Some, None, option_map, Bool, false, ◌&&◌, if◌then◌else◌, IsTrue}
use Rattle.std.specs.List.{AllByRecursion}
use Rattle.std.specs.Ordering.{is_eq, int_cmp}
use Rattle.sqlite.specs.declared.types.Value.{Value}
use Rattle.sqlite.specs.declared.types.Value.TheVariants.{Int, Text}
use Rattle.sqlite.specs.Order.{Row, column, value_cmp}
use Rattle.sqlite.specs.Tree.{Trees, rowid, has_rowid}
use Rattle.sqlite.specs.View.{is_int}
use Rattle.sqlite.specs.Effect.{Database}
use Rattle.value_store.specs.declared.rows.StoredRow.{StoredRow}
use Rattle.value_store.specs.declared.rows.TableName.{TableName}
use Rattle.value_store.specs.declared.rows.TableName.TheVariants as table
use Rattle.value_store.specs.declared.rows.RowChange.{RowChange}
use Rattle.value_store.specs.declared.rows.RowChange.TheVariants as change
use Rattle.value_store.specs.Rows.{row_in, columns}
use Rattle.value_store.specs.Tables.{store_schema}

-- ---- what lies in the files

-- the number of a table's tree
abbrev pub tree_of : TableName → ℕ
tree_of table.Value = 0
tree_of table.History = 2

abbrev pub is_of_node : List ℕ → Row → Bool
is_of_node node r = is_eq (value_cmp (column r 1) (Text node))

-- SQL's = of a time that there may not be
abbrev pub is_when : Option ℤ → Value → Bool
is_when None v = false
is_when (Some time) v = is_eq (value_cmp v (Int time))

-- the key of a row of `value` is its node, that of a row of `history` its node and time
abbrev pub is_at : TableName → List ℕ → Option ℤ → Row → Bool
is_at table.Value node time r = is_of_node node r
is_at table.History node time r = is_of_node node r && is_when time (column r 2)

-- what stands in each table under each key
abbrev pub Rows : Type 0
Rows = TableName → List ℕ → Option ℤ → Option Row

abbrev pub rows_at : Trees → Rows
rows_at trees t node time = option_map columns (find (is_at t node time) (trees (tree_of t)))

-- each row has an integer for its number, and no two have the same
abbrev pub AreNumbered : List Row → Type 0
AreNumbered rows = AllByRecursion (λ r. IsTrue (is_int (rowid r))) rows × ((n : ℤ) → length (filter (has_rowid n) rows) ≤ 1)

-- the two tables and nothing else, with their rows numbered
abbrev pub IsStore : Database → Type 0
IsStore db = (db.schema ≡ store_schema) × AreNumbered (db.trees 0) × AreNumbered (db.trees 2)

-- ---- what a turn makes of it

abbrev pub is_time : Option ℤ → Option ℤ → Bool
is_time (Some time) (Some other) = is_eq (int_cmp time other)
is_time time other = false

-- two keys of two tables are one
abbrev pub is_key : TableName → List ℕ → Option ℤ → TableName → List ℕ → Option ℤ → Bool
is_key table.Value node time table.Value n at = bytes_eq node n
is_key table.History node time table.History n at = bytes_eq node n && is_time time at
is_key s node time t n at = false

abbrev pub rows_with : Rows → RowChange → Rows
rows_with rows (change.Put s r) t n at = if is_key s (string_bytes r.node) r.source_time t n at then Some (row_in s r) else rows t n at
rows_with rows (change.Forget k) t n at = if is_key table.History (string_bytes k.node) (Some k.time) t n at then None else rows t n at

-- the second is the first with the changes made, one after the other
abbrev pub IsAfter : List RowChange → Trees → Trees → Type 0
IsAfter turn old new = (t : TableName) (n : List ℕ) (at : Option ℤ) → rows_at new t n at ≡ fold rows_with (rows_at old) turn t n at

-- ---- what is read back

-- each row of a table is there once, and nothing else is
abbrev pub AreRowsOf : TableName → Trees → List StoredRow → Type 0
AreRowsOf t trees rows = IsPermutation (map columns (trees (tree_of t))) (map (row_in t) rows)

abbrev pub AreAll : Trees → List StoredRow → List StoredRow → Type 0
AreAll trees values pasts = AreRowsOf table.Value trees values × AreRowsOf table.History trees pasts
