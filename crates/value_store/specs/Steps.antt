-- What one change does to a connection, inside the transaction of its turn.
use Rattle.std.specs.Prelude.{◌≡◌, List, ℕ, ℤ, [], ◌∷◌, Option, None, true, string_bytes, IsTrue}
use Rattle.sqlite.specs.State.{State, HasCleanDisk}
use Rattle.sqlite.specs.Tree.{Trees}
use Rattle.value_store.specs.declared.rows.RowChange.{RowChange}
use Rattle.value_store.specs.declared.rows.StoredRow.{StoredRow}
use Rattle.value_store.specs.declared.rows.TableName.{TableName}
use Rattle.value_store.specs.declared.rows.RowChange.TheVariants as change
use Rattle.value_store.specs.Model.{IsStore, IsAfter, rows_at, is_key}

-- while the file can be used, it has the two tables, with their rows numbered
abbrev pub IsReady : State → Type 0
IsReady s = HasCleanDisk s → IsTrue s.is_open → IsStore s.now

-- and whatever a crash leaves of it is what the connection shows
abbrev pub IsSettled : State → Type 0
IsSettled s = (trees : Trees) → HasCleanDisk s → IsTrue s.is_open → s.may_leave trees → trees ≡ s.now.trees

-- the file could be used, and the change is made and not committed
abbrev pub Makes : RowChange → State → State → Type 0
Makes change old new =
    IsTrue old.is_open × IsTrue new.in_transaction × (IsStore old.now → IsStore new.now × IsAfter (change ∷ []) old.now.trees new.now.trees)

-- nothing has the key of the row yet
abbrev pub HasRoom : TableName → StoredRow → Trees → Type 0
HasRoom s r trees = (n : List ℕ) (at : Option ℤ) → is_key s (string_bytes r.node) r.source_time s n at ≡ true → rows_at trees s n at ≡ None

abbrev pub Adds : TableName → StoredRow → State → State → Type 0
Adds s r old new =
    IsTrue old.is_open × IsTrue new.in_transaction × (IsStore old.now → HasRoom s r old.now.trees → IsStore new.now × IsAfter (change.Put s r ∷ []) old.now.trees new.now.trees)

-- As many rows as are told had the key. Where none had, nothing is changed; where one had, the new row stands in its place
abbrev pub Renews : TableName → StoredRow → ℕ → State → State → Type 0
Renews s r count old new =
    IsTrue old.is_open × IsTrue new.in_transaction
    × (count ≡ 0 → IsStore old.now → IsStore new.now × HasRoom s r new.now.trees × IsAfter [] old.now.trees new.now.trees)
    × (count ≡ 1 → IsStore old.now → IsStore new.now × IsAfter (change.Put s r ∷ []) old.now.trees new.now.trees)

-- nothing was committed
abbrev pub KeepsCommit : State → State → Type 0
KeepsCommit old new = IsTrue new.is_open → IsTrue old.is_open × (new.committed ≡ old.committed)
