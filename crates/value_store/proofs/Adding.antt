-- What INSERT does.
use Rattle.std.proofs.Common.{◌≡◌, ℕ, ℤ, [], ◌∷◌, Bool, true, false, not, cond, ◌&&◌, Option, Some, None, Ok, refl, sym, ap, ◌∙◌, true≢false}
use Rattle.sqlite.specs.declared.types.Value.{Value}
use Rattle.sqlite.specs.declared.types.Value.TheVariants.{Null, Int}
use Rattle.sqlite.specs.Values.{or_null}
use Rattle.sqlite.specs.Ops.{unary}
use Rattle.sqlite.specs.Kind.TheVariants.{Integer}
use Rattle.sqlite.specs.Cast.{cast, cast_row}
use Rattle.sqlite.specs.Edit.{edit_of, is_taken, next_rowid, with_rowid, are_fresh, put_all}
use Rattle.sqlite.specs.Rowids.TheVariants.{Chosen}
use Rattle.sqlite.specs.Rows.{Written, Inserts}
use Rattle.sqlite.specs.Source.TheVariants.{Values}
use Rattle.sqlite.specs.Tree.{Trees, put_row}
use Rattle.sqlite_schema.specs.declared.schema.Keys.{Keys}
use Rattle.sqlite.proofs.Callers.{one_step}
use Rattle.value_store.specs.Tables.{value_table, history_table, store_schema}
use Rattle.value_store.specs.Laws.{terms}
use Rattle.value_store.specs.Rows.{row_in}
use Rattle.value_store.specs.Model.{tree_of}
use Rattle.value_store.specs.declared.rows.StoredRow.{StoredRow}
use Rattle.value_store.specs.declared.rows.TableName.{TableName}
use Rattle.value_store.specs.declared.rows.TableName.TheVariants as table
use Rattle.value_store.proofs.Settling.{went, same_value}
use Rattle.value_store.proofs.Dropping.{task_of, table_in, other}

either : (b : Bool) (x : Value) → cond b x x ≡ x
either true x = refl
either false x = refl

pub cast_int : (n : ℤ) → cast Integer (Int n) ≡ Int n
unfolding unary
cast_int n = either _ (Int n)

cast_null : cast Integer Null ≡ Null
unfolding unary
cast_null = either _ Null

pub cast_time : (t : Option ℤ) → cast Integer (or_null Int t) ≡ or_null Int t
cast_time None = cast_null
cast_time (Some n) = cast_int n

pub untaken : (b c : Bool) → (not b && c) ≡ true → b ≡ false
untaken true c h = absurd (true≢false (sym h))
untaken false c h = refl

-- one row more in one table, with a number that was free, and the other table
pub record Adds (s : TableName) (r : StoredRow) (db next : Trees) : Type 0 where
  pub id : ℤ
  pub free : is_taken (db (tree_of s)) (Int id ∷ row_in s r) ≡ false
  pub rows : next (tree_of s) ≡ put_row (Int id ∷ row_in s r) (db (tree_of s))
  pub rest : next (tree_of (other s)) ≡ db (tree_of (other s))

pub adds_rows : (s : TableName) (limit : Option ℕ) (keys : Keys) (r : StoredRow) (db : Trees) (w : Written) → Inserts (task_of limit keys (table_in s) (row_in s r)) (Values terms 7) db (Ok w) → Adds s r db w.trees
adds_rows table.Value limit keys k db w h =
    let given = went h in
    let counter = went given.2 in
    let made = went counter.2 in
    let counts = went made.2 in
    let edit = edit_of db value_table [] Chosen 0 given.0 in
    let new = Int (next_rowid (db 0)) ∷ row_in table.Value k in
    let cast : cast_row value_table (Null ∷ row_in table.Value k) ≡ Null ∷ row_in table.Value k = rw (cast_null, cast_int k.kind, cast_int k.status, cast_time k.source_time, cast_time k.server_time) refl in
    let news : edit.news ≡ new ∷ [] = ap (λ rows. (edit_of db value_table [] Chosen 0 rows).news) given.1.1 ∙ ap (λ r. with_rowid Chosen (db 0) r ∷ []) cast in
    let step = one_step store_schema keys db made.0 edit refl made.1 in
    let trees : w.trees ≡ made.0 = ap (λ (it : Written). it.trees) (same_value counts.2) ∙ same_value counts.1 in
    record {
      id = next_rowid (db 0);
      free = untaken (is_taken (db 0) new) true (ap (are_fresh (db 0)) (sym news) ∙ step.fresh);
      rows = ap (λ (t : Trees). t 0) trees ∙ (step.rows ∙ ap (put_all (db 0)) news);
      rest = ap (λ (t : Trees). t 2) trees ∙ step.tables.1.0 (λ e. cc);
    }
adds_rows table.History limit keys k db w h =
    let given = went h in
    let counter = went given.2 in
    let made = went counter.2 in
    let counts = went made.2 in
    let edit = edit_of db history_table [] Chosen 0 given.0 in
    let new = Int (next_rowid (db 2)) ∷ row_in table.History k in
    let cast : cast_row history_table (Null ∷ row_in table.History k) ≡ Null ∷ row_in table.History k = rw (cast_null, cast_time k.source_time, cast_int k.kind, cast_int k.status, cast_time k.server_time) refl in
    let news : edit.news ≡ new ∷ [] = ap (λ rows. (edit_of db history_table [] Chosen 0 rows).news) given.1.1 ∙ ap (λ r. with_rowid Chosen (db 2) r ∷ []) cast in
    let step = one_step store_schema keys db made.0 edit refl made.1 in
    let trees : w.trees ≡ made.0 = ap (λ (it : Written). it.trees) (same_value counts.2) ∙ same_value counts.1 in
    record {
      id = next_rowid (db 2);
      free = untaken (is_taken (db 2) new) true (ap (are_fresh (db 2)) (sym news) ∙ step.fresh);
      rows = ap (λ (t : Trees). t 2) trees ∙ (step.rows ∙ ap (put_all (db 2)) news);
      rest = ap (λ (t : Trees). t 0) trees ∙ step.tables.0 (λ e. cc);
    }
