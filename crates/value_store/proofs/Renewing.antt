-- What UPDATE under a key does.
use Rattle.std.proofs.Common.{◌≡◌, inl, ℕ, ℤ, List, [], ◌∷◌, length, true, false, Option, Ok, map, drop, refl, sym, ap, subst, ◌∙◌, arith}
use Rattle.std.specs.Prelude.{string_bytes}
use Rattle.sqlite.specs.declared.types.Value.TheVariants.{Null, Int}
use Rattle.sqlite.specs.Order.{Row}
use Rattle.sqlite.specs.Query.{IsAnswer, output}
use Rattle.sqlite.specs.Program.{overlay}
use Rattle.sqlite.specs.Cast.{cast_row}
use Rattle.sqlite.specs.Edit.{edit_of, is_taken, without_all, put_all, are_fresh, numbered, id_in}
use Rattle.sqlite.specs.Rowids.TheVariants.{Given}
use Rattle.sqlite.specs.Rows.{Written, Updates}
use Rattle.sqlite.specs.Tree.{Trees, rowid, with_tree}
use Rattle.sqlite_schema.specs.declared.schema.Keys.{Keys}
use Rattle.sqlite_rules.specs.Lists.{Has}
use Rattle.sqlite_rules.specs.Calls.{ids_of}
use Rattle.sqlite_rules.proofs.TableLemmas.{int_is}
use Rattle.sqlite.proofs.Callers.{one_step}
use Rattle.value_store.specs.declared.rows.StoredRow.{StoredRow}
use Rattle.value_store.specs.declared.rows.TableName.{TableName}
use Rattle.value_store.specs.declared.rows.TableName.TheVariants as table
use Rattle.value_store.specs.Tables.{value_table, history_table, store_schema}
use Rattle.value_store.specs.Laws.{rows_where, key_tests, with_key, renewal}
use Rattle.value_store.specs.Rows.{row_in}
use Rattle.value_store.specs.Model.{tree_of, is_at, AreNumbered}
use Rattle.value_store.proofs.Settling.{went, same_value}
use Rattle.value_store.proofs.Numbers.{has_int}
use Rattle.value_store.proofs.Taking.{AreOf}
use Rattle.value_store.proofs.Dropping.{other, table_in, task_of, given_are, value_tests, value_alike, past_tests, past_alike, Drops}
use Rattle.value_store.proofs.Adding.{Adds, cast_int, cast_time, untaken}

-- a row that is there, as the statement shows it: its number, and the row that comes in its place
abbrev pub renewed : TableName → StoredRow → Row → Row
renewed s r old = rowid old ∷ rowid old ∷ row_in s r

-- the rows that have the key go, and others come under their numbers
pub record Renews (s : TableName) (r : StoredRow) (db : Trees) (w : Written) : Type 0 where
  pub found : List Row
  pub are : AreOf (renewed s r) (is_at s (string_bytes r.node) r.source_time) (db (tree_of s)) found
  pub news : w.rows ≡ numbered Given (without_all (db (tree_of s)) (ids_of found)) (map (λ x. cast_row (table_in s) (drop 1 x)) found)
  pub fresh : are_fresh (without_all (db (tree_of s)) (ids_of found)) w.rows ≡ true
  pub rows : w.trees (tree_of s) ≡ put_all (without_all (db (tree_of s)) (ids_of found)) w.rows
  pub rest : w.trees (tree_of (other s)) ≡ db (tree_of (other s))

pub renews_rows : (s : TableName) (limit : Option ℕ) (keys : Keys) (r : StoredRow) (db : Trees) (w : Written)
    → Updates (task_of limit keys (table_in s) (row_in s r)) (with_key s renewal) (row_in s r) db (Ok w) → Renews s r db w
renews_rows table.Value limit keys r db w h =
    let node = string_bytes r.node in
    let q = rows_where 0 (key_tests table.Value) renewal in
    let given = went h in
    let made = went given.2 in
    let a : IsAnswer q (overlay db []) (row_in table.Value r) given.0 = given.1.answer Null in
    let edit = edit_of db value_table (ids_of given.0) Given 1 given.0 in
    let step = one_step store_schema keys db made.0 edit refl made.1 in
    let done = same_value made.2 in
    let news : w.rows ≡ edit.news = ap (λ (it : Written). it.rows) done in
    let trees : w.trees ≡ made.0 = ap (λ (it : Written). it.trees) done in
    record {
      found = given.0;
      are = given_are q (renewed table.Value r) (value_tests node) (is_at table.Value node r.source_time) (row_in table.Value r) db (db 0) given.0 a a.shown (a.distinct ∙ ap (map (output q)) a.grouped) (λ x. refl) (value_alike node) (λ x. refl);
      news = news;
      fresh = ap (are_fresh (without_all (db 0) (ids_of given.0))) news ∙ step.fresh;
      rows = ap (λ (t : Trees). t 0) trees ∙ (step.rows ∙ ap (put_all (without_all (db 0) (ids_of given.0))) (sym news));
      rest = ap (λ (t : Trees). t 2) trees ∙ step.tables.1.0 (λ e. cc);
    }
renews_rows table.History limit keys r db w h =
    let node = string_bytes r.node in
    let q = rows_where 2 (key_tests table.History) renewal in
    let given = went h in
    let made = went given.2 in
    let a : IsAnswer q (overlay db []) (row_in table.History r) given.0 = given.1.answer Null in
    let edit = edit_of db history_table (ids_of given.0) Given 1 given.0 in
    let step = one_step store_schema keys db made.0 edit refl made.1 in
    let done = same_value made.2 in
    let news : w.rows ≡ edit.news = ap (λ (it : Written). it.rows) done in
    let trees : w.trees ≡ made.0 = ap (λ (it : Written). it.trees) done in
    record {
      found = given.0;
      are = given_are q (renewed table.History r) (past_tests node r.source_time) (is_at table.History node r.source_time) (row_in table.History r) db (db 2) given.0 a a.shown (a.distinct ∙ ap (map (output q)) a.grouped) (λ x. refl) (past_alike node r.source_time) (λ x. refl);
      news = news;
      fresh = ap (are_fresh (without_all (db 2) (ids_of given.0))) news ∙ step.fresh;
      rows = ap (λ (t : Trees). t 2) trees ∙ (step.rows ∙ ap (put_all (without_all (db 2) (ids_of given.0))) (sym news));
      rest = ap (λ (t : Trees). t 0) trees ∙ step.tables.0 (λ e. cc);
    }

-- where nothing was written, nothing was found
none_found : (s : TableName) (rows found : List Row) → length (numbered Given rows (map (λ x. cast_row (table_in s) (drop 1 x)) found)) ≡ 0 → found ≡ []
none_found s rows [] h = refl
none_found s rows (x ∷ found) h = absurd (omega (arith, h))

-- and where one row was written, one was found
one_found : (s : TableName) (rows found : List Row) → length (numbered Given rows (map (λ x. cast_row (table_in s) (drop 1 x)) found)) ≡ 1 → (x : Row) × (found ≡ x ∷ [])
one_found s rows [] h = absurd (omega (arith, h))
one_found s rows (x ∷ []) h = (x, refl)
one_found s rows (x ∷ y ∷ found) h = absurd (omega (arith, h))

cast_new : (s : TableName) (r : StoredRow) (id : ℤ) → cast_row (table_in s) (Int id ∷ row_in s r) ≡ Int id ∷ row_in s r
cast_new table.Value r id = rw (cast_int id, cast_int r.kind, cast_int r.status, cast_time r.source_time, cast_time r.server_time) refl
cast_new table.History r id = rw (cast_int id, cast_time r.source_time, cast_int r.kind, cast_int r.status, cast_time r.server_time) refl

module _ (s : TableName) (r : StoredRow) (db : Trees) (w : Written) (it : Renews s r db w) where
  pub untouched : length w.rows ≡ 0 → it.found ≡ []
  untouched none = none_found s _ it.found (ap length (sym it.news) ∙ none)

  -- the table without the row that had the key
  abbrev pub between : Trees
  between = with_tree db (tree_of s) (without_all (db (tree_of s)) (ids_of it.found))

  pub dropped : Drops s (is_at s (string_bytes r.node) r.source_time) db between
  dropped = go s it.found it.are
    where
      go : (s : TableName) (found : List Row) → AreOf (renewed s r) (is_at s (string_bytes r.node) r.source_time) (db (tree_of s)) found
          → Drops s (is_at s (string_bytes r.node) r.source_time) db (with_tree db (tree_of s) (without_all (db (tree_of s)) (ids_of found)))
      go table.Value found are = record { shows = renewed table.Value r; found = found; are = are; rows = refl; rest = refl }
      go table.History found are = record { shows = renewed table.History r; found = found; are = are; rows = refl; rest = refl }

  pub added : AreNumbered (db (tree_of s)) → length w.rows ≡ 1 → Adds s r between w.trees
  added all one =
      let rows = without_all (db (tree_of s)) (ids_of it.found) in
      let lone = one_found s rows it.found (ap length (sym it.news) ∙ one) in
      let x = lone.0 in
      let here = it.are.sound x (subst (λ xs. Has xs x) (sym lone.1) (inl refl)) in
      let id = id_in (rowid here.0) in
      let number : rowid here.0 ≡ Int id = int_is (rowid here.0) (has_int (db (tree_of s)) all.0 here.0 here.1) in
      let row : drop 1 x ≡ Int id ∷ row_in s r = ap (drop 1) here.3 ∙ ap (λ v. v ∷ row_in s r) number in
      let cast : cast_row (table_in s) (drop 1 x) ≡ Int id ∷ row_in s r = ap (cast_row (table_in s)) row ∙ cast_new s r id in
      let news : w.rows ≡ (Int id ∷ row_in s r) ∷ [] = it.news ∙ (ap (λ xs. numbered Given rows (map (λ x. cast_row (table_in s) (drop 1 x)) xs)) lone.1 ∙ ap (λ y. y ∷ []) cast) in
      made s id (untaken (is_taken rows (Int id ∷ row_in s r)) true (sym (ap (are_fresh rows) news) ∙ it.fresh)) (it.rows ∙ ap (put_all rows) news) it.rest
    where
      made : (s : TableName) (id : ℤ) → is_taken (without_all (db (tree_of s)) (ids_of it.found)) (Int id ∷ row_in s r) ≡ false
          → w.trees (tree_of s) ≡ put_all (without_all (db (tree_of s)) (ids_of it.found)) ((Int id ∷ row_in s r) ∷ []) → w.trees (tree_of (other s)) ≡ db (tree_of (other s))
          → Adds s r (with_tree db (tree_of s) (without_all (db (tree_of s)) (ids_of it.found))) w.trees
      made table.Value id free rows rest = record { id = id; free = free; rows = rows; rest = rest }
      made table.History id free rows rest = record { id = id; free = free; rows = rows; rest = rest }
