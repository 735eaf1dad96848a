-- What the queries that read all back answer.
use Rattle.std.proofs.Common.{◌≡◌, ℕ, ℤ, arith, List, [], ◌∷◌, map, length, filter, Bool, true, false, cond, inl, inr, Ok, Err, Result, IfOk, OnOk, refl, sym, ap, subst, ◌∙◌, IsTrue}
use Rattle.std.specs.Prelude.{IsPermutation, flat_map}
use Rattle.std.proofs.lemmas.List.Sums.{length-filter}
use Rattle.std.proofs.lemmas.List.Sorted.{IsPermutation-map, sum_by-IsPermutation}
use Rattle.sqlite.specs.declared.types.Value.TheVariants.{Null}
use Rattle.sqlite.specs.Order.{Row}
use Rattle.sqlite.specs.Query.{IsAnswer, output, Output}
use Rattle.sqlite.specs.Program.{overlay}
use Rattle.sqlite_sql.specs.Query.{matches_as}
use Rattle.sqlite.specs.State.{State, Shown, IsUnchanged}
use Rattle.sqlite.specs.Listing.{understood}
use Rattle.sqlite.specs.Tree.{Trees, rowid, has_rowid}
use Rattle.sqlite.specs.View.{is_int}
use Rattle.sqlite.proofs.Callers.{reads_as, IsPlain}
use Rattle.sqlite_rules.specs.Lists.{Has}
use Rattle.sqlite_rules.proofs.ListLemmas.{all_has, all_from}
use Rattle.value_store.specs.declared.rows.TableName.{TableName}
use Rattle.value_store.specs.declared.rows.TableName.TheVariants as table
use Rattle.value_store.specs.Tables.{store_schema}
use Rattle.value_store.specs.Laws.{rows_text, rows_of}
use Rattle.value_store.specs.Rows.{columns, with_number}
use Rattle.value_store.specs.Model.{tree_of, AreNumbered}
use Rattle.value_store.proofs.Texts.{reads_are, rows_plain}
use Rattle.value_store.proofs.Dropping.{moved}

-- each row once, in the order of the file
all_matches : (tree : ℕ) (rows : List Row) → map (λ (o : Output). o.1) (map (output (rows_of tree)) (flat_map (λ (r : Row). ([] ∷ r ∷ []) ∷ []) rows)) ≡ map with_number rows
all_matches tree [] = refl
all_matches tree (r ∷ rows) = ap (λ rest. with_number r ∷ rest) (all_matches tree rows)

matched : (t : TableName) (db : Trees) → matches_as Null (overlay db []) (rows_of (tree_of t)).filter (rows_of (tree_of t)).from ([] ∷ []) ≡ flat_map (λ (r : Row). ([] ∷ r ∷ []) ∷ []) (db (tree_of t))
matched table.Value db = refl
matched table.History db = refl

pub rows_shown : (t : TableName) (old new : State) (rows : List Row) → old.now.schema ≡ store_schema → Shown (rows_text t) [] old new rows → IsPermutation (map with_number (old.now.trees (tree_of t))) rows
rows_shown t old new rows has h =
    let q = rows_of (tree_of t) in
    let file = old.now.trees (tree_of t) in
    let got = reads_as (rows_text t) [] old new store_schema has _ (reads_are t).0 (rows_plain t) (reads_are t).1 rows h in
    let a : IsAnswer q (overlay old.now.trees []) [] rows = got.answer Null in
    let kept : a.kept ≡ map (output q) (flat_map (λ (r : Row). ([] ∷ r ∷ []) ∷ []) file) = a.distinct ∙ ap (map (output q)) (a.grouped ∙ matched t old.now.trees) in
    let same = IsPermutation-map (λ (o : Output). o.1) a.kept a.ordered a.same in
    subst (λ xs. IsPermutation xs rows) (ap (map (λ (o : Output). o.1)) kept ∙ all_matches (tree_of t) file)
    (subst (λ xs. IsPermutation (map (λ (o : Output). o.1) a.kept) xs) (sym a.shown) same)

-- a query changes nothing
pub unchanged_by : (sql : List ℕ) (old new : State) (rows : List Row) → IsPlain (understood store_schema sql) → old.now.schema ≡ store_schema → Shown sql [] old new rows → IsUnchanged old new
unfolding Shown
unchanged_by sql old new rows plain has h =
    let known = sym h.1.is ∙ ap (λ s. understood s sql) has in
    let bare = subst IsPlain (sym known) plain in
    let it = rw bare.0 at h.2 in
    it.3

columns_again : (rows : List Row) → map columns (map with_number rows) ≡ map columns rows
columns_again [] = refl
columns_again (r ∷ rows) = ap (λ rest. columns r ∷ rest) (columns_again rows)

pub columns_shown : (file rows : List Row) → IsPermutation (map with_number file) rows → IsPermutation (map columns file) (map columns rows)
columns_shown file rows same = subst (λ xs. IsPermutation xs (map columns rows)) (columns_again file) (IsPermutation-map columns (map with_number file) rows same)

-- ---- numbers

same_count : (n : ℤ) (rows : List Row) → length (filter (has_rowid n) (map with_number rows)) ≡ length (filter (has_rowid n) rows)
same_count n [] = refl
same_count n (r ∷ rows) = go (has_rowid n r) (same_count n rows)
  where
    go : (b : Bool) → length (filter (has_rowid n) (map with_number rows)) ≡ length (filter (has_rowid n) rows)
        → length (cond b (with_number r ∷ filter (has_rowid n) (map with_number rows)) (filter (has_rowid n) (map with_number rows))) ≡ length (cond b (r ∷ filter (has_rowid n) rows) (filter (has_rowid n) rows))
    go true later = omega (arith, later)
    go false later = later

has_mapped : (rows : List Row) (r : Row) → Has rows r → Has (map with_number rows) (with_number r)
has_mapped [] r h = h
has_mapped (x ∷ rows) r h = elim h [ inl same ↦ inl (ap with_number same) | inr there ↦ inr (has_mapped rows r there) ]

-- rows that show numbers of their own have them
pub numbered_shown : (file rows : List Row) → IsPermutation (map with_number file) rows → AreNumbered rows → AreNumbered file
numbered_shown file rows same all = (
  all_from (λ r. IsTrue (is_int (rowid r))) file (λ r h. all_has (λ r. IsTrue (is_int (rowid r))) rows (with_number r) all.0 (moved (map with_number file) rows (with_number r) same (has_mapped file r h))),
  λ n.
      let counted = sum_by-IsPermutation (λ r. cond (has_rowid n r) 1 0) (map with_number file) rows same in
      omega (arith, all.1 n, same_count n file, length-filter (has_rowid n) (map with_number file), length-filter (has_rowid n) rows, counted),
)

pub told : {A E : Type 0} (r : Result A E) (P Q : A → Type 0) → ((a : A) → P a → Q a) → IfOk r P → IfOk r Q
told (Ok a) P Q f h = f a h
told (Err e) P Q f h = tt

pub told_on : {A E : Type 0} (r : Result A E) (P : A → Type 0) (Q : Type 0) → ((a : A) → P a → Q) → IfOk r P → OnOk r Q
told_on (Ok a) P Q f h = f a h
told_on (Err e) P Q f h = tt
