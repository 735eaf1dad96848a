-- Which rows a statement finds under a key, and what DELETE does.
use Rattle.std.proofs.Common.{◌≡◌, inl, inr, ℕ, ℤ, List, [], ◌∷◌, ◌++◌, map, Bool, true, false, cond, ◌&&◌, Option, Some, None, Ok, refl, sym, ap, subst, ◌∙◌, true≢false}
use Rattle.std.specs.Prelude.{flat_map, IsPermutation, string_bytes}
use Rattle.std.specs.Ordering.{is_eq}
use Rattle.std.proofs.lemmas.List.Sorted.{IsPermutation-map, IsPermutation-sym, Contains-permutation}
use Rattle.sqlite.specs.declared.types.Value.{Value}
use Rattle.sqlite.specs.declared.types.Value.TheVariants.{Null, Int, Real, Text, Blob}
use Rattle.sqlite.specs.Order.{Row, column, value_cmp}
use Rattle.sqlite.specs.Values.{or_null}
use Rattle.sqlite_value.proofs.OrderLemmas.{value_cmp-Null}
use Rattle.sqlite.specs.Ops.{binary, is_true, from_truth}
use Rattle.sqlite.specs.Collation.TheVariants.{Binary}
use Rattle.sqlite_sql.specs.declared.ops.BinaryOp.TheVariants.{Compare}
use Rattle.sqlite_sql.specs.declared.ops.CompareOp.TheVariants.{Eq}
use Rattle.sqlite.specs.Query.{IsAnswer, output, Output, Query}
use Rattle.sqlite.specs.Program.{overlay}
use Rattle.sqlite.specs.Edit.{edit_of, without_all}
use Rattle.sqlite.specs.Rowids.TheVariants.{Given}
use Rattle.sqlite.specs.Rows.{Written, Deletes, Task}
use Rattle.sqlite.specs.Table.{Table}
use Rattle.sqlite.specs.Tree.{Trees, rowid}
use Rattle.sqlite_schema.specs.declared.schema.Keys.{Keys}
use Rattle.sqlite_rules.specs.Lists.{Has}
use Rattle.sqlite_rules.specs.Calls.{ids_of}
use Rattle.sqlite_rules.proofs.ListLemmas.{has_contained, contains_had}
use Rattle.sqlite.proofs.Callers.{one_step}
use Rattle.value_store.specs.declared.rows.Key.{Key}
use Rattle.value_store.specs.declared.rows.TableName.{TableName}
use Rattle.value_store.specs.declared.rows.TableName.TheVariants as table
use Rattle.value_store.specs.Tables.{value_table, history_table, store_schema}
use Rattle.value_store.specs.Laws.{rows_where, key_tests, with_key, number_alone}
use Rattle.value_store.specs.Rows.{key_in}
use Rattle.value_store.specs.Model.{tree_of, is_of_node, is_when, is_at}
use Rattle.value_store.proofs.Settling.{went, same_value}
use Rattle.value_store.proofs.Taking.{AreOf}

-- what is shown of the rows that pass
marked : (Row → Row) → (Row → Bool) → List Row → List Row
marked f p [] = []
marked f p (r ∷ rows) = cond (p r) (f r ∷ marked f p rows) (marked f p rows)

marked_sound : (f : Row → Row) (p : Row → Bool) (rows : List Row) (x : Row) → Has (marked f p rows) x → (r : Row) × Has rows r × (p r ≡ true) × (x ≡ f r)
unfolding marked
marked_sound f p [] x h = absurd h
marked_sound f p (r ∷ rows) x h = go (p r) refl h (marked_sound f p rows x)
  where
    go : (b : Bool) → p r ≡ b → Has (cond b (f r ∷ marked f p rows) (marked f p rows)) x
        → (Has (marked f p rows) x → (s : Row) × Has rows s × (p s ≡ true) × (x ≡ f s)) → (s : Row) × Has (r ∷ rows) s × (p s ≡ true) × (x ≡ f s)
    go true is (inl same) later = (r, inl refl, is, same)
    go true is (inr h) later = let s = later h in (s.0, inr s.1, s.2, s.3)
    go false is h later = let s = later h in (s.0, inr s.1, s.2, s.3)

marked_complete : (f : Row → Row) (p : Row → Bool) (rows : List Row) (r : Row) → Has rows r → p r ≡ true → Has (marked f p rows) (f r)
unfolding marked
marked_complete f p [] r h passes = absurd h
marked_complete f p (x ∷ rows) r (inl same) passes = subst (λ b. Has (cond b (f x ∷ marked f p rows) (marked f p rows)) (f r)) (sym (sym (ap p same) ∙ passes)) (inl (ap f same))
marked_complete f p (x ∷ rows) r (inr h) passes = go (p x) (marked_complete f p rows r h passes)
  where
    go : (b : Bool) → Has (marked f p rows) (f r) → Has (cond b (f x ∷ marked f p rows) (marked f p rows)) (f r)
    go true there = inr there
    go false there = there

pub moved : (xs ys : List Row) (x : Row) → IsPermutation xs ys → Has xs x → Has ys x
moved xs ys x same h = has_contained ys x (Contains-permutation xs ys x same (contains_had xs x h))

are_of : (f : Row → Row) (p : Row → Bool) (rows found : List Row) → ((r : Row) → rowid (f r) ≡ rowid r) → IsPermutation (marked f p rows) found → AreOf f p rows found
are_of f p rows found own same = record {
  own = own;
  sound = λ x h. marked_sound f p rows x (moved found (marked f p rows) x (IsPermutation-sym (marked f p rows) found same) h);
  complete = λ r h passes. moved (marked f p rows) found (f r) same (marked_complete f p rows r h passes);
}

told_true : (b : Bool) → is_true (from_truth (Some b)) ≡ b
told_true true = refl
told_true false = refl

-- SQL's = beside a text or a number
tested_text : (v : Value) (n : List ℕ) → is_true (binary (Compare Eq Binary) v (Text n)) ≡ is_eq (value_cmp v (Text n))
unfolding binary
tested_text Null n = sym (ap is_eq (value_cmp-Null (Text n)))
tested_text (Int m) n = told_true (is_eq (value_cmp (Int m) (Text n)))
tested_text (Real x) n = told_true (is_eq (value_cmp (Real x) (Text n)))
tested_text (Text t) n = told_true (is_eq (value_cmp (Text t) (Text n)))
tested_text (Blob b) n = told_true (is_eq (value_cmp (Blob b) (Text n)))

tested_int : (v : Value) (n : ℤ) → is_true (binary (Compare Eq Binary) v (Int n)) ≡ is_eq (value_cmp v (Int n))
unfolding binary
tested_int Null n = sym (ap is_eq (value_cmp-Null (Int n)))
tested_int (Int m) n = told_true (is_eq (value_cmp (Int m) (Int n)))
tested_int (Real x) n = told_true (is_eq (value_cmp (Real x) (Int n)))
tested_int (Text t) n = told_true (is_eq (value_cmp (Text t) (Int n)))
tested_int (Blob b) n = told_true (is_eq (value_cmp (Blob b) (Int n)))

tested_null : (v : Value) → is_true (binary (Compare Eq Binary) v Null) ≡ false
unfolding binary
tested_null Null = refl
tested_null (Int m) = refl
tested_null (Real x) = refl
tested_null (Text t) = refl
tested_null (Blob b) = refl

tested_when : (v : Value) (time : Option ℤ) → is_true (binary (Compare Eq Binary) v (or_null Int time)) ≡ is_when time v
tested_when v None = tested_null v
tested_when v (Some n) = tested_int v n

-- what a query shows of the rows that pass its tests
abbrev shown_of : Query → (Row → Bool) → Row → List Row → List Row
shown_of q test params rows = map (λ (o : Output). o.1) (map (output q) (flat_map (λ (r : Row). cond (test r) ((params ∷ r ∷ []) ∷ []) []) rows))

shown_are : (q : Query) (f : Row → Row) (test p : Row → Bool) (params : Row) → ((r : Row) → (output q (params ∷ r ∷ [])).1 ≡ f r) → ((r : Row) → test r ≡ p r) → (rows : List Row) → shown_of q test params rows ≡ marked f p rows
unfolding marked
shown_are q f test p params shows alike [] = refl
shown_are q f test p params shows alike (r ∷ rows) = go (test r) (p r) (alike r) (shown_are q f test p params shows alike rows)
  where
    go : (a b : Bool) → a ≡ b → shown_of q test params rows ≡ marked f p rows
        → map (λ (o : Output). o.1) (map (output q) (cond a ((params ∷ r ∷ []) ∷ []) [] ++ flat_map (λ (r : Row). cond (test r) ((params ∷ r ∷ []) ∷ []) []) rows))
        ≡ cond b (f r ∷ marked f p rows) (marked f p rows)
    go true true same later = ap (λ more. (output q (params ∷ r ∷ [])).1 ∷ more) later ∙ ap (λ x. x ∷ marked f p rows) (shows r)
    go false false same later = later
    go true false same later = absurd (true≢false same)
    go false true same later = absurd (true≢false (sym same))

-- what the rows that pass show is what the statement is given
pub given_are : (q : Query) (f : Row → Row) (test p : Row → Bool) (params : Row) (db : Trees) (rows found : List Row) (a : IsAnswer q (overlay db []) params found)
    → found ≡ map (λ (o : Output). o.1) a.ordered → a.kept ≡ map (output q) (flat_map (λ (r : Row). cond (test r) ((params ∷ r ∷ []) ∷ []) []) rows)
    → ((r : Row) → (output q (params ∷ r ∷ [])).1 ≡ f r) → ((r : Row) → test r ≡ p r) → ((r : Row) → rowid (f r) ≡ rowid r) → AreOf f p rows found
given_are q f test p params db rows found a is kept shows alike own =
    let same = IsPermutation-map (λ (o : Output). o.1) a.kept a.ordered a.same in
    let shown : IsPermutation (map (λ (o : Output). o.1) a.kept) found = subst (IsPermutation (map (λ (o : Output). o.1) a.kept)) (sym is) same in
    let all : map (λ (o : Output). o.1) a.kept ≡ marked f p rows = ap (map (λ (o : Output). o.1)) kept ∙ shown_are q f test p params shows alike rows in
    are_of f p rows found own (subst (λ xs. IsPermutation xs found) all shown)

abbrev pub other : TableName → TableName
other table.Value = table.History
other table.History = table.Value

-- what is left of one table, and the other
pub record Drops (s : TableName) (p : Row → Bool) (db next : Trees) : Type 0 where
  pub shows : Row → Row
  pub found : List Row
  pub are : AreOf shows p (db (tree_of s)) found
  pub rows : next (tree_of s) ≡ without_all (db (tree_of s)) (ids_of found)
  pub rest : next (tree_of (other s)) ≡ db (tree_of (other s))

abbrev pub task_of : Option ℕ → Keys → Table → Row → Task
task_of limit keys table params = record { limit = limit; keys = keys; schema = store_schema; table = table; params = params }

abbrev pub table_in : TableName → Table
table_in table.Value = value_table
table_in table.History = history_table

abbrev pub value_tests : List ℕ → Row → Bool
value_tests node r = is_true (binary (Compare Eq Binary) (column r 1) (Text node)) && true

pub value_alike : (node : List ℕ) (r : Row) → value_tests node r ≡ is_of_node node r
value_alike node r = rw (tested_text (column r 1) node) (plain (is_of_node node r))
  where
    plain : (b : Bool) → (b && true) ≡ b
    plain true = refl
    plain false = refl

abbrev pub past_tests : List ℕ → Option ℤ → Row → Bool
past_tests node time r = is_true (binary (Compare Eq Binary) (column r 1) (Text node)) && (is_true (binary (Compare Eq Binary) (column r 2) (or_null Int time)) && true)

pub past_alike : (node : List ℕ) (time : Option ℤ) (r : Row) → past_tests node time r ≡ is_at table.History node time r
past_alike node time r = rw (tested_text (column r 1) node, tested_when (column r 2) time) (plain (is_of_node node r) (is_when time (column r 2)))
  where
    plain : (a b : Bool) → (a && (b && true)) ≡ (a && b)
    plain true true = refl
    plain true false = refl
    plain false b = refl

pub drops_rows : (limit : Option ℕ) (keys : Keys) (k : Key) (db : Trees) (w : Written)
    → Deletes (task_of limit keys history_table (key_in k)) (with_key table.History number_alone) db (Ok w) → Drops table.History (is_at table.History (string_bytes k.node) (Some k.time)) db w.trees
drops_rows limit keys k db w h =
    let node = string_bytes k.node in
    let q = rows_where 2 (key_tests table.History) number_alone in
    let given = went h in
    let made = went given.2 in
    let a : IsAnswer q (overlay db []) (key_in k) given.0 = given.1.answer Null in
    let step = one_step store_schema keys db made.0 (edit_of db history_table (ids_of given.0) Given 0 []) refl made.1 in
    let trees : w.trees ≡ made.0 = ap (λ (it : Written). it.trees) (same_value made.2) in
    record {
      shows = λ r. rowid r ∷ [];
      found = given.0;
      are = given_are q (λ r. rowid r ∷ []) (past_tests node (Some k.time)) (is_at table.History node (Some k.time)) (key_in k) db (db 2) given.0 a a.shown (a.distinct ∙ ap (map (output q)) a.grouped) (λ r. refl) (past_alike node (Some k.time)) (λ r. refl);
      rows = ap (λ (t : Trees). t 2) trees ∙ step.rows;
      rest = ap (λ (t : Trees). t 0) trees ∙ step.tables.0 (λ e. cc);
    }
