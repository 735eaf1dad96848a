-- What the statements do to what the store holds.
use Rattle.std.proofs.Common.{◌≡◌, ℕ, ℤ, List, [], ◌∷◌, length, Bool, true, false, cond, Option, Some, None, Ok, Err, Result, OnOk, IfOk, refl, sym, ap, subst, ◌∙◌, true≢false, string_bytes, arith}
use Rattle.std.specs.Prelude.{find, bytes_eq, option_map, slice_get, unwrap_or}
use Rattle.std.specs.Ordering.{is_eq, int_cmp}
use Rattle.std.proofs.lemmas.Bool.{and_parts}
use Rattle.std.proofs.lemmas.Slice.Eq.{bytes_eq-Decides}
use Rattle.std.proofs.lemmas.Map.Text.{is_eq-slice_cmp}
use Rattle.std.proofs.lemmas.Map.Lookups.{exact_signed}
use Rattle.sqlite.specs.declared.types.Value.{Value}
use Rattle.sqlite.specs.declared.types.Value.TheVariants.{Int, Text}
use Rattle.sqlite.specs.declared.error.Error.{Error}
use Rattle.sqlite.specs.Order.{Row, column, value_cmp}
use Rattle.sqlite.specs.Values.{or_null}
use Rattle.sqlite_value.proofs.OrderLemmas.{value_cmp_total, value_cmp-Text, value_cmp-Int, value_cmp-Null}
use Rattle.sqlite.specs.Command.{Command}
use Rattle.sqlite.specs.Command.TheVariants.{Insert, Update, Delete}
use Rattle.sqlite.specs.Source.TheVariants.{Values}
use Rattle.sqlite.specs.Does.{Tally, AtPlace, OnTable, OnRows, WritesRows}
use Rattle.sqlite.specs.Rows.{Written}
use Rattle.sqlite.specs.Effect.{Database}
use Rattle.sqlite.specs.State.{State, mode_of, ExecutesInside}
use Rattle.sqlite.specs.declared.run.Mode.{Mode}
use Rattle.sqlite.specs.Tree.{Trees}
use Rattle.sqlite_rules.specs.Calls.{ids_of}
use Rattle.sqlite.proofs.Callers.{runs_as}
use Rattle.value_store.specs.declared.rows.Key.{Key}
use Rattle.value_store.specs.declared.rows.StoredRow.{StoredRow}
use Rattle.value_store.specs.declared.rows.TableName.{TableName}
use Rattle.value_store.specs.declared.rows.TableName.TheVariants as table
use Rattle.value_store.specs.declared.rows.RowChange.TheVariants as change
use Rattle.value_store.specs.Tables.{store_schema}
use Rattle.value_store.specs.Laws.{terms, add_text, renew_text, forget_text, place_of, with_key, renewal, number_alone}
use Rattle.value_store.specs.Rows.{row_in, key_in, columns}
use Rattle.value_store.specs.Model.{tree_of, is_of_node, is_when, is_at, is_time, is_key, rows_at, AreNumbered, IsStore, IsAfter}
use Rattle.value_store.specs.Steps as step
use Rattle.value_store.proofs.Texts.{adds_are, renewals_are, drops_are, add_plain, renew_plain, forget_plain}
use Rattle.value_store.proofs.Finds.{find_put}
use Rattle.value_store.proofs.Numbers.{equal_of, numbered_without, numbered_put}
use Rattle.value_store.proofs.Taking.{none_left, others_left}
use Rattle.value_store.proofs.Dropping.{other, table_in, task_of, Drops, drops_rows}
use Rattle.value_store.proofs.Adding.{Adds, adds_rows}
use Rattle.value_store.proofs.Renewing.{renewed, Renews, renews_rows, untouched, between, dropped, added}
use Rattle.value_store.proofs.Settling.{went, same_value}

-- ---- keys

pub text_keys : (node n : List ℕ) → is_eq (value_cmp (Text node) (Text n)) ≡ bytes_eq node n
text_keys node n = ap is_eq (value_cmp-Text node n) ∙ is_eq-slice_cmp node n

node_alike : (node n : List ℕ) (r : Row) → is_of_node node r ≡ true → is_of_node n r ≡ bytes_eq node n
node_alike node n r h = ap is_eq (value_cmp_total.congr (column r 1) (Text node) (Text n) (equal_of _ h)) ∙ text_keys node n

pub same_node : (node n : List ℕ) → bytes_eq node n ≡ true → node ≡ n
same_node node n = (bytes_eq-Decides node n).0

pub same_time : (time t : ℤ) → is_eq (int_cmp time t) ≡ true → time ≡ t
same_time time t h = exact_signed time t (equal_of _ h)

time_alike : (time at : Option ℤ) (v : Value) → is_when time v ≡ true → is_when at v ≡ is_time time at
time_alike None at v h = absurd (true≢false (sym h))
time_alike (Some a) None v h = refl
time_alike (Some a) (Some b) v h = ap is_eq (value_cmp_total.congr v (Int a) (Int b) (equal_of _ h)) ∙ ap is_eq (value_cmp-Int a b)

at_alike : (s : TableName) (node : List ℕ) (time : Option ℤ) (n : List ℕ) (at : Option ℤ) (r : Row) → is_at s node time r ≡ true → is_at s n at r ≡ is_key s node time s n at
at_alike table.Value node time n at r h = node_alike node n r h
at_alike table.History node time n at r h = let parts = and_parts _ _ h in rw (node_alike node n r parts.0, time_alike time at (column r 2) parts.1) refl

one_time : (time at : Option ℤ) → is_time time at ≡ true → time ≡ at
one_time (Some a) (Some b) h = ap (λ x. Some x) (same_time a b h)
one_time (Some a) None h = absurd (true≢false (sym h))
one_time None at h = absurd (true≢false (sym h))

at_again : (s : TableName) (node : List ℕ) (time : Option ℤ) (n : List ℕ) (at : Option ℤ) (r : Row) → is_key s node time s n at ≡ true → is_at s n at r ≡ true → is_at s node time r ≡ true
at_again table.Value node time n at r same h = subst (λ m. is_of_node m r ≡ true) (sym (same_node node n same)) h
at_again table.History node time n at r same h =
    let parts = and_parts _ _ same in
    subst (λ m. is_at table.History m time r ≡ true) (sym (same_node node n parts.0)) (subst (λ z. is_at table.History n z r ≡ true) (sym (one_time time at parts.1)) h)

-- the test of a key at a row that is new
pub when_new : (time at : Option ℤ) → is_when at (or_null Int time) ≡ is_time time at
when_new None None = refl
when_new None (Some b) = ap is_eq (value_cmp-Null (Int b))
when_new (Some a) None = refl
when_new (Some a) (Some b) = ap is_eq (value_cmp-Int a b)

pub at_new : (s : TableName) (r : StoredRow) (id : Value) (n : List ℕ) (at : Option ℤ) → is_at s n at (id ∷ row_in s r) ≡ is_key s (string_bytes r.node) r.source_time s n at
at_new table.Value r id n at = text_keys (string_bytes r.node) n
at_new table.History r id n at = rw (text_keys (string_bytes r.node) n, when_new r.source_time at) refl

columns_new : (s : TableName) (r : StoredRow) (id : Value) → columns (id ∷ row_in s r) ≡ row_in s r
columns_new table.Value r id = refl
columns_new table.History r id = refl

not_mapped : {X Y : Type 0} (f : X → Y) (o : Option X) → option_map f o ≡ None → o ≡ None
not_mapped f None h = refl
not_mapped f (Some x) h = absurd (let e = h in cc)

-- ---- the tables

module _ (db next : Trees) where
  lost_here : (s : TableName) (node : List ℕ) (time : Option ℤ) → AreNumbered (db (tree_of s)) → Drops s (is_at s node time) db next → (n : List ℕ) (at : Option ℤ)
      → rows_at next s n at ≡ cond (is_key s node time s n at) None (rows_at db s n at)
  lost_here s node time all d n at = go (is_key s node time s n at) refl
    where
      go : (b : Bool) → is_key s node time s n at ≡ b → rows_at next s n at ≡ cond b None (rows_at db s n at)
      go true same = ap (option_map columns) (ap (find (is_at s n at)) d.rows ∙ none_left d.shows (is_at s node time) (db (tree_of s)) d.found all d.are (is_at s n at) (λ r h. at_again s node time n at r same h))
      go false apart = ap (option_map columns) (ap (find (is_at s n at)) d.rows ∙ others_left d.shows (is_at s node time) (db (tree_of s)) d.found all d.are (is_at s n at) (λ r h. at_alike s node time n at r h ∙ apart))

  added_here : (s : TableName) (r : StoredRow) → Adds s r db next → step.HasRoom s r db → (n : List ℕ) (at : Option ℤ)
      → rows_at next s n at ≡ cond (is_key s (string_bytes r.node) r.source_time s n at) (Some (row_in s r)) (rows_at db s n at)
  added_here s r a room n at =
      let new = Int a.id ∷ row_in s r in
      let key = at_new s r (Int a.id) n at in
      let put = find_put (is_at s n at) new (db (tree_of s)) a.free (λ passes. not_mapped columns (find (is_at s n at) (db (tree_of s))) (room n at (sym key ∙ passes))) in
      ap (option_map columns) (ap (find (is_at s n at)) a.rows ∙ put) ∙ go a.id (is_at s n at new) (is_key s (string_bytes r.node) r.source_time s n at) key
    where
      go : (id : ℤ) (a b : Bool) → a ≡ b → option_map columns (cond a (Some (Int id ∷ row_in s r)) (find (is_at s n at) (db (tree_of s)))) ≡ cond b (Some (row_in s r)) (rows_at db s n at)
      go id true true same = ap (λ x. Some x) (columns_new s r (Int id))
      go id false false same = refl
      go id true false same = absurd (true≢false same)
      go id false true same = absurd (true≢false (sym same))

  rest_here : (s : TableName) → next (tree_of s) ≡ db (tree_of s) → (n : List ℕ) (at : Option ℤ) → rows_at next s n at ≡ rows_at db s n at
  rest_here s rest n at = ap (λ rows. option_map columns (find (is_at s n at) rows)) rest

  rows_lost : (s : TableName) (node : List ℕ) (time : Option ℤ) → AreNumbered (db (tree_of s)) → Drops s (is_at s node time) db next → (t : TableName) (n : List ℕ) (at : Option ℤ)
      → rows_at next t n at ≡ cond (is_key s node time t n at) None (rows_at db t n at)
  rows_lost table.Value node time all d table.Value = lost_here table.Value node time all d
  rows_lost table.Value node time all d table.History = rest_here table.History d.rest
  rows_lost table.History node time all d table.Value = rest_here table.Value d.rest
  rows_lost table.History node time all d table.History = lost_here table.History node time all d

  rows_added : (s : TableName) (r : StoredRow) → Adds s r db next → step.HasRoom s r db → (t : TableName) (n : List ℕ) (at : Option ℤ)
      → rows_at next t n at ≡ cond (is_key s (string_bytes r.node) r.source_time t n at) (Some (row_in s r)) (rows_at db t n at)
  rows_added table.Value r a room table.Value = added_here table.Value r a room
  rows_added table.Value r a room table.History = rest_here table.History a.rest
  rows_added table.History r a room table.Value = rest_here table.Value a.rest
  rows_added table.History r a room table.History = added_here table.History r a room

numbered_in : (s : TableName) (db : Database) → IsStore db → AreNumbered (db.trees (tree_of s))
numbered_in table.Value db is = is.1
numbered_in table.History db is = is.2

store_after : (s : TableName) (old new : Database) → IsStore old → new.schema ≡ store_schema → AreNumbered (new.trees (tree_of s)) → new.trees (tree_of (other s)) ≡ old.trees (tree_of (other s)) → IsStore new
store_after table.Value old new was schema all rest = (schema, all, subst AreNumbered (sym rest) was.2)
store_after table.History old new was schema all rest = (schema, subst AreNumbered (sym rest) was.1, all)

-- ---- the statements

placed : (s : TableName) → slice_get store_schema.tables (place_of s) ≡ Some (table_in s)
placed table.Value = refl
placed table.History = refl

-- what a statement on a table wrote, and how many rows that was
wrote : (limit : Option ℕ) (mode : Mode) (db : Database) (p : Tally × Database) (s : TableName) (params : Row) (command : Command) → db.schema ≡ store_schema
    → OnTable limit mode params db (place_of s) (λ task. OnRows task mode None command db.trees) (Ok p)
    → (w : Written) × WritesRows (task_of limit mode.keys (table_in s) params) db.trees command (Ok w) × (p.1 ≡ record { schema = store_schema; trees = w.trees }) × (p.0.rows ≡ Some (length w.rows))
wrote limit mode db p s params command has h =
    let here = subst (λ schema. OnTable limit mode params (record db { schema = schema }) (place_of s) (λ task. OnRows task mode None command db.trees) (Ok p)) has h in
    let done = went (subst (λ o. AtPlace (λ it. OnRows (task_of limit mode.keys it params) mode None command db.trees) o (Ok p)) (placed s) here) in
    let told = same_value (went (went done.2).2).2 in
    (done.0, done.1, ap (λ (it : Tally × Database). it.1) told, ap (λ (it : Tally × Database). it.0.rows) told)

hidden : {X : Type 0} (b : Bool) (x y z : X) → cond b x (cond b y z) ≡ cond b x z
hidden true x y z = refl
hidden false x y z = refl

-- first out, then in
room_left : (db mid : Trees) (s : TableName) (r : StoredRow) → AreNumbered (db (tree_of s)) → Drops s (is_at s (string_bytes r.node) r.source_time) db mid → step.HasRoom s r mid
room_left db mid s r all d n at same = rows_lost db mid s (string_bytes r.node) r.source_time all d s n at ∙ ap (λ b. cond b None (rows_at db s n at)) same

module _ (db mid next : Trees) where
  rows_renewed : (s : TableName) (r : StoredRow) → AreNumbered (db (tree_of s)) → Drops s (is_at s (string_bytes r.node) r.source_time) db mid → Adds s r mid next → (t : TableName) (n : List ℕ) (at : Option ℤ)
      → rows_at next t n at ≡ cond (is_key s (string_bytes r.node) r.source_time t n at) (Some (row_in s r)) (rows_at db t n at)
  rows_renewed s r all d a t n at =
      let key = is_key s (string_bytes r.node) r.source_time t n at in
      rows_added mid next s r a (room_left db mid s r all d) t n at ∙ (ap (cond key (Some (row_in s r))) (rows_lost db mid s (string_bytes r.node) r.source_time all d t n at) ∙ hidden key (Some (row_in s r)) None (rows_at db t n at))

numbered_added : (s : TableName) (r : StoredRow) (db next : Trees) → AreNumbered (db (tree_of s)) → Adds s r db next → AreNumbered (next (tree_of s))
numbered_added s r db next all a = subst AreNumbered (sym a.rows) (numbered_put (Int a.id ∷ row_in s r) a.id refl (db (tree_of s)) a.free all)

numbered_dropped : (s : TableName) (p : Row → Bool) (db next : Trees) → AreNumbered (db (tree_of s)) → Drops s p db next → AreNumbered (next (tree_of s))
numbered_dropped s p db next all d = subst AreNumbered (sym d.rows) (numbered_without (ids_of d.found) (db (tree_of s)) all)

module _ (old new : State) where
  pub forgets : (k : Key) (r : Result ℕ Error) → ExecutesInside 0 forget_text (key_in k) old new r → OnOk r (step.Makes (change.Forget k) old new)
  forgets k (Err e) h = tt
  forgets k (Ok count) h = (
    h.1.was_open,
    h.1.mode,
    λ was.
        let s = table.History in
        let command = Delete (place_of s) (with_key s number_alone) in
        let ran = runs_as forget_text (key_in k) old new store_schema was.0 command drops_are forget_plain count h.0 in
        let w = wrote old.step_limit (mode_of old) old.now (ran.tally, new.now) s (key_in k) command was.0 ran.changed in
        let d = subst (Drops s (is_at s (string_bytes k.node) (Some k.time)) old.now.trees) (sym (ap (λ (it : Database). it.trees) w.2)) (drops_rows old.step_limit (mode_of old).keys k old.now.trees w.0 w.1) in
        (store_after s old.now new.now was (ap (λ (it : Database). it.schema) w.2) (numbered_dropped s (is_at s (string_bytes k.node) (Some k.time)) old.now.trees new.now.trees was.2 d) d.rest, rows_lost old.now.trees new.now.trees s (string_bytes k.node) (Some k.time) was.2 d),
  )

  pub adds : (s : TableName) (r : StoredRow) (result : Result ℕ Error) → ExecutesInside 0 (add_text s) (row_in s r) old new result → OnOk result (step.Adds s r old new)
  adds s r (Err e) h = tt
  adds s r (Ok count) h = (
    h.1.was_open,
    h.1.mode,
    λ was room.
        let command = Insert (place_of s) (Values terms 7) in
        let ran = runs_as (add_text s) (row_in s r) old new store_schema was.0 command (adds_are s) (add_plain s) count h.0 in
        let w = wrote old.step_limit (mode_of old) old.now (ran.tally, new.now) s (row_in s r) command was.0 ran.changed in
        let d = subst (Adds s r old.now.trees) (sym (ap (λ (it : Database). it.trees) w.2)) (adds_rows s old.step_limit (mode_of old).keys r old.now.trees w.0 w.1) in
        let numbered = numbered_added s r old.now.trees new.now.trees (numbered_in s old.now was) d in
        (store_after s old.now new.now was (ap (λ (it : Database). it.schema) w.2) numbered d.rest, rows_added old.now.trees new.now.trees s r d room),
  )

  -- what UPDATE did to a store, and how many rows it told
  renewal_of : (s : TableName) (r : StoredRow) (count : ℕ) → ExecutesInside 0 (renew_text s) (row_in s r) old new (Ok count) → IsStore old.now
      → (w : Written) × Renews s r old.now.trees w × (new.now ≡ record { schema = store_schema; trees = w.trees }) × (length w.rows ≡ count)
  renewal_of s r count h was =
      let command = Update (place_of s) (with_key s renewal) in
      let ran = runs_as (renew_text s) (row_in s r) old new store_schema was.0 command (renewals_are s) (renew_plain s) count h.0 in
      let w = wrote old.step_limit (mode_of old) old.now (ran.tally, new.now) s (row_in s r) command was.0 ran.changed in
      (w.0, renews_rows s old.step_limit (mode_of old).keys r old.now.trees w.0 w.1, w.2, sym (ran.counted ∙ ap (λ o. unwrap_or o 0) w.3))

  renews_none : (s : TableName) (r : StoredRow) (w : Written) → Renews s r old.now.trees w → new.now ≡ record { schema = store_schema; trees = w.trees } → length w.rows ≡ 0 → IsStore old.now
      → IsStore new.now × step.HasRoom s r new.now.trees × IsAfter [] old.now.trees new.now.trees
  renews_none s r w it is none was =
      let found = untouched s r old.now.trees w it none in
      let news : w.rows ≡ [] = empty_of w.rows none in
      let trees = ap (λ (d : Database). d.trees) is in
      let here : new.now.trees (tree_of s) ≡ old.now.trees (tree_of s) = ap (λ (t : Trees). t (tree_of s)) trees ∙ (it.rows ∙ rw (news, found) refl) in
      let rest : new.now.trees (tree_of (other s)) ≡ old.now.trees (tree_of (other s)) = ap (λ (t : Trees). t (tree_of (other s))) trees ∙ it.rest in
      let all = numbered_in s old.now was in
      let d : Drops s (is_at s (string_bytes r.node) r.source_time) old.now.trees new.now.trees = record { shows = renewed s r; found = it.found; are = it.are; rows = here ∙ rw found refl; rest = rest } in (
        store_after s old.now new.now was (ap (λ (d : Database). d.schema) is) (subst AreNumbered (sym here) all) rest,
        room_left old.now.trees new.now.trees s r all d,
        kept s here rest,
      )
    where
      empty_of : (xs : List Row) → length xs ≡ 0 → xs ≡ []
      empty_of [] h = refl
      empty_of (x ∷ xs) h = absurd (omega (arith, h))

      kept : (s : TableName) → new.now.trees (tree_of s) ≡ old.now.trees (tree_of s) → new.now.trees (tree_of (other s)) ≡ old.now.trees (tree_of (other s)) → IsAfter [] old.now.trees new.now.trees
      kept table.Value here rest table.Value n at = rest_here old.now.trees new.now.trees table.Value here n at
      kept table.Value here rest table.History n at = rest_here old.now.trees new.now.trees table.History rest n at
      kept table.History here rest table.Value n at = rest_here old.now.trees new.now.trees table.Value rest n at
      kept table.History here rest table.History n at = rest_here old.now.trees new.now.trees table.History here n at

  renews_one : (s : TableName) (r : StoredRow) (w : Written) → Renews s r old.now.trees w → new.now ≡ record { schema = store_schema; trees = w.trees } → length w.rows ≡ 1 → IsStore old.now
      → IsStore new.now × IsAfter (change.Put s r ∷ []) old.now.trees new.now.trees
  renews_one s r w it is one was =
      let mid = between s r old.now.trees w it in
      let all = numbered_in s old.now was in
      let d = dropped s r old.now.trees w it in
      let trees : new.now.trees ≡ w.trees = ap (λ (d : Database). d.trees) is in
      let a : Adds s r mid new.now.trees = subst (Adds s r mid) (sym trees) (added s r old.now.trees w it all one) in (
        store_after s old.now new.now was (ap (λ (d : Database). d.schema) is) (numbered_added s r mid new.now.trees (numbered_dropped s (is_at s (string_bytes r.node) r.source_time) old.now.trees mid all d) a) (a.rest ∙ d.rest),
        rows_renewed old.now.trees mid new.now.trees s r all d a,
      )

  pub renews : (s : TableName) (r : StoredRow) (result : Result ℕ Error) → ExecutesInside 0 (renew_text s) (row_in s r) old new result → IfOk result (λ count. step.Renews s r count old new)
  renews s r (Err e) h = tt
  renews s r (Ok count) h = (
    h.1.was_open,
    h.1.mode,
    λ none was. let it = renewal_of s r count h was in renews_none s r it.0 it.1 it.2 (it.3 ∙ none) was,
    λ one was. let it = renewal_of s r count h was in renews_one s r it.0 it.1 it.2 (it.3 ∙ one) was,
  )

-- none had the key, and the row is added
module _ (old mid new : State) where
  pub puts : (s : TableName) (r : StoredRow) (result : Result ℕ Error) → step.Renews s r 0 old mid → OnOk result (step.Adds s r mid new) → OnOk result (step.Makes (change.Put s r) old new)
  puts s r (Err e) none more = tt
  puts s r (Ok count) none more = (
    none.0,
    more.1,
    λ was.
        let left = none.2 refl was in
        let made = more.2 left.0 left.1 in
        (made.0, λ t n at. made.1 t n at ∙ ap (cond (is_key s (string_bytes r.node) r.source_time t n at) (Some (row_in s r))) (left.2 t n at)),
  )
