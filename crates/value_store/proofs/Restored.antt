-- What is read back is what is kept.
use Rattle.std.proofs.Common.{◌≡◌, ℕ, ℤ, pos, Bool, true, false, cond, ◌&&◌, List, [], ◌∷◌, map, Option, Some, None, Ordering, Less, Equal, refl, sym, ap, subst, ◌∙◌, string_bytes, true≢false}
use Rattle.std.specs.Prelude.{find, bytes_eq, option_map, IsPermutation}
use Rattle.std.specs.Option.{option_and_then}
use Rattle.std.specs.List.{AllZip}
use Rattle.std.specs.Cmp.{IsTotalOrder}
use Rattle.std.specs.Ordering.{int_cmp, ordering_then}
use Rattle.std.proofs.lemmas.Bool.{and_parts, and_from}
use Rattle.std.proofs.lemmas.Cmp.{on_total, then_total, int_cmp_total, tied_itself}
use Rattle.std.proofs.lemmas.List.Sorted.{IsPermutation-sym}
use Rattle.std.proofs.lemmas.Slice.Eq.{bytes_eq-Decides}
use Rattle.ua_types.specs.IdTexts.{id_text}
use Rattle.ua_types.specs.NodeIdOrder.{id_cmp}
use Rattle.ua_types.specs.declared.moment.Moment.{Moment}
use Rattle.ua_types.specs.declared.node_id.NodeId.{NodeId}
use Rattle.ua_types.specs.declared.data_value.DataValue.{DataValue}
use Rattle.ua_types.specs.contracts.node_id.NodeIdOrd.TheImpl.Laws.{total-law}
use Rattle.server_messages.specs.Kept.{is_same, is_at_time, value_among, past_among, read_back, AreAlike}
use Rattle.server_messages.specs.declared.kept_values.KeptValue.{KeptValue}
use Rattle.sqlite.specs.declared.types.Value.TheVariants.{Null}
use Rattle.sqlite.specs.Order.{Row}
use Rattle.sqlite.specs.Tree.{Trees}
use Rattle.sqlite_rules.specs.Lists.{Has}
use Rattle.value_store.specs.declared.rows.TableName.{TableName}
use Rattle.value_store.specs.declared.rows.TableName.TheVariants as table
use Rattle.value_store.specs.declared.rows.StoredRow.{StoredRow}
use Rattle.value_store.specs.Rows.{row_in, columns}
use Rattle.value_store.specs.Forms.{said_of, said_in}
use Rattle.value_store.specs.Model.{tree_of, is_at, is_key, rows_at, AreRowsOf, AreAll}
use Rattle.value_store.specs.Keeping.{is_readable, kept_at}
use Rattle.value_store.specs.Restoring.{IsOf, order_in, source_ticks, Rise}
use Rattle.value_store.proofs.Numbers.{equal_of}
use Rattle.value_store.proofs.Changing.{same_node, same_time, at_new}
use Rattle.value_store.proofs.Telling.{tied, readable_of, one_text, times}
use Rattle.value_store.proofs.Looking.{moved, one_of, rising, has_mapped, mapped_from, partner, partner_back, looks_up}

-- ---- the orders

total_in : (s : TableName) → IsTotalOrder (order_in s)
total_in table.Value = on_total (λ (k : KeptValue). k.node_id) total-law
total_in table.History = then_total (on_total (λ (k : KeptValue). k.node_id) total-law) (on_total (λ (k : KeptValue). source_ticks k.value.source_time) int_cmp_total)

not_less : (o : Ordering) → o ≡ Equal → o ≡ Less → ⊥
not_less o is less = let e = sym is ∙ less in cc

alike_ids : (a b id : NodeId) → is_same a id ≡ true → is_same b id ≡ true → id_cmp a b ≡ Equal
alike_ids a b id first second = equal_of (id_cmp a b) (subst (λ i. is_same a i ≡ true) (sym (tied b id second)) first)

at_ticks : (at : Option Moment) (time : ℤ) → is_at_time time at ≡ true → source_ticks at ≡ time
at_ticks None time h = absurd (true≢false (sym h))
at_ticks (Some moment) time h = same_time moment.0 time h

alike_times : (a b time : ℤ) → a ≡ time → b ≡ time → int_cmp a b ≡ Equal
alike_times a b time first second = subst (λ (x : ℤ). int_cmp x b ≡ Equal) (sym first) (subst (λ (y : ℤ). int_cmp time y ≡ Equal) (sym second) (tied_itself int_cmp_total time))

-- ---- keys

-- what is looked for among the values of a table; in `value` at any time
abbrev picks : TableName → NodeId → ℤ → KeptValue → Bool
picks table.Value id time k = is_same k.node_id id
picks table.History id time k = is_same k.node_id id && is_at_time time k.value.source_time

tie : (s : TableName) (id : NodeId) (time : ℤ) (k l : KeptValue) → picks s id time k ≡ true → picks s id time l ≡ true → order_in s k l ≡ Equal
tie table.Value id time k l first second = alike_ids k.node_id l.node_id id first second
tie table.History id time k l first second =
    let a = and_parts _ _ first in
    let b = and_parts _ _ second in
    let ids = alike_ids k.node_id l.node_id id a.0 b.0 in
    let times = alike_times (source_ticks k.value.source_time) (source_ticks l.value.source_time) time (at_ticks k.value.source_time time a.1) (at_ticks l.value.source_time time b.1) in
    ap (λ o. ordering_then o (int_cmp (source_ticks k.value.source_time) (source_ticks l.value.source_time))) ids ∙ times

module _ (id : NodeId) (time : ℤ) (r : StoredRow) (k : KeptValue) (is : IsOf r k) where
  picked : (s : TableName) → is_readable id ≡ true → is_key s (string_bytes r.node) r.source_time s (id_text id) (Some time) ≡ true → picks s id time k ≡ true
  picked table.Value readable key = one_text k.node_id id is.again readable (is.text ∙ same_node (string_bytes r.node) (id_text id) key)
  picked table.History readable key =
      let parts = and_parts _ _ key in
      and_from _ _ (one_text k.node_id id is.again readable (is.text ∙ same_node (string_bytes r.node) (id_text id) parts.0)) (sym (times r.source_time k.value.source_time time is.source) ∙ parts.1)

  readable_here : is_same k.node_id id ≡ true → is_readable id ≡ true
  readable_here same = subst (λ i. is_readable i ≡ true) (tied k.node_id id same) (readable_of k.node_id is.again)

  own_text : is_same k.node_id id ≡ true → bytes_eq (string_bytes r.node) (id_text id) ≡ true
  own_text same = (bytes_eq-Decides (string_bytes r.node) (id_text id)).1 (sym is.text ∙ ap id_text (tied k.node_id id same))

  key_of : (s : TableName) → picks s id time k ≡ true → (is_readable id ≡ true) × (is_key s (string_bytes r.node) r.source_time s (id_text id) (Some time) ≡ true)
  key_of table.Value same = (readable_here same, own_text same)
  key_of table.History both = let parts = and_parts _ _ both in (readable_here parts.0, and_from _ _ (own_text parts.0) (times r.source_time k.value.source_time time is.source ∙ parts.1))

at_columns : (s : TableName) (n : List ℕ) (at : Option ℤ) (f : Row) → is_at s n at f ≡ is_at s n at (Null ∷ columns f)
at_columns table.Value n at f = refl
at_columns table.History n at f = refl

at_row : (s : TableName) (n : List ℕ) (at : Option ℤ) (f : Row) (r : StoredRow) → columns f ≡ row_in s r → is_at s n at f ≡ is_key s (string_bytes r.node) r.source_time s n at
at_row s n at f r same = at_columns s n at f ∙ (ap (λ x. is_at s n at (Null ∷ x)) same ∙ at_new s r Null n at)

said_row : (s : TableName) (r : StoredRow) → said_in s (row_in s r) ≡ said_of r
said_row table.Value r = refl
said_row table.History r = refl

-- ---- one table

module _ (s : TableName) (trees : Trees) (rows : List StoredRow) (read kept : List KeptValue) (all : AreRowsOf s trees rows) (are : AllZip IsOf rows read) (sorted : IsPermutation read kept)
    (rise : Rise (order_in s) kept) (id : NodeId) (time : ℤ) where
  to : (f : Row) → Has (trees (tree_of s)) f → is_at s (id_text id) (Some time) f ≡ true
      → (k : KeptValue) × Has kept k × (said_in s (columns f) ≡ Some k.value) × (is_readable id ≡ true → picks s id time k ≡ true)
  to f there passes =
      let file = trees (tree_of s) in
      let listed = mapped_from (row_in s) rows (columns f) (moved (map columns file) (map (row_in s) rows) (columns f) all (has_mapped columns file f there)) in
      let r = listed.0 in
      let k = partner IsOf rows read are r listed.1 in
      (k.0, moved read kept k.0 sorted k.1, ap (said_in s) listed.2 ∙ (said_row s r ∙ k.2.value), λ readable. picked id time r k.0 k.2 s readable (sym (at_row s (id_text id) (Some time) f r listed.2) ∙ passes))

  from : (k : KeptValue) → Has kept k → picks s id time k ≡ true → (is_readable id ≡ true) × ((f : Row) × Has (trees (tree_of s)) f × (is_at s (id_text id) (Some time) f ≡ true))
  from k there picks_it =
      let file = trees (tree_of s) in
      let r = partner_back IsOf rows read are k (moved kept read k (IsPermutation-sym read kept sorted) there) in
      let back = IsPermutation-sym (map columns file) (map (row_in s) rows) all in
      let f = mapped_from columns file (row_in s r.0) (moved (map (row_in s) rows) (map columns file) (row_in s r.0) back (has_mapped (row_in s) rows r.0 r.1)) in
      let key = key_of id time r.0 k r.2 s picks_it in
      (key.0, (f.0, f.1, at_row s (id_text id) (Some time) f.0 r.0 (sym f.2) ∙ key.1))

  one : (k l : KeptValue) → Has kept k → Has kept l → picks s id time k ≡ true → picks s id time l ≡ true → k ≡ l
  one k l there here first second =
      one_of (order_in s) kept (rising (total_in s) kept k there rise) k l there here (not_less (order_in s k l) (tie s id time k l first second)) (not_less (order_in s l k) (tie s id time l k second first))

  restored_in : option_map (λ k. k.value) (find (picks s id time) kept) ≡ cond (is_readable id) (option_and_then (said_in s) (rows_at trees s (id_text id) (Some time))) None
  restored_in = looks_up (trees (tree_of s)) kept (is_at s (id_text id) (Some time)) (said_in s) (picks s id time) (is_readable id) to from one

-- ---- both

next_found : (b : Bool) (k : KeptValue) (rest : Option DataValue) (o : Option KeptValue) → rest ≡ option_map (λ k. k.value) o → cond b (Some k.value) rest ≡ option_map (λ k. k.value) (cond b (Some k) o)
next_found true k rest o later = refl
next_found false k rest o later = later

value_found : (id : NodeId) (time : ℤ) (kept : List KeptValue) → value_among id kept ≡ option_map (λ k. k.value) (find (picks table.Value id time) kept)
value_found id time [] = refl
value_found id time (k ∷ kept) = next_found (picks table.Value id time k) k (value_among id kept) (find (picks table.Value id time) kept) (value_found id time kept)

past_found : (id : NodeId) (time : ℤ) (kept : List KeptValue) → past_among id time kept ≡ option_map (λ k. k.value) (find (picks table.History id time) kept)
past_found id time [] = refl
past_found id time (k ∷ kept) = next_found (picks table.History id time k) k (past_among id time kept) (find (picks table.History id time) kept) (past_found id time kept)

pub all_restored : (trees : Trees) (values pasts : List StoredRow) (said past kept histories : List KeptValue) → AreAll trees values pasts → AllZip IsOf values said → AllZip IsOf pasts past
    → IsPermutation said kept → IsPermutation past histories → Rise (order_in table.Value) kept → Rise (order_in table.History) histories → AreAlike (read_back kept histories) (kept_at trees)
all_restored trees values pasts said past kept histories all are pasts_are sorted pasts_sorted rise pasts_rise = record {
  values = λ id. value_found id (pos 0) kept ∙ restored_in table.Value trees values said kept all.0 are sorted rise id (pos 0);
  histories = λ id time. past_found id time histories ∙ restored_in table.History trees pasts past histories all.1 pasts_are pasts_sorted pasts_rise id time;
}
