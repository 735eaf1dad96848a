-- What the changes of rows make of what is kept.
use Rattle.std.proofs.Common.{◌≡◌, ℕ, ℤ, Bool, true, false, cond, ◌&&◌, List, [], ◌∷◌, ◌++◌, Option, Some, None, Ok, refl, sym, ap, subst, ◌∙◌, string_bytes, fold, true≢false}
use Rattle.std.specs.Prelude.{bytes_eq}
use Rattle.std.specs.Option.{option_and_then}
use Rattle.std.specs.Ordering.{is_eq, int_cmp}
use Rattle.std.proofs.lemmas.Bool.{false_from_ne_true}
use Rattle.std.proofs.lemmas.List.Sums.{fold_push}
use Rattle.std.proofs.lemmas.Slice.Eq.{bytes_eq-Decides}
use Rattle.ua_types.specs.IdTexts.{id_text, id_of}
use Rattle.ua_types.specs.declared.moment.Moment.{Moment}
use Rattle.ua_types.specs.declared.node_id.NodeId.{NodeId}
use Rattle.ua_types.specs.contracts.node_id.NodeIdOrd.TheImpl.Laws.{matches_eq-law}
use Rattle.ua_types.proofs.SameIds.{same_id_true, same_id_itself}
use Rattle.ua_types.specs.declared.data_value.DataValue.{DataValue}
use Rattle.server_messages.specs.Kept.{Kept, Past, is_same, is_at_time, put_at, dropped_at, past_with, with_stored, with_all_stored, AreAlike}
use Rattle.server_messages.specs.declared.stored.Stored.{Stored}
use Rattle.sqlite.specs.declared.types.Value.TheVariants.{Int}
use Rattle.sqlite.specs.Order.{Row}
use Rattle.sqlite.specs.Values.{or_null}
use Rattle.sqlite.specs.Tree.{Trees}
use Rattle.value_store.specs.declared.rows.StoredRow.{StoredRow}
use Rattle.value_store.specs.declared.rows.TableName.TheVariants as table
use Rattle.value_store.specs.declared.rows.Key.{Key}
use Rattle.value_store.specs.declared.rows.RowChange.{RowChange}
use Rattle.value_store.specs.declared.rows.RowChange.TheVariants as change
use Rattle.value_store.specs.Rows.{row_in}
use Rattle.value_store.specs.Forms.{said_of, said_in, time_said}
use Rattle.value_store.specs.Model.{Rows, IsAfter, is_time, rows_at, rows_with}
use Rattle.value_store.specs.Keeping.{is_read, is_readable, kept_by, kept_at, kept_after, HasValue, HasHistory, Grows, AreChanges, HasAll}

-- ---- ids and their texts

pub tied : (a b : NodeId) → is_same a b ≡ true → a ≡ b
tied a b h = same_id_true a b (matches_eq-law a b ∙ h)

pub same_itself : (a : NodeId) → is_same a a ≡ true
same_itself a = sym (matches_eq-law a a) ∙ same_id_itself a

pub readable_of : (id : NodeId) → id_of (id_text id) ≡ Ok id → is_readable id ≡ true
readable_of id again = ap (is_read id) again ∙ same_itself id

-- ids of one text are the same
pub one_text : (id other : NodeId) → id_of (id_text id) ≡ Ok id → is_readable other ≡ true → id_text id ≡ id_text other → is_same id other ≡ true
one_text id other again readable text =
    let read : id_of (id_text other) ≡ Ok id = subst (λ t. id_of t ≡ Ok id) text again in
    sym (ap (is_read other) read) ∙ readable

text_test : (id other : NodeId) (text : List ℕ) → id_of (id_text id) ≡ Ok id → text ≡ id_text id → is_readable other ≡ true → bytes_eq text (id_text other) ≡ is_same id other
text_test id other text again is readable = go (is_same id other) refl
  where
    go : (b : Bool) → is_same id other ≡ b → bytes_eq text (id_text other) ≡ b
    go true same = (bytes_eq-Decides text (id_text other)).1 (is ∙ ap id_text (tied id other same))
    go false apart = false_from_ne_true _ (λ alike. true≢false (sym (one_text id other again readable (sym is ∙ (bytes_eq-Decides text (id_text other)).0 alike)) ∙ apart))

unread_apart : (id other : NodeId) → id_of (id_text id) ≡ Ok id → is_readable other ≡ false → is_same id other ≡ false
unread_apart id other again unread =
    false_from_ne_true _ (λ same. true≢false (sym (subst (λ i. is_readable i ≡ true) (tied id other same) (readable_of id again)) ∙ unread))

same_cond : {X : Type 0} (b : Bool) (x : X) → x ≡ cond b x x
same_cond true x = refl
same_cond false x = refl

-- ---- one change

some_said : (a b : Option Moment) → ◌≡◌ {A = Option (Option Moment)} (Some a) (Some b) → a ≡ b
some_said a b e = cc

-- the time of a row beside that of what it says
pub times : (ticks : Option ℤ) (at : Option Moment) (time : ℤ) → time_said (or_null Int ticks) ≡ Some at → is_time ticks (Some time) ≡ is_at_time time at
times None at time said = ap (is_at_time time) (some_said None at said)
times (Some n) at time said = ap (is_at_time time) (some_said (Some (record { 0 = n })) at said)

put_is : (at : Option Moment) (value : DataValue) (past : Past) (time : ℤ) → cond (is_at_time time at) (Some value) (past time) ≡ put_at at value past time
put_is None value past time = refl
put_is (Some moment) value past time = refl

module _ (id : NodeId) (again : id_of (id_text id) ≡ Ok id) (rows : Rows) where
  value_here : (value : DataValue) (row : Row) (old : Option Row) → said_in table.Value row ≡ Some value → (b : Bool)
      → option_and_then (said_in table.Value) (cond b (Some row) old) ≡ cond b (Some value) (option_and_then (said_in table.Value) old)
  value_here value row old said true = said
  value_here value row old said false = refl

  past_here : (become : Option DataValue) (new old : Option Row) → option_and_then (said_in table.History) new ≡ become → (b c : Bool)
      → option_and_then (said_in table.History) (cond (b && c) new old) ≡ cond b (cond c become (option_and_then (said_in table.History) old)) (option_and_then (said_in table.History) old)
  past_here become new old said true true = said
  past_here become new old said true false = refl
  past_here become new old said false true = refl
  past_here become new old said false false = refl

  pub has_value : (value : DataValue) (r : StoredRow) → string_bytes r.node ≡ id_text id → said_of r ≡ Some value
      → HasValue id value (kept_by rows) (kept_by (rows_with rows (change.Put table.Value r)))
  has_value value r text said = record { values = λ other. go other (is_readable other) refl; histories = λ other time. refl }
    where
      go : (other : NodeId) (readable : Bool) → is_readable other ≡ readable
          → cond readable (option_and_then (said_in table.Value) (cond (bytes_eq (string_bytes r.node) (id_text other)) (Some (row_in table.Value r)) (rows table.Value (id_text other) None))) None
          ≡ cond (is_same id other) (Some value) (cond readable (option_and_then (said_in table.Value) (rows table.Value (id_text other) None)) None)
      go other true readable =
          ap (λ b. option_and_then (said_in table.Value) (cond b (Some (row_in table.Value r)) (rows table.Value (id_text other) None))) (text_test id other (string_bytes r.node) again text readable)
          ∙ value_here value (row_in table.Value r) (rows table.Value (id_text other) None) said (is_same id other)
      go other false unread = ap (λ b. cond b (Some value) None) (sym (unread_apart id other again unread))

  -- what becomes of a history where the row of one key becomes another, or none
  become : (text : List ℕ) (ticks : Option ℤ) (at : Option Moment) (new : Option Row) (told : Option DataValue) → text ≡ id_text id → time_said (or_null Int ticks) ≡ Some at
      → option_and_then (said_in table.History) new ≡ told → (other : NodeId) (time : ℤ) (readable : Bool) → is_readable other ≡ readable
      → cond readable (option_and_then (said_in table.History) (cond (bytes_eq text (id_text other) && is_time ticks (Some time)) new (rows table.History (id_text other) (Some time)))) None
      ≡ cond (is_same id other) (cond (is_at_time time at) told (cond readable (option_and_then (said_in table.History) (rows table.History (id_text other) (Some time))) None))
      (cond readable (option_and_then (said_in table.History) (rows table.History (id_text other) (Some time))) None)
  become text ticks at new told is timed said other time true readable =
      let old = rows table.History (id_text other) (Some time) in
      ap (λ b. option_and_then (said_in table.History) (cond (b && is_time ticks (Some time)) new old)) (text_test id other text again is readable)
      ∙ (ap (λ c. option_and_then (said_in table.History) (cond (is_same id other && c) new old)) (times ticks at time timed) ∙ past_here told new old said (is_same id other) (is_at_time time at))
  become text ticks at new told is timed said other time false unread = ap (λ b. cond b (cond (is_at_time time at) told None) None) (sym (unread_apart id other again unread))

  pub has_put : (value : DataValue) (r : StoredRow) → string_bytes r.node ≡ id_text id → time_said (or_null Int r.source_time) ≡ Some value.source_time → said_of r ≡ Some value
      → HasHistory id (put_at value.source_time value) (kept_by rows) (kept_by (rows_with rows (change.Put table.History r)))
  has_put value r text timed said = record {
    values = λ other. refl;
    histories = λ other time.
        become (string_bytes r.node) r.source_time value.source_time (Some (row_in table.History r)) (Some value) text timed said other time (is_readable other) refl
        ∙ ap (λ x. cond (is_same id other) x ((kept_by rows).histories other time)) (put_is value.source_time value ((kept_by rows).histories other) time);
  }

  pub has_dropped : (time : Moment) (k : Key) → string_bytes k.node ≡ id_text id → k.time ≡ time.0
      → HasHistory id (dropped_at (Some time)) (kept_by rows) (kept_by (rows_with rows (change.Forget k)))
  has_dropped time k text at = record {
    values = λ other. refl;
    histories = λ other t. become (string_bytes k.node) (Some k.time) (Some time) None None text (ap (λ (n : ℤ). let m : Moment = record { 0 = n } in Some (Some m)) at) refl other t (is_readable other) refl;
  }

-- ---- more changes

pub grows_push : (B : Kept → Kept → Type 0) (c : RowChange) → ((rows : Rows) → B (kept_by rows) (kept_by (rows_with rows c))) → (old new : List RowChange) → new ≡ old ++ c ∷ [] → Grows B old new
grows_push B c each old new is rows =
    subst (λ (l : List RowChange). B (kept_after rows old) (kept_after rows l)) (sym is)
    (subst (λ (x : Rows). B (kept_after rows old) (kept_by x)) (sym (fold_push rows_with rows old c)) (each (fold rows_with rows old)))

pub history_stays : (id : NodeId) (become : Past → Past) → ((past : Past) (time : ℤ) → past time ≡ become past time) → (changes : List RowChange) → Grows (HasHistory id become) changes changes
history_stays id become same changes rows = record {
  values = λ other. refl;
  histories = λ other time.
      let a = kept_after rows changes in
      same_cond (is_same id other) (a.histories other time) ∙ ap (λ x. cond (is_same id other) x (a.histories other time)) (same (a.histories other) time);
}

-- ---- one value that is stored

put_like : (at : Option Moment) (value : DataValue) (f g : Past) (time : ℤ) → f time ≡ g time → put_at at value f time ≡ put_at at value g time
put_like None value f g time same = same
put_like (Some moment) value f g time same = ap (cond (is_eq (int_cmp moment.0 time)) (Some value)) same

drop_like : (at : Option Moment) (f g : Past) (time : ℤ) → f time ≡ g time → dropped_at at f time ≡ dropped_at at g time
drop_like None f g time same = same
drop_like (Some moment) f g time same = ap (cond (is_eq (int_cmp moment.0 time)) None) same

module _ (s : Stored) where
  pub stored_now : s.is_historical ≡ false → (a b : Kept) → HasValue s.node_id s.value a b → AreAlike (with_stored a s) b
  stored_now not a b h = record {
    values = λ other. sym (h.values other);
    histories = λ other time.
        ap (λ x. cond (is_same s.node_id other) (cond x (dropped_at s.dropped (put_at s.value.source_time s.value (a.histories other)) time) (a.histories other time)) (a.histories other time)) not
        ∙ (sym (same_cond (is_same s.node_id other) (a.histories other time)) ∙ sym (h.histories other time));
  }

  pub stored_past : s.is_historical ≡ true → (a b c d : Kept) → HasValue s.node_id s.value a b → HasHistory s.node_id (put_at s.value.source_time s.value) b c → HasHistory s.node_id (dropped_at s.dropped) c d
      → AreAlike (with_stored a s) d
  stored_past is a b c d h put drop = record {
    values = λ other. sym (drop.values other ∙ (put.values other ∙ h.values other));
    histories = λ other time.
        ap (λ x. cond (is_same s.node_id other) (cond x (dropped_at s.dropped (put_at s.value.source_time s.value (a.histories other)) time) (a.histories other time)) (a.histories other time)) is
        ∙ sym (drop.histories other time ∙ (go other time (is_same s.node_id other) (put.histories other time)));
  }
    where
      go : (other : NodeId) (time : ℤ) (same : Bool) → c.histories other time ≡ cond same (put_at s.value.source_time s.value (b.histories other) time) (b.histories other time)
          → cond same (dropped_at s.dropped (c.histories other) time) (c.histories other time)
          ≡ cond same (dropped_at s.dropped (put_at s.value.source_time s.value (a.histories other)) time) (a.histories other time)
      go other time true was =
          drop_like s.dropped (c.histories other) (put_at s.value.source_time s.value (a.histories other)) time
          (was ∙ put_like s.value.source_time s.value (b.histories other) (a.histories other) time (h.histories other time))
      go other time false was = was ∙ h.histories other time

  past_like : (f g : Past) (time : ℤ) → f time ≡ g time → past_with s f time ≡ past_with s g time
  past_like f g time same = go s.is_historical
    where
      go : (b : Bool) → cond b (dropped_at s.dropped (put_at s.value.source_time s.value f) time) (f time) ≡ cond b (dropped_at s.dropped (put_at s.value.source_time s.value g) time) (g time)
      go true = drop_like s.dropped (put_at s.value.source_time s.value f) (put_at s.value.source_time s.value g) time (put_like s.value.source_time s.value f g time same)
      go false = same

  pub stored_like : (a b : Kept) → AreAlike a b → AreAlike (with_stored a s) (with_stored b s)
  stored_like a b same = record {
    values = λ other. ap (cond (is_same s.node_id other) (Some s.value)) (same.values other);
    histories = λ other time. go other time (is_same s.node_id other);
  }
    where
      go : (other : NodeId) (time : ℤ) (here : Bool) → cond here (past_with s (a.histories other) time) (a.histories other time) ≡ cond here (past_with s (b.histories other) time) (b.histories other time)
      go other time true = past_like (a.histories other) (b.histories other) time (same.histories other time)
      go other time false = same.histories other time

-- ---- many

pub alike_then : (a b c : Kept) → AreAlike a b → AreAlike b c → AreAlike a c
alike_then a b c first second = record { values = λ id. first.values id ∙ second.values id; histories = λ id time. first.histories id time ∙ second.histories id time }

pub changes_none : AreChanges [] []
changes_none rows = record { values = λ id. refl; histories = λ id time. refl }

pub changes_more : (done : List Stored) (s : Stored) (old new : List RowChange) → AreChanges done old → Grows (λ a b. AreAlike (with_stored a s) b) old new → AreChanges (done ++ s ∷ []) new
changes_more done s old new was grows rows =
    let before = with_all_stored (kept_by rows) done in
    let more = fold_push with_stored (kept_by rows) done s in
    subst (λ (k : Kept). AreAlike k (kept_after rows new)) (sym more)
    (alike_then (with_stored before s) (with_stored (kept_after rows old) s) (kept_after rows new) (stored_like s before (kept_after rows old) (was rows)) (grows rows))

-- ---- the tables

pub has_all : (stored : List Stored) (changes : List RowChange) (old new : Trees) → AreChanges stored changes → IsAfter changes old new → HasAll stored old new
has_all stored changes old new are after =
    alike_then (with_all_stored (kept_at old) stored) (kept_after (rows_at old) changes) (kept_at new) (are (rows_at old)) (record {
      values = λ id. ap (λ o. cond (is_readable id) (option_and_then (said_in table.Value) o) None) (sym (after table.Value (id_text id) None));
      histories = λ id time. ap (λ o. cond (is_readable id) (option_and_then (said_in table.History) o) None) (sym (after table.History (id_text id) (Some time)));
    })
