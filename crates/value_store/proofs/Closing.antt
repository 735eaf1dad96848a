-- How a turn ends.
use Rattle.std.proofs.Common.{◌≡◌, ℕ, ℤ, List, [], ◌∷◌, ◌++◌, cond, Option, Some, None, Ok, Err, Result, OnOk, OnErr, IfErr, sym, ap, ◌∙◌, string_bytes, fold}
use Rattle.std.proofs.lemmas.List.Sums.{fold_push}
use Rattle.sqlite.specs.Tree.{Trees}
use Rattle.value_store.specs.declared.rows.RowChange.{RowChange}
use Rattle.value_store.specs.declared.rows.RowChange.TheVariants as change
use Rattle.value_store.specs.declared.rows.TableName.{TableName}
use Rattle.value_store.specs.declared.rows.TableName.TheVariants as table
use Rattle.value_store.specs.Rows.{row_in}
use Rattle.value_store.specs.Model.{Rows, IsAfter, is_key, rows_at, rows_with}

alike_with : (it : RowChange) (f g : Rows) → ((t : TableName) (n : List ℕ) (at : Option ℤ) → f t n at ≡ g t n at) → (t : TableName) (n : List ℕ) (at : Option ℤ) → rows_with f it t n at ≡ rows_with g it t n at
alike_with (change.Put s r) f g same t n at = ap (cond (is_key s (string_bytes r.node) r.source_time t n at) (Some (row_in s r))) (same t n at)
alike_with (change.Forget k) f g same t n at = ap (cond (is_key table.History (string_bytes k.node) (Some k.time) t n at) None) (same t n at)

-- one change more
pub after_more : (turn : List RowChange) (it : RowChange) (a b c : Trees) → IsAfter turn a b → IsAfter (it ∷ []) b c → IsAfter (turn ++ it ∷ []) a c
after_more turn it a b c many one t n at =
    one t n at ∙ (alike_with it (rows_at b) (fold rows_with (rows_at a) turn) many t n at ∙ ap (λ (f : Rows). f t n at) (sym (fold_push rows_with (rows_at a) turn it)))

pub after_none : (a b : Trees) → b ≡ a → IsAfter [] a b
after_none a b same t n at = ap (λ trees. rows_at trees t n at) same

pub on_ok : {T E A B : Type 0} (r : Result T E) → OnOk r A → (A → B) → OnOk r B
on_ok (Ok t) h f = f h
on_ok (Err e) h f = tt

pub whatever : {A E B : Type 0} (r : Result A E) → B → OnErr r B
whatever (Ok a) b = tt
whatever (Err e) b = b

pub if_err : {A E B : Type 0} (r : Result A E) (P : E → Type 0) → ((e : E) → P e → B) → IfErr r P → OnErr r B
if_err (Ok a) P f h = tt
if_err (Err e) P f h = f e h

pub either_way : {T E A B : Type 0} (P : E → Type 0) (r : Result T E) → OnOk r A → IfErr r P → (A → B) → ((e : E) → P e → B) → B
either_way P (Ok t) a b f g = f a
either_way P (Err e) a b f g = g e b
