-- Reading the values from before one after the other, as the loop does.
use Rattle.std.proofs.Common.{◌≡◌, ℕ, ◌+◌, ◌≤◌, ◌<◌, List, [], ◌∷◌, ◌++◌, length, get_or, drop, Result, Ok, Err, refl, sym, ap, ◌∙◌, append_assoc}
use Rattle.std.proofs.lemmas.List.{append-nil, drop_all}
use Rattle.toml.specs.Data.{as_table}
use Rattle.toml.specs.View.{view, items_view}
use Rattle.toml.specs.declared.value.Value.{Value}
use Rattle.toml.proofs.Views.{items_view-drop}
use Rattle.ua_types.specs.Answers.{◌>>=◌}
use Rattle.ua_types.specs.declared.data_value.DataValue.{DataValue}
use Rattle.node_loader.specs.Lists.{after}
use Rattle.node_loader.specs.Past.{listed_past_of, pasts_of}
use Rattle.node_loader.specs.declared.fault.Cause.{Cause}
use Rattle.node_loader.specs.declared.past.Past.{Past}
use Rattle.node_loader.specs.declared.past.Setting.{Setting}
use Rattle.node_loader.specs.declared.value.Form.{Form}

abbrev Values : Type 0
Values = Result (List DataValue) Cause

regroup : (front : List DataValue) (x : DataValue) (o : Values) → after front (o >>= λ xs. Ok (x ∷ xs)) ≡ after (front ++ x ∷ []) o
regroup front x (Err e) = refl
regroup front x (Ok xs) = ap Ok (simp append_assoc)

pub past_fails : (setting : Setting) (form : Form) (last : ℕ) (vs : List Value) (i : ℕ) (v : Value) (e : Cause) (front : List DataValue) (total : Values) → i < length vs → v ≡ get_or vs i v → listed_past_of setting form last (as_table (view v)) ≡ Err e
    → after front (pasts_of setting form last (items_view (drop i vs))) ≡ total → total ≡ Err e
past_fails setting form last vs i v e front total lt item bad so_far = sym so_far ∙ rw (items_view-drop vs i v lt, ← item, bad) refl

pub past_goes_on : (setting : Setting) (form : Form) (last : ℕ) (vs : List Value) (i : ℕ) (v : Value) (past : Past) (front : List DataValue) (total : Values) → i < length vs → v ≡ get_or vs i v → listed_past_of setting form last (as_table (view v)) ≡ Ok past
    → after front (pasts_of setting form last (items_view (drop i vs))) ≡ total → after (front ++ past.value ∷ []) (pasts_of setting form past.time (items_view (drop (i + 1) vs))) ≡ total
past_goes_on setting form last vs i v past front total lt item good so_far =
    let one : after front (pasts_of setting form last (items_view (drop i vs))) ≡ after (front ++ past.value ∷ []) (pasts_of setting form past.time (items_view (drop (i + 1) vs))) =
    rw (items_view-drop vs i v lt, ← item, good) (regroup front past.value (pasts_of setting form past.time (items_view (drop (i + 1) vs)))) in
    sym one ∙ so_far

pub pasts_end : (setting : Setting) (form : Form) (last : ℕ) (vs : List Value) (i : ℕ) (front : List DataValue) (total : Values) → length vs ≤ i
    → after front (pasts_of setting form last (items_view (drop i vs))) ≡ total → total ≡ Ok front
pasts_end setting form last vs i front total le so_far = sym so_far ∙ rw (drop_all i vs le) (ap Ok (append-nil front))
