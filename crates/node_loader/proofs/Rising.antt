-- The values from before that a file says rise in time, and only nodes whose history is kept have any.
use Rattle.std.proofs.Common.{◌≡◌, ℕ, ℤ, pos, negsuc, int_lt, nat_le, ◌+◌, ◌≤◌, ◌<◌, codes, Bool, true, false, ◌&&◌, ◌||◌, List, [], ◌∷◌, map, Option, Some, None, Result, Ok, Err, refl, subst, inl, inr, arith}
use Rattle.std.proofs.lemmas.Bool.{cases_Bool, and_parts}
use Rattle.std.specs.List.{flat_map, list_all}
use Rattle.toml.specs.Data.{Data, Items, no_items, item, Members, as_table}
use Rattle.ua_types.specs.Answers.{◌>>=◌}
use Rattle.ua_types.specs.declared.moment.Moment.{Moment}
use Rattle.ua_types.specs.declared.node_class.NodeClass.{NodeClass}
use Rattle.ua_types.specs.declared.node_class.NodeClass.TheVariants as classes
use Rattle.ua_types.specs.declared.node_id.NodeId.{NodeId}
use Rattle.ua_types.specs.declared.number_range.NumberRange.{NumberRange}
use Rattle.ua_types.specs.declared.data_value.DataValue.{DataValue}
use Rattle.ua_space.proofs.Histories.{still_later}
use Rattle.ua_space.specs.Histories.{are_later, is_historizing, is_history, is_none, rises}
use Rattle.ua_space.specs.declared.node.Node.{Node}
use Rattle.ua_space.specs.declared.triple.Part.{Part}
use Rattle.ua_space.specs.declared.triple.Part.TheVariants as part
use Rattle.ua_space.specs.declared.triple.Triple.{Triple}
use Rattle.node_loader.specs.File.{entries_of, in_part, nodes_of}
use Rattle.node_loader.specs.Histories.{NodesHaveHistories}
use Rattle.node_loader.specs.Ids.{id_at, id_or}
use Rattle.node_loader.specs.Keys.{boolean_at, list_at, number_at, only, required_integer, required_number, required_word, text_at, up_to, within}
use Rattle.node_loader.specs.Lists.{count, each}
use Rattle.node_loader.specs.Node.{class_of, data_type_of, entry_from, entry_of, form_of, keys_of, kind_of, names_of, node_of, object_of, object_type_of, place_of, reference_type_of, rest_of, triples_of, variable_node_of, variable_of, variable_type_of}
use Rattle.node_loader.specs.Past.{after_time, few_pasts, history_of, listed_past_of, past_keys, past_of, past_value, pasts_of}
use Rattle.node_loader.specs.Value.{ranked_value}
use Rattle.node_loader.specs.declared.fault.Cause.{Cause}
use Rattle.node_loader.specs.declared.fault.LoadFault.{LoadFault}
use Rattle.node_loader.specs.declared.node.Entry.{Entry}
use Rattle.node_loader.specs.declared.node.Kind.{Kind}
use Rattle.node_loader.specs.declared.past.Past.{Past}
use Rattle.node_loader.specs.declared.past.Setting.{Setting}
use Rattle.node_loader.specs.declared.value.Form.{Form}
use Rattle.node_loader.proofs.Ordering.{ok_same, then_ok, without_part}

abbrev moment : ℕ → Moment
moment n = record { 0 = pos n }

-- ---- one entry

from_least : (range : NumberRange) (z : ℤ) (n : ℕ) → within range z ≡ Ok n → range.least ≤ n
from_least range (negsuc z) n e = absurd cc
from_least range (pos z) n e =
    elim (cases_Bool (nat_le range.least z && nat_le z range.most)) [
      | inr out ↦ absurd (let none : Err _ ≡ Ok n = rw out at e in cc)
      | inl inside ↦
          let both = and_parts (nat_le range.least z) (nat_le z range.most) inside in
          let here : Ok z ≡ Ok n = rw inside at e in
          let same = ok_same {A = ℕ} {F = Cause} z n here in
          grind (arith, both.0, same)
    ]

-- its time is after the last one, and is the source's time of its value
record Follows (last : ℕ) (past : Past) : Type 0 where
  later : last < past.time
  own : past.value.source_time ≡ Some (moment past.time)

past_follows : (setting : Setting) (form : Form) (last : ℕ) (ms : Members) (past : Past) → past_of setting form last ms ≡ Ok past → Follows last past
unfolding past_of required_number
past_follows setting form last ms past e =
    let known = then_ok (only past_keys ms) _ past e in
    let time = then_ok (required_number (codes "time") (after_time last) ms) _ past known.2 in
    let value = then_ok (ranked_value form.value_type form.rank setting.highest ms) _ past time.2 in
    let status = then_ok (number_at (codes "status") 0 (up_to 4294967295) ms) _ past value.2 in
    let is = ok_same {A = Past} {F = Cause} (record { time = time.0; value = past_value setting.start time.0 value.0 status.0 }) past status.2 in
    let number = then_ok (required_integer (codes "time") ms) _ time.0 time.1 in
    let least = from_least (after_time last) number.0 time.0 number.2 in
    subst (Follows last) is (record { later = omega (arith, least); own = refl })

listed_follows : (setting : Setting) (form : Form) (last : ℕ) (ms : Option Members) (past : Past) → listed_past_of setting form last ms ≡ Ok past → Follows last past
listed_follows setting form last None past e = absurd cc
listed_follows setting form last (Some ms) past e = past_follows setting form last ms past e

-- ---- and all of them

less : (a b : ℕ) → a < b → int_lt (pos a) (pos b) ≡ true
less a b lt = grind (arith, lt)

record Rise (last : ℕ) (values : List DataValue) : Type 0 where
  later : are_later (Some (moment last)) values ≡ true
  rise : rises values ≡ true

one_more : (last : ℕ) (past : Past) (values : List DataValue) → Follows last past → Rise past.time values → Rise last (past.value ∷ values)
unfolding rises
one_more last past values first rest = record {
  later = rw (first.own, less last past.time first.later, still_later (moment last) (moment past.time) values (less last past.time first.later) rest.later) refl;
  rise = rw (first.own, rest.later, rest.rise) refl;
}

pasts_rise : (setting : Setting) (form : Form) (last : ℕ) (ds : Items) (values : List DataValue) → pasts_of setting form last ds ≡ Ok values → Rise last values
unfolding rises
pasts_rise setting form last no_items values e = subst (Rise last) (ok_same {A = List DataValue} {F = Cause} [] values e) (record { later = refl; rise = refl })
pasts_rise setting form last (item d ds) values e =
    let first = then_ok (listed_past_of setting form last (as_table d)) (λ past. pasts_of setting form past.time ds >>= λ pasts. Ok (past.value ∷ pasts)) values e in
    let rest = then_ok (pasts_of setting form first.0.time ds) (λ pasts. Ok (first.0.value ∷ pasts)) values first.2 in
    let is = ok_same {A = List DataValue} {F = Cause} (first.0.value ∷ rest.0) values rest.2 in
    subst (Rise last) is (one_more last first.0 rest.0 (listed_follows setting form last (as_table d) first.0 first.1) (pasts_rise setting form first.0.time ds rest.0 rest.1))

-- none, or those of a kept history
abbrev Kept : Bool → List DataValue → Type 0
Kept historizing values = (is_none values || (historizing && rises values)) ≡ true

either_way : (b : Bool) → (b || true) ≡ true
either_way true = refl
either_way false = refl

few_kept : (setting : Setting) (form : Form) (historizing : Bool) (ds : Items) (values : List DataValue) → few_pasts setting form historizing ds ≡ Ok values → Kept historizing values
few_kept setting form true ds values e =
    elim (cases_Bool (nat_le (count ds) setting.history)) [
      | inr many ↦ absurd (let none : Err _ ≡ Ok values = rw many at e in cc)
      | inl few ↦
          let read : pasts_of setting form 0 ds ≡ Ok values = rw few at e in
          rw ((pasts_rise setting form 0 ds values read).rise) (either_way (is_none values))
    ]
few_kept setting form false no_items values e = subst (Kept false) (ok_same {A = List DataValue} {F = Cause} [] values e) refl
few_kept setting form false (item d ds) values e =
    let many : nat_le (count (item d ds)) 0 ≡ false = grind arith in
    absurd (let none : Err _ ≡ Ok values = rw many at e in cc)

history_kept : (setting : Setting) (form : Form) (historizing : Bool) (ms : Members) (values : List DataValue) → history_of setting form historizing ms ≡ Ok values → Kept historizing values
unfolding history_of
history_kept setting form historizing ms values e =
    let entries = then_ok (list_at (codes "history") ms) _ values e in
    few_kept setting form historizing entries.0 values entries.2

-- ---- a node

abbrev KindKept : Kind → Type 0
KindKept kind = Kept (is_historizing kind.details) kind.history

kind_is : (x y : Kind) → (let r : Result Kind Cause = Ok x in r) ≡ Ok y → KindKept x → KindKept y
kind_is x y e kept = subst KindKept (ok_same {A = Kind} {F = Cause} x y e) kept

kind_kept : (class : NodeClass) (setting : Setting) (ms : Members) (kind : Kind) → kind_of class setting ms ≡ Ok kind → KindKept kind
unfolding object_of variable_node_of object_type_of variable_type_of reference_type_of data_type_of
kind_kept classes.Object setting ms kind e =
    let definition = then_ok (id_or setting.highest (codes "definition") 58 ms) _ kind e in
    kind_is _ kind definition.2 refl
kind_kept classes.Variable setting ms kind e =
    let definition = then_ok (id_or setting.highest (codes "definition") 63 ms) _ kind e in
    let form = then_ok (form_of ms) _ kind definition.2 in
    let variable = then_ok (variable_of setting form.0 ms) _ kind form.2 in
    let history = then_ok (history_of setting form.0 variable.0.historizing ms) _ kind variable.2 in
    kind_is _ kind history.2 (history_kept setting form.0 variable.0.historizing ms history.0 history.1)
kind_kept classes.ObjectType setting ms kind e =
    let is_abstract = then_ok (boolean_at (codes "abstract") ms) _ kind e in
    kind_is _ kind is_abstract.2 refl
kind_kept classes.VariableType setting ms kind e =
    let form = then_ok (form_of ms) _ kind e in
    let is_abstract = then_ok (boolean_at (codes "abstract") ms) _ kind form.2 in
    kind_is _ kind is_abstract.2 refl
kind_kept classes.ReferenceType setting ms kind e =
    let is_abstract = then_ok (boolean_at (codes "abstract") ms) _ kind e in
    let symmetric = then_ok (boolean_at (codes "symmetric") ms) _ kind is_abstract.2 in
    let inverse = then_ok (text_at (codes "inverse") ms) _ kind symmetric.2 in
    kind_is _ kind inverse.2 refl
kind_kept classes.DataType setting ms kind e =
    let is_abstract = then_ok (boolean_at (codes "abstract") ms) _ kind e in
    kind_is _ kind is_abstract.2 refl

abbrev EntryKept : Entry → Type 0
EntryKept entry = is_history entry.node ≡ true

rest_kept : (setting : Setting) (p : Part) (id : NodeId) (class : NodeClass) (ms : Members) (entry : Entry) → rest_of setting p id class ms ≡ Ok entry → EntryKept entry
unfolding rest_of
rest_kept setting p id class ms entry e =
    let known = then_ok (only (keys_of setting.version class) ms) _ entry e in
    let names = then_ok (names_of setting.highest id.namespace ms) _ entry known.2 in
    let place = then_ok (place_of setting.highest ms) _ entry names.2 in
    let kind = then_ok (kind_of class setting ms) _ entry place.2 in
    let is = ok_same {A = Entry} {F = Cause} (entry_from p id names.0 place.0 kind.0) entry kind.2 in
    subst EntryKept is (kind_kept class setting ms kind.0 kind.1)

entry_kept : (setting : Setting) (p : Part) (ms : Option Members) (entry : Entry) → entry_of setting p ms ≡ Ok entry → EntryKept entry
unfolding node_of
entry_kept setting p None entry e = absurd cc
entry_kept setting p (Some ms) entry e =
    let id = then_ok (id_at setting.highest (codes "id") ms) _ entry e in
    let word = then_ok (required_word (codes "class") ms) _ entry id.2 in
    let class = then_ok (class_of word.0) _ entry word.2 in
    rest_kept setting p id.0 class.0 ms entry class.2

each_kept : (setting : Setting) (n : ℕ) (ds : Items) (entries : List Entry) → each (λ k d. in_part (part.Node k) (entry_of setting (part.Node k) (as_table d))) n ds ≡ Ok entries → list_all is_history (map (λ (x : Entry). x.node) entries) ≡ true
each_kept setting n no_items entries e =
    let P : List Entry → Type 0 = λ xs. list_all is_history (map (λ (x : Entry). x.node) xs) ≡ true in
    subst P (ok_same {A = List Entry} {F = LoadFault} [] entries e) refl
each_kept setting n (item d ds) entries e =
    let read = λ (k : ℕ) (d : Data). in_part (part.Node k) (entry_of setting (part.Node k) (as_table d)) in
    let first = then_ok (read n d) (λ x. each read (n + 1) ds >>= λ xs. Ok (x ∷ xs)) entries e in
    let rest = then_ok (each read (n + 1) ds) (λ xs. Ok (first.0 ∷ xs)) entries first.2 in
    let is = ok_same {A = List Entry} {F = LoadFault} (first.0 ∷ rest.0) entries rest.2 in
    let P : List Entry → Type 0 = λ xs. list_all is_history (map (λ (x : Entry). x.node) xs) ≡ true in
    let here = entry_kept setting (part.Node n) (as_table d) first.0 (without_part (part.Node n) (entry_of setting (part.Node n) (as_table d)) first.0 first.1) in
    subst P is (rw (here, each_kept setting (n + 1) ds rest.0 rest.1) refl)

pub nodes_have_histories : NodesHaveHistories
unfolding nodes_of
nodes_have_histories setting list nodes triples e =
    let read = then_ok (entries_of setting list) (λ entries. Ok (map (λ (x : Entry). x.node) entries, flat_map triples_of entries)) (nodes, triples) e in
    let is = ok_same {A = List Node × List Triple} {F = LoadFault} (map (λ (x : Entry). x.node) read.0, flat_map triples_of read.0) (nodes, triples) read.2 in
    let P : List Node × List Triple → Type 0 = λ p. list_all is_history p.0 ≡ true in
    subst P is (each_kept setting 1 list read.0 read.1)
