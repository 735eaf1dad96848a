-- What a Write has a store keep is what it changed of the nodes' values and of the histories.
use Rattle.std.proofs.Common.{◌≡◌, ℤ, Bool, true, false, cond, List, [], ◌∷◌, fold, Option, Some, None, option_map, refl, sym, ap, subst, ◌∙◌}
use Rattle.std.specs.Ordering.{is_eq, int_cmp, ordering_reverse}
use Rattle.std.specs.declared.cmp.Ordering.{Ordering}
use Rattle.std.specs.declared.cmp.Ordering.TheVariants.{Less, Equal, Greater}
use Rattle.ua_types.specs.NodeIdOrder.{id_cmp, same_id}
use Rattle.ua_types.specs.contracts.node_id.NodeIdOrd.TheImpl.Laws.{matches_eq-law, total-law}
use Rattle.ua_types.specs.declared.moment.Moment.{Moment}
use Rattle.ua_types.specs.declared.node_id.NodeId.{NodeId}
use Rattle.ua_types.specs.declared.data_value.DataValue.{DataValue}
use Rattle.ua_service_messages.specs.declared.writing.WriteValue.{WriteValue}
use Rattle.ua_space.specs.Nodes.{Nodes, node_at}
use Rattle.ua_space.specs.Values.{variable_in, variable_of, variable_at, value_at, holding}
use Rattle.ua_space.specs.declared.node.Node.{Node}
use Rattle.ua_space.specs.declared.node.NodeDetails.{NodeDetails}
use Rattle.ua_space.specs.declared.node.NodeDetails.TheVariants as details
use Rattle.ua_space.proofs.Soundness.{tied}
use Rattle.ua_history.specs.Histories as history
use Rattle.ua_history.specs.Histories.{HistoryState, history_of, kept, dropped}
use Rattle.ua_history.specs.HistoryLaws.{or_before, unless_dropped}
use Rattle.ua_history.proofs.Dropping.{flipped, keeps_one_more, kept_apart, AreByTime, all_by_time}
use Rattle.ua_read_write.specs.Writing.{write_of}
use Rattle.ua_read_write.specs.WritingLaws.{later, latest, revalued}
use Rattle.ua_read_write.specs.declared.writing.Change.{Change}
use Rattle.ua_read_write.proofs.WrittenNodes.{changes_values_alone}
use Rattle.server_messages.specs.Kept.{Kept, Past, is_same, put_at, dropped_at, past_with, with_stored, with_all_stored}
use Rattle.ua_services.specs.declared.services.Services.{Services}
use Rattle.ua_services.specs.Write.{is_historizing, history_with, dropped_by, with_change, all_kept, stored_change, stored_changes, with_written}

-- the value of each variable is kept, and its history, as the server has them
pub record HasAll (kept : Kept) (services : Services) : Type 0 where
  pub values : (id : NodeId) (value : DataValue) → value_at id services.space.nodes ≡ Some value → kept.values id ≡ Some value
  pub histories : (id : NodeId) (time : ℤ) → kept.histories id time ≡ history.value_at time (history_of id services.history)

-- ---- values

-- the last of the values that a variable was given, or the one before
last_kept : (nodes : Nodes) (h : HistoryState) (k : Kept) (changes : List Change) (id : NodeId) → (with_all_stored k (stored_changes nodes h changes)).values id ≡ fold (later id) (k.values id) changes
last_kept nodes h k [] id = refl
last_kept nodes h k (c ∷ cs) id =
    last_kept nodes (with_change nodes h c) (with_stored k (stored_change nodes h c)) cs id
    ∙ ap (λ (b : Bool). fold (later id) (cond b (Some c.value) (k.values id)) cs) (sym (matches_eq-law c.node_id id))

abbrev or_else : Option DataValue → Option DataValue → Option DataValue
or_else None before = before
or_else (Some value) before = Some value

later_behind : (b : Bool) (c : Change) (found before : Option DataValue) → cond b (Some c.value) (or_else found before) ≡ or_else (cond b (Some c.value) found) before
later_behind true c found before = refl
later_behind false c found before = refl

last_of : (id : NodeId) (changes : List Change) (found before : Option DataValue) → fold (later id) (or_else found before) changes ≡ or_else (fold (later id) found changes) before
last_of id [] found before = refl
last_of id (c ∷ cs) found before =
    ap (λ (o : Option DataValue). fold (later id) o cs) (later_behind (same_id c.node_id id) c found before) ∙ last_of id cs (later id found c) before

abbrev value_in : Option Node → Option DataValue
value_in found = option_map (λ a. a.value) (variable_of found)

-- a node that was given a value has it, if it is a variable
given_by : (v value : DataValue) (found : Option Node) → value_in (option_map (revalued (Some v)) found) ≡ Some value → v ≡ value
given_by v value None e = absurd cc
given_by v value (Some node) e = by node.details e
  where
    by : (d : NodeDetails) → option_map (λ a. a.value) (variable_in (holding v d)) ≡ Some value → v ≡ value
    by details.Object e = absurd cc
    by (details.Variable a) e = cc
    by (details.ObjectType a) e = absurd cc
    by (details.VariableType t r a) e = absurd cc
    by (details.ReferenceType a s i) e = absurd cc
    by (details.DataType a) e = absurd cc

unrevalued : (found : Option Node) → option_map (revalued None) found ≡ found
unrevalued None = refl
unrevalued (Some node) = refl

written_values : (clock : Moment) (nodes : Nodes) (values : List WriteValue) (h : HistoryState) (k : Kept)
    → ((id : NodeId) (value : DataValue) → value_at id nodes ≡ Some value → k.values id ≡ Some value)
    → (id : NodeId) (value : DataValue) → (let w = write_of clock nodes values in value_at id w.nodes ≡ Some value → (with_all_stored k (stored_changes w.nodes h w.changed)).values id ≡ Some value)
written_values clock nodes values h k had id value e =
    let w = write_of clock nodes values in
    let found : value_in (option_map (revalued (latest id w.changed)) (node_at id nodes)) ≡ Some value = sym (ap value_in (changes_values_alone clock nodes values id)) ∙ e in
    last_kept w.nodes h k w.changed id ∙ last_of id w.changed None (k.values id) ∙ by (latest id w.changed) found
  where
    by : (o : Option DataValue) → value_in (option_map (revalued o) (node_at id nodes)) ≡ Some value → or_else o (k.values id) ≡ Some value
    by None e = had id value (sym (ap value_in (unrevalued (node_at id nodes))) ∙ e)
    by (Some v) e = ap Some (given_by v value (node_at id nodes) e)

-- ---- histories

-- a store has the histories
abbrev Agrees : (NodeId → Past) → HistoryState → Type 0
Agrees past h = (id : NodeId) (time : ℤ) → past id time ≡ history.value_at time (history_of id h)

reversed : (r : Ordering) → is_eq (ordering_reverse r) ≡ is_eq r
reversed Less = refl
reversed Equal = refl
reversed Greater = refl

id_flipped : (a b : NodeId) → is_eq (id_cmp a b) ≡ is_eq (id_cmp b a)
id_flipped a b = ap is_eq (total-law.antisymm a b) ∙ reversed (id_cmp b a)

either_same : (b : Bool) (x : Option DataValue) → cond b x x ≡ x
either_same true x = refl
either_same false x = refl

module _ (h : HistoryState) (n : NodeId) (v : DataValue) (past : NodeId → Past) (sorted : AreByTime h) (agrees : Agrees past h) where
  dropped_so : (o : Option Moment) (p : Past) (time : ℤ) (x : Option DataValue) → p time ≡ x → dropped_at o p time ≡ unless_dropped o time x
  dropped_so None p time x e = e
  dropped_so (Some m) p time x e = ap (λ (b : Bool). cond b None (p time)) (flipped m.0 time) ∙ ap (λ (y : Option DataValue). cond (is_eq (int_cmp time m.0)) None y) e

  put_so : (t : Moment) (time : ℤ) → put_at (Some t) v (past n) time ≡ or_before (is_eq (int_cmp time t.0)) v (history.value_at time (history_of n h))
  put_so t time =
      ap (λ (b : Bool). or_before b v (past n time)) (flipped t.0 time) ∙ ap (or_before (is_eq (int_cmp time t.0)) v) (agrees n time)

  kept_here : (o : Option Moment) → v.source_time ≡ o → (time : ℤ) → dropped_at (dropped h n v) (put_at v.source_time v (past n)) time ≡ history.value_at time (history_of n (kept h n v))
  kept_here None at time = rw at (agrees n time)
  kept_here (Some t) at time =
      ap (λ (o : Option Moment). dropped_at (dropped h n v) (put_at o v (past n)) time) at
      ∙ dropped_so (dropped h n v) (put_at (Some t) v (past n)) time _ (put_so t time)
      ∙ sym (keeps_one_more h n v t time (sorted n) at)

  kept_at_id : (c : Bool) (id : NodeId) → is_same n id ≡ c → (time : ℤ)
      → cond c (dropped_at (dropped h n v) (put_at v.source_time v (past id)) time) (past id time) ≡ history.value_at time (history_of id (kept h n v))
  kept_at_id true id is time =
      subst (λ (q : NodeId). dropped_at (dropped h n v) (put_at v.source_time v (past q)) time ≡ history.value_at time (history_of q (kept h n v))) (tied n id is) (kept_here v.source_time refl time)
  kept_at_id false id is time = agrees id time ∙ ap (history.value_at time) (sym (kept_apart h n id v (id_flipped id n ∙ is) is))

  one_history : (b : Bool) (id : NodeId) (time : ℤ)
      → cond (is_same n id) (past_with (record { node_id = n; value = v; is_historical = b; dropped = dropped_by h n v b }) (past id) time) (past id time) ≡ history.value_at time (history_of id (history_with h n v b))
  one_history true id time = kept_at_id (is_same n id) id refl time
  one_history false id time = either_same (is_same n id) (past id time) ∙ agrees id time

  still_sorted : (b : Bool) → AreByTime (history_with h n v b)
  still_sorted true = all_by_time h n v sorted
  still_sorted false = sorted

all_histories : (nodes : Nodes) (h : HistoryState) (k : Kept) (changes : List Change) → AreByTime h → Agrees k.histories h → Agrees (with_all_stored k (stored_changes nodes h changes)).histories (all_kept nodes h changes)
all_histories nodes h k [] sorted agrees = agrees
all_histories nodes h k (c ∷ cs) sorted agrees =
    let b = is_historizing (variable_at c.node_id nodes) in
    all_histories nodes (with_change nodes h c) (with_stored k (stored_change nodes h c)) cs
    (still_sorted h c.node_id c.value k.histories sorted agrees b) (one_history h c.node_id c.value k.histories sorted agrees b)

pub all_sorted : (nodes : Nodes) (h : HistoryState) (changes : List Change) → AreByTime h → AreByTime (all_kept nodes h changes)
all_sorted nodes h [] sorted = sorted
all_sorted nodes h (c ∷ cs) sorted = all_sorted nodes (with_change nodes h c) cs (one_sorted h c.node_id c.value (is_historizing (variable_at c.node_id nodes)) sorted)
  where
    one_sorted : (h : HistoryState) (n : NodeId) (v : DataValue) (b : Bool) → AreByTime h → AreByTime (history_with h n v b)
    one_sorted h n v true sorted = all_by_time h n v sorted
    one_sorted h n v false sorted = sorted

-- ---- both

pub write_has_all : (clock : Moment) (state : Services) (values : List WriteValue) (k : Kept) → AreByTime state.history → HasAll k state
    → (let w = write_of clock state.space.nodes values in HasAll (with_all_stored k (stored_changes w.nodes state.history w.changed)) (with_written state w))
write_has_all clock state values k sorted has =
    let w = write_of clock state.space.nodes values in
    record {
      values = written_values clock state.space.nodes values state.history k has.values;
      histories = all_histories w.nodes state.history k w.changed sorted has.histories;
    }
