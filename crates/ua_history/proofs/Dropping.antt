-- One more value of a node, and the one that falls out for it.
use Rattle.std.proofs.Common.{◌≡◌, ◌<ℤ◌, ℕ, ℤ, Bool, true, false, cond, List, [], ◌∷◌, length, drop, nat_lt, slice_get, Option, Some, None, option_map, refl, sym, ap, subst, ◌∙◌}
use Rattle.std.proofs.lemmas.Bool.{false≢true}
use Rattle.std.specs.BTreeMap.{is_at}
use Rattle.std.specs.Cmp.{int_cmp_total, int_cmp_is, int_ranks}
use Rattle.std.specs.List.{AllByRecursion, fold}
use Rattle.std.specs.List.Sorted.{IsStrictlySortedBy}
use Rattle.std.specs.Map.{keys_of}
use Rattle.std.specs.Ordering.{int_cmp, is_eq, ordering_reverse, match_ordering, MatchOrdering}
use Rattle.std.specs.declared.cmp.Ordering.{Ordering}
use Rattle.std.specs.declared.cmp.Ordering.TheVariants.{Less, Equal, Greater}
use Rattle.ua_types.specs.Configuration.{Configuration}
use Rattle.ua_types.specs.NodeIdOrder.{id_cmp}
use Rattle.ua_types.specs.declared.moment.Moment.{Moment}
use Rattle.ua_types.specs.declared.node_id.NodeId.{NodeId}
use Rattle.ua_types.specs.declared.data_value.DataValue.{DataValue}
use Rattle.ua_space.proofs.Soundness.{tied as same_id}
use Rattle.ua_space.specs.Nodes.{Nodes}
use Rattle.ua_history.specs.HistoryLaws.{IsByTime, or_before, unless_dropped, KeepsOneMore}
use Rattle.ua_history.specs.Histories.{Values, HistoryState, history_of, value_at, put_in, kept_in, time_of, dropped_in, kept_at, kept, dropped_at, no_histories, with_all, with_node, histories_begun}
use Rattle.ua_history.proofs.Beginning.{kept_itself, kept_other}

-- two times are the same
abbrev same : ℤ → ℤ → Bool
same a b = is_eq (int_cmp a b)

tied : (a b : ℤ) → int_cmp a b ≡ Equal → a ≡ b
tied a b h = subst (λ (r : Ordering). MatchOrdering r (a <ℤ b) (a ≡ b) (b <ℤ a)) h (int_ranks a b)

is_equal : (r : Ordering) → is_eq r ≡ true → r ≡ Equal
is_equal Less h = absurd (false≢true h)
is_equal Equal h = refl
is_equal Greater h = absurd (false≢true h)

tied_by : (a b : ℤ) → same a b ≡ true → a ≡ b
tied_by a b h = tied a b (is_equal (int_cmp a b) h)

reversed : (r : Ordering) → is_eq (ordering_reverse r) ≡ is_eq r
reversed Less = refl
reversed Equal = refl
reversed Greater = refl

pub flipped : (a b : ℤ) → same a b ≡ same b a
flipped a b = ap is_eq (int_cmp_total.antisymm a b) ∙ reversed (int_cmp b a)

twice : (here : Bool) (value other : DataValue) (rest : Option DataValue) → or_before here value rest ≡ or_before here value (or_before here other rest)
twice true value other rest = refl
twice false value other rest = refl

-- of two tests that can't both be, either may come first
swap : (a b : Bool) (v w : DataValue) (rest : Option DataValue) → (a ≡ true → b ≡ true → ⊥) → or_before a v (or_before b w rest) ≡ or_before b w (or_before a v rest)
swap true true v w rest apart = absurd (apart refl refl)
swap true false v w rest apart = refl
swap false true v w rest apart = refl
swap false false v w rest apart = refl

both : (t time e : ℤ) → int_cmp time e ≡ Greater → same t e ≡ true → same t time ≡ true → ⊥
both t time e is p q =
    let one : time ≡ e = sym (tied_by t time q) ∙ tied_by t e p in
    let equal : is_eq (int_cmp e e) ≡ true = ap is_eq (sym (int_cmp_is e e Equal refl)) in
    false≢true (sym (ap is_eq is) ∙ ap (λ (z : ℤ). is_eq (int_cmp z e)) one ∙ equal)

pub value_put : (t time : ℤ) (value : DataValue) (values : Values) → value_at t (put_in time value values) ≡ or_before (same t time) value (value_at t values)
value_put t time value [] = refl
value_put t time value (e ∷ es) = by (int_cmp time e.0) refl (value_put t time value es)
  where
    by : (r : Ordering) → int_cmp time e.0 ≡ r → value_at t (put_in time value es) ≡ or_before (same t time) value (value_at t es)
        → value_at t (match_ordering r ((time, value) ∷ e ∷ es) ((e.0, value) ∷ es) (e ∷ put_in time value es)) ≡ or_before (same t time) value (value_at t (e ∷ es))
    by Less is rest = refl
    by Equal is rest = twice (same t e.0) value e.1 (value_at t es) ∙ ap (λ (z : ℤ). or_before (same t z) value (value_at t (e ∷ es))) (sym (tied time e.0 is))
    by Greater is rest =
        ap (λ (o : Option DataValue). or_before (same t e.0) e.1 o) rest
        ∙ swap (same t e.0) (same t time) e.1 value (value_at t es) (both t time e.0 is)

-- ---- times rise

abbrev AreLater : ℤ → Values → Type 0
AreLater a es = AllByRecursion (λ y. int_cmp a y ≡ Less) (keys_of es)

later_put : (a time : ℤ) (value : DataValue) (es : Values) → AreLater a es → int_cmp a time ≡ Less → AreLater a (put_in time value es)
later_put a time value [] h less = (less, tt)
later_put a time value (e ∷ es) h less = by (int_cmp time e.0) (later_put a time value es h.1 less)
  where
    by : (r : Ordering) → AreLater a (put_in time value es) → AreLater a (match_ordering r ((time, value) ∷ e ∷ es) ((e.0, value) ∷ es) (e ∷ put_in time value es))
    by Less rest = (less, h)
    by Equal rest = h
    by Greater rest = (h.0, rest)

all_later : (a b : ℤ) (es : Values) → int_cmp a b ≡ Less → AreLater b es → AreLater a es
all_later a b [] less h = tt
all_later a b (e ∷ es) less h = (int_cmp_total.trans a b e.0 less h.0, all_later a b es less h.1)

pub sorted_put : (time : ℤ) (value : DataValue) (values : Values) → IsByTime values → IsByTime (put_in time value values)
unfolding IsStrictlySortedBy
sorted_put time value [] h = (tt, tt)
sorted_put time value (e ∷ es) h = by (int_cmp time e.0) refl (sorted_put time value es h.1)
  where
    by : (r : Ordering) → int_cmp time e.0 ≡ r → IsByTime (put_in time value es) → IsByTime (match_ordering r ((time, value) ∷ e ∷ es) ((e.0, value) ∷ es) (e ∷ put_in time value es))
    by Less is rest = ((is, all_later time e.0 es is h.0), h)
    by Equal is rest = h
    by Greater is rest = (later_put e.0 time value es h.0 (int_cmp_total.antisymm e.0 time ∙ ap ordering_reverse is), rest)

sorted_rest : (values : Values) → IsByTime values → IsByTime (drop 1 values)
unfolding IsStrictlySortedBy
sorted_rest [] h = tt
sorted_rest (e ∷ es) h = h.1

pub sorted_kept : (most : ℕ) (time : ℤ) (value : DataValue) (values : Values) → IsByTime values → IsByTime (kept_in most time value values)
sorted_kept most time value values h = by (nat_lt most (length (put_in time value values)))
  where
    by : (b : Bool) → IsByTime (cond b (drop 1 (put_in time value values)) (put_in time value values))
    by true = sorted_rest (put_in time value values) (sorted_put time value values h)
    by false = sorted_put time value values h

-- ---- the value that falls out

none_later : (t first : ℤ) (es : Values) → AreLater first es → same t first ≡ true → value_at t es ≡ None
none_later t first [] h is = refl
none_later t first (e ∷ es) h is =
    let apart : same t e.0 ≡ false = ap (λ (z : ℤ). is_eq (int_cmp z e.0)) (tied_by t first is) ∙ ap is_eq h.0 in
    ap (λ (b : Bool). or_before b e.1 (value_at t es)) apart ∙ none_later t first es h.1 is

value_rest : (t : ℤ) (values : Values) → IsByTime values → value_at t (drop 1 values) ≡ unless_dropped (option_map time_of (slice_get values 0)) t (value_at t values)
unfolding IsStrictlySortedBy
value_rest t [] h = refl
value_rest t (e ∷ es) h = by (same t e.0) refl
  where
    by : (b : Bool) → same t e.0 ≡ b → value_at t es ≡ cond b None (or_before b e.1 (value_at t es))
    by true is = none_later t e.0 es h.0 is
    by false is = refl

pub value_kept : (t : ℤ) (most : ℕ) (time : ℤ) (value : DataValue) (values : Values) → IsByTime values
    → value_at t (kept_in most time value values) ≡ unless_dropped (dropped_in most time value values) t (or_before (same t time) value (value_at t values))
value_kept t most time value values h =
    by (nat_lt most (length (put_in time value values))) ∙ ap (unless_dropped (dropped_in most time value values) t) (value_put t time value values)
  where
    by : (b : Bool) → value_at t (cond b (drop 1 (put_in time value values)) (put_in time value values))
        ≡ unless_dropped (cond b (option_map time_of (slice_get (put_in time value values) 0)) None) t (value_at t (put_in time value values))
    by true = value_rest t (put_in time value values) (sorted_put time value values h)
    by false = refl

-- ---- the history of a node

history_kept : (h : HistoryState) (id : NodeId) (value : DataValue) (time : Moment) → value.source_time ≡ Some time → history_of id (kept h id value) ≡ kept_in h.most time.0 value (history_of id h)
history_kept h id value time at = ap (λ (o : Option Moment). history_of id (kept_at h id value o)) at ∙ kept_itself h id time.0 value _ refl

-- beside one more value and the one that falls out nothing changes in it
pub keeps_one_more : KeepsOneMore
keeps_one_more h id value time t sorted at =
    ap (value_at t) (history_kept h id value time at)
    ∙ value_kept t h.most time.0 value (history_of id h) sorted
    ∙ ap (λ (o : Option Moment). unless_dropped o t (or_before (same t time.0) value (value_at t (history_of id h)))) (sym (ap (λ (o : Option Moment). dropped_at h id value o) at))

-- and nothing of another node's
pub kept_apart : (h : HistoryState) (id q : NodeId) (value : DataValue) → is_at (id_cmp q) id ≡ false → is_at (id_cmp id) q ≡ false → history_of q (kept h id value) ≡ history_of q h
kept_apart h id q value apart away = by value.source_time
  where
    by : (o : Option Moment) → history_of q (kept_at h id value o) ≡ history_of q h
    by None = refl
    by (Some time) = kept_other h id q time.0 value _ refl apart away

abbrev pub AreByTime : HistoryState → Type 0
AreByTime h = (q : NodeId) → IsByTime (history_of q h)

-- the times of all histories still rise
pub all_by_time : (h : HistoryState) (id : NodeId) (value : DataValue) → AreByTime h → AreByTime (kept h id value)
all_by_time h id value all q = by (is_at (id_cmp q) id) refl (is_at (id_cmp id) q) refl
  where
    itself_by : (o : Option Moment) → value.source_time ≡ o → IsByTime (history_of id (kept h id value))
    itself_by None at = subst (λ (o : Option Moment). IsByTime (history_of id (kept_at h id value o))) (sym at) (all id)
    itself_by (Some time) at = subst IsByTime (sym (history_kept h id value time at)) (sorted_kept h.most time.0 value (history_of id h) (all id))

    by : (a : Bool) → is_at (id_cmp q) id ≡ a → (b : Bool) → is_at (id_cmp id) q ≡ b → IsByTime (history_of q (kept h id value))
    by true is b away = subst (λ (z : NodeId). IsByTime (history_of z (kept h id value))) (sym (same_id q id is)) (itself_by value.source_time refl)
    by false is true there = subst (λ (z : NodeId). IsByTime (history_of z (kept h id value))) (same_id id q there) (itself_by value.source_time refl)
    by false is false away = subst IsByTime (sym (kept_apart h id q value is away)) (all q)

-- ---- what a server begins with

none_by_time : (config : Configuration) → AreByTime (no_histories config)
unfolding IsStrictlySortedBy
none_by_time config q = tt

values_by_time : (h : HistoryState) (id : NodeId) (values : List DataValue) → AreByTime h → AreByTime (with_all h id values)
values_by_time h id [] all = all
values_by_time h id (value ∷ values) all = values_by_time (kept h id value) id values (all_by_time h id value all)

nodes_by_time : (h : HistoryState) (nodes : Nodes) → AreByTime h → AreByTime (fold with_node h nodes)
nodes_by_time h [] all = all
nodes_by_time h (e ∷ es) all = nodes_by_time (with_node h e) es (values_by_time h e.1.id e.1.history all)

pub begun_by_time : (config : Configuration) (nodes : Nodes) → AreByTime (histories_begun config nodes)
begun_by_time config nodes = nodes_by_time (no_histories config) nodes (none_by_time config)
