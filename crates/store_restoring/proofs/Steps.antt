-- A space into which one more value is put.
use Rattle.std.proofs.Common.{◌≡◌, ℕ, ℤ, Bool, true, false, List, [], ◌∷◌, Option, Some, None, option_map, slice_get, if◌then◌else◌, refl, sym, ◌∙◌, ap, subst, inl, inr, arith, ◌++◌, append_assoc, append-nil, zero, suc, ◌<◌, length}
use Rattle.std.proofs.lemmas.Bool.{cases_Bool}
use Rattle.std.proofs.lemmas.Map.Entries.{length-keys_of}
use Rattle.std.specs.BTreeMap.{is_at}
use Rattle.std.specs.Option.{option_or}
use Rattle.ua_types.specs.NodeIdOrder.{id_cmp}
use Rattle.ua_types.specs.declared.moment.Moment.{Moment}
use Rattle.ua_types.specs.declared.node_id.NodeId.{NodeId}
use Rattle.ua_types.specs.declared.data_value.DataValue.{DataValue}
use Rattle.ua_space.specs.Histories.{history_in, rises, with_history_in}
use Rattle.ua_space.specs.NodePlaces.{place_of}
use Rattle.ua_space.specs.Nodes.{Nodes, node_at}
use Rattle.ua_space.specs.Values.{holding, variable_in, with_value}
use Rattle.ua_space.specs.Variables.{VariableAttributes}
use Rattle.ua_space.specs.declared.node.Node.{Node}
use Rattle.ua_space.specs.declared.node.NodeDetails.{NodeDetails}
use Rattle.ua_space.specs.declared.node.NodeDetails.TheVariants.{Variable}
use Rattle.std.specs.Map.{keys_of, values_of}
use Rattle.server_messages.specs.Kept.{Kept, Past, is_at_time, put_at, read_back}
use Rattle.server_messages.specs.declared.kept_values.KeptValue.{KeptValue}
use Rattle.store_restoring.specs.Fitting.{fitting, misfit, node_misfit, variable_misfit}
use Rattle.store_restoring.specs.Opened.{IsOpenedAt, IsWithin, OpenedState, closed}
use Rattle.store_restoring.specs.Restored.{AreRestored, IsRestored, TakesPast, TakesValue, past_of, with_kept}
use Rattle.store_restoring.specs.declared.left_out.Misfit.{Misfit}
use Rattle.store_restoring.proofs.ByTime.{put_same}
use Rattle.store_restoring.proofs.Ids.{elsewhere, history_there, itself, place_stays, put_twice, same_ids, there, valued_elsewhere, valued_there, with_past}

-- ---- at the beginning

restored_itself : (id : NodeId) (o : Option Node) → IsRestored (read_back [] []) id o o
restored_itself id None = refl
restored_itself id (Some node) = record { node = refl; history = λ t. refl; rising = λ r. r; unkept = λ n. refl }

pub begins : (nodes : Nodes) → AreRestored (read_back [] []) nodes nodes
begins nodes id = restored_itself id (node_at id nodes)

-- ---- what fits still fits

held_fits : (h : Bool) (value w : DataValue) (d : NodeDetails) → variable_misfit h value (variable_in (holding w d)) ≡ variable_misfit h value (variable_in d)
held_fits h value w (Variable v) = refl
held_fits h value w d = refl

kept_fits : (h : Bool) (value : DataValue) (w : Option DataValue) (d : NodeDetails) → variable_misfit h value (variable_in (with_kept w d)) ≡ variable_misfit h value (variable_in d)
kept_fits h value None d = refl
kept_fits h value (Some w) d = held_fits h value w d

still_fits : (h : Bool) (value : DataValue) (kept : Kept) (id : NodeId) (old now : Option Node) → IsRestored kept id old now → node_misfit h value now ≡ node_misfit h value old
still_fits h value kept id None now r = ap (node_misfit h value) r
still_fits h value kept id (Some old) None r = absurd r
still_fits h value kept id (Some old) (Some now) r =
    ap (λ (n : Node). variable_misfit h value (variable_in n.details)) r.node ∙ kept_fits h value (kept.values id) old.details

-- ---- another value, and no other value

carried : (kept more : Kept) (id : NodeId) (old now : Option Node) → more.values id ≡ kept.values id → ((t : ℤ) → more.histories id t ≡ kept.histories id t)
    → IsRestored kept id old now → IsRestored more id old now
carried kept more id None now values histories r = r
carried kept more id (Some old) None values histories r = absurd r
carried kept more id (Some old) (Some now) values histories r = record {
  node = r.node ∙ ap (λ (w : Option DataValue). record old { details = with_kept w old.details; history = now.history }) (sym values);
  history = λ t. r.history t ∙ ap (λ (w : Option DataValue). option_or w (past_of old.history t)) (sym (histories t));
  rising = r.rising;
  unkept = λ none. r.unkept (λ t. sym (histories t) ∙ none t);
}

held_twice : (v w : DataValue) (d : NodeDetails) → holding v (holding w d) ≡ holding v d
held_twice v w (Variable a) = refl
held_twice v w d = refl

held_over : (v : DataValue) (w : Option DataValue) (d : NodeDetails) → holding v (with_kept w d) ≡ holding v d
held_over v None d = refl
held_over v (Some w) d = held_twice v w d

valued : (kept more : Kept) (id : NodeId) (old : Option Node) (now : Node) (v : DataValue) → more.values id ≡ Some v → ((t : ℤ) → more.histories id t ≡ kept.histories id t)
    → IsRestored kept id old (Some now) → IsRestored more id old (Some (record now { details = holding v now.details }))
valued kept more id None now v values histories r = absurd cc
valued kept more id (Some old) now v values histories r = record {
  node =
      ap (λ (n : Node). record n { details = holding v n.details; history = now.history }) r.node
      ∙ ap (λ (d : NodeDetails). record old { details = d; history = now.history }) (held_over v (kept.values id) old.details)
      ∙ ap (λ (w : Option DataValue). record old { details = with_kept w old.details; history = now.history }) (sym values);
  history = λ t. r.history t ∙ ap (λ (w : Option DataValue). option_or w (past_of old.history t)) (sym (histories t));
  rising = r.rising;
  unkept = λ none. r.unkept (λ t. sym (histories t) ∙ none t);
}

-- where a value fits, there is a node
node_there : (h : Bool) (value : DataValue) (o : Option Node) → node_misfit h value o ≡ None → (node : Node) × (o ≡ Some node)
node_there h value None fits = absurd cc
node_there h value (Some node) fits = (node, refl)

-- what is put in fits, and what is left out doesn't
fitting_more : (h : Bool) (old : Nodes) (k : KeptValue) (ks : List KeptValue) → misfit h old k ≡ None → fitting h old (k ∷ ks) ≡ k ∷ fitting h old ks
fitting_more h old k ks fits = rw fits refl

fitting_less : (h : Bool) (old : Nodes) (k : KeptValue) (ks : List KeptValue) (why : Misfit) → misfit h old k ≡ Some why → fitting h old (k ∷ ks) ≡ fitting h old ks
fitting_less h old k ks why fits = rw fits refl

pub value_left : (k : KeptValue) (before : Nodes) (why : Misfit) → misfit false before k ≡ Some why → TakesValue k before before
value_left k before why fits old ks r =
    let same = still_fits false k.value _ k.node_id (node_at k.node_id old) (node_at k.node_id before) (r k.node_id) in
    rw (fitting_less false old k ks why (sym same ∙ fits)) r

pub past_left : (k : KeptValue) (before : Nodes) (why : Misfit) → misfit true before k ≡ Some why → TakesPast k before before
past_left k before why fits old values ks r =
    let same = still_fits true k.value _ k.node_id (node_at k.node_id old) (node_at k.node_id before) (r k.node_id) in
    rw (fitting_less true old k ks why (sym same ∙ fits)) r

pub value_put : (k : KeptValue) (before : Nodes) → misfit false before k ≡ None → TakesValue k before (with_value k.node_id k.value before)
value_put k before fits old ks r =
    let same = still_fits false k.value _ k.node_id (node_at k.node_id old) (node_at k.node_id before) (r k.node_id) in
    rw (fitting_more false old k ks (sym same ∙ fits)) (λ id. elim (cases_Bool (is_at (id_cmp k.node_id) id)) [
      | inl here ↦ at_it id (same_ids k.node_id id here) here
      | inr apart ↦
          let P : Option Node → Type 0 = λ n. IsRestored more id (node_at id old) n in
          subst P (sym (valued_elsewhere k.node_id id k.value before apart)) (carried kept more id (node_at id old) (node_at id before) (rw apart refl) (λ t. refl) (r id))
    ])
  where
    kept : Kept
    kept = read_back (fitting false old ks) []

    more : Kept
    more = read_back (k ∷ fitting false old ks) []

    at_it : (id : NodeId) → k.node_id ≡ id → is_at (id_cmp k.node_id) id ≡ true → IsRestored more id (node_at id old) (node_at id (with_value k.node_id k.value before))
    at_it id is here =
        let found = node_there false k.value (node_at k.node_id before) fits in
        let P : Option Node → Type 0 = λ n. IsRestored kept k.node_id (node_at k.node_id old) n in
        let Q : Option Node → Type 0 = λ n. IsRestored more k.node_id (node_at k.node_id old) n in
        let R : NodeId → Type 0 = λ i. IsRestored more i (node_at i old) (node_at i (with_value k.node_id k.value before)) in
        subst R is (subst Q (sym (valued_there k.node_id k.value before found.0 found.1))
        (valued kept more k.node_id (node_at k.node_id old) found.0 k.value (rw (itself k.node_id) refl) (λ t. refl) (subst P found.1 (r k.node_id))))

-- ---- another history

put_is : (time : Option Moment) (v : DataValue) (past : Past) (t : ℤ) → put_at time v past t ≡ (if is_at_time t time then Some v else past t)
put_is None v past t = refl
put_is (Some moment) v past t = refl

-- what has a time is there at that time
at_own : (moment : Moment) → is_at_time moment.0 (Some moment) ≡ true
at_own moment = grind arith

merged : (kept more : Kept) (id : NodeId) (old : Option Node) (now : Node) (v : DataValue) (moment : Moment) (H : List DataValue)
    → more.values id ≡ kept.values id → ((t : ℤ) → more.histories id t ≡ (if is_at_time t v.source_time then Some v else kept.histories id t))
    → v.source_time ≡ Some moment → rises H ≡ true → ((t : ℤ) → past_of H t ≡ put_at v.source_time v (past_of now.history) t)
    → IsRestored kept id old (Some now) → IsRestored more id old (Some (with_past H now))
merged kept more id None now v moment H values histories timed rising past r = absurd cc
merged kept more id (Some old) now v moment H values histories timed rising past r = record {
  node =
      ap (with_past H) r.node
      ∙ ap (λ (w : Option DataValue). record old { details = with_kept w old.details; history = H }) (sym values);
  history = λ t. past t ∙ put_is v.source_time v (past_of now.history) t ∙ by t (is_at_time t v.source_time) refl;
  rising = λ before. rising;
  unkept = λ none. absurd (never (sym (histories moment.0) ∙ none moment.0));
}
  where
    by : (t : ℤ) (b : Bool) → b ≡ is_at_time t v.source_time → (if is_at_time t v.source_time then Some v else past_of now.history t) ≡ option_or (more.histories id t) (past_of old.history t)
    by t true is = rw (histories t, ← is) refl
    by t false is = rw (histories t, ← is) (r.history t)

    never : (if is_at_time moment.0 v.source_time then Some v else kept.histories id moment.0) ≡ None → ⊥
    never none =
        let P : Option Moment → Type 0 = λ x. (if is_at_time moment.0 x then Some v else kept.histories id moment.0) ≡ None in
        let Q : Bool → Type 0 = λ b. (if b then Some v else kept.histories id moment.0) ≡ None in
        let some : Some v ≡ None = subst Q (at_own moment) (subst P timed none) in cc

timed_fits : (value : DataValue) (v : Option VariableAttributes) → variable_misfit true value v ≡ None → (moment : Moment) × (value.source_time ≡ Some moment)
timed_fits value None fits = absurd cc
timed_fits value (Some v) fits = by value.source_time refl
  where
    by : (time : Option Moment) → time ≡ value.source_time → (moment : Moment) × (value.source_time ≡ Some moment)
    by (Some moment) is = (moment, sym is)
    by None is = absurd (late v.historizing refl)
      where
        late : (b : Bool) → b ≡ v.historizing → ⊥
        late true h = let w : Some _ ≡ None = rw (← h, ← is) at fits in cc
        late false h = let w : Some _ ≡ None = rw (← h) at fits in cc

pub past_put : (k : KeptValue) (before after : Nodes) (place : ℕ) (H : List DataValue) → misfit true before k ≡ None → place_of k.node_id before ≡ Some place → after ≡ with_history_in place H before
    → rises H ≡ true → ((t : ℤ) → past_of H t ≡ put_at k.value.source_time k.value (past_of (history_in (slice_get before place))) t) → TakesPast k before after
past_put k before after place H fits is put rising past old values ks r =
    let same = still_fits true k.value _ k.node_id (node_at k.node_id old) (node_at k.node_id before) (r k.node_id) in
    rw (fitting_more true old k ks (sym same ∙ fits), put) (λ id. elim (cases_Bool (is_at (id_cmp k.node_id) id)) [
      | inl here ↦ let R : NodeId → Type 0 = λ i. IsRestored more i (node_at i old) (node_at i (with_history_in place H before)) in subst R (same_ids k.node_id id here) at_it
      | inr apart ↦
          let P : Option Node → Type 0 = λ n. IsRestored more id (node_at id old) n in
          subst P (sym (elsewhere H k.node_id id before place is apart)) (carried kept more id (node_at id old) (node_at id before) refl (λ t. rw apart refl) (r id))
    ])
  where
    kept : Kept
    kept = read_back values (fitting true old ks)

    more : Kept
    more = read_back values (k ∷ fitting true old ks)

    at_it : IsRestored more k.node_id (node_at k.node_id old) (node_at k.node_id (with_history_in place H before))
    at_it =
        let found = node_there true k.value (node_at k.node_id before) fits in
        let fits_it : variable_misfit true k.value (variable_in found.0.details) ≡ None = rw found.1 at fits in
        let timed = timed_fits k.value (variable_in found.0.details) fits_it in
        let own = history_there k.node_id before place found.0 is found.1 in
        let P : Option Node → Type 0 = λ n. IsRestored kept k.node_id (node_at k.node_id old) n in
        let Q : Option Node → Type 0 = λ n. IsRestored more k.node_id (node_at k.node_id old) n in
        let now = there H k.node_id before place is ∙ ap (option_map (with_past H)) found.1 in
        subst Q (sym now)
        (merged kept more k.node_id (node_at k.node_id old) found.0 k.value timed.0 H refl (λ t. rw (itself k.node_id) refl) timed.1 rising (λ t. rw own at (past t)) (subst P found.1 (r k.node_id)))

-- ---- values that are put in from the last one on

-- some of them are put in, and these are left
abbrev pub Halfway : List KeptValue → List KeptValue → (List KeptValue → Type 0) → Type 0
Halfway all rest P = (done : List KeptValue) × (all ≡ rest ++ done) × P done

pub none_yet : (all : List KeptValue) (P : List KeptValue → Type 0) → P [] → Halfway all all P
none_yet all P first = ([], sym (append-nil all), first)

pub one_more : (all rest less : List KeptValue) (k : KeptValue) (P Q : List KeptValue → Type 0) → rest ≡ less ++ k ∷ [] → ((done : List KeptValue) → P done → Q (k ∷ done))
    → Halfway all rest P → Halfway all less Q
one_more all rest less k P Q is step h = (k ∷ h.0, h.1 ∙ ap (λ (r : List KeptValue). r ++ h.0) is ∙ append_assoc less (k ∷ []) h.0, step h.0 h.2)

pub all_done : (all rest : List KeptValue) (P : List KeptValue → Type 0) → length rest ≡ 0 → Halfway all rest P → P all
all_done all [] P none h = subst P (sym h.1) h.2
all_done all (k ∷ ks) P none h = absurd (omega arith)

-- ---- a history that is open

past_fits : (h : Bool) (value : DataValue) (values : List DataValue) (id : NodeId) (es : Nodes) (place : ℕ) → node_misfit h value (node_at id (with_history_in place values es)) ≡ node_misfit h value (node_at id es)
past_fits h value values id [] place = refl
past_fits h value values id (e ∷ es) zero =
    elim (cases_Bool (is_at (id_cmp id) e.0)) [ inl here ↦ rw here refl | inr apart ↦ rw apart refl ]
past_fits h value values id (e ∷ es) (suc place) =
    let rest = past_fits h value values id es place in
    elim (cases_Bool (is_at (id_cmp id) e.0)) [ inl here ↦ rw here refl | inr apart ↦ rw apart rest ]

-- what fits once it is closed fits now
pub closed_fits : (h : Bool) (k : KeptValue) (nodes : Nodes) (o : Option OpenedState) → misfit h (closed nodes o) k ≡ misfit h nodes k
closed_fits h k nodes None = refl
closed_fits h k nodes (Some o) = past_fits h k.value (values_of o.values) k.node_id nodes o.place

pub closed_place : (id : NodeId) (nodes : Nodes) (o : Option OpenedState) → place_of id (closed nodes o) ≡ place_of id nodes
closed_place id nodes None = refl
closed_place id nodes (Some o) = place_stays (values_of o.values) id nodes o.place

pub place_within : (id : NodeId) (es : Nodes) (place : ℕ) → place_of id es ≡ Some place → place < length es
place_within id [] place is = absurd cc
place_within id (e ∷ es) place is = by (is_at (id_cmp id) e.0) is (λ q. place_within id es q)
  where
    later : (found : Option ℕ) (p : ℕ) → ((q : ℕ) → found ≡ Some q → q < length es) → option_map suc found ≡ Some p → p < suc (length es)
    later None p within is = absurd cc
    later (Some q) p within is = let lt = within q refl in let same : suc q ≡ p = cc in omega arith

    by : (b : Bool) → (if b then Some zero else option_map suc (place_of id es)) ≡ Some place → ((q : ℕ) → place_of id es ≡ Some q → q < length es) → place < suc (length es)
    by true is rest = let same : zero ≡ place = cc in omega arith
    by false is rest = later (place_of id es) place rest is

taken_back : (values : List DataValue) (es : Nodes) (place : ℕ) → place < length es → history_in (slice_get (with_history_in place values es) place) ≡ values
taken_back values [] place lt = absurd (omega arith)
taken_back values (e ∷ es) zero lt = refl
taken_back values (e ∷ es) (suc place) lt = taken_back values es place (omega arith)

-- the one that is open is open
pub reopened : (nodes : Nodes) (o : OpenedState) (place : ℕ) → o.place ≡ place → place < length nodes → IsOpenedAt place (closed nodes (Some o)) nodes o
reopened nodes o place same lt =
    let P : ℕ → Type 0 = λ p. IsOpenedAt p (with_history_in o.place (values_of o.values) nodes) nodes o in
    let within : o.place < length nodes = omega arith in
    subst P same (record {
      place = refl;
      past = λ t. ap (λ (vs : List DataValue). past_of vs t) (sym (taken_back (values_of o.values) nodes o.place within));
      nodes = λ values. sym (put_twice values (values_of o.values) nodes o.place);
    })

-- a value that is put into the history that is open is put into the space
pub opened_put : (k : KeptValue) (before after : Nodes) (place : ℕ) (o now : OpenedState) → misfit true before k ≡ None → place_of k.node_id before ≡ Some place → IsOpenedAt place before after o
    → now.place ≡ o.place → rises (values_of now.values) ≡ true → ((t : ℤ) → past_of (values_of now.values) t ≡ put_at k.value.source_time k.value (past_of (values_of o.values)) t)
    → TakesPast k before (closed after (Some now))
opened_put k before after place o now fits is opened same rising past =
    let at : now.place ≡ place = same ∙ opened.place in
    past_put k before (closed after (Some now)) place (values_of now.values) fits is (ap (λ (p : ℕ). with_history_in p (values_of now.values) after) at ∙ opened.nodes (values_of now.values)) rising
    (λ t. past t ∙ put_same k.value.source_time k.value (past_of (values_of o.values)) (past_of (history_in (slice_get before place))) t (opened.past t))

pub within_same : (before after : Nodes) (o : Option OpenedState) → keys_of after ≡ keys_of before → IsWithin (length before) o → IsWithin (length after) o
within_same before after o same within =
    let count : length before ≡ length after = sym (length-keys_of before) ∙ ap length (sym same) ∙ length-keys_of after in
    subst (λ (n : ℕ). IsWithin n o) count within
