-- The nodes after values were written, and what is judged of values then.
use Rattle.std.proofs.Common.{◌≡◌, ℕ, Bool, true, false, cond, List, [], ◌∷◌, ◌++◌, map, Option, Some, None, IsSome, Result, Ok, Err, refl, sym, ap, subst, ◌∙◌, inl, inr, append_assoc}
use Rattle.std.proofs.lemmas.Bool.{cases_Bool, and_parts}
use Rattle.std.proofs.lemmas.List.{append-nil}
use Rattle.std.proofs.lemmas.List.Concat.{flat_map-cons}
use Rattle.std.proofs.lemmas.List.Sums.{fold-append}
use Rattle.std.specs.BTreeMap.{is_at}
use Rattle.std.specs.List.{fold, flat_map, list_all}
use Rattle.std.specs.Map.{set_value}
use Rattle.std.specs.Prelude.{option_map, not}
use Rattle.ua_types.specs.NodeIdOrder.{id_cmp, same_id}
use Rattle.ua_types.specs.contracts.node_id.NodeIdOrd.TheImpl.Laws.{matches_eq-law}
use Rattle.ua_types.specs.declared.moment.Moment.{Moment}
use Rattle.ua_types.specs.declared.node_id.NodeId.{NodeId}
use Rattle.ua_types.specs.declared.status.Status.{Status}
use Rattle.ua_types.specs.declared.status.TheConstants.Status as status
use Rattle.ua_types.proofs.SameIds.{same_id_true, same_id_itself}
use Rattle.ua_types.specs.Given.{is_given}
use Rattle.ua_types.specs.declared.data_value.DataValue.{DataValue}
use Rattle.ua_types.specs.declared.variant.Variant.{Variant}
use Rattle.ua_service_messages.specs.declared.writing.WriteValue.{WriteValue}
use Rattle.ua_space.specs.Nodes.{Nodes, node_at}
use Rattle.ua_space.specs.Values.{holding, put, with_value}
use Rattle.ua_space.specs.Variables.{VariableAttributes}
use Rattle.ua_space.specs.declared.node.Node.{Node}
use Rattle.ua_space.specs.declared.node.NodeDetails.{NodeDetails}
use Rattle.ua_space.specs.declared.node.ValueRank.{ValueRank}
use Rattle.ua_space.specs.declared.node.ValueRank.TheVariants as ranks
use Rattle.ua_space.specs.declared.node.NodeDetails.TheVariants as details
use Rattle.ua_space.proofs.Soundness.{changed_at}
use Rattle.ua_read_write.specs.IndexRanges.{asked_range}
use Rattle.ua_read_write.specs.AttributeIds.{attribute_numbered}
use Rattle.ua_read_write.specs.Attributes.{own_attribute, variable_attribute, attribute_by}
use Rattle.ua_read_write.specs.Writing.{Writing, holding_of, judged, node_judged, attribute_judged, range_judged, whole_judged, is_writable, status_of, nodes_after, changes_of, with_one, nothing_written, write_of}
use Rattle.ua_read_write.specs.WritingLaws.{later, latest, revalued, is_whole, ChangesValuesAlone, JudgesEachAlone, JudgesWholeValuesAlone}
use Rattle.ua_read_write.specs.declared.attributes.AttributeId.{AttributeId}
use Rattle.ua_read_write.specs.declared.attributes.AttributeId.TheVariants as ids
use Rattle.ua_read_write.specs.declared.writing.Change.{Change}

-- ---- other values

unrevalued : (found : Option Node) → option_map (revalued None) found ≡ found
unrevalued None = refl
unrevalued (Some node) = refl

held_again : (u v : DataValue) (d : NodeDetails) → holding v (holding u d) ≡ holding v d
held_again u v details.Object = refl
held_again u v (details.Variable a) = refl
held_again u v (details.ObjectType a) = refl
held_again u v (details.VariableType t r a) = refl
held_again u v (details.ReferenceType a s i) = refl
held_again u v (details.DataType a) = refl

-- of two new values the later one stays
revalued_again : (old : Option DataValue) (v : DataValue) (found : Option Node) → option_map (revalued (Some v)) (option_map (revalued old) found) ≡ option_map (revalued (Some v)) found
revalued_again old v None = refl
revalued_again None v (Some node) = refl
revalued_again (Some u) v (Some node) = ap (λ (d : NodeDetails). Some (record node { details = d })) (held_again u v node.details)

some_there : (o : Option Node) (x : Node) → o ≡ Some x → IsSome o
some_there None x e = absurd cc
some_there (Some y) x e = refl

at_itself : (nodes : Nodes) (k id : NodeId) (found : Option Node) → node_at k nodes ≡ found → same_id k id ≡ true → node_at id nodes ≡ found
at_itself nodes k id found at here =
    let P : NodeId → Type 0 = λ q. node_at q nodes ≡ found in
    subst P (same_id_true k id here) at

put_at : (nodes : Nodes) (k id : NodeId) (v : DataValue) (found : Option Node) → node_at k nodes ≡ found
    → node_at id (put k v nodes found) ≡ cond (same_id k id) (option_map (revalued (Some v)) (node_at id nodes)) (node_at id nodes)
put_at nodes k id v None at =
    elim (cases_Bool (same_id k id)) [
      | inl here ↦ let none = at_itself nodes k id None at here in rw (here, none) refl
      | inr apart ↦ rw apart refl
    ]
put_at nodes k id v (Some node) at =
    let new : Node = record node { details = holding v node.details } in
    let found : node_at id (set_value (is_at (id_cmp k)) nodes new) ≡ cond (same_id k id) (Some new) (node_at id nodes) =
    changed_at nodes k id new (some_there (node_at k nodes) node at) ∙ ap (λ (b : Bool). cond b (Some new) (node_at id nodes)) (sym (matches_eq-law k id)) in
    elim (cases_Bool (same_id k id)) [
      | inl here ↦ let it = at_itself nodes k id (Some node) at here in found ∙ (rw (here, it) refl)
      | inr apart ↦ found ∙ (rw apart refl)
    ]

-- a variable that was given a value has it
pub held_at : (nodes : Nodes) (id : NodeId) (v : DataValue) → node_at id (with_value id v nodes) ≡ option_map (revalued (Some v)) (node_at id nodes)
held_at nodes id v =
    let itself = same_id_itself id in
    put_at nodes id id v (node_at id nodes) refl ∙ (rw itself refl)

-- ---- the nodes afterwards

-- each node is what it was among others, but for the last of its new values
abbrev IsAfter : Nodes → Writing → Type 0
IsAfter nodes w = (id : NodeId) → node_at id w.nodes ≡ option_map (revalued (latest id w.changed)) (node_at id nodes)

one_later : (b : Bool) (v : DataValue) (old : Option DataValue) (now found : Option Node) → now ≡ option_map (revalued old) found
    → cond b (option_map (revalued (Some v)) now) now ≡ option_map (revalued (cond b (Some v) old)) found
one_later true v old now found h = ap (option_map (revalued (Some v))) h ∙ revalued_again old v found
one_later false v old now found h = h

after_verdict : (clock : Moment) (nodes : Nodes) (before : Writing) (w : WriteValue) (verdict : Result Variant Status) → IsAfter nodes before
    → (id : NodeId) → node_at id (nodes_after clock w verdict before.nodes) ≡ option_map (revalued (latest id (before.changed ++ changes_of clock w verdict))) (node_at id nodes)
after_verdict clock nodes before w (Err code) h id = rw (append-nil before.changed) (h id)
after_verdict clock nodes before w (Ok value) h id =
    let v = holding_of clock w value in
    let change : Change = record { node_id = w.node_id; value = v } in
    let last : latest id (before.changed ++ change ∷ []) ≡ later id (latest id before.changed) change = fold-append (later id) None before.changed (change ∷ []) in
    put_at before.nodes w.node_id id v (node_at w.node_id before.nodes) refl
    ∙ one_later (same_id w.node_id id) v (latest id before.changed) (node_at id before.nodes) (node_at id nodes) (h id)
    ∙ ap (λ (o : Option DataValue). option_map (revalued o) (node_at id nodes)) (sym last)

after_all : (clock : Moment) (nodes : Nodes) (before : Writing) (values : List WriteValue) → IsAfter nodes before → IsAfter nodes (fold (with_one clock) before values)
after_all clock nodes before [] h = h
after_all clock nodes before (w ∷ ws) h = after_all clock nodes (with_one clock before w) ws (after_verdict clock nodes before w (judged before.nodes w) h)

after_nothing : (nodes : Nodes) → IsAfter nodes (nothing_written nodes)
after_nothing nodes id = sym (unrevalued (node_at id nodes))

pub changes_values_alone : ChangesValuesAlone
changes_values_alone clock nodes values = after_all clock nodes (nothing_written nodes) values (after_nothing nodes)

-- ---- what is judged then

asked_none : (text : Option (List ℕ)) → is_given text ≡ false → asked_range text ≡ Ok None
asked_none None whole = refl
asked_none (Some []) whole = refl
asked_none (Some (b ∷ bs)) whole = absurd cc

-- where no range is given, no value is judged by the one that stands
module _ (w : WriteValue) (u : DataValue) (whole : is_given w.index_range ≡ false) where
  same_whole : (rank : ValueRank) (a : VariableAttributes) (value : Variant) → whole_judged rank (record a { value = u }) value ≡ whole_judged rank a value
  same_whole ranks.Scalar a value = refl
  same_whole ranks.List a value = refl

  same_content : (a : VariableAttributes) (value : Option Variant) → range_judged (record a { value = u }) value (Ok None) ≡ range_judged a value (Ok None)
  same_content a None = refl
  same_content a (Some value) = ap (λ (r : Result Variant Status). cond (not (is_writable a)) (Err status.BAD_NOT_WRITABLE) r) (same_whole a.value_rank a value)

  same_value : (a : VariableAttributes) → range_judged (record a { value = u }) w.value.value (asked_range w.index_range) ≡ range_judged a w.value.value (asked_range w.index_range)
  same_value a = let none = asked_none w.index_range whole in rw none (same_content a w.value.value)

  same_variable : (a : VariableAttributes) (id : AttributeId)
      → attribute_judged w (variable_attribute (record a { value = u }) id) ≡ attribute_judged w (variable_attribute a id)
  same_variable a ids.NodeId = refl
  same_variable a ids.NodeClass = refl
  same_variable a ids.BrowseName = refl
  same_variable a ids.DisplayName = refl
  same_variable a ids.Description = refl
  same_variable a ids.WriteMask = refl
  same_variable a ids.UserWriteMask = refl
  same_variable a ids.IsAbstract = refl
  same_variable a ids.Symmetric = refl
  same_variable a ids.InverseName = refl
  same_variable a ids.EventNotifier = refl
  same_variable a ids.Value = same_value a
  same_variable a ids.DataType = refl
  same_variable a ids.ValueRank = refl
  same_variable a ids.AccessLevel = refl
  same_variable a ids.UserAccessLevel = refl
  same_variable a ids.Historizing = refl

  same_own : (d : NodeDetails) (id : AttributeId) → attribute_judged w (own_attribute (holding u d) id) ≡ attribute_judged w (own_attribute d id)
  same_own details.Object id = refl
  same_own (details.Variable a) id = same_variable a id
  same_own (details.ObjectType a) id = refl
  same_own (details.VariableType t r a) id = refl
  same_own (details.ReferenceType a s i) id = refl
  same_own (details.DataType a) id = refl

  same_attribute : (node : Node) (id : Option AttributeId)
      → attribute_judged w (attribute_by (revalued (Some u) node) id) ≡ attribute_judged w (attribute_by node id)
  same_attribute node None = refl
  same_attribute node (Some ids.NodeId) = refl
  same_attribute node (Some ids.NodeClass) = refl
  same_attribute node (Some ids.BrowseName) = refl
  same_attribute node (Some ids.DisplayName) = refl
  same_attribute node (Some ids.Description) = refl
  same_attribute node (Some ids.WriteMask) = refl
  same_attribute node (Some ids.UserWriteMask) = refl
  same_attribute node (Some ids.IsAbstract) = same_own node.details ids.IsAbstract
  same_attribute node (Some ids.Symmetric) = same_own node.details ids.Symmetric
  same_attribute node (Some ids.InverseName) = same_own node.details ids.InverseName
  same_attribute node (Some ids.EventNotifier) = same_own node.details ids.EventNotifier
  same_attribute node (Some ids.Value) = same_own node.details ids.Value
  same_attribute node (Some ids.DataType) = same_own node.details ids.DataType
  same_attribute node (Some ids.ValueRank) = same_own node.details ids.ValueRank
  same_attribute node (Some ids.AccessLevel) = same_own node.details ids.AccessLevel
  same_attribute node (Some ids.UserAccessLevel) = same_own node.details ids.UserAccessLevel
  same_attribute node (Some ids.Historizing) = same_own node.details ids.Historizing

same_node : (w : WriteValue) (new : Option DataValue) (found : Option Node) → is_given w.index_range ≡ false → node_judged w (option_map (revalued new) found) ≡ node_judged w found
same_node w new None whole = refl
same_node w None (Some node) whole = refl
same_node w (Some u) (Some node) whole = same_attribute w u whole node (attribute_numbered w.attribute_id)

same_verdict : (nodes : Nodes) (before : Writing) (w : WriteValue) → IsAfter nodes before → is_given w.index_range ≡ false → judged before.nodes w ≡ judged nodes w
unfolding judged
same_verdict nodes before w h whole =
    ap (node_judged w) (h w.node_id) ∙ same_node w (latest w.node_id before.changed) (node_at w.node_id nodes) whole

whole_given : (w : WriteValue) → is_whole w ≡ true → is_given w.index_range ≡ false
whole_given w whole = by (is_given w.index_range) whole
  where
    by : (b : Bool) → not b ≡ true → b ≡ false
    by true h = absurd cc
    by false h = refl

pub judges_whole_values_alone : JudgesWholeValuesAlone
judges_whole_values_alone clock nodes before w whole =
    same_verdict nodes (write_of clock nodes before) w (after_all clock nodes (nothing_written nodes) before (after_nothing nodes)) (whole_given w whole)

-- what values add to what was written before them
record AddsEach (clock : Moment) (nodes : Nodes) (before after : Writing) (values : List WriteValue) : Type 0 where
  statuses : after.statuses ≡ before.statuses ++ map (λ w. status_of (judged nodes w)) values
  changed : after.changed ≡ before.changed ++ flat_map (λ w. changes_of clock w (judged nodes w)) values

adds_each : (clock : Moment) (nodes : Nodes) (before : Writing) (values : List WriteValue) → IsAfter nodes before → list_all is_whole values ≡ true → AddsEach clock nodes before (fold (with_one clock) before values) values
adds_each clock nodes before [] h all = record { statuses = sym (append-nil before.statuses); changed = sym (append-nil before.changed) }
adds_each clock nodes before (w ∷ ws) h all =
    let parts = and_parts (is_whole w) (list_all is_whole ws) all in
    let verdict = judged nodes w in
    let same : judged before.nodes w ≡ verdict = same_verdict nodes before w h (whole_given w parts.0) in
    let rest = adds_each clock nodes (with_one clock before w) ws (after_verdict clock nodes before w (judged before.nodes w) h) parts.1 in
    let others = map (λ w. status_of (judged nodes w)) ws in
    let changes : WriteValue → List Change = λ w. changes_of clock w (judged nodes w) in
    record {
      statuses =
          rest.statuses
          ∙ ap (λ (r : Result Variant Status). (before.statuses ++ status_of r ∷ []) ++ others) same
          ∙ append_assoc before.statuses (status_of verdict ∷ []) others;
      changed =
          rest.changed
          ∙ ap (λ (r : Result Variant Status). (before.changed ++ changes_of clock w r) ++ flat_map changes ws) same
          ∙ append_assoc before.changed (changes w) (flat_map changes ws)
          ∙ ap (λ (cs : List Change). before.changed ++ cs) (sym (flat_map-cons changes w ws));
    }

pub judges_each_alone : JudgesEachAlone
judges_each_alone clock nodes values all =
    let each = adds_each clock nodes (nothing_written nodes) values (after_nothing nodes) all in
    (each.statuses, each.changed)
