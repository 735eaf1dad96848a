-- Values that are written, shown and kept one by one, and what all of them come to.
use Rattle.std.proofs.Common.{◌≡◌, Bool, true, false, cond, List, [], ◌∷◌, ◌++◌, map, Option, Some, None, Result, Ok, Err, refl, sym, ap, ◌∙◌}
use Rattle.std.proofs.lemmas.List.{append-nil}
use Rattle.std.proofs.lemmas.List.Sums.{fold-append}
use Rattle.std.specs.BTreeMap.{is_at}
use Rattle.std.specs.List.{list_any}
use Rattle.std.specs.Map.{lookup, set_value}
use Rattle.ua_types.specs.NodeIdOrder.{id_cmp}
use Rattle.ua_types.specs.declared.moment.Moment.{Moment}
use Rattle.ua_types.specs.declared.node_id.NodeId.{NodeId}
use Rattle.ua_types.specs.declared.status.Status.{Status}
use Rattle.ua_types.specs.declared.data_value.DataValue.{DataValue}
use Rattle.ua_types.specs.declared.variant.Variant.{Variant}
use Rattle.ua_service_messages.specs.declared.writing.WriteValue.{WriteValue}
use Rattle.ua_space.specs.Nodes.{Nodes, node_at}
use Rattle.ua_space.specs.Values.{variable_of, variable_in, variable_at, holding, put, with_value}
use Rattle.ua_space.specs.declared.node.Node.{Node}
use Rattle.ua_space.specs.declared.node.NodeDetails.{NodeDetails}
use Rattle.ua_space.specs.declared.node.NodeDetails.TheVariants as details
use Rattle.ua_history.specs.Histories.{HistoryState, kept}
use Rattle.ua_monitored_items.specs.ItemTables.{NumberedItems}
use Rattle.ua_monitored_items.specs.Items.{ItemsState}
use Rattle.ua_monitored_items.specs.Releases.{shown_one}
use Rattle.ua_read_write.specs.Writing.{Writing, holding_of, judged, accepted_of, status_of, nodes_after, changes_of, with_one, nothing_written, write_of}
use Rattle.ua_read_write.specs.declared.writing.Change.{Change}
use Rattle.server_messages.specs.declared.fired.Fired.{Fired}
use Rattle.server_messages.specs.declared.reply.Reply.{Reply}
use Rattle.server_messages.specs.declared.stored.Stored.{Stored}
use Rattle.ua_services.specs.ServicesState.{Services}
use Rattle.ua_services.specs.Serving.{Given, given, given_of, rows_of, stored_of, is_spent}
use Rattle.ua_services.specs.Serving.Occurrence.{Store}
use Rattle.ua_services.specs.Write.{is_historizing, with_change, all_kept, stored_by, stored_change, stored_changes, for_store, stored_written, stored_judged, sampled, with_written, with_accepted, with_judged}

-- ---- a value makes no variable historizing, and none that was so another

same_details : (v : DataValue) (d : NodeDetails) → is_historizing (variable_in (holding v d)) ≡ is_historizing (variable_in d)
same_details v details.Object = refl
same_details v (details.Variable a) = refl
same_details v (details.ObjectType a) = refl
same_details v (details.VariableType t r a) = refl
same_details v (details.ReferenceType a s i) = refl
same_details v (details.DataType a) = refl

same_set : (test q : NodeId → Bool) (old new : Node) → is_historizing (variable_in new.details) ≡ is_historizing (variable_in old.details) → (es : Nodes) → lookup test es ≡ Some old
    → is_historizing (variable_of (lookup q (set_value test es new))) ≡ is_historizing (variable_of (lookup q es))
same_set test q old new same [] found = refl
same_set test q old new same (e ∷ es) found = by (test e.0) found (same_set test q old new same es)
  where
    here : (b : Bool) → e.1 ≡ old → is_historizing (variable_of (cond b (Some new) (lookup q es))) ≡ is_historizing (variable_of (cond b (Some e.1) (lookup q es)))
    here true is = same ∙ sym (ap (λ (n : Node). is_historizing (variable_in n.details)) is)
    here false is = refl

    behind : (b : Bool) → is_historizing (variable_of (lookup q (set_value test es new))) ≡ is_historizing (variable_of (lookup q es))
        → is_historizing (variable_of (cond b (Some e.1) (lookup q (set_value test es new)))) ≡ is_historizing (variable_of (cond b (Some e.1) (lookup q es)))
    behind true rest = refl
    behind false rest = rest

    by : (b : Bool) → cond b (Some e.1) (lookup test es) ≡ Some old
        → (lookup test es ≡ Some old → is_historizing (variable_of (lookup q (set_value test es new))) ≡ is_historizing (variable_of (lookup q es)))
        → is_historizing (variable_of (lookup q (cond b ((e.0, new) ∷ es) (e ∷ set_value test es new)))) ≡ is_historizing (variable_of (lookup q (e ∷ es)))
    by true f rest = let is : e.1 ≡ old = cc in here (q e.0) is
    by false f rest = behind (q e.0) (rest f)

same_put : (id q : NodeId) (v : DataValue) (nodes : Nodes) (found : Option Node) → node_at id nodes ≡ found
    → is_historizing (variable_at q (put id v nodes found)) ≡ is_historizing (variable_at q nodes)
same_put id q v nodes None at = refl
same_put id q v nodes (Some node) at = same_set (is_at (id_cmp id)) (is_at (id_cmp q)) node (record node { details = holding v node.details }) (same_details v node.details) nodes at

same_historizing : (id q : NodeId) (v : DataValue) (nodes : Nodes) → is_historizing (variable_at q (with_value id v nodes)) ≡ is_historizing (variable_at q nodes)
same_historizing id q v nodes = same_put id q v nodes (node_at id nodes) refl

same_kept : (a b : Nodes) → ((q : NodeId) → is_historizing (variable_at q a) ≡ is_historizing (variable_at q b)) → (h : HistoryState) (changes : List Change) → all_kept a h changes ≡ all_kept b h changes
same_kept a b same h [] = refl
same_kept a b same h (c ∷ cs) =
    let one : with_change a h c ≡ with_change b h c = ap (λ (is : Bool). cond is (kept h c.node_id c.value) h) (same c.node_id) in
    ap (λ (g : HistoryState). all_kept a g cs) one ∙ same_kept a b same (with_change b h c) cs

-- ---- what a store has to keep

same_stored : (a b : Nodes) → ((q : NodeId) → is_historizing (variable_at q a) ≡ is_historizing (variable_at q b)) → (h : HistoryState) (changes : List Change) → stored_changes a h changes ≡ stored_changes b h changes
same_stored a b same h [] = refl
same_stored a b same h (c ∷ cs) =
    let one : with_change a h c ≡ with_change b h c = ap (λ (is : Bool). cond is (kept h c.node_id c.value) h) (same c.node_id) in
    ap (λ (is : Bool). stored_by h c is ∷ stored_changes a (with_change a h c) cs) (same c.node_id)
    ∙ ap (λ (g : HistoryState). stored_change b h c ∷ stored_changes a g cs) one
    ∙ ap (λ (ss : List Stored). stored_change b h c ∷ ss) (same_stored a b same (with_change b h c) cs)

stored_append : (nodes : Nodes) (h : HistoryState) (changes : List Change) (c : Change) → stored_changes nodes h (changes ++ c ∷ []) ≡ stored_changes nodes h changes ++ stored_change nodes (all_kept nodes h changes) c ∷ []
stored_append nodes h [] c = refl
stored_append nodes h (change ∷ changes) c = ap (λ (ss : List Stored). stored_change nodes h change ∷ ss) (stored_append nodes (with_change nodes h change) changes c)

both_for_store : (has_store : Bool) (xs ys : List Stored) → for_store has_store xs ++ for_store has_store ys ≡ for_store has_store (xs ++ ys)
both_for_store true xs ys = refl
both_for_store false xs ys = refl

pub none_for_store : (has_store : Bool) → for_store has_store [] ≡ []
none_for_store true = refl
none_for_store false = refl

rows_of_stores : (ss : List Stored) → rows_of (map Store ss) ≡ []
rows_of_stores [] = refl
rows_of_stores (stored ∷ ss) = rows_of_stores ss

pub stored_of_stores : (ss : List Stored) → stored_of (map Store ss) ≡ ss
stored_of_stores [] = refl
stored_of_stores (stored ∷ ss) = ap (λ (rest : List Stored). stored ∷ rest) (stored_of_stores ss)

stores_spend_none : (ss : List Stored) → list_any is_spent (map Store ss) ≡ false
stores_spend_none [] = refl
stores_spend_none (stored ∷ ss) = stores_spend_none ss

-- one reply, and what a store has to keep
pub stores_given : (state : Services) (reply : Reply) (ss : List Stored) → given state (record { replies = reply ∷ []; rows = []; stored = ss })
    ≡ given_of (record { state = state; replies = reply ∷ []; occurrences = map Store ss; is_refused = false })
stores_given state reply ss =
    ap (λ (rows : List Fired). given state (record { replies = reply ∷ []; rows = rows; stored = ss })) (sym (rows_of_stores ss))
    ∙ ap (λ (stored : List Stored). given state (record { replies = reply ∷ []; rows = rows_of (map Store ss); stored = stored })) (sym (stored_of_stores ss))
    ∙ ap (λ (spends : Bool). let g : Given = record { state = state; served = record { replies = reply ∷ []; rows = rows_of (map Store ss); stored = stored_of (map Store ss) }; spends = spends } in g) (sym (stores_spend_none ss))

-- ---- the items see one value after the other

sampled_more : (items : ItemsState) (changes : List Change) (c : Change) → sampled items (changes ++ c ∷ []) ≡ sampled (sampled items changes) (c ∷ [])
sampled_more items changes c = ap (λ (es : NumberedItems). record items { items = es }) (fold-append shown_one items.items changes (c ∷ []))

-- ---- one more value

module _ (clock : Moment) (state : Services) (before : Writing) (w : WriteValue) where
  kept_more : (nodes : Nodes) (c : Change) → ((q : NodeId) → is_historizing (variable_at q nodes) ≡ is_historizing (variable_at q before.nodes))
      → with_change before.nodes (all_kept before.nodes state.history before.changed) c ≡ all_kept nodes state.history (before.changed ++ c ∷ [])
  kept_more nodes c same =
      sym (same_kept nodes before.nodes same state.history (before.changed ++ c ∷ []) ∙ fold-append (with_change before.nodes) state.history before.changed (c ∷ []))

  abbrev after : Result Variant Status → Writing
  after verdict = record {
    nodes = nodes_after clock w verdict before.nodes;
    statuses = before.statuses ++ status_of verdict ∷ [];
    changed = before.changed ++ changes_of clock w verdict;
  }

  judged_more : (verdict : Result Variant Status) → with_judged (with_written state before) (accepted_of clock w verdict) ≡ with_written state (after verdict)
  judged_more (Err code) = ap (λ (cs : List Change). with_written state (record (after (Err code)) { changed = cs })) (sym (append-nil before.changed))
  judged_more (Ok value) =
      let c : Change = record { node_id = w.node_id; value = holding_of clock w value } in
      let nodes = with_value c.node_id c.value before.nodes in
      let kept = kept_more nodes c (λ q. same_historizing c.node_id q c.value before.nodes) in
      let seen = sym (sampled_more state.items before.changed c) in
      ap (λ (h : HistoryState). record (with_accepted (with_written state before) c) { history = h }) kept
      ∙ ap (λ (items : ItemsState). record (with_written state (after (Ok value))) { items = items }) seen

  stored_by_more : (has_store : Bool) (verdict : Result Variant Status) → stored_written has_store state before ++ stored_judged has_store (with_written state before) (accepted_of clock w verdict) ≡ stored_written has_store state (after verdict)
  stored_by_more has_store (Err code) =
      append-nil (stored_written has_store state before) ∙ ap (λ (cs : List Change). for_store has_store (stored_changes before.nodes state.history cs)) (sym (append-nil before.changed))
  stored_by_more has_store (Ok value) =
      let c : Change = record { node_id = w.node_id; value = holding_of clock w value } in
      let nodes = with_value c.node_id c.value before.nodes in
      let one = stored_change before.nodes (all_kept before.nodes state.history before.changed) c in
      both_for_store has_store (stored_changes before.nodes state.history before.changed) (one ∷ [])
      ∙ ap (for_store has_store)
      (sym (stored_append before.nodes state.history before.changed c)
      ∙ sym (same_stored nodes before.nodes (λ q. same_historizing c.node_id q c.value before.nodes) state.history (before.changed ++ c ∷ [])))

pub written_more : (clock : Moment) (state : Services) (values : List WriteValue) (w : WriteValue)
    → with_judged (with_written state (write_of clock state.space.nodes values)) (accepted_of clock w (judged (write_of clock state.space.nodes values).nodes w))
    ≡ with_written state (write_of clock state.space.nodes (values ++ w ∷ []))
written_more clock state values w =
    let before = write_of clock state.space.nodes values in
    judged_more clock state before w (judged before.nodes w)
    ∙ sym (ap (with_written state) (fold-append (with_one clock) (nothing_written state.space.nodes) values (w ∷ [])))

pub statuses_more : (clock : Moment) (nodes : Nodes) (values : List WriteValue) (w : WriteValue)
    → (write_of clock nodes values).statuses ++ status_of (judged (write_of clock nodes values).nodes w) ∷ [] ≡ (write_of clock nodes (values ++ w ∷ [])).statuses
statuses_more clock nodes values w = sym (ap (λ (done : Writing). done.statuses) (fold-append (with_one clock) (nothing_written nodes) values (w ∷ [])))

pub stored_more : (has_store : Bool) (clock : Moment) (state : Services) (values : List WriteValue) (w : WriteValue)
    → stored_written has_store state (write_of clock state.space.nodes values)
    ++ stored_judged has_store (with_written state (write_of clock state.space.nodes values)) (accepted_of clock w (judged (write_of clock state.space.nodes values).nodes w))
    ≡ stored_written has_store state (write_of clock state.space.nodes (values ++ w ∷ []))
stored_more has_store clock state values w =
    let before = write_of clock state.space.nodes values in
    stored_by_more clock state before w has_store (judged before.nodes w)
    ∙ sym (ap (stored_written has_store state) (fold-append (with_one clock) (nothing_written state.space.nodes) values (w ∷ [])))
