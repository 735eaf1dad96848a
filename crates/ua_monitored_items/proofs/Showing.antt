-- A table whose items see what the index leads to is a table whose items see what was written.
use Rattle.std.proofs.Common.{◌≡◌, ℕ, List, [], ◌∷◌, Result, Ok, Err, refl, subst, ◌∙◌}
use Rattle.std.specs.Prelude.{OnOk, OnErr, fold}
use Rattle.std.specs.BTreeMap.{BTreeMap}
use Rattle.std.specs.BTreeSet.{BTreeSet}
use Rattle.ua_types.specs.declared.node_id.NodeId.{NodeId}
use Rattle.ua_read_write.specs.declared.writing.Change.{Change}
use Rattle.ua_monitored_items.specs.ItemTables.{NumberedItems, IsTable}
use Rattle.ua_monitored_items.specs.Items.{Visit, visits_of, VisitedSome}
use Rattle.ua_monitored_items.specs.Releases.{shown, ShownSome}
use Rattle.ua_monitored_items.specs.Sampling.{index_shown, index_visits, IndexShownSome}
use Rattle.ua_monitored_items.proofs.Releasing.{visits_by_index, all_shown, some_shown, table_all_shown, table_some_shown}

module _ (made : ℕ) (of_subscription : BTreeMap ℕ (BTreeSet ℕ)) (on_node : BTreeMap NodeId (BTreeSet ℕ)) (items : NumberedItems) (h : IsTable made items of_subscription on_node) (new : NumberedItems) (changed : List Change) where
  pub table_after : {T E : Type 0} (r : Result T E) → OnOk r (new ≡ fold (index_shown on_node) items changed) → OnErr r (IndexShownSome on_node items new changed) → IsTable made new of_subscription on_node
  table_after (Ok x) ok err = table_all_shown made of_subscription on_node items h new changed ok
  table_after (Err x) ok err = table_some_shown made of_subscription on_node items h new changed err

  pub ok_after : {T E : Type 0} (r : Result T E) → OnOk r (new ≡ fold (index_shown on_node) items changed) → OnOk r (new ≡ shown items changed)
  ok_after (Ok x) ok = ok ∙ all_shown made of_subscription on_node items changed h
  ok_after (Err x) ok = tt

  pub err_after : {T E : Type 0} (r : Result T E) → OnErr r (IndexShownSome on_node items new changed) → OnErr r (ShownSome items new changed)
  err_after (Ok x) err = tt
  err_after (Err x) err = some_shown made of_subscription on_node items h new changed err

-- the visits that the index leads to are those of the node's items
pub visits_are : {T E : Type 0} (made : ℕ) (of_subscription : BTreeMap ℕ (BTreeSet ℕ)) (on_node : BTreeMap NodeId (BTreeSet ℕ)) (items new : NumberedItems) (change : Change) (r : Result T E)
    → IsTable made items of_subscription on_node → OnErr r (VisitedSome items new (index_visits on_node change)) → OnErr r (VisitedSome items new (visits_of items change))
visits_are made of_subscription on_node items new change (Ok x) h some = tt
visits_are made of_subscription on_node items new change (Err x) h some = subst (λ (vs : List Visit). VisitedSome items new vs) (visits_by_index made of_subscription on_node items change h) some

-- a value is a list of one
pub one_shown : {T E : Type 0} (on_node : BTreeMap NodeId (BTreeSet ℕ)) (items new : NumberedItems) (change : Change) (r : Result T E) → OnErr r (VisitedSome items new (index_visits on_node change)) → OnErr r (IndexShownSome on_node items new (change ∷ []))
one_shown on_node items new change (Ok x) some = tt
one_shown on_node items new change (Err x) some = ([], change, [], refl, some)
