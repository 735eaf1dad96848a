-- Releases leave each item where it is, with its values.
use Rattle.std.proofs.Common.{◌≡◌, ℕ, Bool, true, false, cond, List, [], ◌∷◌, ◌++◌, length, refl, sym, ap, subst, ◌∙◌, append_assoc, append-nil}
use Rattle.std.proofs.lemmas.List.{map-append}
use Rattle.std.proofs.lemmas.List.Concat.{flat_map-append, flat_map-cons}
use Rattle.std.proofs.lemmas.List.Sums.{fold-append}
use Rattle.std.specs.Prelude.{◌==◌, ◌&&◌, flat_map, fold, nat_lt}
use Rattle.std.specs.BTreeMap.{BTreeMap}
use Rattle.std.specs.BTreeSet.{BTreeSet}
use Rattle.ua_types.specs.declared.node_id.NodeId.{NodeId}
use Rattle.ua_types.specs.declared.data_value.DataValue.{DataValue}
use Rattle.ua_read_write.specs.declared.writing.Change.{Change}
use Rattle.ua_monitored_items.specs.Item.{is_sampling, released_in, with_links}
use Rattle.ua_monitored_items.specs.ItemTables.{NumberedItems, item_at, IsTable}
use Rattle.ua_monitored_items.specs.Items.{ItemsState, own_item, Visit, visited, sampled_items, VisitedSome, visits_of}
use Rattle.ua_monitored_items.specs.Releases.{with_release, all_released, visit_releases, sample_releases, seen_by_all, shown_one, shown, ShownSome, mode_releases, modes_release}
use Rattle.ua_monitored_items.specs.Sampling.{visits_by, index_visits, index_shown, IndexShownSome}
use Rattle.ua_monitored_items.specs.declared.item.Item.{Item}
use Rattle.ua_monitored_items.specs.declared.kinds.Mode.{Mode}
use Rattle.ua_monitored_items.specs.declared.releases.Release.{Release}
use Rattle.ua_monitored_items.proofs.DisabledItems.{empty_released}
use Rattle.ua_monitored_items.proofs.Tables.{IsThere, table_changed, table_sampled}

pub there_released : (subscription : ℕ) (item : Item) → IsThere item (released_in subscription item)
there_released subscription item = by ((item.subscription == subscription && is_sampling item.mode) && nat_lt 0 (length item.queue.entries))
  where
    by : (b : Bool) → IsThere item (cond b (record item { released = true }) item)
    by true = record { subscription = refl; node = refl; attribute = refl }
    by false = record { subscription = refl; node = refl; attribute = refl }

pub there_linked : (numbers : List ℕ) (item : Item) → IsThere item (with_links numbers item)
there_linked numbers item = record { subscription = refl; node = refl; attribute = refl }

pub released_queue : (subscription : ℕ) (item : Item) → (released_in subscription item).queue.entries ≡ item.queue.entries
released_queue subscription item = by ((item.subscription == subscription && is_sampling item.mode) && nat_lt 0 (length item.queue.entries))
  where
    by : (b : Bool) → (cond b (record item { released = true }) item).queue.entries ≡ item.queue.entries
    by true = refl
    by false = refl

-- ---- what the fields of a table keep

module _ (made : ℕ) (of_subscription : BTreeMap ℕ (BTreeSet ℕ)) (on_node : BTreeMap NodeId (BTreeSet ℕ)) where
  pub table_released : (items : NumberedItems) (releases : List Release) → IsTable made items of_subscription on_node → IsTable made (all_released items releases) of_subscription on_node
  table_released items [] h = h
  table_released items (r ∷ rs) h =
      table_released (with_release items r) rs (table_changed made items of_subscription on_node h r.number (released_in r.subscription) (there_released r.subscription) (empty_released r.subscription))

  pub table_seen : (items : NumberedItems) (visits : List Visit) → IsTable made items of_subscription on_node → IsTable made (seen_by_all items visits) of_subscription on_node
  table_seen items visits h = table_released (sampled_items items visits) (sample_releases items visits) (table_sampled made of_subscription on_node items visits h)

  table_shown : (items : NumberedItems) (changed : List Change) → IsTable made items of_subscription on_node → IsTable made (shown items changed) of_subscription on_node
  table_shown items [] h = h
  table_shown items (c ∷ cs) h = table_shown (shown_one items c) cs (table_seen items (visits_of items c) h)

  -- the visits that the index leads to are those of the items of a node
  pub visits_by_index : (items : NumberedItems) (c : Change) → IsTable made items of_subscription on_node → index_visits on_node c ≡ visits_of items c
  visits_by_index items c h = ap (visits_by c.value) (h.nodes c.node_id)

  pub all_shown : (items : NumberedItems) (changed : List Change) → IsTable made items of_subscription on_node → fold (index_shown on_node) items changed ≡ shown items changed
  all_shown items [] h = refl
  all_shown items (c ∷ cs) h =
      ap (λ (vs : List Visit). fold (index_shown on_node) (seen_by_all items vs) cs) (visits_by_index items c h)
      ∙ all_shown (shown_one items c) cs (table_seen items (visits_of items c) h)

  module _ (items : NumberedItems) (h : IsTable made items of_subscription on_node) (new : NumberedItems) (changed : List Change) where
    pub table_all_shown : new ≡ fold (index_shown on_node) items changed → IsTable made new of_subscription on_node
    table_all_shown is = subst (λ (es : NumberedItems). IsTable made es of_subscription on_node) (sym (is ∙ all_shown items changed h)) (table_shown items changed h)

    pub some_shown : IndexShownSome on_node items new changed → ShownSome items new changed
    some_shown (front, change, rest, joined, visits) =
        let before = table_shown items front h in
        let same = all_shown items front h in (
          front,
          change,
          rest,
          joined,
          subst (λ (vs : List Visit). VisitedSome (shown items front) new vs) (visits_by_index (shown items front) change before)
              (subst (λ (es : NumberedItems). VisitedSome es new (index_visits on_node change)) same visits),
        )

    pub table_some_shown : IndexShownSome on_node items new changed → IsTable made new of_subscription on_node
    table_some_shown (front, change, rest, joined, (made_visits, next, left, split, is, takes)) =
        let before = table_shown items front h in
        let now : new ≡ sampled_items (shown items front) made_visits = is ∙ ap (λ (es : NumberedItems). sampled_items es made_visits) (all_shown items front h) in
        subst (λ (es : NumberedItems). IsTable made es of_subscription on_node) (sym now) (table_sampled made of_subscription on_node (shown items front) made_visits before)

-- ---- what is released

pub releases_more : (items : NumberedItems) (vs : List Visit) (v : Visit) → sample_releases items (vs ++ v ∷ []) ≡ sample_releases items vs ++ visit_releases v (item_at v.number (sampled_items items vs))
releases_more items [] v = append-nil (visit_releases v (item_at v.number items))
releases_more items (w ∷ ws) v =
    let first = visit_releases w (item_at w.number items) in
    ap (λ (rs : List Release). first ++ rs) (releases_more (visited items w) ws v)
    ∙ sym (append_assoc first (sample_releases (visited items w) ws) (visit_releases v (item_at v.number (sampled_items items (w ∷ ws)))))

pub number_releases_more : (items : NumberedItems) (value : DataValue) (front : List ℕ) (number : ℕ) →
    sample_releases items (visits_by value (front ++ number ∷ []))
    ≡ sample_releases items (visits_by value front) ++ visit_releases (record { number = number; value = value }) (item_at number (sampled_items items (visits_by value front)))
number_releases_more items value front number =
    ap (sample_releases items) (map-append (λ (n : ℕ). record { number = n; value = value }) front (number ∷ []))
    ∙ releases_more items (visits_by value front) (record { number = number; value = value })

pub modes_more : (s : ItemsState) (subscription : ℕ) (mode : Mode) (front : List ℕ) (number : ℕ) →
    modes_release s subscription mode (front ++ number ∷ []) ≡ modes_release s subscription mode front ++ mode_releases mode (own_item s subscription number)
modes_more s subscription mode front number =
    let f : ℕ → List Release = λ n. mode_releases mode (own_item s subscription n) in
    flat_map-append f front (number ∷ []) ∙ ap (λ (rs : List Release). flat_map f front ++ rs) (flat_map-cons f number [] ∙ append-nil (f number))

pub shown_more : (items : NumberedItems) (front : List Change) (c : Change) → shown items (front ++ c ∷ []) ≡ shown_one (shown items front) c
shown_more items front c = fold-append shown_one items front (c ∷ [])
