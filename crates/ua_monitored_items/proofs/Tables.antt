-- Items under their numbers, and the numbers of some of them.
use Rattle.std.proofs.Common.{◌≡◌, ◌≢◌, ℕ, ◌+◌, ◌-◌, ◌<◌, ◌≤◌, arith, Bool, true, false, cond, List, [], ◌∷◌, Option, Some, None, Result, Ok, Err, refl, sym, ap, subst, ◌∙◌}
use Rattle.std.specs.BTreeMap.{BTreeMap, insert_entry, is_at}
use Rattle.std.specs.BTreeSet.{BTreeSet, insert_key}
use Rattle.std.specs.Map.{lookup, set_value, remove_entry}
use Rattle.std.specs.Set.{remove_key}
use Rattle.collections.proofs.NumberMaps.{same_number}
use Rattle.std.proofs.lemmas.Bool.{false≢true}
use Rattle.std.specs.Cmp.{nat_cmp_is, nat_cmp_total, eq_by_cmp_equiv}
use Rattle.std.specs.Prelude.{◌==◌, ◌&&◌, fold, not, OnOk, OnErr, IfSome}
use Rattle.std.specs.Ordering.{nat_cmp, is_eq, match_ordering}
use Rattle.std.specs.declared.cmp.Ordering.{Ordering}
use Rattle.std.specs.declared.cmp.Ordering.TheVariants.{Less, Equal, Greater}
use Rattle.ua_types.specs.NodeIdOrder.{id_cmp, same_id}
use Rattle.ua_types.specs.contracts.node_id.NodeIdOrd.TheImpl.Laws.{matches_eq-law}
use Rattle.ua_types.specs.declared.node_id.NodeId.{NodeId}
use Rattle.ua_monitored_items.specs.ItemTables.{NumberedItems, item_at, numbers_where, numbers_of, is_of, is_on, with_found, with_item, numbers_at, AreWithin, AreAbove, AreRising, DisabledIsEmpty, IsTable, IsPut, IsTakenOut, IsPutBack}
use Rattle.ua_types.specs.declared.data_value.DataValue.{DataValue}
use Rattle.ua_read_write.specs.declared.timestamps.Timestamps.{Timestamps}
use Rattle.ua_subscription_messages.specs.declared.monitoring_parameters.MonitoringParameters.{MonitoringParameters}
use Rattle.ua_monitored_items.specs.Item.{is_enabled, takes, queued, seen, with_mode, disabled, modified, gave, waiting_in}
use Rattle.ua_monitored_items.specs.Items.{Visit, visited, sampled_items, Taking, nat_least, taken_from, with_taken, without_all, first_number, taken_of, nothing_taken}
use Rattle.ua_monitored_items.specs.Preparing.{enabled_from, moded_from}
use Rattle.ua_monitored_items.specs.declared.edit.Modification.{Modification}
use Rattle.ua_monitored_items.specs.Editing.{modified_with}
use Rattle.ua_monitored_items.specs.Taking.{TakenSome}
use Rattle.ua_monitored_items.specs.declared.item.Item.{Item}
use Rattle.ua_monitored_items.specs.declared.kinds.Mode.{Mode}
use Rattle.ua_monitored_items.specs.declared.kinds.Trigger.{Trigger}
use Rattle.ua_monitored_items.proofs.DisabledItems.{KeepsEmpty, empty_set, empty_put, empty_removed, empty_found, empty_seen, empty_gave}

-- ---- numbers are compared

pub greater : (n q : ℕ) → q < n → nat_cmp n q ≡ Greater
greater n q less = sym (nat_cmp_is n q Greater less)

pub at_itself : (n : ℕ) → is_at (nat_cmp n) n ≡ true
at_itself n = (eq_by_cmp_equiv nat_cmp_total).refl n

-- ---- numbers of some of the items

module _ (p : Item → Bool) where
  -- another item in the place of one, of which the same is said
  pub where_set : (number : ℕ) (v w : Item) → p w ≡ p v → (es : NumberedItems) → lookup (is_at (nat_cmp number)) es ≡ Some v
      → numbers_where p (set_value (is_at (nat_cmp number)) es w) ≡ numbers_where p es
  where_set number v w same [] found = refl
  where_set number v w same (e ∷ es) found = by (is_at (nat_cmp number) e.0) found (where_set number v w same es)
    where
      by : (b : Bool) → cond b (Some e.1) (lookup (is_at (nat_cmp number)) es) ≡ Some v
          → (lookup (is_at (nat_cmp number)) es ≡ Some v → numbers_where p (set_value (is_at (nat_cmp number)) es w) ≡ numbers_where p es)
          → numbers_where p (cond b ((e.0, w) ∷ es) (e ∷ set_value (is_at (nat_cmp number)) es w)) ≡ numbers_where p (e ∷ es)
      by true here more =
          let is : e.1 ≡ v = cc in
          ap (λ (b : Bool). cond b (e.0 ∷ numbers_where p es) (numbers_where p es)) (same ∙ sym (ap p is))
      by false here more = ap (λ (ns : List ℕ). cond (p e.1) (e.0 ∷ ns) ns) (more here)

  -- an item of which it isn't said is taken out
  pub where_removed_other : (number : ℕ) (v : Item) → p v ≡ false → (es : NumberedItems) → lookup (is_at (nat_cmp number)) es ≡ Some v
      → numbers_where p (remove_entry (is_at (nat_cmp number)) es) ≡ numbers_where p es
  where_removed_other number v not_said [] found = refl
  where_removed_other number v not_said (e ∷ es) found = by (is_at (nat_cmp number) e.0) found (where_removed_other number v not_said es)
    where
      by : (b : Bool) → cond b (Some e.1) (lookup (is_at (nat_cmp number)) es) ≡ Some v
          → (lookup (is_at (nat_cmp number)) es ≡ Some v → numbers_where p (remove_entry (is_at (nat_cmp number)) es) ≡ numbers_where p es)
          → numbers_where p (cond b es (e ∷ remove_entry (is_at (nat_cmp number)) es)) ≡ numbers_where p (e ∷ es)
      by true here more =
          let is : e.1 ≡ v = cc in
          sym (ap (λ (b : Bool). cond b (e.0 ∷ numbers_where p es) (numbers_where p es)) (ap p is ∙ not_said))
      by false here more = ap (λ (ns : List ℕ). cond (p e.1) (e.0 ∷ ns) ns) (more here)

  -- an item of which it is said is taken out
  pub where_removed : (number : ℕ) (v : Item) → p v ≡ true → (es : NumberedItems) → lookup (is_at (nat_cmp number)) es ≡ Some v
      → numbers_where p (remove_entry (is_at (nat_cmp number)) es) ≡ remove_key (is_at (nat_cmp number)) (numbers_where p es)
  where_removed number v said [] found = refl
  where_removed number v said (e ∷ es) found = by (is_at (nat_cmp number) e.0) refl (p e.1) refl found (where_removed number v said es)
    where
      rest : List ℕ
      rest = numbers_where p es

      by : (b : Bool) → is_at (nat_cmp number) e.0 ≡ b → (c : Bool) → p e.1 ≡ c → cond b (Some e.1) (lookup (is_at (nat_cmp number)) es) ≡ Some v
          → (lookup (is_at (nat_cmp number)) es ≡ Some v → numbers_where p (remove_entry (is_at (nat_cmp number)) es) ≡ remove_key (is_at (nat_cmp number)) rest)
          → numbers_where p (cond b es (e ∷ remove_entry (is_at (nat_cmp number)) es)) ≡ remove_key (is_at (nat_cmp number)) (cond c (e.0 ∷ rest) rest)
      by true equal true is here more = rw equal refl
      by true equal false is here more = let it : e.1 ≡ v = cc in absurd (false≢true (sym is ∙ ap p it ∙ said))
      by false equal true is here more = rw (equal, is) (ap (λ (ns : List ℕ). e.0 ∷ ns) (more here))
      by false equal false is here more = rw is (more here)

  -- an item is put behind all
  pub where_put : (made number : ℕ) (v : Item) → made < number → (es : NumberedItems) → AreWithin made es
      → numbers_where p (insert_entry nat_cmp es number v) ≡ cond (p v) (insert_key nat_cmp (numbers_where p es) number) (numbers_where p es)
  where_put made number v above [] within = refl
  where_put made number v above (e ∷ es) within = rw behind (by (p e.1) (p v) (where_put made number v above es within.1))
    where
      behind : nat_cmp number e.0 ≡ Greater
      behind = greater number e.0 (omega (arith, above, within.0))

      rest : List ℕ
      rest = numbers_where p es

      more : List ℕ
      more = numbers_where p (insert_entry nat_cmp es number v)

      by : (c d : Bool) → more ≡ cond d (insert_key nat_cmp rest number) rest
          → cond c (e.0 ∷ more) more ≡ cond d (insert_key nat_cmp (cond c (e.0 ∷ rest) rest) number) (cond c (e.0 ∷ rest) rest)
      by true true h = rw behind (ap (λ (ns : List ℕ). e.0 ∷ ns) h)
      by true false h = ap (λ (ns : List ℕ). e.0 ∷ ns) h
      by false d h = h

  -- and taken out again
  pub where_put_back : (made number : ℕ) → made < number → (es : NumberedItems) → AreWithin made es
      → remove_key (is_at (nat_cmp number)) (insert_key nat_cmp (numbers_where p es) number) ≡ numbers_where p es
  where_put_back made number above [] within = rw (at_itself number) refl
  where_put_back made number above (e ∷ es) within = by (p e.1) (where_put_back made number above es within.1)
    where
      behind : nat_cmp number e.0 ≡ Greater
      behind = greater number e.0 (omega (arith, above, within.0))

      rest : List ℕ
      rest = numbers_where p es

      by : (c : Bool) → remove_key (is_at (nat_cmp number)) (insert_key nat_cmp rest number) ≡ rest
          → remove_key (is_at (nat_cmp number)) (insert_key nat_cmp (cond c (e.0 ∷ rest) rest) number) ≡ cond c (e.0 ∷ rest) rest
      by true h = rw behind (rw behind (ap (λ (ns : List ℕ). e.0 ∷ ns) h))
      by false h = h

-- ---- numbers that are given

within_more : (made more : ℕ) → made ≤ more → (es : NumberedItems) → AreWithin made es → AreWithin more es
within_more made more le [] within = tt
within_more made more le (e ∷ es) within = (omega (arith, le, within.0), within_more made more le es within.1)

pub within_put : (made : ℕ) (v : Item) (es : NumberedItems) → AreWithin made es → AreWithin (made + 1) (insert_entry nat_cmp es (made + 1) v)
within_put made v [] within = (omega arith, tt)
within_put made v (e ∷ es) within =
    rw (greater (made + 1) e.0 (omega (arith, within.0))) (omega (arith, within.0), within_put made v es within.1)

pub within_set : (made number : ℕ) (w : Item) (es : NumberedItems) → AreWithin made es → AreWithin made (set_value (is_at (nat_cmp number)) es w)
within_set made number w [] within = tt
within_set made number w (e ∷ es) within = by (within_set made number w es within.1) (is_at (nat_cmp number) e.0)
  where
    by : AreWithin made (set_value (is_at (nat_cmp number)) es w) → (b : Bool) → AreWithin made (cond b ((e.0, w) ∷ es) (e ∷ set_value (is_at (nat_cmp number)) es w))
    by rest true = (within.0, within.1)
    by rest false = (within.0, rest)

pub within_removed : (made number : ℕ) (es : NumberedItems) → AreWithin made es → AreWithin made (remove_entry (is_at (nat_cmp number)) es)
within_removed made number [] within = tt
within_removed made number (e ∷ es) within = by (within_removed made number es within.1) (is_at (nat_cmp number) e.0)
  where
    by : AreWithin made (remove_entry (is_at (nat_cmp number)) es) → (b : Bool) → AreWithin made (cond b es (e ∷ remove_entry (is_at (nat_cmp number)) es))
    by rest true = within.1
    by rest false = (within.0, rest)

-- ---- numbers rise

above_put : (k number : ℕ) (v : Item) → k < number → (es : NumberedItems) → AreAbove k es → AreAbove k (insert_entry nat_cmp es number v)
above_put k number v less [] above = (less, tt)
above_put k number v less (e ∷ es) above = by (above_put k number v less es above.1) (nat_cmp number e.0)
  where
    by : AreAbove k (insert_entry nat_cmp es number v) → (o : Ordering) → AreAbove k (match_ordering o ((number, v) ∷ e ∷ es) ((e.0, v) ∷ es) (e ∷ insert_entry nat_cmp es number v))
    by rest Less = (less, above)
    by rest Equal = above
    by rest Greater = (above.0, rest)

pub rising_put : (made number : ℕ) (v : Item) → made < number → (es : NumberedItems) → AreWithin made es → AreRising es → AreRising (insert_entry nat_cmp es number v)
rising_put made number v above [] within rising = (tt, tt)
rising_put made number v above (e ∷ es) within rising =
    rw (greater number e.0 (omega (arith, above, within.0)))
    (above_put e.0 number v (omega (arith, above, within.0)) es rising.0, rising_put made number v above es within.1 rising.1)

above_set : (k number : ℕ) (w : Item) (es : NumberedItems) → AreAbove k es → AreAbove k (set_value (is_at (nat_cmp number)) es w)
above_set k number w [] above = tt
above_set k number w (e ∷ es) above = by (above_set k number w es above.1) (is_at (nat_cmp number) e.0)
  where
    by : AreAbove k (set_value (is_at (nat_cmp number)) es w) → (b : Bool) → AreAbove k (cond b ((e.0, w) ∷ es) (e ∷ set_value (is_at (nat_cmp number)) es w))
    by rest true = above
    by rest false = (above.0, rest)

pub rising_set : (number : ℕ) (w : Item) (es : NumberedItems) → AreRising es → AreRising (set_value (is_at (nat_cmp number)) es w)
rising_set number w [] rising = tt
rising_set number w (e ∷ es) rising = by (rising_set number w es rising.1) (is_at (nat_cmp number) e.0)
  where
    by : AreRising (set_value (is_at (nat_cmp number)) es w) → (b : Bool) → AreRising (cond b ((e.0, w) ∷ es) (e ∷ set_value (is_at (nat_cmp number)) es w))
    by rest true = rising
    by rest false = (above_set e.0 number w es rising.0, rest)

above_removed : (k number : ℕ) (es : NumberedItems) → AreAbove k es → AreAbove k (remove_entry (is_at (nat_cmp number)) es)
above_removed k number [] above = tt
above_removed k number (e ∷ es) above = by (above_removed k number es above.1) (is_at (nat_cmp number) e.0)
  where
    by : AreAbove k (remove_entry (is_at (nat_cmp number)) es) → (b : Bool) → AreAbove k (cond b es (e ∷ remove_entry (is_at (nat_cmp number)) es))
    by rest true = above.1
    by rest false = (above.0, rest)

pub rising_removed : (number : ℕ) (es : NumberedItems) → AreRising es → AreRising (remove_entry (is_at (nat_cmp number)) es)
rising_removed number [] rising = tt
rising_removed number (e ∷ es) rising = by (rising_removed number es rising.1) (is_at (nat_cmp number) e.0)
  where
    by : AreRising (remove_entry (is_at (nat_cmp number)) es) → (b : Bool) → AreRising (cond b es (e ∷ remove_entry (is_at (nat_cmp number)) es))
    by rest true = rising.1
    by rest false = (above_removed e.0 number es rising.0, rest)

-- ---- the last number is taken back

within_less : (made : ℕ) (es : NumberedItems) → AreAbove made es → AreWithin made es → AreWithin (made - 1) es
within_less made [] above within = tt
within_less made (e ∷ es) above within = absurd (omega (arith, above.0, within.0))

within_back : (made : ℕ) (es : NumberedItems) → AreWithin made es → AreRising es → AreWithin (made - 1) (remove_entry (is_at (nat_cmp made)) es)
within_back made [] within rising = tt
within_back made (e ∷ es) within rising = by (within_back made es within.1 rising.1) (is_at (nat_cmp made) e.0) refl
  where
    by : AreWithin (made - 1) (remove_entry (is_at (nat_cmp made)) es) → (b : Bool) → is_at (nat_cmp made) e.0 ≡ b → AreWithin (made - 1) (cond b es (e ∷ remove_entry (is_at (nat_cmp made)) es))
    by rest true is = within_less made es (subst (λ (n : ℕ). AreAbove n es) (sym (same_number made e.0 is)) rising.0) within.1
    by rest false is =
        let other : e.0 ≢ made = λ same. false≢true (sym is ∙ ap (is_at (nat_cmp made)) same ∙ at_itself made) in
        (omega (arith, within.0, other), rest)

-- what was put behind all is taken out again
pub put_and_removed : (made : ℕ) (v : Item) (es : NumberedItems) → AreWithin made es → remove_entry (is_at (nat_cmp (made + 1))) (insert_entry nat_cmp es (made + 1) v) ≡ es
put_and_removed made v [] within = rw (at_itself (made + 1)) refl
put_and_removed made v (e ∷ es) within =
    let behind : nat_cmp (made + 1) e.0 ≡ Greater = greater (made + 1) e.0 (omega (arith, within.0)) in
    rw behind (rw behind (ap (λ (fs : NumberedItems). e ∷ fs) (put_and_removed made v es within.1)))

-- ---- what the fields of a table keep

-- what is done with an item leaves it where it is
pub record IsThere (item new : Item) : Type 0 where
  pub subscription : new.subscription ≡ item.subscription
  pub node : new.node_id ≡ item.node_id
  pub attribute : new.attribute_id ≡ item.attribute_id

pub same_of : (item new : Item) → IsThere item new → (q : ℕ) → is_of q new ≡ is_of q item
same_of item new h q = ap (λ (s : ℕ). s == q) h.subscription

same_on : (item new : Item) → IsThere item new → (id : NodeId) → is_on id new ≡ is_on id item
same_on item new h id =
    ap (λ (a : ℕ). a == 13 && same_id new.node_id id) h.attribute ∙ ap (λ (n : NodeId). item.attribute_id == 13 && same_id n id) h.node

module _ (made : ℕ) (items : NumberedItems) (of_subscription : BTreeMap ℕ (BTreeSet ℕ)) (on_node : BTreeMap NodeId (BTreeSet ℕ)) (h : IsTable made items of_subscription on_node) where
  pub table_set : (number : ℕ) (v w : Item) → IsThere v w → DisabledIsEmpty w → item_at number items ≡ Some v → IsTable made (set_value (is_at (nat_cmp number)) items w) of_subscription on_node
  table_set number v w there empty found = record {
    within = within_set made number w items h.within;
    rising = rising_set number w items h.rising;
    disabled = empty_set number w empty items h.disabled;
    subscriptions = λ q. h.subscriptions q ∙ sym (where_set (is_of q) number v w (same_of v w there q) items found);
    nodes = λ id. h.nodes id ∙ sym (where_set (is_on id) number v w (same_on v w there id) items found);
  }

  pub table_changed : (number : ℕ) (change : Item → Item) → ((item : Item) → IsThere item (change item)) → KeepsEmpty change → IsTable made (with_item number change items) of_subscription on_node
  table_changed number change there keeps = by (item_at number items) refl (empty_found number items h.disabled)
    where
      by : (found : Option Item) → item_at number items ≡ found → IfSome found DisabledIsEmpty → IsTable made (with_found number change items found) of_subscription on_node
      by None e empty = h
      by (Some v) e empty = table_set number v (change v) (there v) (keeps v empty) e

  pub table_back : (subs : BTreeMap ℕ (BTreeSet ℕ)) (nodes : BTreeMap NodeId (BTreeSet ℕ)) → IsTable made (remove_entry (is_at (nat_cmp made)) items) subs nodes → IsTable (made - 1) (remove_entry (is_at (nat_cmp made)) items) subs nodes
  table_back subs nodes after = record {
    within = within_back made items h.within h.rising;
    rising = after.rising;
    disabled = after.disabled;
    subscriptions = after.subscriptions;
    nodes = after.nodes;
  }

  module _ (item : Item) (subs : BTreeMap ℕ (BTreeSet ℕ)) (nodes : BTreeMap NodeId (BTreeSet ℕ)) where
    pub table_put : DisabledIsEmpty item → IsPut nat_cmp of_subscription subs (λ q. is_of q item) (made + 1) → IsPut id_cmp on_node nodes (λ id. is_on id item) (made + 1)
        → IsTable (made + 1) (insert_entry nat_cmp items (made + 1) item) subs nodes
    table_put empty put_sub put_node = record {
      within = within_put made item items h.within;
      rising = rising_put made (made + 1) item (omega arith) items h.within h.rising;
      disabled = empty_put (made + 1) item empty items h.disabled;
      subscriptions = λ q.
          put_sub q
          ∙ ap (λ (ns : List ℕ). cond (is_of q item) (insert_key nat_cmp ns (made + 1)) ns) (h.subscriptions q)
          ∙ sym (where_put (is_of q) made (made + 1) item (omega arith) items h.within);
      nodes = λ id.
          put_node id
          ∙ ap (λ (ns : List ℕ). cond (is_on id item) (insert_key nat_cmp ns (made + 1)) ns) (h.nodes id)
          ∙ sym (where_put (is_on id) made (made + 1) item (omega arith) items h.within);
    }

    pub table_put_back : IsPutBack nat_cmp of_subscription subs (made + 1) → IsPutBack id_cmp on_node nodes (made + 1) → IsTable made items subs nodes
    table_put_back put_sub put_node = record {
      within = h.within;
      rising = h.rising;
      disabled = h.disabled;
      subscriptions = λ q. put_sub q (same_back (is_of q) _ (h.subscriptions q)) ∙ h.subscriptions q;
      nodes = λ id. put_node id (same_back (is_on id) _ (h.nodes id)) ∙ h.nodes id;
    }
      where
        same_back : (p : Item → Bool) (ns : List ℕ) → ns ≡ numbers_where p items → remove_key (is_at (nat_cmp (made + 1))) (insert_key nat_cmp ns (made + 1)) ≡ ns
        same_back p ns is =
            ap (λ (ms : List ℕ). remove_key (is_at (nat_cmp (made + 1))) (insert_key nat_cmp ms (made + 1))) is
            ∙ where_put_back p made (made + 1) (omega arith) items h.within ∙ sym is

    out : (p : Item → Bool) (number : ℕ) (b : Bool) → p item ≡ b → (ns : List ℕ) → ns ≡ numbers_where p items → item_at number items ≡ Some item
        → cond b (remove_key (is_at (nat_cmp number)) ns) ns ≡ numbers_where p (remove_entry (is_at (nat_cmp number)) items)
    out p number true said ns is found = ap (remove_key (is_at (nat_cmp number))) is ∙ sym (where_removed p number item said items found)
    out p number false said ns is found = is ∙ sym (where_removed_other p number item said items found)

    pub table_removed : (number : ℕ) → item_at number items ≡ Some item → IsTakenOut nat_cmp of_subscription subs (λ q. is_of q item) number → IsTakenOut id_cmp on_node nodes (λ id. is_on id item) number
        → IsTable made (remove_entry (is_at (nat_cmp number)) items) subs nodes
    table_removed number found put_sub put_node = record {
      within = within_removed made number items h.within;
      rising = rising_removed number items h.rising;
      disabled = empty_removed number items h.disabled;
      subscriptions = λ q. put_sub q ∙ out (is_of q) number (is_of q item) refl _ (h.subscriptions q) found;
      nodes = λ id. put_node id ∙ out (is_on id) number (is_on id item) refl _ (h.nodes id) found;
    }

-- what was put in and taken out again
pub put_and_taken : {K : Type 0} (cmp : K → K → Ordering) (old mid new : BTreeMap K (BTreeSet ℕ)) (p : K → Bool) (number : ℕ) → IsPut cmp old mid p number → IsTakenOut cmp mid new p number → IsPutBack cmp old new number
put_and_taken cmp old mid new p number put taken q same =
    taken q ∙ ap (λ (ns : List ℕ). cond (p q) (remove_key (is_at (nat_cmp number)) ns) ns) (put q) ∙ twice (p q)
  where
    twice : (b : Bool) → cond b (remove_key (is_at (nat_cmp number)) (cond b (insert_key nat_cmp (numbers_at cmp old q) number) (numbers_at cmp old q))) (cond b (insert_key nat_cmp (numbers_at cmp old q) number) (numbers_at cmp old q))
        ≡ numbers_at cmp old q
    twice true = same
    twice false = refl

-- the items of a node's value
module _ (item : Item) (is_value : item.attribute_id ≡ 13) where
  on_value : (id : NodeId) → is_at (id_cmp item.node_id) id ≡ is_on id item
  on_value id = rw is_value (sym (matches_eq-law item.node_id id))

  pub put_on : (old new : BTreeMap NodeId (BTreeSet ℕ)) (number : ℕ) → IsPut id_cmp old new (is_at (id_cmp item.node_id)) number → IsPut id_cmp old new (λ id. is_on id item) number
  put_on old new number put id = put id ∙ ap (λ (b : Bool). cond b (insert_key nat_cmp (numbers_at id_cmp old id) number) (numbers_at id_cmp old id)) (on_value id)

  pub taken_on : (old new : BTreeMap NodeId (BTreeSet ℕ)) (number : ℕ) → IsTakenOut id_cmp old new (is_at (id_cmp item.node_id)) number → IsTakenOut id_cmp old new (λ id. is_on id item) number
  taken_on old new number taken id = taken id ∙ ap (λ (b : Bool). cond b (remove_key (is_at (nat_cmp number)) (numbers_at id_cmp old id)) (numbers_at id_cmp old id)) (on_value id)

-- ---- what is done with an item leaves it where it is

pub there_modified : (longest : ℕ) (timestamps : Timestamps) (trigger : Trigger) (parameters : MonitoringParameters) (item : Item) → IsThere item (modified longest timestamps trigger parameters item)
there_modified longest timestamps trigger parameters item = record { subscription = refl; node = refl; attribute = refl }

pub there_modified_with : (modification : Modification) (item : Item) → IsThere item (modified_with modification item)
there_modified_with modification item = record { subscription = refl; node = refl; attribute = refl }

there_queued : (v : DataValue) (item : Item) → IsThere item (queued v item)
there_queued v item = record { subscription = refl; node = refl; attribute = refl }

pub there_seen : (v : DataValue) (item : Item) → IsThere item (seen v item)
there_seen v item = by (takes item v)
  where
    by : (b : Bool) → IsThere item (cond b (queued v item) item)
    by true = there_queued v item
    by false = record { subscription = refl; node = refl; attribute = refl }

pub there_moded : (mode : Mode) (first : Option DataValue) (item : Item) → IsThere item (moded_from mode first item)
there_moded mode first item = by (is_enabled mode) first (is_enabled item.mode)
  where
    queued_if : (c : Bool) (v : DataValue) → IsThere item (with_mode mode (cond c item (queued v item)))
    queued_if true v = record { subscription = refl; node = refl; attribute = refl }
    queued_if false v = record { subscription = refl; node = refl; attribute = refl }

    by : (b : Bool) (first : Option DataValue) (c : Bool) → IsThere item (cond b (with_mode mode (enabled_from first item)) (disabled item))
    by true None c = record { subscription = refl; node = refl; attribute = refl }
    by true (Some first) c = queued_if (is_enabled item.mode) first
    by false first c = record { subscription = refl; node = refl; attribute = refl }

pub there_gave : (n : ℕ) (item : Item) → IsThere item (gave n item)
there_gave n item = record { subscription = refl; node = refl; attribute = refl }

module _ (made : ℕ) (of_subscription : BTreeMap ℕ (BTreeSet ℕ)) (on_node : BTreeMap NodeId (BTreeSet ℕ)) where
  pub table_sampled : (items : NumberedItems) (visits : List Visit) → IsTable made items of_subscription on_node → IsTable made (sampled_items items visits) of_subscription on_node
  table_sampled items [] h = h
  table_sampled items (v ∷ vs) h = table_sampled (visited items v) vs (table_changed made items of_subscription on_node h v.number (seen v.value) (there_seen v.value) (empty_seen v.value))

  pub table_taken : (before : Taking) (numbers : List ℕ) → IsTable made before.items of_subscription on_node → IsTable made (fold with_taken before numbers).items of_subscription on_node
  table_taken before [] h = h
  table_taken before (n ∷ ns) h = table_taken (with_taken before n) ns (one (item_at n before.items))
    where
      one : (found : Option Item) → IsTable made (taken_from before n found).items of_subscription on_node
      one None = h
      one (Some item) = table_changed made before.items of_subscription on_node h n (gave (nat_least before.left (waiting_in item))) (there_gave (nat_least before.left (waiting_in item))) (empty_gave (nat_least before.left (waiting_in item)))

-- ---- the items of a subscription

pub above_found : (k number : ℕ) (item : Item) (es : NumberedItems) → AreAbove k es → item_at number es ≡ Some item → k < number
above_found k number item [] above found = absurd cc
above_found k number item (e ∷ es) above found = by (above_found k number item es above.1) (is_at (nat_cmp number) e.0) refl found
  where
    by : (item_at number es ≡ Some item → k < number) → (b : Bool) → is_at (nat_cmp number) e.0 ≡ b → cond b (Some e.1) (item_at number es) ≡ Some item → k < number
    by rest true is here = subst (λ (n : ℕ). k < n) (sym (same_number number e.0 is)) above.0
    by rest false is here = rest here

-- the item of a number that is found by what is said of it
pub first_found : (p : Item → Bool) (es : NumberedItems) → AreRising es → (number : ℕ) → first_number (numbers_where p es) ≡ Some number
    → (item : Item) × (item_at number es ≡ Some item) × (p item ≡ true)
first_found p [] rising number first = absurd cc
first_found p (e ∷ es) rising number first = by (first_found p es rising.1 number) (p e.1) refl first
  where
    later_item : (item : Item) → item_at number es ≡ Some item → is_at (nat_cmp number) e.0 ≡ false
    later_item item found = ap is_eq (greater number e.0 (above_found e.0 number item es rising.0 found))

    of_rest : (item : Item) × (item_at number es ≡ Some item) × (p item ≡ true) → (item : Item) × (item_at number (e ∷ es) ≡ Some item) × (p item ≡ true)
    of_rest (item, found, its) = (item, rw (later_item item found) found, its)

    by : (first_number (numbers_where p es) ≡ Some number → (item : Item) × (item_at number es ≡ Some item) × (p item ≡ true))
        → (b : Bool) → p e.1 ≡ b → first_number (cond b (e.0 ∷ numbers_where p es) (numbers_where p es)) ≡ Some number
        → (item : Item) × (item_at number (e ∷ es) ≡ Some item) × (p item ≡ true)
    by rest true said here =
        let is : e.0 ≡ number = cc in
        (e.1, rw (sym is, at_itself e.0) refl, said)
    by rest false said here = of_rest (rest here)

-- an item that is said to be of the subscription is no other's
pub others_stay : (subscription number : ℕ) (es : NumberedItems) (item : Item) → item_at number es ≡ Some item → is_of subscription item ≡ true
    → without_all subscription (remove_entry (is_at (nat_cmp number)) es) ≡ without_all subscription es
others_stay subscription number [] item found own = refl
others_stay subscription number (e ∷ es) item found own = by (is_at (nat_cmp number) e.0) found (others_stay subscription number es item)
  where
    by : (b : Bool) → cond b (Some e.1) (item_at number es) ≡ Some item
        → (item_at number es ≡ Some item → is_of subscription item ≡ true → without_all subscription (remove_entry (is_at (nat_cmp number)) es) ≡ without_all subscription es)
        → without_all subscription (cond b es (e ∷ remove_entry (is_at (nat_cmp number)) es)) ≡ without_all subscription (e ∷ es)
    by true here rest =
        let is : e.1 ≡ item = cc in
        let said : is_of subscription e.1 ≡ true = ap (is_of subscription) is ∙ own in
        rw said refl
    by false here rest = ap (λ (fs : NumberedItems). cond (not (is_of subscription e.1)) (e ∷ fs) fs) (rest here own)

pub none_left : (subscription : ℕ) (es : NumberedItems) → numbers_of subscription es ≡ [] → without_all subscription es ≡ es
none_left subscription [] none = refl
none_left subscription (e ∷ es) none = by (is_of subscription e.1) none (none_left subscription es)
  where
    by : (b : Bool) → cond b (e.0 ∷ numbers_of subscription es) (numbers_of subscription es) ≡ [] → (numbers_of subscription es ≡ [] → without_all subscription es ≡ es)
        → cond (not b) (e ∷ without_all subscription es) (without_all subscription es) ≡ e ∷ es
    by true none rest = absurd cc
    by false none rest = ap (λ (fs : NumberedItems). e ∷ fs) (rest none)

-- ---- after what was seen or taken, of which a part may be left

module _ (made : ℕ) (of_subscription : BTreeMap ℕ (BTreeSet ℕ)) (on_node : BTreeMap NodeId (BTreeSet ℕ)) (items : NumberedItems) (h : IsTable made items of_subscription on_node) where
  pub table_sent : (new : NumberedItems) (n : ℕ) (numbers : List ℕ) → new ≡ (taken_of items n numbers).items → IsTable made new of_subscription on_node
  table_sent new n numbers is = subst (λ (es : NumberedItems). IsTable made es of_subscription on_node) (sym is) (table_taken made of_subscription on_node (nothing_taken items n) numbers h)

  -- whether all of the items gave theirs, or only the first of them
  pub table_after_sending : {T E : Type 0} (r : Result T E) (new : NumberedItems) (n : ℕ) (numbers : List ℕ) → OnOk r (new ≡ (taken_of items n numbers).items) → OnErr r (TakenSome items new n numbers)
      → IsTable made new of_subscription on_node
  table_after_sending (Ok x) new n numbers ok err = table_sent new n numbers ok
  table_after_sending (Err x) new n numbers ok (front, rest, joined, is) = table_sent new n front is
