-- How many of each subscription's items have a value to send.
use Rattle.std.proofs.Common.{◌≡◌, ℕ, ◌+◌, ◌-◌, ◌≤◌, arith, Bool, true, false, cond, List, [], ◌∷◌, length, Option, Some, None, refl, sym, ap, subst, ◌∙◌}
use Rattle.std.proofs.lemmas.Bool.{eq-eqb}
use Rattle.std.specs.Prelude.{◌==◌, ◌&&◌, ⊤, nat_lt}
use Rattle.std.specs.BTreeMap as tree
use Rattle.std.specs.BTreeMap.{BTreeMap, is_at, insert_entry}
use Rattle.std.specs.Map.{set_value, remove_entry}
use Rattle.std.specs.Option.{option_map}
use Rattle.std.specs.Ordering.{nat_cmp, is_eq, match_ordering}
use Rattle.std.specs.declared.cmp.Ordering.{Ordering}
use Rattle.std.specs.declared.cmp.Ordering.TheVariants.{Less, Equal, Greater}
use Rattle.ua_monitored_items.specs.ItemTables.{NumberedItems, item_at, is_of, numbers_of, with_found, with_item, AreAbove, AreRising}
use Rattle.ua_monitored_items.specs.Items.{any_waits, Taking, nat_least, taken_from, with_taken}
use Rattle.ua_monitored_items.specs.Item.{gave}
use Rattle.ua_monitored_items.specs.Taking.{waiting_at}
use Rattle.ua_monitored_items.specs.Counts.{has_value, one_if, with_value, IsCountOf, AreCountsBy, AreCounts, recount_by, count_after, AreRecountedBy, AreRecounted, CanCountBy, CanCount, AreHeld, or_zero}
use Rattle.ua_monitored_items.specs.declared.item.Item.{Item}
use Rattle.ua_monitored_items.specs.declared.tally.Recount.{Recount}
use Rattle.ua_monitored_items.proofs.Tables.{greater, at_itself, where_set}

one_most : (b : Bool) → one_if b ≤ 1
one_most true = omega arith
one_most false = omega arith

module _ (q : ℕ) where
  abbrev counted_in : Item → ℕ
  counted_in item = one_if (is_of q item && has_value item)

  -- another item in the place of one
  value_set : (number : ℕ) (v w : Item) (es : NumberedItems) → item_at number es ≡ Some v → with_value q (set_value (is_at (nat_cmp number)) es w) + counted_in v ≡ with_value q es + counted_in w
  value_set number v w [] found = absurd cc
  value_set number v w (e ∷ es) found = by (is_at (nat_cmp number) e.0) found (value_set number v w es)
    where
      by : (b : Bool) → cond b (Some e.1) (item_at number es) ≡ Some v → (item_at number es ≡ Some v → with_value q (set_value (is_at (nat_cmp number)) es w) + counted_in v ≡ with_value q es + counted_in w)
          → with_value q (cond b ((e.0, w) ∷ es) (e ∷ set_value (is_at (nat_cmp number)) es w)) + counted_in v ≡ with_value q (e ∷ es) + counted_in w
      by true here more =
          let is : e.1 ≡ v = cc in
          let same : counted_in e.1 ≡ counted_in v = ap (λ (i : Item). counted_in i) is in
          omega (arith, same)
      by false here more = let rest = more here in omega (arith, rest)

  value_most : (es : NumberedItems) → with_value q es ≤ length es
  value_most [] = omega arith
  value_most (e ∷ es) =
      let one = one_most (is_of q e.1 && has_value e.1) in
      let rest = value_most es in
      omega (arith, one, rest)

  -- an item that has a value is among those that are counted, and one without is not
  value_with : (number : ℕ) (v : Item) (es : NumberedItems) → item_at number es ≡ Some v → (counted_in v ≤ with_value q es) × (with_value q es + 1 ≤ length es + counted_in v)
  value_with number v [] found = absurd cc
  value_with number v (e ∷ es) found = by (is_at (nat_cmp number) e.0) found (value_with number v es)
    where
      one : counted_in e.1 ≤ 1
      one = one_most (is_of q e.1 && has_value e.1)

      by : (b : Bool) → cond b (Some e.1) (item_at number es) ≡ Some v → (item_at number es ≡ Some v → (counted_in v ≤ with_value q es) × (with_value q es + 1 ≤ length es + counted_in v))
          → (counted_in v ≤ with_value q (e ∷ es)) × (with_value q (e ∷ es) + 1 ≤ length (e ∷ es) + counted_in v)
      by true here more =
          let is : e.1 ≡ v = cc in
          let same : counted_in e.1 ≡ counted_in v = ap (λ (i : Item). counted_in i) is in
          let rest = value_most es in
          (omega (arith, same), omega (arith, same, rest))
      by false here more =
          let rest = more here in
          (omega (arith, rest.0), omega (arith, one, rest.1))

of_itself : (n : ℕ) → (n == n) ≡ true
of_itself n = eq-eqb n n refl

-- an item is in the count of its own subscription
counted_own : (item : Item) → one_if (is_of item.subscription item && has_value item) ≡ one_if (has_value item)
counted_own item = ap (λ (b : Bool). one_if (b && has_value item)) (of_itself item.subscription)

-- an item that has a value before and after, or neither, changes no count
pub counted_alike : (counts : BTreeMap ℕ ℕ) (recount : Recount) → recount.had ≡ recount.has → AreRecounted counts counts recount
counted_alike counts recount alike q = by (recount.subscription == q) (tree.get nat_cmp counts q)
  where
    by : (b : Bool) (found : Option ℕ) → found ≡ cond b (option_map (count_after recount) found) found
    by false found = refl
    by true None = refl
    by true (Some n) =
        let same : one_if recount.had ≡ one_if recount.has = ap (λ (b : Bool). one_if b) alike in
        let none : n ≡ (n + one_if recount.has) - one_if recount.had = omega (arith, same) in
        ap (λ (m : ℕ). Some m) none

-- ---- counts, once one of them followed an item

module _ (counts : ℕ → Option ℕ) (items : NumberedItems) (h : AreCountsBy counts items) (recount : Recount) where
  can_count_in : (most : ℕ) → one_if recount.had ≤ with_value recount.subscription items → with_value recount.subscription items + one_if recount.has ≤ most + one_if recount.had → CanCountBy counts recount most
  can_count_in most some room n there =
      let counted : n ≡ with_value recount.subscription items = subst (IsCountOf recount.subscription items) there (h recount.subscription) in
      (omega (arith, counted, some), omega (arith, counted, room))

  module _ (after : NumberedItems) (new : ℕ → Option ℕ) (re : AreRecountedBy counts new recount) where
    counts_after : ((q : ℕ) → with_value q after + one_if (recount.subscription == q && recount.had) ≡ with_value q items + one_if (recount.subscription == q && recount.has))
        → ((q : ℕ) → counts q ≡ None → numbers_of q items ≡ [] → numbers_of q after ≡ []) → AreCountsBy new after
    counts_after moved none q = subst (IsCountOf q after) (sym (re q)) (each (counts q) refl (h q))
      where
        each : (o : Option ℕ) → counts q ≡ o → IsCountOf q items o → IsCountOf q after (cond (recount.subscription == q) (option_map (count_after recount) o) o)
        each None e empty = by (recount.subscription == q)
          where
            by : (b : Bool) → IsCountOf q after (cond b None None)
            by true = none q e empty
            by false = none q e empty
        each (Some n) e counted = by (recount.subscription == q) (moved q)
          where
            by : (b : Bool) → with_value q after + one_if (b && recount.had) ≡ with_value q items + one_if (b && recount.has) → IsCountOf q after (cond b (Some (count_after recount n)) (Some n))
            by true m = omega (arith, m, counted)
            by false m = omega (arith, m, counted)

-- ---- an item is changed

recount_is : (change : Item → Item) (v : Item) (recount : Recount) → Some recount ≡ recount_by change (Some v) → recount ≡ record { subscription = v.subscription; had = has_value v; has = has_value (change v) }
recount_is change v recount is = cc

module _ (counts : ℕ → Option ℕ) (items : NumberedItems) (h : AreCountsBy counts items) (number : ℕ) (change : Item → Item) (recount : Recount) (is : Some recount ≡ recount_by change (item_at number items)) where
  pub can_count_by : (most : ℕ) → most ≡ length items → CanCountBy counts recount most
  can_count_by most len = by (item_at number items) refl is
    where
      by : (found : Option Item) → item_at number items ≡ found → Some recount ≡ recount_by change found → CanCountBy counts recount most
      by None e its = absurd cc
      by (Some v) e its =
          let is_that = recount_is change v recount its in
          let sub : recount.subscription ≡ v.subscription = ap (λ (t : Recount). t.subscription) is_that in
          let was : one_if recount.had ≡ one_if (has_value v) = ap (λ (t : Recount). one_if t.had) is_that in
          let count : with_value recount.subscription items ≡ with_value v.subscription items = ap (λ (q : ℕ). with_value q items) sub in
          let among = value_with v.subscription number v items e in
          let own = counted_own v in
          let one = one_most recount.has in
          can_count_in counts items h recount most (omega (arith, was, count, among.0, own)) (omega (arith, was, count, among.1, own, one, len))

  pub counts_changed_by : ((item : Item) → (change item).subscription ≡ item.subscription) → (after : NumberedItems) → after ≡ with_item number change items → (new : ℕ → Option ℕ) → AreRecountedBy counts new recount → AreCountsBy new after
  counts_changed_by stays after made new re = by (item_at number items) refl is
    where
      by : (found : Option Item) → item_at number items ≡ found → Some recount ≡ recount_by change found → AreCountsBy new after
      by None e its = absurd cc
      by (Some v) e its = subst (AreCountsBy new) (sym (made ∙ ap (with_found number change items) e)) (counts_after counts items h recount next new re moved none)
        where
          next : NumberedItems
          next = set_value (is_at (nat_cmp number)) items (change v)

          is_that : recount ≡ record { subscription = v.subscription; had = has_value v; has = has_value (change v) }
          is_that = recount_is change v recount its

          moved : (q : ℕ) → with_value q next + one_if (recount.subscription == q && recount.had) ≡ with_value q items + one_if (recount.subscription == q && recount.has)
          moved q =
              let set = value_set q number v (change v) items e in
              let was : one_if (recount.subscription == q && recount.had) ≡ one_if (is_of q v && has_value v) = ap (λ (t : Recount). one_if (t.subscription == q && t.had)) is_that in
              let now : one_if (recount.subscription == q && recount.has) ≡ one_if (v.subscription == q && has_value (change v)) = ap (λ (t : Recount). one_if (t.subscription == q && t.has)) is_that in
              let same : one_if (is_of q (change v) && has_value (change v)) ≡ one_if (v.subscription == q && has_value (change v)) = ap (λ (n : ℕ). one_if (n == q && has_value (change v))) (stays v) in
              omega (arith, set, was, now, same)

          none : (q : ℕ) → counts q ≡ None → numbers_of q items ≡ [] → numbers_of q next ≡ []
          none q absent empty = where_set (is_of q) number v (change v) (ap (λ (n : ℕ). n == q) (stays v)) items e ∙ empty

module _ (counts : BTreeMap ℕ ℕ) (items : NumberedItems) (h : AreCounts counts items) (number : ℕ) (change : Item → Item) (recount : Recount) (is : Some recount ≡ recount_by change (item_at number items)) where
  pub can_count : (most : ℕ) → most ≡ length items → CanCount counts recount most
  can_count most len = can_count_by (tree.get nat_cmp counts) items h number change recount is most len

  pub counts_changed : ((item : Item) → (change item).subscription ≡ item.subscription) → (after : NumberedItems) → after ≡ with_item number change items → (new : BTreeMap ℕ ℕ) → AreRecounted counts new recount → AreCounts new after
  counts_changed stays after made new re = counts_changed_by (tree.get nat_cmp counts) items h number change recount is stays after made (tree.get nat_cmp new) re

-- counts that are the same
pub counts_alike : (counts new : ℕ → Option ℕ) (items : NumberedItems) → ((q : ℕ) → new q ≡ counts q) → AreCountsBy counts items → AreCountsBy new items
counts_alike counts new items same h q = subst (IsCountOf q items) (sym (same q)) (h q)

-- ---- an item is put in

not_one : (b : Bool) → one_if (b && false) ≡ 0
not_one true = refl
not_one false = refl

-- no item has this number yet
module _ (number : ℕ) (w : Item) where
  value_put : (q : ℕ) (es : NumberedItems) → item_at number es ≡ None → with_value q (insert_entry nat_cmp es number w) ≡ with_value q es + one_if (is_of q w && has_value w)
  value_put q [] free = omega arith
  value_put q (e ∷ es) free = by (nat_cmp number e.0) free (value_put q es)
    where
      by : (o : Ordering) → cond (is_eq o) (Some e.1) (item_at number es) ≡ None → (item_at number es ≡ None → with_value q (insert_entry nat_cmp es number w) ≡ with_value q es + one_if (is_of q w && has_value w))
          → with_value q (match_ordering o ((number, w) ∷ e ∷ es) ((e.0, w) ∷ es) (e ∷ insert_entry nat_cmp es number w)) ≡ with_value q (e ∷ es) + one_if (is_of q w && has_value w)
      by Less free more = omega arith
      by Equal free more = absurd cc
      by Greater free more = let rest = more free in omega (arith, rest)

  none_put : (q : ℕ) → is_of q w ≡ false → (es : NumberedItems) → item_at number es ≡ None → numbers_of q es ≡ [] → numbers_of q (insert_entry nat_cmp es number w) ≡ []
  none_put q not_its [] free empty = rw not_its refl
  none_put q not_its (e ∷ es) free empty = both (nat_cmp number e.0) ∙ by (nat_cmp number e.0) free (is_of q e.1) empty (none_put q not_its es)
    where
      rest : List ℕ
      rest = numbers_of q es

      both : (o : Ordering) → numbers_of q (match_ordering o ((number, w) ∷ e ∷ es) ((e.0, w) ∷ es) (e ∷ insert_entry nat_cmp es number w))
          ≡ match_ordering o (cond (is_of q w) (number ∷ cond (is_of q e.1) (e.0 ∷ rest) rest) (cond (is_of q e.1) (e.0 ∷ rest) rest)) (cond (is_of q w) (e.0 ∷ rest) rest)
          (cond (is_of q e.1) (e.0 ∷ numbers_of q (insert_entry nat_cmp es number w)) (numbers_of q (insert_entry nat_cmp es number w)))
      both Less = refl
      both Equal = refl
      both Greater = refl

      by : (o : Ordering) → cond (is_eq o) (Some e.1) (item_at number es) ≡ None → (c : Bool) → cond c (e.0 ∷ rest) rest ≡ []
          → (item_at number es ≡ None → rest ≡ [] → numbers_of q (insert_entry nat_cmp es number w) ≡ [])
          → match_ordering o (cond (is_of q w) (number ∷ cond c (e.0 ∷ rest) rest) (cond c (e.0 ∷ rest) rest)) (cond (is_of q w) (e.0 ∷ rest) rest)
          (cond c (e.0 ∷ numbers_of q (insert_entry nat_cmp es number w)) (numbers_of q (insert_entry nat_cmp es number w))) ≡ []
      by o free true empty more = absurd cc
      by Less free false empty more = rw not_its empty
      by Equal free false empty more = absurd cc
      by Greater free false empty more = more free empty

none_value : (q : ℕ) (es : NumberedItems) → numbers_of q es ≡ [] → with_value q es ≡ 0
none_value q [] empty = refl
none_value q (e ∷ es) empty = by (is_of q e.1) empty (none_value q es)
  where
    by : (b : Bool) → cond b (e.0 ∷ numbers_of q es) (numbers_of q es) ≡ [] → (numbers_of q es ≡ [] → with_value q es ≡ 0) → one_if (b && has_value e.1) + with_value q es ≡ 0
    by true empty rest = absurd cc
    by false empty rest = let none = rest empty in omega (arith, none)

module _ (counts : BTreeMap ℕ ℕ) (items : NumberedItems) (h : AreCounts counts items) (subscription : ℕ) (held : BTreeMap ℕ ℕ) (holds : AreHeld counts held subscription) where
  pub held_counts : AreCounts held items
  held_counts q = subst (IsCountOf q items) (sym (holds q)) (by (subscription == q) (tree.get nat_cmp counts q) (h q))
    where
      by : (b : Bool) (o : Option ℕ) → IsCountOf q items o → IsCountOf q items (cond b (Some (or_zero o)) o)
      by true None empty = sym (none_value q items empty)
      by true (Some n) counted = counted
      by false o counted = counted

  module _ (number : ℕ) (item : Item) (own : subscription ≡ item.subscription) (has : Bool) (has_is : has ≡ has_value item) (free : item_at number items ≡ None) (after : NumberedItems) (put : after ≡ insert_entry nat_cmp items number item) where
    recount : Recount
    recount = record { subscription = subscription; had = false; has = has }

    now : (q : ℕ) → with_value q after ≡ with_value q items + one_if (subscription == q && has)
    now q = ap (with_value q) put ∙ value_put number item q items free ∙ rw (own, has_is) refl

    pub can_count_more : (most : ℕ) → most ≡ length after → CanCount held (record { subscription = subscription; had = false; has = has }) most
    unfolding recount
    can_count_more most len =
        let most_of = value_most subscription after in
        let own_is : one_if (subscription == subscription && has) ≡ one_if has = ap (λ (b : Bool). one_if (b && has)) (of_itself subscription) in
        let all = now subscription in
        can_count_in (tree.get nat_cmp held) items held_counts recount most (omega arith) (omega (arith, most_of, own_is, all, len))

    pub counts_put : (new : BTreeMap ℕ ℕ) → AreRecounted held new (record { subscription = subscription; had = false; has = has }) → AreCounts new after
    unfolding recount
    counts_put new re = counts_after (tree.get nat_cmp held) items held_counts recount after (tree.get nat_cmp new) re moved none
      where
        moved : (q : ℕ) → with_value q after + one_if (subscription == q && false) ≡ with_value q items + one_if (subscription == q && has)
        moved q =
            let not = not_one (subscription == q) in
            let all = now q in
            omega (arith, not, all)

        none : (q : ℕ) → tree.get nat_cmp held q ≡ None → numbers_of q items ≡ [] → numbers_of q after ≡ []
        none q absent empty = by (subscription == q) refl (sym (holds q) ∙ absent)
          where
            by : (b : Bool) → (subscription == q) ≡ b → cond b (Some (or_zero (tree.get nat_cmp counts q))) (tree.get nat_cmp counts q) ≡ None → numbers_of q after ≡ []
            by true e absent = absurd cc
            by false e absent = ap (numbers_of q) put ∙ none_put number item q (ap (λ (n : ℕ). n == q) (sym own) ∙ e) items free empty

-- ---- an item is taken out

module _ (number : ℕ) (v : Item) where
  value_removed : (q : ℕ) (es : NumberedItems) → item_at number es ≡ Some v → with_value q (remove_entry (is_at (nat_cmp number)) es) + one_if (is_of q v && has_value v) ≡ with_value q es
  value_removed q [] found = absurd cc
  value_removed q (e ∷ es) found = by (is_at (nat_cmp number) e.0) found (value_removed q es)
    where
      by : (b : Bool) → cond b (Some e.1) (item_at number es) ≡ Some v → (item_at number es ≡ Some v → with_value q (remove_entry (is_at (nat_cmp number)) es) + one_if (is_of q v && has_value v) ≡ with_value q es)
          → with_value q (cond b es (e ∷ remove_entry (is_at (nat_cmp number)) es)) + one_if (is_of q v && has_value v) ≡ with_value q (e ∷ es)
      by true here more =
          let is : e.1 ≡ v = cc in
          let same : one_if (is_of q e.1 && has_value e.1) ≡ one_if (is_of q v && has_value v) = ap (λ (i : Item). one_if (is_of q i && has_value i)) is in
          omega (arith, same)
      by false here more = let rest = more here in omega (arith, rest)

none_removed : (number q : ℕ) (es : NumberedItems) → numbers_of q es ≡ [] → numbers_of q (remove_entry (is_at (nat_cmp number)) es) ≡ []
none_removed number q [] empty = refl
none_removed number q (e ∷ es) empty = both (is_at (nat_cmp number) e.0) ∙ by (is_at (nat_cmp number) e.0) (is_of q e.1) empty (none_removed number q es)
  where
    rest : List ℕ
    rest = numbers_of q es

    left : List ℕ
    left = numbers_of q (remove_entry (is_at (nat_cmp number)) es)

    by : (b c : Bool) → cond c (e.0 ∷ rest) rest ≡ [] → (rest ≡ [] → left ≡ []) → cond b rest (cond c (e.0 ∷ left) left) ≡ []
    by b true empty more = absurd cc
    by true false empty more = empty
    by false false empty more = more empty

    both : (b : Bool) → numbers_of q (cond b es (e ∷ remove_entry (is_at (nat_cmp number)) es)) ≡ cond b rest (cond (is_of q e.1) (e.0 ∷ left) left)
    both true = refl
    both false = refl

module _ (counts : BTreeMap ℕ ℕ) (items : NumberedItems) (h : AreCounts counts items) (number : ℕ) (item : Item) (found : item_at number items ≡ Some item) (had : Bool) (had_is : had ≡ has_value item) where
  recount_out : Recount
  recount_out = record { subscription = item.subscription; had = had; has = false }

  pub can_count_less : (most : ℕ) → most ≡ length items → CanCount counts (record { subscription = item.subscription; had = had; has = false }) most
  unfolding recount_out
  can_count_less most len =
      let among = value_with item.subscription number item items found in
      let own : one_if (is_of item.subscription item && has_value item) ≡ one_if had = counted_own item ∙ ap one_if (sym had_is) in
      let all = value_most item.subscription items in
      can_count_in (tree.get nat_cmp counts) items h recount_out most (omega (arith, among.0, own)) (omega (arith, all, len))

  pub counts_removed : (after : NumberedItems) → after ≡ remove_entry (is_at (nat_cmp number)) items → (new : BTreeMap ℕ ℕ) → AreRecounted counts new (record { subscription = item.subscription; had = had; has = false }) → AreCounts new after
  unfolding recount_out
  counts_removed after out new re = counts_after (tree.get nat_cmp counts) items h recount_out after (tree.get nat_cmp new) re moved none
    where
      moved : (q : ℕ) → with_value q after + one_if (item.subscription == q && had) ≡ with_value q items + one_if (item.subscription == q && false)
      moved q =
          let less = value_removed number item q items found in
          let after_is : with_value q after ≡ with_value q (remove_entry (is_at (nat_cmp number)) items) = ap (with_value q) out in
          let same : one_if (item.subscription == q && had) ≡ one_if (is_of q item && has_value item) = ap (λ (b : Bool). one_if (item.subscription == q && b)) had_is in
          let not = not_one (item.subscription == q) in
          omega (arith, less, after_is, same, not)

      none : (q : ℕ) → tree.get nat_cmp counts q ≡ None → numbers_of q items ≡ [] → numbers_of q after ≡ []
      none q absent empty = ap (numbers_of q) out ∙ none_removed number q items empty

-- ---- whether one of a subscription's items has a value to send

abbrev AreFound : NumberedItems → NumberedItems → Type 0
AreFound all [] = ⊤
AreFound all (e ∷ es) = (item_at e.0 all ≡ Some e.1) × AreFound all es

found_more : (e : ℕ × Item) (all es : NumberedItems) → AreAbove e.0 es → AreFound all es → AreFound (e ∷ all) es
found_more e all [] above found = tt
found_more e all (f ∷ fs) above found = (rw (greater f.0 e.0 above.0) found.0, found_more e all fs above.1 found.1)

all_found : (es : NumberedItems) → AreRising es → AreFound es es
all_found [] rising = tt
all_found (e ∷ es) rising = (rw (at_itself e.0) refl, found_more e es es rising.0 (all_found es rising.1))

any_in : (q : ℕ) (all es : NumberedItems) → AreFound all es → nat_lt 0 (with_value q es) ≡ any_waits all (numbers_of q es)
any_in q all [] found = refl
any_in q all (e ∷ es) found = by (is_of q e.1) (has_value e.1) refl (any_in q all es found.1)
  where
    none : 0 + with_value q es ≡ with_value q es
    none = omega arith

    some : nat_lt 0 (1 + with_value q es) ≡ true
    some = grind arith

    by : (b c : Bool) → has_value e.1 ≡ c → nat_lt 0 (with_value q es) ≡ any_waits all (numbers_of q es)
        → nat_lt 0 (one_if (b && c) + with_value q es) ≡ any_waits all (cond b (e.0 ∷ numbers_of q es) (numbers_of q es))
    by true true w rest = some ∙ rw (found.0, w) refl
    by true false w rest = ap (nat_lt 0) none ∙ rest ∙ rw (found.0, w) refl
    by false c w rest = ap (nat_lt 0) none ∙ rest

pub any_value : (q : ℕ) (items : NumberedItems) → AreRising items → nat_lt 0 (with_value q items) ≡ any_waits items (numbers_of q items)
any_value q items rising = any_in q items items (all_found items rising)

-- what an item gives is a change of it
pub taken_is : (before : Taking) (number : ℕ) → (with_taken before number).items ≡ with_item number (gave (nat_least before.left (waiting_at (item_at number before.items)))) before.items
taken_is before number = by (item_at number before.items) refl
  where
    by : (found : Option Item) → item_at number before.items ≡ found → (taken_from before number found).items ≡ with_item number (gave (nat_least before.left (waiting_at found))) before.items
    by None e = sym (ap (with_found number (gave (nat_least before.left 0)) before.items) e)
    by (Some item) e = refl
