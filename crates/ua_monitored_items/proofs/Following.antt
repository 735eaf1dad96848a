-- Each item's queue follows its moves.
use Rattle.std.proofs.Common.{◌≡◌, ◌≢◌, ℕ, ◌+◌, ◌<◌, arith, Bool, true, false, cond, List, [], ◌∷◌, ◌++◌, Option, Some, None, refl, sym, ap, subst, ◌∙◌}
use Rattle.std.proofs.lemmas.Bool.{false≢true, eqb-true, eq-eqb}
use Rattle.std.proofs.lemmas.List.Sums.{fold-append}
use Rattle.std.specs.Prelude.{◌==◌, fold}
use Rattle.std.specs.BTreeMap.{insert_entry, is_at}
use Rattle.std.specs.Map.{set_value, remove_entry}
use Rattle.std.specs.Ordering.{nat_cmp}
use Rattle.std.specs.declared.cmp.Ordering.TheVariants.{Greater}
use Rattle.collections.proofs.NumberMaps.{same_number, told_apart}
use Rattle.ua_types.specs.declared.data_value.DataValue.{DataValue}
use Rattle.ua_item_queue.specs.ItemQueue.{QueueMove, queue_after}
use Rattle.ua_item_queue.specs.ItemQueue.QueueMove.{Clear}
use Rattle.ua_item_queue.specs.declared.entry.Entry.{Entry}
use Rattle.ua_monitored_items.specs.ItemTables.{NumberedItems, item_at, with_found, with_item, AreWithin, AreAbove, AreRising}
use Rattle.ua_monitored_items.specs.Items.{ItemQueueMove, queue_moves_on}
use Rattle.ua_monitored_items.specs.Moves.{queue_moves_of, queue_in, queue_at}
use Rattle.ua_monitored_items.specs.declared.item.Item.{Item}
use Rattle.ua_monitored_items.proofs.Tables.{greater, at_itself, above_found}

abbrev pub Follows : NumberedItems → NumberedItems → List ItemQueueMove → Type 0
Follows before after queue_moves = (n : ℕ) → queue_at n after ≡ fold queue_after (queue_at n before) (queue_moves_of n queue_moves)

pub follows_none : (items : NumberedItems) → Follows items items []
follows_none items n = refl

queue_moves_append : (n : ℕ) (ds es : List ItemQueueMove) → queue_moves_of n (ds ++ es) ≡ queue_moves_of n ds ++ queue_moves_of n es
queue_moves_append n [] es = refl
queue_moves_append n (d ∷ ds) es = by (d.number == n) (queue_moves_append n ds es)
  where
    by : (b : Bool) → queue_moves_of n (ds ++ es) ≡ queue_moves_of n ds ++ queue_moves_of n es
        → cond b (d.queue_move ∷ queue_moves_of n (ds ++ es)) (queue_moves_of n (ds ++ es)) ≡ cond b (d.queue_move ∷ queue_moves_of n ds) (queue_moves_of n ds) ++ queue_moves_of n es
    by true rest = ap (λ (xs : List (QueueMove DataValue)). d.queue_move ∷ xs) rest
    by false rest = rest

pub queue_moves_join : (n : ℕ) (ds es : List ItemQueueMove) → queue_moves_of n (ds ++ es) ≡ queue_moves_of n ds ++ queue_moves_of n es
queue_moves_join = queue_moves_append

pub follows_then : (a b c : NumberedItems) (ds es : List ItemQueueMove) → Follows a b ds → Follows b c es → Follows a c (ds ++ es)
follows_then a b c ds es f g n =
    g n ∙ ap (λ (q : List (Entry DataValue)). fold queue_after q (queue_moves_of n es)) (f n)
    ∙ sym (fold-append queue_after (queue_at n a) (queue_moves_of n ds) (queue_moves_of n es))
    ∙ ap (fold queue_after (queue_at n a)) (sym (queue_moves_append n ds es))

-- ---- one item's moves

pub queue_moves_at : (k n : ℕ) (ds : List (QueueMove DataValue)) (b : Bool) → (k == n) ≡ b → queue_moves_of n (queue_moves_on k ds) ≡ cond b ds []
queue_moves_at k n [] true e = refl
queue_moves_at k n [] false e = refl
queue_moves_at k n (d ∷ ds) true e = rw e (ap (λ (xs : List (QueueMove DataValue)). d ∷ xs) (queue_moves_at k n ds true e))
queue_moves_at k n (d ∷ ds) false e = rw e (queue_moves_at k n ds false e)

itself : (k : ℕ) → (k == k) ≡ true
itself k = eq-eqb k k refl

others : (k n : ℕ) → (k == n) ≡ false → k ≢ n
others k n e same = false≢true (sym e ∙ eq-eqb k n same)

apart : (q k : ℕ) → q ≢ k → is_at (nat_cmp q) k ≡ false
apart q k other = told_apart q k (nat_cmp q k) refl other

-- what holds of the item that changed, and of the others, holds of all
at_all : (before after : NumberedItems) (k : ℕ) (ds : List (QueueMove DataValue))
    → queue_at k after ≡ fold queue_after (queue_at k before) ds → ((n : ℕ) → n ≢ k → item_at n after ≡ item_at n before)
    → Follows before after (queue_moves_on k ds)
at_all before after k ds here elsewhere n = by (k == n) refl
  where
    by : (b : Bool) → (k == n) ≡ b → queue_at n after ≡ fold queue_after (queue_at n before) (queue_moves_of n (queue_moves_on k ds))
    by true e =
        let same : k ≡ n = eqb-true k n e in
        let P : ℕ → Type 0 = λ m. queue_at m after ≡ fold queue_after (queue_at m before) (queue_moves_of m (queue_moves_on k ds)) in
        subst P same (rw (queue_moves_at k k ds true (itself k)) here)
    by false e =
        let other : n ≢ k = λ same. others k n e (sym same) in
        rw (queue_moves_at k n ds false e) (ap queue_in (elsewhere n other))

-- ---- look-ups

pub set_here : (k : ℕ) (v w : Item) (es : NumberedItems) → item_at k es ≡ Some v → item_at k (set_value (is_at (nat_cmp k)) es w) ≡ Some w
set_here k v w [] found = absurd cc
set_here k v w (e ∷ es) found = by (is_at (nat_cmp k) e.0) refl found (set_here k v w es)
  where
    by : (b : Bool) → is_at (nat_cmp k) e.0 ≡ b → cond b (Some e.1) (item_at k es) ≡ Some v → (item_at k es ≡ Some v → item_at k (set_value (is_at (nat_cmp k)) es w) ≡ Some w)
        → item_at k (cond b ((e.0, w) ∷ es) (e ∷ set_value (is_at (nat_cmp k)) es w)) ≡ Some w
    by true is here rest = rw is refl
    by false is here rest = rw is (rest here)

pub set_other : (k n : ℕ) (w : Item) → n ≢ k → (es : NumberedItems) → item_at n (set_value (is_at (nat_cmp k)) es w) ≡ item_at n es
set_other k n w other [] = refl
set_other k n w other (e ∷ es) = by (is_at (nat_cmp k) e.0) refl (set_other k n w other es)
  where
    by : (b : Bool) → is_at (nat_cmp k) e.0 ≡ b → item_at n (set_value (is_at (nat_cmp k)) es w) ≡ item_at n es
        → item_at n (cond b ((e.0, w) ∷ es) (e ∷ set_value (is_at (nat_cmp k)) es w)) ≡ item_at n (e ∷ es)
    by true is rest =
        let key : k ≡ e.0 = same_number k e.0 is in
        let not_it : is_at (nat_cmp n) e.0 ≡ false = apart n e.0 (λ same. other (same ∙ sym key)) in
        rw not_it refl
    by false is rest = ap (λ (o : Option Item). cond (is_at (nat_cmp n) e.0) (Some e.1) o) rest

pub put_here : (made k : ℕ) (v : Item) → made < k → (es : NumberedItems) → AreWithin made es → item_at k (insert_entry nat_cmp es k v) ≡ Some v
put_here made k v above [] within = rw (at_itself k) refl
put_here made k v above (e ∷ es) within =
    let behind : nat_cmp k e.0 ≡ Greater = greater k e.0 (omega (arith, above, within.0)) in
    let rest = put_here made k v above es within.1 in
    rw behind (rw behind rest)

pub put_other : (made k n : ℕ) (v : Item) → made < k → n ≢ k → (es : NumberedItems) → AreWithin made es → item_at n (insert_entry nat_cmp es k v) ≡ item_at n es
put_other made k n v above other [] within = rw (apart n k other) refl
put_other made k n v above other (e ∷ es) within =
    let behind : nat_cmp k e.0 ≡ Greater = greater k e.0 (omega (arith, above, within.0)) in
    let rest = put_other made k n v above other es within.1 in
    rw behind (ap (λ (o : Option Item). cond (is_at (nat_cmp n) e.0) (Some e.1) o) rest)

pub none_yet : (made k : ℕ) → made < k → (es : NumberedItems) → AreWithin made es → item_at k es ≡ None
none_yet made k above [] within = refl
none_yet made k above (e ∷ es) within =
    let behind : nat_cmp k e.0 ≡ Greater = greater k e.0 (omega (arith, above, within.0)) in
    rw behind (none_yet made k above es within.1)

pub above_none : (k : ℕ) (es : NumberedItems) → AreAbove k es → item_at k es ≡ None
above_none k es above = by (item_at k es) refl
  where
    by : (found : Option Item) → item_at k es ≡ found → found ≡ None
    by None e = refl
    by (Some item) e = absurd (omega (arith, above_found k k item es above e))

pub gone_here : (k : ℕ) (es : NumberedItems) → AreRising es → item_at k (remove_entry (is_at (nat_cmp k)) es) ≡ None
gone_here k [] rising = refl
gone_here k (e ∷ es) rising = by (is_at (nat_cmp k) e.0) refl (gone_here k es rising.1)
  where
    by : (b : Bool) → is_at (nat_cmp k) e.0 ≡ b → item_at k (remove_entry (is_at (nat_cmp k)) es) ≡ None → item_at k (cond b es (e ∷ remove_entry (is_at (nat_cmp k)) es)) ≡ None
    by true is rest =
        let P : ℕ → Type 0 = λ m. AreAbove m es in
        above_none k es (subst P (sym (same_number k e.0 is)) rising.0)
    by false is rest = rw is rest

pub gone_other : (k n : ℕ) → n ≢ k → (es : NumberedItems) → item_at n (remove_entry (is_at (nat_cmp k)) es) ≡ item_at n es
gone_other k n other [] = refl
gone_other k n other (e ∷ es) = by (is_at (nat_cmp k) e.0) refl (gone_other k n other es)
  where
    by : (b : Bool) → is_at (nat_cmp k) e.0 ≡ b → item_at n (remove_entry (is_at (nat_cmp k)) es) ≡ item_at n es → item_at n (cond b es (e ∷ remove_entry (is_at (nat_cmp k)) es)) ≡ item_at n (e ∷ es)
    by true is rest =
        let key : k ≡ e.0 = same_number k e.0 is in
        let not_it : is_at (nat_cmp n) e.0 ≡ false = apart n e.0 (λ same. other (same ∙ sym key)) in
        rw not_it refl
    by false is rest = ap (λ (o : Option Item). cond (is_at (nat_cmp n) e.0) (Some e.1) o) rest

-- ---- what is done with one item

pub follows_change : (items : NumberedItems) (k : ℕ) (change : Item → Item) (item : Item) (ds : List (QueueMove DataValue)) → item_at k items ≡ Some item
    → (change item).queue.entries ≡ fold queue_after item.queue.entries ds → Follows items (with_item k change items) (queue_moves_on k ds)
follows_change items k change item ds found is =
    let after : with_item k change items ≡ set_value (is_at (nat_cmp k)) items (change item) = ap (with_found k change items) found in
    let P : NumberedItems → Type 0 = λ es. Follows items es (queue_moves_on k ds) in
    subst P (sym after)
    (at_all items (set_value (is_at (nat_cmp k)) items (change item)) k ds
    (ap queue_in (set_here k item (change item) items found) ∙ is ∙ ap (λ (o : Option Item). fold queue_after (queue_in o) ds) (sym found))
    (λ n other. set_other k n (change item) other items))

pub follows_new : (made : ℕ) (items : NumberedItems) (item : Item) (ds : List (QueueMove DataValue)) → AreWithin made items → item.queue.entries ≡ fold queue_after [] ds
    → Follows items (insert_entry nat_cmp items (made + 1) item) (queue_moves_on (made + 1) ds)
follows_new made items item ds within is =
    at_all items (insert_entry nat_cmp items (made + 1) item) (made + 1) ds
    (ap queue_in (put_here made (made + 1) item (omega arith) items within) ∙ is ∙ ap (λ (o : Option Item). fold queue_after (queue_in o) ds) (sym (none_yet made (made + 1) (omega arith) items within)))
    (λ n other. put_other made (made + 1) n item (omega arith) other items within)

pub follows_removed : (items : NumberedItems) (k : ℕ) → AreRising items → Follows items (remove_entry (is_at (nat_cmp k)) items) (queue_moves_on k (Clear ∷ []))
follows_removed items k rising =
    at_all items (remove_entry (is_at (nat_cmp k)) items) k (Clear ∷ []) (ap queue_in (gone_here k items rising)) (λ n other. gone_other k n other items)
