-- Items keep within the sizes of their queues, and subscriptions within the number of their items, whatever is called.
use Rattle.std.proofs.Common.{◌≡◌, ◌≤◌, ℕ, ◌+◌, ◌-◌, arith, Bool, true, false, cond, List, [], ◌∷◌, ◌++◌, length, take, drop, fold, Option, Some, None, Result, Ok, Err, refl, sym, ◌∙◌, subst, length-append, length-drop}
use Rattle.std.proofs.lemmas.Bool.{eqb-true, eq-eqb, or_parts}
use Rattle.std.proofs.lemmas.List.{length-take}
use Rattle.std.proofs.lemmas.Map.{length-set_value}
use Rattle.std.specs.Prelude.{◌==◌, ◌&&◌, filter, nat_lt, nat_le}
use Rattle.std.specs.BTreeMap.{insert_entry, is_at}
use Rattle.std.specs.List.{AllByRecursion}
use Rattle.std.specs.Map.{remove_entry}
use Rattle.std.specs.Ordering.{nat_cmp, match_ordering}
use Rattle.std.specs.declared.cmp.Ordering.{Ordering}
use Rattle.std.specs.declared.cmp.Ordering.TheVariants.{Less, Equal, Greater}
use Rattle.ua_types.specs.Configuration.{Configuration, IsConfigured}
use Rattle.ua_types.specs.declared.moment.Moment.{Moment}
use Rattle.ua_types.specs.declared.status.Status.{Status}
use Rattle.ua_types.specs.declared.data_value.DataValue.{DataValue}
use Rattle.ua_space.specs.Nodes.{Nodes}
use Rattle.ua_read_write.specs.declared.timestamps.Timestamps.{Timestamps}
use Rattle.ua_read_write.specs.declared.writing.Change.{Change}
use Rattle.ua_subscription_messages.specs.declared.monitored_items.MonitoredItemCreateRequest.{MonitoredItemCreateRequest}
use Rattle.ua_subscription_messages.specs.declared.monitored_items.MonitoredItemModifyRequest.{MonitoredItemModifyRequest}
use Rattle.ua_subscription_messages.specs.declared.monitoring_parameters.MonitoringParameters.{MonitoringParameters}
use Rattle.ua_item_queue.specs.ItemQueue.{entry, marked_front, changed, queue_after}
use Rattle.ua_item_queue.specs.ItemQueue.QueueChange.{Queued, FrontDropped, NewestReplaced, OnlyReplaced, FrontCleared, BackCleared}
use Rattle.ua_item_queue.specs.ItemQueue.QueueMove.{Sample, Send, Resize}
use Rattle.ua_item_queue.specs.declared.entry.Entry.{Entry}
use Rattle.ua_monitored_items.specs.Item.{is_enabled, takes, queued, seen, reading, enabled, with_mode, disabled, moded, revised_size, modified, gave, is_sampling, released_in, with_links, waiting_in}
use Rattle.ua_monitored_items.specs.ItemTables.{NumberedItems, item_at, numbers_where, numbers_of, is_of, with_found, with_item}
use Rattle.ua_monitored_items.specs.Items.{ItemsState, no_items, One, Served, with_one, nothing_served, is_full, create_one, create_judged, created_by, filter_judged, mode_judged, reading_judged, new_item, begun, with_new_item, own_item, modify_one, modified_by, mode_one, moded_by, delete_one, deleted_by, is_of_other, all_served, Visit, visits_of, visited, sampled_items, Taking, nat_least, taken_from, with_taken, nothing_taken}
use Rattle.ua_monitored_items.specs.Kinds.{mode_numbered, trigger_of}
use Rattle.ua_monitored_items.specs.Links.{linked_by, link, after_link}
use Rattle.ua_monitored_items.specs.Moves as item_moves
use Rattle.ua_monitored_items.specs.Moves.{Move, moved, moved_on}
use Rattle.ua_monitored_items.specs.Moves.Move.{Create, Modify, SetMode, Link, Delete, End, Show, TakeNotes}
use Rattle.ua_monitored_items.specs.Releases.{with_release, all_released, sample_releases, modes_release, shown_one, shown}
use Rattle.ua_monitored_items.specs.declared.item.Item.{Item}
use Rattle.ua_monitored_items.specs.declared.kinds.Kind.{Kind}
use Rattle.ua_monitored_items.specs.declared.kinds.Mode.{Mode}
use Rattle.ua_monitored_items.specs.declared.kinds.Trigger.{Trigger}
use Rattle.ua_monitored_items.specs.declared.releases.Release.{Release}
use Rattle.ua_monitored_items.proofs.Releasing.{there_released}
use Rattle.ua_monitored_items.proofs.Tables.{same_of, there_seen, where_set}
use Rattle.ua_read_write.specs.Attributes.{Attributed}
use Rattle.ua_read_write.specs.Reading.{readable}
use Rattle.ua_subscriptions.proofs.Choosing.{either}
use Rattle.ua_subscriptions.proofs.MapEntries.{entries_removed, entries_changed, entries_inserted}
use Rattle.subscription_laws.specs.Bounds.{KeepsWithinSize}
use Rattle.subscription_laws.proofs.Folds.{fold_keeps}
use Rattle.subscription_laws.proofs.Room.{room, length_inserted, length_removed, length_filtered}

-- ---- one queue

marked_length : {V : Type 0} → (q : List (Entry V)) → length (marked_front q) ≡ length q
marked_length [] = refl
marked_length (e ∷ es) = refl

sample_within : {V : Type 0} → (q : List (Entry V)) (size : ℕ) (oldest : Bool) (v : V) → length q ≤ size → 1 ≤ size → length (queue_after q (Sample size oldest v)) ≤ size
sample_within q size oldest v h least = by (nat_lt (length q) size) (nat_lt 1 size) oldest refl
  where
    by : (room large oldest : Bool) → nat_lt (length q) size ≡ room →
        length (fold changed q (cond room (Queued v ∷ []) (cond large (cond oldest (Queued v ∷ FrontDropped ∷ []) (NewestReplaced v ∷ [])) (OnlyReplaced v ∷ [])))) ≤ size
    by true large oldest is = let more = length-append q (entry v false ∷ []) in grind (arith, more, is)
    by false true true is =
        let more = length-append q (entry v false ∷ []) in
        let less = length-drop 1 (q ++ entry v false ∷ []) in
        let same = marked_length (drop 1 (q ++ entry v false ∷ [])) in
        omega (arith, more, less, same, h)
    by false true false is =
        let more = length-append (take (length q - 1) q) (entry v true ∷ []) in
        let less = length-take (length q - 1) q in
        omega (arith, more, less, h, least)
    by false false oldest is = least

send_within : {V : Type 0} → (q : List (Entry V)) (size n : ℕ) → length q ≤ size → length (queue_after q (Send n)) ≤ size
send_within q size n h = let less = length-drop n q in omega (arith, less, h)

resize_within : {V : Type 0} → (q : List (Entry V)) (size : ℕ) (oldest : Bool) → length (queue_after q (Resize size oldest)) ≤ size
resize_within q size oldest = by (nat_le (length q) size) oldest refl
  where
    by : (fits oldest : Bool) → nat_le (length q) size ≡ fits → length (fold changed q (cond fits [] (cond oldest (FrontCleared (length q - size) ∷ []) (BackCleared size ∷ [])))) ≤ size
    by true oldest is = grind (arith, is)
    by false true is = let less = length-drop (length q - size) q in omega (arith, less)
    by false false is = let less = length-take size q in omega (arith, less)

-- ---- one item

module _ (longest : ℕ) where
  abbrev Keeps : Item → Type 0
  Keeps item = KeepsWithinSize longest item

  queued_keeps : (v : DataValue) (item : Item) → Keeps item → Keeps (queued v item)
  queued_keeps v item k = record { waiting = sample_within item.queue.entries item.queue.size item.queue.discard_oldest v k.waiting k.least; least = k.least; most = k.most }

  pub seen_keeps : (v : DataValue) (item : Item) → Keeps item → Keeps (seen v item)
  seen_keeps v item k = either Keeps (takes item v) (queued v item) item (queued_keeps v item k) k

  gave_keeps : (n : ℕ) (item : Item) → Keeps item → Keeps (gave n item)
  gave_keeps n item k = record { waiting = send_within item.queue.entries item.queue.size n k.waiting; least = k.least; most = k.most }

  disabled_keeps : (item : Item) → Keeps item → Keeps (disabled item)
  disabled_keeps item k = record { waiting = omega arith; least = k.least; most = k.most }

  moded_keeps : (nodes : Nodes) (clock : Moment) (mode : Mode) (item : Item) → Keeps item → Keeps (moded nodes clock mode item)
  moded_keeps nodes clock mode item k =
      let on : Keeps (enabled nodes clock item) = either Keeps (is_enabled item.mode) item (queued (reading nodes clock item) item) k (queued_keeps (reading nodes clock item) item k) in
      either Keeps (is_enabled mode) (with_mode mode (enabled nodes clock item)) (disabled item) (record { waiting = on.waiting; least = on.least; most = on.most }) (disabled_keeps item k)

  released_keeps : (own : ℕ) (item : Item) → Keeps item → Keeps (released_in own item)
  released_keeps own item k =
      either Keeps ((item.subscription == own && is_sampling item.mode) && nat_lt 0 (length item.queue.entries)) (record item { released = true }) item (record { waiting = k.waiting; least = k.least; most = k.most }) k

  linked_keeps : (numbers : List ℕ) (item : Item) → Keeps item → Keeps (with_links numbers item)
  linked_keeps numbers item k = record { waiting = k.waiting; least = k.least; most = k.most }

  module _ (some : 1 ≤ longest) where
    revised_least : (asked : ℕ) → 1 ≤ revised_size longest asked
    revised_least asked = by (asked == 0) (nat_le asked longest) refl
      where
        by : (none fits : Bool) → (asked == 0) ≡ none → 1 ≤ cond none 1 (cond fits asked longest)
        by true fits is = omega arith
        by false true is = grind (arith, is)
        by false false is = some

    revised_most : (asked : ℕ) → revised_size longest asked ≤ longest
    revised_most asked = by (asked == 0) (nat_le asked longest) refl
      where
        by : (none fits : Bool) → nat_le asked longest ≡ fits → cond none 1 (cond fits asked longest) ≤ longest
        by true fits is = some
        by false true is = grind (arith, is)
        by false false is = omega arith

    modified_keeps : (timestamps : Timestamps) (trigger : Trigger) (parameters : MonitoringParameters) (item : Item) → Keeps (modified longest timestamps trigger parameters item)
    modified_keeps timestamps trigger parameters item = record {
      waiting = resize_within item.queue.entries (revised_size longest parameters.queue_size) parameters.discard_oldest;
      least = revised_least parameters.queue_size;
      most = revised_most parameters.queue_size;
    }

-- ---- how many items there are

module _ (p : Item → Bool) where
  counted_here : (b : Bool) (number : ℕ) (rest : List ℕ) → length (cond b (number ∷ rest) rest) ≤ length rest + cond b 1 0
  counted_here true number rest = omega arith
  counted_here false number rest = omega arith

  counted_more : (b : Bool) (number : ℕ) (rest : List ℕ) → length rest ≤ length (cond b (number ∷ rest) rest)
  counted_more true number rest = omega arith
  counted_more false number rest = omega arith

  counted_both : (b : Bool) (number k : ℕ) (xs ys : List ℕ) → length xs ≤ length ys + k → length (cond b (number ∷ xs) xs) ≤ length (cond b (number ∷ ys) ys) + k
  counted_both true number k xs ys h = omega (arith, h)
  counted_both false number k xs ys h = h

  -- one more is at most one more, and none where it doesn't count
  put_count : (k : ℕ) (v : Item) (es : NumberedItems) → length (numbers_where p (insert_entry nat_cmp es k v)) ≤ length (numbers_where p es) + cond (p v) 1 0
  put_count k v [] = counted_here (p v) k []
  put_count k v (e ∷ es) = by (nat_cmp k e.0) (put_count k v es)
    where
      by : (o : Ordering) → length (numbers_where p (insert_entry nat_cmp es k v)) ≤ length (numbers_where p es) + cond (p v) 1 0 →
          length (numbers_where p (match_ordering o ((k, v) ∷ e ∷ es) ((e.0, v) ∷ es) (e ∷ insert_entry nat_cmp es k v))) ≤ length (numbers_where p (e ∷ es)) + cond (p v) 1 0
      by Less h = counted_here (p v) k (numbers_where p (e ∷ es))
      by Equal h = let a = counted_here (p v) e.0 (numbers_where p es) in let b = counted_more (p e.1) e.0 (numbers_where p es) in omega (arith, a, b)
      by Greater h = counted_both (p e.1) e.0 (cond (p v) 1 0) (numbers_where p (insert_entry nat_cmp es k v)) (numbers_where p es) h

  gone_count : (test : ℕ → Bool) (es : NumberedItems) → length (numbers_where p (remove_entry test es)) ≤ length (numbers_where p es) + 0
  gone_count test [] = omega arith
  gone_count test (e ∷ es) =
      let more = counted_more (p e.1) e.0 (numbers_where p es) in
      either (λ (fs : NumberedItems). length (numbers_where p fs) ≤ length (numbers_where p (e ∷ es)) + 0) (test e.0) es (e ∷ remove_entry test es) (omega (arith, more))
      (counted_both (p e.1) e.0 0 (numbers_where p (remove_entry test es)) (numbers_where p es) (gone_count test es))

  filtered_count : (test : ℕ × Item → Bool) (es : NumberedItems) → length (numbers_where p (filter test es)) ≤ length (numbers_where p es) + 0
  filtered_count test [] = omega arith
  filtered_count test (e ∷ es) =
      let more = counted_more (p e.1) e.0 (numbers_where p es) in
      let h = filtered_count test es in
      either (λ (fs : NumberedItems). length (numbers_where p fs) ≤ length (numbers_where p (e ∷ es)) + 0) (test e) (e ∷ filter test es) (filter test es)
      (counted_both (p e.1) e.0 0 (numbers_where p (filter test es)) (numbers_where p es) h) (omega (arith, more, h))

-- ---- all items

abbrev EachKeeps : ℕ → ℕ × Item → Type 0
EachKeeps longest e = KeepsWithinSize longest e.1

-- what every call keeps
pub record AreFew (most in_all longest : ℕ) (items : NumberedItems) : Type 0 where
  pub keep : AllByRecursion (EachKeeps longest) items
  pub few : (subscription : ℕ) → length (numbers_of subscription items) ≤ most
  pub few_in_all : length items ≤ in_all

pub record AreBounded (most in_all longest : ℕ) (s : ItemsState) : Type 0 where
  limits : (s.most ≡ most) × (s.most_in_all ≡ in_all) × (s.longest ≡ longest)
  pub items : AreFew most in_all longest s.items

filtered_keep : (longest : ℕ) (test : ℕ × Item → Bool) (es : NumberedItems) → AllByRecursion (EachKeeps longest) es → AllByRecursion (EachKeeps longest) (filter test es)
filtered_keep longest test [] h = tt
filtered_keep longest test (e ∷ es) h = either (AllByRecursion (EachKeeps longest)) (test e) (e ∷ filter test es) (filter test es) (h.0, filtered_keep longest test es h.1) (filtered_keep longest test es h.1)

module _ (most in_all longest : ℕ) (some : 1 ≤ longest) where
  abbrev Few : NumberedItems → Type 0
  Few items = AreFew most in_all longest items

  abbrev Bounded : ItemsState → Type 0
  Bounded s = AreBounded most in_all longest s

  -- something is done with one item
  changed_few : (number : ℕ) (f : Item → Item) → ((item : Item) → KeepsWithinSize longest item → KeepsWithinSize longest (f item)) → ((q : ℕ) (item : Item) → is_of q (f item) ≡ is_of q item) →
      (items : NumberedItems) → Few items → Few (with_item number f items)
  changed_few number f keeps same items h = by (item_at number items) refl
    where
      by : (o : Option Item) → item_at number items ≡ o → Few (with_found number f items o)
      by None e = h
      by (Some v) e = record {
        keep = entries_changed (EachKeeps longest) (is_at (nat_cmp number)) v (f v) (λ key k. keeps v k) items e h.keep;
        few = λ q. subst (λ (ns : List ℕ). length ns ≤ most) (sym (where_set (is_of q) number v (f v) (same q v) items e)) (h.few q);
        few_in_all = let kept = length-set_value (is_at (nat_cmp number)) items (f v) in let before = h.few_in_all in omega (arith, kept, before);
      }

  -- ---- values that were written, and those that a message takes

  visits_few : (visits : List Visit) (items : NumberedItems) → Few items → Few (sampled_items items visits)
  visits_few = fold_keeps Few visited (λ items v h. changed_few v.number (seen v.value) (seen_keeps longest v.value) (λ q item. same_of item (seen v.value item) (there_seen v.value item) q) items h)

  releases_few : (releases : List Release) (items : NumberedItems) → Few items → Few (all_released items releases)
  releases_few =
      fold_keeps Few with_release
      (λ items r h. changed_few r.number (released_in r.subscription) (released_keeps longest r.subscription) (λ q item. same_of item (released_in r.subscription item) (there_released r.subscription item) q) items h)

  shown_few : (changes : List Change) (items : NumberedItems) → Few items → Few (shown items changes)
  shown_few = fold_keeps Few shown_one (λ items c h. let visits = visits_of items c in releases_few (sample_releases items visits) (sampled_items items visits) (visits_few visits items h))

  taken_few : (numbers : List ℕ) (t : Taking) → Few t.items → Few (fold with_taken t numbers).items
  taken_few [] t h = h
  taken_few (n ∷ ns) t h = taken_few ns (with_taken t n) (by (item_at n t.items))
    where
      by : (o : Option Item) → Few (taken_from t n o).items
      by None = h
      by (Some item) = let m = nat_least t.left (waiting_in item) in changed_few n (gave m) (gave_keeps longest m) (λ q x. refl) t.items h

  -- ---- entries of requests

  abbrev OneBounded : {R : Type 0} → One R → Type 0
  OneBounded one = Bounded one.state

  new_keeps : (s : ItemsState) (subscription : ℕ) (timestamps : Timestamps) (request : MonitoredItemCreateRequest) (kind : Kind) → s.longest ≡ longest → KeepsWithinSize longest (new_item s subscription timestamps request kind)
  new_keeps s subscription timestamps request kind is = record {
    waiting = omega arith;
    least = subst (λ (l : ℕ). 1 ≤ revised_size l request.requested_parameters.queue_size) (sym is) (revised_least longest some request.requested_parameters.queue_size);
    most = subst (λ (l : ℕ). revised_size l request.requested_parameters.queue_size ≤ longest) (sym is) (revised_most longest some request.requested_parameters.queue_size);
  }

  begun_keeps : (nodes : Nodes) (clock : Moment) (item : Item) → KeepsWithinSize longest item → KeepsWithinSize longest (begun nodes clock item)
  begun_keeps nodes clock item k = either (KeepsWithinSize longest) (is_enabled item.mode) (queued (reading nodes clock item) item) item (queued_keeps longest (reading nodes clock item) item k) k

  begun_same : (nodes : Nodes) (clock : Moment) (q : ℕ) (item : Item) → is_of q (begun nodes clock item) ≡ is_of q item
  begun_same nodes clock q item = either (λ (x : Item). is_of q x ≡ is_of q item) (is_enabled item.mode) (queued (reading nodes clock item) item) item refl refl

  changed_bounded : (number : ℕ) (f : Item → Item) → ((item : Item) → KeepsWithinSize longest item → KeepsWithinSize longest (f item)) → ((q : ℕ) (item : Item) → is_of q (f item) ≡ is_of q item) →
      (s : ItemsState) → Bounded s → Bounded (record s { items = with_item number f s.items })
  changed_bounded number f keeps same s h = record { limits = h.limits; items = changed_few number f keeps same s.items h.items }

  -- one that may be made is not one too many
  room_filter : (full : Bool) (mode : Mode) (trigger : Option Trigger) (kind : Kind) → filter_judged full mode trigger ≡ Ok kind → full ≡ false
  room_filter full mode None kind e = absurd (cc)
  room_filter true mode (Some trigger) kind e = absurd (cc)
  room_filter false mode (Some trigger) kind e = refl

  room_mode : (full : Bool) (mode : Option Mode) (trigger : Option Trigger) (kind : Kind) → mode_judged full mode trigger ≡ Ok kind → full ≡ false
  room_mode full None trigger kind e = absurd (cc)
  room_mode full (Some mode) trigger kind e = room_filter full mode trigger kind e

  room_reading : (full : Bool) (mode : Option Mode) (trigger : Option Trigger) (r : Result Attributed Status) (kind : Kind) → reading_judged full mode trigger r ≡ Ok kind → full ≡ false
  room_reading full mode trigger (Err code) kind e = absurd (cc)
  room_reading full mode trigger (Ok attribute) kind e = room_mode full mode trigger kind e

  room_judged : (s : ItemsState) (nodes : Nodes) (subscription : ℕ) (request : MonitoredItemCreateRequest) (kind : Kind) → create_judged s nodes subscription request ≡ Ok kind → is_full s subscription ≡ false
  unfolding create_judged
  room_judged s nodes subscription request kind e =
      let what = request.item_to_monitor in
      room_reading (is_full s subscription) (mode_numbered request.monitoring_mode) (trigger_of request.requested_parameters.filter) (readable nodes what.node_id what.attribute_id what.index_range) kind e

  below : (s : ItemsState) (subscription : ℕ) → is_full s subscription ≡ false → length (numbers_of subscription s.items) + 1 ≤ s.most
  below s subscription e = room s.most (length (numbers_of subscription s.items)) (or_parts _ _ e).0

  below_in_all : (s : ItemsState) (subscription : ℕ) → is_full s subscription ≡ false → length s.items + 1 ≤ s.most_in_all
  below_in_all s subscription e = room s.most_in_all (length s.items) (or_parts _ _ (or_parts _ _ e).1).0

  new_bounded : (subscription : ℕ) (item : Item) (s : ItemsState) → KeepsWithinSize longest item → is_of subscription item ≡ true → length (numbers_of subscription s.items) + 1 ≤ most → length s.items + 1 ≤ in_all → Bounded s → Bounded (with_new_item s item)
  new_bounded subscription item s k its left left_in_all h = record {
    limits = h.limits;
    items = record {
      keep = entries_inserted (EachKeeps longest) (s.made + 1) item s.items k h.items.keep;
      few = λ q. few q (is_of q item) refl (put_count (is_of q) (s.made + 1) item s.items);
      few_in_all = let one = length_inserted (s.made + 1) item s.items in omega (arith, one, left_in_all);
    };
  }
    where
      few : (q : ℕ) (b : Bool) → is_of q item ≡ b → length (numbers_of q (insert_entry nat_cmp s.items (s.made + 1) item)) ≤ length (numbers_of q s.items) + cond b 1 0 →
          length (numbers_of q (insert_entry nat_cmp s.items (s.made + 1) item)) ≤ most
      few q false is one = let before = h.items.few q in omega (arith, one, before)
      few q true is one =
          let same : subscription ≡ q = sym (eqb-true item.subscription subscription its) ∙ eqb-true item.subscription q is in
          let here : length (numbers_of q s.items) + 1 ≤ most = subst (λ (i : ℕ). length (numbers_of i s.items) + 1 ≤ most) same left in
          omega (arith, one, here)

  created_bounded : (nodes : Nodes) (clock : Moment) (subscription : ℕ) (timestamps : Timestamps) (s : ItemsState) (request : MonitoredItemCreateRequest) → Bounded s → OneBounded (create_one nodes clock subscription timestamps s request)
  unfolding create_one
  created_bounded nodes clock subscription timestamps s request h = by (create_judged s nodes subscription request) refl
    where
      by : (r : Result Kind Status) → create_judged s nodes subscription request ≡ r → OneBounded (created_by nodes clock subscription timestamps s request r)
      by (Err code) e = h
      by (Ok kind) e =
          let item = new_item s subscription timestamps request kind in
          new_bounded subscription (begun nodes clock item) s (begun_keeps nodes clock item (new_keeps s subscription timestamps request kind h.limits.2))
          (begun_same nodes clock subscription item ∙ eq-eqb subscription subscription refl)
          (subst (λ (m : ℕ). length (numbers_of subscription s.items) + 1 ≤ m) h.limits.0 (below s subscription (room_judged s nodes subscription request kind e)))
          (subst (λ (m : ℕ). length s.items + 1 ≤ m) h.limits.1 (below_in_all s subscription (room_judged s nodes subscription request kind e))) h

  modified_bounded : (subscription : ℕ) (timestamps : Timestamps) (s : ItemsState) (request : MonitoredItemModifyRequest) → Bounded s → OneBounded (modify_one subscription timestamps s request)
  unfolding modify_one
  modified_bounded subscription timestamps s request h = by (own_item s subscription request.monitored_item_id) (trigger_of request.requested_parameters.filter)
    where
      by : (o : Option Item) (trigger : Option Trigger) → OneBounded (modified_by timestamps s request o trigger)
      by None trigger = h
      by (Some item) None = h
      by (Some item) (Some trigger) =
          changed_bounded request.monitored_item_id (modified s.longest timestamps trigger request.requested_parameters)
          (λ x k. subst (λ (l : ℕ). KeepsWithinSize longest (modified l timestamps trigger request.requested_parameters x)) (sym h.limits.2) (modified_keeps longest some timestamps trigger request.requested_parameters x))
          (λ q x. refl) s h

  moded_same : (nodes : Nodes) (clock : Moment) (mode : Mode) (q : ℕ) (item : Item) → is_of q (moded nodes clock mode item) ≡ is_of q item
  moded_same nodes clock mode q item =
      either (λ (x : Item). is_of q x ≡ is_of q item) (is_enabled mode) (with_mode mode (enabled nodes clock item)) (disabled item)
      (either (λ (x : Item). is_of q (with_mode mode x) ≡ is_of q item) (is_enabled item.mode) item (queued (reading nodes clock item) item) refl refl) refl

  moded_bounded : (nodes : Nodes) (clock : Moment) (subscription : ℕ) (mode : Mode) (s : ItemsState) (number : ℕ) → Bounded s → OneBounded (mode_one nodes clock subscription mode s number)
  unfolding mode_one
  moded_bounded nodes clock subscription mode s number h = by (own_item s subscription number)
    where
      by : (o : Option Item) → OneBounded (moded_by nodes clock mode s number o)
      by None = h
      by (Some item) = changed_bounded number (moded nodes clock mode) (moded_keeps longest nodes clock mode) (moded_same nodes clock mode) s h

  linked_bounded : (subscription triggering : ℕ) (add remove : List ℕ) (s : ItemsState) → Bounded s → Bounded (after_link s (link s subscription triggering add remove))
  unfolding link
  linked_bounded subscription triggering add remove s h = by (own_item s subscription triggering)
    where
      by : (o : Option Item) → Bounded (after_link s (linked_by s subscription triggering add remove o))
      by None = h
      by (Some item) = changed_bounded triggering (with_links _) (linked_keeps longest _) (λ q x. refl) s h

  deleted_bounded : (subscription : ℕ) (s : ItemsState) (number : ℕ) → Bounded s → OneBounded (delete_one subscription s number)
  unfolding delete_one
  deleted_bounded subscription s number h = by (own_item s subscription number)
    where
      by : (o : Option Item) → OneBounded (deleted_by s number o)
      by None = h
      by (Some item) = record {
        limits = h.limits;
        items = record {
          keep = entries_removed (EachKeeps longest) (is_at (nat_cmp number)) s.items h.items.keep;
          few = λ q. let less = gone_count (is_of q) (is_at (nat_cmp number)) s.items in let before = h.items.few q in omega (arith, less, before);
          few_in_all = let less = length_removed (is_at (nat_cmp number)) s.items in let before = h.items.few_in_all in omega (arith, less, before);
        };
      }

  served_bounded : {A R : Type 0} → (serve : ItemsState → A → One R) → ((s : ItemsState) (x : A) → Bounded s → Bounded (serve s x).state) → (xs : List A) (before : Served R) → Bounded before.state → Bounded (fold (with_one serve) before xs).state
  served_bounded serve one [] before h = h
  served_bounded serve one (x ∷ xs) before h = served_bounded serve one xs (with_one serve before x) (one before.state x h)

  -- ---- any calls

  move_bounded : (s : ItemsState) (m : Move) → Bounded s → Bounded (moved s m).state
  move_bounded s (Create nodes clock subscription timestamps requests) h =
      served_bounded (create_one nodes clock subscription timestamps) (λ t x k. created_bounded nodes clock subscription timestamps t x k) requests (nothing_served s) h
  move_bounded s (Modify subscription timestamps requests) h = served_bounded (modify_one subscription timestamps) (λ t x k. modified_bounded subscription timestamps t x k) requests (nothing_served s) h
  move_bounded s (SetMode nodes clock subscription mode numbers) h =
      let moded = served_bounded (mode_one nodes clock subscription mode) (λ t x k. moded_bounded nodes clock subscription mode t x k) numbers (nothing_served s) h in
      record { limits = moded.limits; items = releases_few (modes_release s subscription mode numbers) (all_served (mode_one nodes clock subscription mode) s numbers).state.items moded.items }
  move_bounded s (Link subscription triggering add remove) h = linked_bounded subscription triggering add remove s h
  move_bounded s (Delete subscription numbers) h = served_bounded (delete_one subscription) (λ t x k. deleted_bounded subscription t x k) numbers (nothing_served s) h
  move_bounded s (End subscription) h = record {
    limits = h.limits;
    items = record {
      keep = filtered_keep longest (is_of_other subscription) s.items h.items.keep;
      few = λ q. let less = filtered_count (is_of q) (is_of_other subscription) s.items in let before = h.items.few q in omega (arith, less, before);
      few_in_all = let less = length_filtered (is_of_other subscription) s.items in let before = h.items.few_in_all in omega (arith, less, before);
    };
  }
  move_bounded s (Show changes) h = record { limits = h.limits; items = shown_few changes s.items h.items }
  move_bounded s (TakeNotes subscription n) h = record { limits = h.limits; items = taken_few (numbers_of subscription s.items) (nothing_taken s.items n) h.items }

pub items_bounded : (config : Configuration) → IsConfigured config → (moves : List Move) → AreBounded config.items config.items_in_all config.queue (item_moves.run config moves).state
items_bounded config is moves =
    fold_keeps (λ (before : item_moves.Moved). AreBounded config.items config.items_in_all config.queue before.state) moved_on (λ before m h. move_bounded config.items config.items_in_all config.queue is.queue.0 before.state m h) moves (record { state = no_items config; queue_moves = [] })
    (record { limits = (refl, refl, refl); items = record { keep = tt; few = λ q. omega arith; few_in_all = omega arith } })
