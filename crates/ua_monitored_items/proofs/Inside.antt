-- What is linked to an item was made before it was linked, and is of the item's own subscription.
use Rattle.std.proofs.Common.{◌≡◌, ◌≢◌, ℕ, ◌+◌, ◌<◌, ◌≤◌, arith, All, Bool, true, false, cond, List, [], ◌∷◌, length, Option, Some, None, Result, Ok, Err, refl, sym, ap, subst, ◌∙◌}
use Rattle.std.proofs.lemmas.Bool.{false≢true, eqb-true, eq-eqb}
use Rattle.std.proofs.lemmas.List.Elements.{All-nil, All-cons, All-head, All-tail, All-weaker}
use Rattle.std.proofs.lemmas.Map.Views.{All-insert_key, All-remove_key}
use Rattle.std.specs.Prelude.{◌==◌, ◌&&◌, filter, fold, is_some, nat_lt, not}
use Rattle.std.specs.BTreeMap.{insert_entry, is_at}
use Rattle.std.specs.BTreeSet.{insert_key}
use Rattle.std.specs.Map.{set_value, remove_entry}
use Rattle.std.specs.Ordering.{nat_cmp}
use Rattle.collections.proofs.NumberMaps.{same_number}
use Rattle.ua_types.specs.declared.moment.Moment.{Moment}
use Rattle.ua_types.specs.declared.data_value.DataValue.{DataValue}
use Rattle.ua_space.specs.Nodes.{Nodes}
use Rattle.ua_read_write.specs.declared.timestamps.Timestamps.{Timestamps}
use Rattle.ua_read_write.specs.declared.writing.Change.{Change}
use Rattle.ua_subscription_messages.specs.declared.monitored_items.MonitoredItemCreateRequest.{MonitoredItemCreateRequest}
use Rattle.ua_subscription_messages.specs.declared.monitored_items.MonitoredItemModifyRequest.{MonitoredItemModifyRequest}
use Rattle.ua_types.specs.declared.status.Status.{Status}
use Rattle.ua_monitored_items.specs.Kinds.{trigger_of}
use Rattle.ua_monitored_items.specs.Item.{is_enabled, takes, queued, seen, reading, with_mode, disabled, modified, moded, gave, waiting_in, is_sampling, released_in, with_links}
use Rattle.ua_monitored_items.specs.ItemTables.{NumberedItems, item_at, numbers_of, with_found, with_item, AreWithin, AreRising}
use Rattle.ua_monitored_items.specs.Items.{ItemsState, no_items, One, Served, with_one, nothing_served, all_served, create_one, create_judged, created_by, new_item, begun, own_if, own_item, modify_one, modified_by, mode_one, moded_by, delete_one, deleted_by, Visit, visits_of, visited, sampled_items, Taking, nat_least, taken_from, with_taken, nothing_taken}
use Rattle.ua_monitored_items.specs.Links.{Linking, unlinked, is_own, linked, in_order, linked_yet, linked_by, link, after_link}
use Rattle.ua_monitored_items.specs.Moves.{Move, Moved, moved, moved_on, LinksStayInside}
use Rattle.ua_monitored_items.specs.Moves.Move.{Create, Modify, SetMode, Link, Delete, End, Show, TakeNotes}
use Rattle.ua_monitored_items.specs.Releases.{with_release, all_released, sample_releases, modes_release, shown_one, shown}
use Rattle.ua_monitored_items.specs.declared.item.Item.{Item}
use Rattle.ua_monitored_items.specs.declared.kinds.Kind.{Kind}
use Rattle.ua_monitored_items.specs.declared.kinds.Mode.{Mode}
use Rattle.ua_monitored_items.specs.declared.kinds.Trigger.{Trigger}
use Rattle.ua_monitored_items.specs.declared.releases.Release.{Release}
use Rattle.ua_monitored_items.proofs.Apart.{own_found, was_in}
use Rattle.ua_monitored_items.proofs.Following.{set_here, set_other, put_here, put_other, gone_here, gone_other}
use Rattle.ua_monitored_items.proofs.Runs.{IsSound, IsServed, own_is, created_served, modified_served, moded_served, deleted_served, move_step}

-- a number was given, and its item, where it lives yet, is of this subscription
abbrev Leads : ℕ → ℕ → NumberedItems → ℕ → Type 0
Leads subscription made items n = (0 < n) × (n ≤ made) × ((item : Item) → item_at n items ≡ Some item → item.subscription ≡ subscription)

abbrev IsInside : ℕ → NumberedItems → ℕ → Item → Type 0
IsInside made items n item = (0 < n) × All (Leads item.subscription made items) item.links

-- what every call keeps
abbrev Inside : ℕ → NumberedItems → Type 0
Inside made items = (n : ℕ) (item : Item) → item_at n items ≡ Some item → IsInside made items n item

-- ---- an item in the place of another of its subscription

module _ (made k : ℕ) (items : NumberedItems) (u w : Item) (found : item_at k items ≡ Some u) (same : w.subscription ≡ u.subscription) where
  leads_set : (subscription n : ℕ) → Leads subscription made items n → Leads subscription made (set_value (is_at (nat_cmp k)) items w) n
  leads_set subscription n h = (h.0, h.1, λ v at_n. by (n == k) refl v at_n)
    where
      by : (b : Bool) → (n == k) ≡ b → (v : Item) → item_at n (set_value (is_at (nat_cmp k)) items w) ≡ Some v → v.subscription ≡ subscription
      by true e v at_n =
          let is : n ≡ k = eqb-true n k e in
          let here : Some w ≡ Some v = sym (set_here k u w items found) ∙ ap (λ (m : ℕ). item_at m (set_value (is_at (nat_cmp k)) items w)) (sym is) ∙ at_n in
          let it : v ≡ w = cc in
          ap (λ (x : Item). x.subscription) it ∙ same ∙ h.2 u (ap (λ (m : ℕ). item_at m items) is ∙ found)
      by false e v at_n = h.2 v (sym (set_other k n w (λ is. false≢true (sym e ∙ eq-eqb n k is)) items) ∙ at_n)

  inside_set : All (Leads w.subscription made items) w.links → Inside made items → Inside made (set_value (is_at (nat_cmp k)) items w)
  inside_set links h n v at_n = by (n == k) refl
    where
      more : (x : Item) → All (Leads x.subscription made items) x.links → All (Leads x.subscription made (set_value (is_at (nat_cmp k)) items w)) x.links
      more x = All-weaker (Leads x.subscription made items) (Leads x.subscription made (set_value (is_at (nat_cmp k)) items w)) (leads_set x.subscription) x.links

      by : (b : Bool) → (n == k) ≡ b → IsInside made (set_value (is_at (nat_cmp k)) items w) n v
      by true e =
          let is : n ≡ k = eqb-true n k e in
          let here : Some w ≡ Some v = sym (set_here k u w items found) ∙ ap (λ (m : ℕ). item_at m (set_value (is_at (nat_cmp k)) items w)) (sym is) ∙ at_n in
          let it : w ≡ v = cc in
          (subst (λ (m : ℕ). 0 < m) (sym is) (h k u found).0, subst (λ (x : Item). All (Leads x.subscription made (set_value (is_at (nat_cmp k)) items w)) x.links) it (more w links))
      by false e =
          let old = h n v (sym (set_other k n w (λ is. false≢true (sym e ∙ eq-eqb n k is)) items) ∙ at_n) in
          (old.0, more v old.1)

-- what is done with an item leaves it its subscription and its links
record StaysLinked (item new : Item) : Type 0 where
  subscription : new.subscription ≡ item.subscription
  links : new.links ≡ item.links

inside_changed : (made k : ℕ) (change : Item → Item) (items : NumberedItems) → ((item : Item) → StaysLinked item (change item)) → Inside made items → Inside made (with_item k change items)
inside_changed made k change items stays h = by (item_at k items) refl
  where
    by : (found : Option Item) → item_at k items ≡ found → Inside made (with_found k change items found)
    by None e = h
    by (Some u) e =
        let s = stays u in
        let led : All (Leads (change u).subscription made items) u.links = subst (λ (q : ℕ). All (Leads q made items) u.links) (sym s.subscription) (h k u e).1 in
        inside_set made k items u (change u) e s.subscription (subst (All (Leads (change u).subscription made items)) (sym s.links) led) h

-- ---- items that go

inside_less : (made : ℕ) (before after : NumberedItems) → ((n : ℕ) (item : Item) → item_at n after ≡ Some item → item_at n before ≡ Some item) → Inside made before → Inside made after
inside_less made before after was h n item at_n =
    let old = h n item (was n item at_n) in
    (old.0, All-weaker (Leads item.subscription made before) (Leads item.subscription made after) (λ m l. (l.0, l.1, λ u at_m. l.2 u (was m u at_m))) item.links old.1)

inside_removed : (made k : ℕ) (items : NumberedItems) → AreRising items → Inside made items → Inside made (remove_entry (is_at (nat_cmp k)) items)
inside_removed made k items rising = inside_less made items (remove_entry (is_at (nat_cmp k)) items) was
  where
    was : (n : ℕ) (item : Item) → item_at n (remove_entry (is_at (nat_cmp k)) items) ≡ Some item → item_at n items ≡ Some item
    was n item at_n = by (n == k) refl
      where
        by : (b : Bool) → (n == k) ≡ b → item_at n items ≡ Some item
        by true e =
            let is : n ≡ k = eqb-true n k e in
            let clash : None ≡ Some item = sym (gone_here k items rising) ∙ ap (λ (m : ℕ). item_at m (remove_entry (is_at (nat_cmp k)) items)) (sym is) ∙ at_n in
            absurd cc
        by false e = sym (gone_other k n (λ is. false≢true (sym e ∙ eq-eqb n k is)) items) ∙ at_n

-- ---- one that is new leads nowhere, and nothing leads to it

module _ (made : ℕ) (items : NumberedItems) (new : Item) (within : AreWithin made items) where
  put_apart : (n : ℕ) → n ≢ made + 1 → item_at n (insert_entry nat_cmp items (made + 1) new) ≡ item_at n items
  put_apart n other = put_other made (made + 1) n new (omega arith) other items within

  leads_put : (subscription n : ℕ) → Leads subscription made items n → Leads subscription (made + 1) (insert_entry nat_cmp items (made + 1) new) n
  leads_put subscription n h =
      let le = h.1 in
      let other : n ≢ made + 1 = λ is. omega (arith, le, is) in
      (h.0, omega (arith, le), λ v at_n. h.2 v (sym (put_apart n other) ∙ at_n))

  inside_put : new.links ≡ [] → Inside made items → Inside (made + 1) (insert_entry nat_cmp items (made + 1) new)
  inside_put none h n v at_n = by (n == made + 1) refl
    where
      by : (b : Bool) → (n == made + 1) ≡ b → IsInside (made + 1) (insert_entry nat_cmp items (made + 1) new) n v
      by true e =
          let is : n ≡ made + 1 = eqb-true n (made + 1) e in
          let here : Some new ≡ Some v = sym (put_here made (made + 1) new (omega arith) items within) ∙ ap (λ (m : ℕ). item_at m (insert_entry nat_cmp items (made + 1) new)) (sym is) ∙ at_n in
          let it : v ≡ new = cc in
          let empty : v.links ≡ [] = ap (λ (x : Item). x.links) it ∙ none in
          let P = Leads v.subscription (made + 1) (insert_entry nat_cmp items (made + 1) new) in
          (omega (arith, is), subst (All P) (sym empty) (All-nil P))
      by false e =
          let old = h n v (sym (put_apart n (λ is. false≢true (sym e ∙ eq-eqb n (made + 1) is))) ∙ at_n) in
          (old.0, All-weaker (Leads v.subscription made items) (Leads v.subscription (made + 1) (insert_entry nat_cmp items (made + 1) new)) (leads_put v.subscription) v.links old.1)

-- ---- what is done with an item, but for its links

stays_queued : (v : DataValue) (item : Item) → StaysLinked item (queued v item)
stays_queued v item = record { subscription = refl; links = refl }

stays_seen : (v : DataValue) (item : Item) → StaysLinked item (seen v item)
stays_seen v item = by (takes item v)
  where
    by : (b : Bool) → StaysLinked item (cond b (queued v item) item)
    by true = stays_queued v item
    by false = record { subscription = refl; links = refl }

stays_moded : (nodes : Nodes) (clock : Moment) (mode : Mode) (item : Item) → StaysLinked item (moded nodes clock mode item)
stays_moded nodes clock mode item = by (is_enabled mode) (is_enabled item.mode)
  where
    by : (b c : Bool) → StaysLinked item (cond b (with_mode mode (cond c item (queued (reading nodes clock item) item))) (disabled item))
    by true true = record { subscription = refl; links = refl }
    by true false = record { subscription = refl; links = refl }
    by false c = record { subscription = refl; links = refl }

stays_released : (subscription : ℕ) (item : Item) → StaysLinked item (released_in subscription item)
stays_released subscription item = by ((item.subscription == subscription && is_sampling item.mode) && nat_lt 0 (length item.queue.entries))
  where
    by : (b : Bool) → StaysLinked item (cond b (record item { released = true }) item)
    by true = record { subscription = refl; links = refl }
    by false = record { subscription = refl; links = refl }

-- ---- the entries of a request

abbrev IsIn : ItemsState → Type 0
IsIn s = Inside s.made s.items

created_inside : (nodes : Nodes) (clock : Moment) (subscription : ℕ) (timestamps : Timestamps) (s : ItemsState) (request : MonitoredItemCreateRequest) → IsSound s.made s.items → IsIn s
    → IsIn (create_one nodes clock subscription timestamps s request).state
unfolding create_one
created_inside nodes clock subscription timestamps s request h inside = by (create_judged s nodes subscription request)
  where
    linked_none : (item : Item) → item.links ≡ [] → (b : Bool) → (cond b (queued (reading nodes clock item) item) item).links ≡ []
    linked_none item none true = none
    linked_none item none false = none

    by : (verdict : Result Kind Status) → IsIn (created_by nodes clock subscription timestamps s request verdict).state
    by (Err code) = inside
    by (Ok kind) =
        let item = new_item s subscription timestamps request kind in
        inside_put s.made s.items (begun nodes clock item) h.within (linked_none item refl (is_enabled kind.mode)) inside

modified_inside : (subscription : ℕ) (timestamps : Timestamps) (s : ItemsState) (request : MonitoredItemModifyRequest) → IsIn s → IsIn (modify_one subscription timestamps s request).state
unfolding modify_one
modified_inside subscription timestamps s request inside = by (own_item s subscription request.monitored_item_id) (trigger_of request.requested_parameters.filter)
  where
    by : (own : Option Item) (trigger : Option Trigger) → IsIn (modified_by timestamps s request own trigger).state
    by None trigger = inside
    by (Some item) None = inside
    by (Some item) (Some trigger) =
        inside_changed s.made request.monitored_item_id (modified s.longest timestamps trigger request.requested_parameters) s.items (λ u. record { subscription = refl; links = refl }) inside

moded_inside : (nodes : Nodes) (clock : Moment) (subscription : ℕ) (mode : Mode) (s : ItemsState) (number : ℕ) → IsIn s → IsIn (mode_one nodes clock subscription mode s number).state
unfolding mode_one
moded_inside nodes clock subscription mode s number inside = by (own_item s subscription number)
  where
    by : (own : Option Item) → IsIn (moded_by nodes clock mode s number own).state
    by None = inside
    by (Some item) = inside_changed s.made number (moded nodes clock mode) s.items (stays_moded nodes clock mode) inside

deleted_inside : (subscription : ℕ) (s : ItemsState) (number : ℕ) → IsSound s.made s.items → IsIn s → IsIn (delete_one subscription s number).state
unfolding delete_one
deleted_inside subscription s number h inside = by (own_item s subscription number)
  where
    by : (own : Option Item) → IsIn (deleted_by s number own).state
    by None = inside
    by (Some item) = inside_removed s.made number s.items h.rising inside

module _ {A R : Type 0} (serve : ItemsState → A → One R) (served : (s : ItemsState) (x : A) → IsSound s.made s.items → IsServed s (serve s x))
    (each : (s : ItemsState) (x : A) → IsSound s.made s.items → IsIn s → IsIn (serve s x).state) where
  all_inside : (before : Served R) (xs : List A) → IsSound before.state.made before.state.items → IsIn before.state → IsIn (fold (with_one serve) before xs).state
  all_inside before [] h inside = inside
  all_inside before (x ∷ xs) h inside = all_inside (with_one serve before x) xs (served before.state x h).sound (each before.state x h inside)

-- ---- samples, releases and notes

releases_inside : (made : ℕ) (items : NumberedItems) (rs : List Release) → Inside made items → Inside made (all_released items rs)
releases_inside made items [] inside = inside
releases_inside made items (r ∷ rs) inside = releases_inside made (with_release items r) rs (inside_changed made r.number (released_in r.subscription) items (stays_released r.subscription) inside)

visits_inside : (made : ℕ) (items : NumberedItems) (vs : List Visit) → Inside made items → Inside made (sampled_items items vs)
visits_inside made items [] inside = inside
visits_inside made items (v ∷ vs) inside = visits_inside made (visited items v) vs (inside_changed made v.number (seen v.value) items (stays_seen v.value) inside)

shown_inside : (made : ℕ) (items : NumberedItems) (cs : List Change) → Inside made items → Inside made (shown items cs)
shown_inside made items [] inside = inside
shown_inside made items (c ∷ cs) inside =
    let vs = visits_of items c in
    shown_inside made (shown_one items c) cs (releases_inside made (sampled_items items vs) (sample_releases items vs) (visits_inside made items vs inside))

taken_inside : (made : ℕ) (t : Taking) (ns : List ℕ) → Inside made t.items → Inside made (fold with_taken t ns).items
taken_inside made t [] inside = inside
taken_inside made t (n ∷ ns) inside = taken_inside made (with_taken t n) ns (by (item_at n t.items))
  where
    by : (found : Option Item) → Inside made (taken_from t n found).items
    by None = inside
    by (Some item) = inside_changed made n (gave (nat_least t.left (waiting_in item))) t.items (λ u. record { subscription = refl; links = refl }) inside

-- ---- links

given_at : (made : ℕ) (items : NumberedItems) → AreWithin made items → (n : ℕ) (item : Item) → item_at n items ≡ Some item → n ≤ made
given_at made [] within n item found = absurd cc
given_at made (e ∷ es) within n item found = by (is_at (nat_cmp n) e.0) refl found (given_at made es within.1 n item)
  where
    by : (b : Bool) → is_at (nat_cmp n) e.0 ≡ b → cond b (Some e.1) (item_at n es) ≡ Some item → (item_at n es ≡ Some item → n ≤ made) → n ≤ made
    by true is here rest = subst (λ (m : ℕ). m ≤ made) (sym (same_number n e.0 is)) within.0
    by false is here rest = rest here

-- an item of a subscription may be linked to others of it
own_leads : (s : ItemsState) (subscription n : ℕ) → IsSound s.made s.items → IsIn s → is_own s subscription n ≡ true → Leads subscription s.made s.items n
own_leads s subscription n h inside own = by (item_at n s.items) refl own
  where
    its : (u : Item) (b : Bool) → (u.subscription == subscription) ≡ b → is_some (cond b (Some u) None) ≡ true → u.subscription ≡ subscription
    its u true e own = eqb-true u.subscription subscription e
    its u false e own = absurd cc

    by : (found : Option Item) → item_at n s.items ≡ found → is_some (own_if subscription found) ≡ true → Leads subscription s.made s.items n
    by None e own = absurd cc
    by (Some u) e own = ((inside n u e).0, given_at s.made s.items h.within n u e, led)
      where
        led : (v : Item) → item_at n s.items ≡ Some v → v.subscription ≡ subscription
        led v at_n =
            let both : Some u ≡ Some v = sym e ∙ at_n in
            let it : v ≡ u = cc in
            ap (λ (x : Item). x.subscription) it ∙ its u (u.subscription == subscription) refl own

-- the numbers that a request leaves are of such items
module _ (s : ItemsState) (subscription triggering : ℕ) (P : ℕ → Type 0) (own : (n : ℕ) → is_own s subscription n ≡ true → P n) where
  own_passes : (ns : List ℕ) → All P (filter (is_own s subscription) ns)
  own_passes [] = All-nil P
  own_passes (n ∷ ns) = by (is_own s subscription n) refl (own_passes ns)
    where
      by : (b : Bool) → is_own s subscription n ≡ b → All P (filter (is_own s subscription) ns) → All P (cond b (n ∷ filter (is_own s subscription) ns) (filter (is_own s subscription) ns))
      by true e rest = All-cons P n (filter (is_own s subscription) ns) (own n e) rest
      by false e rest = rest

  put_all : (ns ms : List ℕ) → All P ns → All P ms → All P (fold (insert_key nat_cmp) ms ns)
  put_all [] ms h k = k
  put_all (n ∷ ns) ms h k = put_all ns (insert_key nat_cmp ms n) (All-tail P n ns h) (All-insert_key nat_cmp n P ms k (All-head P n ns h))

  yet_passes : (item : Item) → All P (in_order (filter (is_own s subscription) item.links))
  yet_passes item = put_all (filter (is_own s subscription) item.links) [] (own_passes item.links) (All-nil P)

  yet_linked : (item : Item) → All P item.links → (add remove : List ℕ) → All P (linked_yet s subscription item add remove)
  yet_linked item held [] [] = held
  yet_linked item held [] (n ∷ ns) = yet_passes item
  yet_linked item held (n ∷ ns) remove = yet_passes item

  less_linked : (ns : List ℕ) (start : Linking) → All P start.numbers → All P (fold unlinked start ns).numbers
  less_linked [] start h = h
  less_linked (n ∷ ns) start h = less_linked ns (unlinked start n) (All-remove_key (is_at (nat_cmp n)) P start.numbers h)

  more_linked : (ns : List ℕ) (start : Linking) → All P start.numbers → All P (fold (linked s subscription triggering) start ns).numbers
  more_linked [] start h = h
  more_linked (n ∷ ns) start h = more_linked ns (linked s subscription triggering start n) (by (is_own s subscription n) (not (n == triggering)) refl)
    where
      by : (b c : Bool) → is_own s subscription n ≡ b → All P (cond (b && c) (insert_key nat_cmp start.numbers n) start.numbers)
      by true true e = All-insert_key nat_cmp n P start.numbers h (own n e)
      by true false e = h
      by false c e = h

  all_linked : (add remove : List ℕ) (item : Item) → All P item.links
      → All P (fold (linked s subscription triggering) (record { statuses = []; numbers = (fold unlinked (record { statuses = []; numbers = linked_yet s subscription item add remove }) remove).numbers }) add).numbers
  all_linked add remove item held =
      let yet : Linking = record { statuses = []; numbers = linked_yet s subscription item add remove } in
      more_linked add (record { statuses = []; numbers = (fold unlinked yet remove).numbers }) (less_linked remove yet (yet_linked item held add remove))

linked_inside : (s : ItemsState) (subscription triggering : ℕ) (add remove : List ℕ) → IsSound s.made s.items → IsIn s → IsIn (after_link s (link s subscription triggering add remove))
unfolding link
linked_inside s subscription triggering add remove h inside = by (own_item s subscription triggering) refl
  where
    by : (own : Option Item) → own_item s subscription triggering ≡ own → IsIn (after_link s (linked_by s subscription triggering add remove own))
    by None e = inside
    by (Some item) e =
        let numbers = (fold (linked s subscription triggering) (record { statuses = []; numbers = (fold unlinked (record { statuses = []; numbers = linked_yet s subscription item add remove }) remove).numbers }) add).numbers in
        let found : item_at triggering s.items ≡ Some item = own_is subscription (item_at triggering s.items) item e in
        let its : item.subscription ≡ subscription = eqb-true item.subscription subscription (own_found subscription (item_at triggering s.items) item e item found) in
        let held : All (Leads subscription s.made s.items) item.links = subst (λ (q : ℕ). All (Leads q s.made s.items) item.links) its (inside triggering item found).1 in
        let led : All (Leads subscription s.made s.items) numbers = all_linked s subscription triggering (Leads subscription s.made s.items) (λ n own. own_leads s subscription n h inside own) add remove item held in
        subst (λ (es : NumberedItems). Inside s.made es) (sym (ap (with_found triggering (with_links numbers) s.items) found))
        (inside_set s.made triggering s.items item (with_links numbers item) found refl (subst (λ (q : ℕ). All (Leads q s.made s.items) numbers) (sym its) led) inside)

-- ---- any calls

move_inside : (s : ItemsState) (m : Move) → IsSound s.made s.items → IsIn s → IsIn (moved s m).state
move_inside s (Create nodes clock subscription timestamps requests) h inside =
    all_inside (create_one nodes clock subscription timestamps) (λ t x g. created_served nodes clock subscription timestamps t x g) (λ t x g i. created_inside nodes clock subscription timestamps t x g i)
    (nothing_served s) requests h inside
move_inside s (Modify subscription timestamps requests) h inside =
    all_inside (modify_one subscription timestamps) (λ t x g. modified_served subscription timestamps t x g) (λ t x g i. modified_inside subscription timestamps t x i) (nothing_served s) requests h inside
move_inside s (SetMode nodes clock subscription mode numbers) h inside =
    let served = all_served (mode_one nodes clock subscription mode) s numbers in
    releases_inside served.state.made served.state.items (modes_release s subscription mode numbers)
    (all_inside (mode_one nodes clock subscription mode) (λ t x g. moded_served nodes clock subscription mode t x g) (λ t x g i. moded_inside nodes clock subscription mode t x i) (nothing_served s) numbers h inside)
move_inside s (Link subscription triggering add remove) h inside = linked_inside s subscription triggering add remove h inside
move_inside s (Delete subscription numbers) h inside =
    all_inside (delete_one subscription) (λ t x g. deleted_served subscription t x g) (λ t x g i. deleted_inside subscription t x g i) (nothing_served s) numbers h inside
move_inside s (End subscription) h inside = inside_less s.made s.items _ (was_in subscription s.items h.rising) inside
move_inside s (Show changed) h inside = shown_inside s.made s.items changed inside
move_inside s (TakeNotes subscription n) h inside = taken_inside s.made (nothing_taken s.items n) (numbers_of subscription s.items) inside

run_inside : (before : Moved) (ms : List Move) → IsSound before.state.made before.state.items → IsIn before.state → IsIn (fold moved_on before ms).state
run_inside before [] h inside = inside
run_inside before (m ∷ ms) h inside = run_inside (moved_on before m) ms (move_step before.state m h).sound (move_inside before.state m h inside)

none_inside : (made : ℕ) → Inside made []
none_inside made n item found = absurd cc

pub links_stay_inside : LinksStayInside
links_stay_inside config moves number item found =
    (run_inside (record { state = no_items config; queue_moves = [] }) moves (record { within = tt; rising = tt }) (none_inside 0) number item found).1
