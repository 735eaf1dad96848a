-- A call of one subscription changes no item of another, and makes none.
use Rattle.std.proofs.Common.{◌≡◌, ◌≢◌, ℕ, ◌+◌, ◌<◌, arith, Bool, true, false, cond, List, [], ◌∷◌, ◌++◌, length, Option, Some, None, Result, Ok, Err, refl, sym, ap, subst, ◌∙◌}
use Rattle.std.proofs.lemmas.Bool.{false≢true, eqb-true, eq-eqb}
use Rattle.std.proofs.lemmas.List.Sums.{fold-append}
use Rattle.std.specs.declared.cmp.Ordering.TheVariants.{Greater}
use Rattle.std.specs.Prelude.{⊤, ◌==◌, ◌&&◌, fold, map, nat_lt, not}
use Rattle.std.specs.BTreeMap.{insert_entry, is_at}
use Rattle.std.specs.Map.{set_value, remove_entry}
use Rattle.std.specs.Ordering.{nat_cmp}
use Rattle.collections.proofs.NumberMaps.{same_number}
use Rattle.ua_types.specs.declared.moment.Moment.{Moment}
use Rattle.ua_types.specs.declared.status.Status.{Status}
use Rattle.ua_space.specs.Nodes.{Nodes}
use Rattle.ua_read_write.specs.declared.timestamps.Timestamps.{Timestamps}
use Rattle.ua_subscription_messages.specs.declared.monitored_items.MonitoredItemCreateRequest.{MonitoredItemCreateRequest}
use Rattle.ua_subscription_messages.specs.declared.monitored_items.MonitoredItemModifyRequest.{MonitoredItemModifyRequest}
use Rattle.ua_monitored_items.specs.Kinds.{trigger_of}
use Rattle.ua_monitored_items.specs.Item.{is_enabled, queued, reading, with_mode, disabled, modified, moded, gave, waiting_in, is_sampling, released_in, with_links}
use Rattle.ua_monitored_items.specs.ItemTables.{NumberedItems, item_at, numbers_of, is_of, with_found, with_item, AreWithin, AreAbove, AreRising}
use Rattle.ua_monitored_items.specs.Items.{ItemsState, One, Served, with_one, nothing_served, all_served, create_one, create_judged, created_by, new_item, begun, own_if, own_item, modify_one, modified_by, mode_one, moded_by, delete_one, deleted_by, without_all, no_items, Taking, nat_least, taken_from, with_taken, nothing_taken}
use Rattle.ua_monitored_items.specs.Links.{linked_by, link, after_link}
use Rattle.ua_monitored_items.specs.Moves.{Move, Moved, moved, moved_on, run, OthersAreIn, OthersStay, IsOfSubscription, SubscriptionsStayApart}
use Rattle.ua_monitored_items.specs.Moves.Move.{Create, Modify, SetMode, Link, Delete, End, Show, TakeNotes}
use Rattle.ua_monitored_items.specs.Releases.{releases_of, with_release, all_released, mode_releases, modes_release}
use Rattle.ua_monitored_items.specs.declared.item.Item.{Item}
use Rattle.ua_monitored_items.specs.declared.kinds.Kind.{Kind}
use Rattle.ua_monitored_items.specs.declared.kinds.Mode.{Mode}
use Rattle.ua_monitored_items.specs.declared.kinds.Trigger.{Trigger}
use Rattle.ua_monitored_items.specs.declared.releases.Release.{Release}
use Rattle.ua_monitored_items.proofs.Following.{set_here, set_other, put_here, put_other, none_yet, gone_here, gone_other}
use Rattle.ua_monitored_items.proofs.Edits.{set_same}
use Rattle.ua_monitored_items.proofs.Releasing.{there_released, there_linked}
use Rattle.std.proofs.lemmas.List.Concat.{flat_map-cons}
use Rattle.ua_monitored_items.proofs.Runs.{IsSound, created_served, modified_served, moded_served, deleted_served, run_step}
use Rattle.ua_monitored_items.proofs.Tables.{greater, at_itself, above_found, IsThere, same_of, there_modified, there_gave}

-- ---- items that change at one number

-- an item of this subscription, if any
abbrev pub IsItsOwn : ℕ → Option Item → Type 0
IsItsOwn subscription found = (item : Item) → found ≡ Some item → is_of subscription item ≡ true

are_in : (subscription k : ℕ) (items there : NumberedItems) → ((n : ℕ) → n ≢ k → item_at n there ≡ item_at n items) → IsItsOwn subscription (item_at k items) → OthersAreIn subscription items there
are_in subscription k items there elsewhere own n item found not_own = by (n == k) refl
  where
    by : (b : Bool) → (n == k) ≡ b → item_at n there ≡ Some item
    by true e = absurd (false≢true (sym not_own ∙ own item (ap (λ (m : ℕ). item_at m items) (sym (eqb-true n k e)) ∙ found)))
    by false e = elsewhere n (λ same. false≢true (sym e ∙ eq-eqb n k same)) ∙ found

-- only what stands under one number changes, and it is the subscription's own before and after
stays_but : (subscription k : ℕ) (before after : NumberedItems) → ((n : ℕ) → n ≢ k → item_at n after ≡ item_at n before) → IsItsOwn subscription (item_at k before) → IsItsOwn subscription (item_at k after) →
    OthersStay subscription before after
stays_but subscription k before after elsewhere own own_after =
    (are_in subscription k before after elsewhere own, are_in subscription k after before (λ n other. sym (elsewhere n other)) own_after)

pub stays_none : (subscription : ℕ) (items : NumberedItems) → OthersStay subscription items items
stays_none subscription items = (λ n item found not_own. found, λ n item found not_own. found)

in_then : (subscription : ℕ) (a b c : NumberedItems) → OthersAreIn subscription a b → OthersAreIn subscription b c → OthersAreIn subscription a c
in_then subscription a b c f g n item found not_own = g n item (f n item found not_own) not_own

pub stays_then : (subscription : ℕ) (a b c : NumberedItems) → OthersStay subscription a b → OthersStay subscription b c → OthersStay subscription a c
stays_then subscription a b c f g = (in_then subscription a b c f.0 g.0, in_then subscription c b a g.1 f.1)

-- an item that is the subscription's is so where it is found
pub own_found : (subscription : ℕ) (found : Option Item) (own : Item) → own_if subscription found ≡ Some own → IsItsOwn subscription found
own_found subscription None own is item e = absurd cc
own_found subscription (Some other) own is item e = let it : item ≡ other = cc in ap (is_of subscription) it ∙ by (is_of subscription other) refl is
  where
    by : (b : Bool) → is_of subscription other ≡ b → cond b (Some other) None ≡ Some own → is_of subscription other ≡ true
    by true its is = its
    by false its is = absurd cc

changed_own : (subscription : ℕ) (items : NumberedItems) (k : ℕ) (change : Item → Item) → ((v : Item) → IsThere v (change v)) → IsItsOwn subscription (item_at k items) → IsItsOwn subscription (item_at k (with_item k change items))
changed_own subscription items k change there own item = by (item_at k items) refl own
  where
    by : (found : Option Item) → item_at k items ≡ found → IsItsOwn subscription found → item_at k (with_found k change items found) ≡ Some item → is_of subscription item ≡ true
    by None e its after = let clash : None ≡ Some item = sym e ∙ after in absurd cc
    by (Some v) e its after =
        let is : Some (change v) ≡ Some item = sym (set_here k v (change v) items e) ∙ after in
        let it : item ≡ change v = cc in
        ap (is_of subscription) it ∙ same_of v (change v) (there v) subscription ∙ its v refl

stays_changed : (subscription : ℕ) (items : NumberedItems) (k : ℕ) (change : Item → Item) (own : Item) → ((v : Item) → IsThere v (change v)) → own_if subscription (item_at k items) ≡ Some own →
    OthersStay subscription items (with_item k change items)
stays_changed subscription items k change own there is =
    let its = own_found subscription (item_at k items) own is in
    stays_but subscription k items (with_item k change items) elsewhere its (changed_own subscription items k change there its)
  where
    elsewhere : (n : ℕ) → n ≢ k → item_at n (with_item k change items) ≡ item_at n items
    elsewhere n other = by (item_at k items)
      where
        by : (found : Option Item) → item_at n (with_found k change items found) ≡ item_at n items
        by None = refl
        by (Some v) = set_other k n (change v) other items

stays_new : (subscription made : ℕ) (items : NumberedItems) (new : Item) → is_of subscription new ≡ true → AreWithin made items → OthersStay subscription items (insert_entry nat_cmp items (made + 1) new)
stays_new subscription made items new its within =
    stays_but subscription (made + 1) items (insert_entry nat_cmp items (made + 1) new) (λ n other. put_other made (made + 1) n new (omega arith) other items within) before after
  where
    before : IsItsOwn subscription (item_at (made + 1) items)
    before item found = let clash : None ≡ Some item = sym (none_yet made (made + 1) (omega arith) items within) ∙ found in absurd cc

    after : IsItsOwn subscription (item_at (made + 1) (insert_entry nat_cmp items (made + 1) new))
    after item found =
        let is : Some new ≡ Some item = sym (put_here made (made + 1) new (omega arith) items within) ∙ found in
        let it : item ≡ new = cc in
        ap (is_of subscription) it ∙ its

stays_removed : (subscription : ℕ) (items : NumberedItems) (k : ℕ) (own : Item) → own_if subscription (item_at k items) ≡ Some own → AreRising items → OthersStay subscription items (remove_entry (is_at (nat_cmp k)) items)
stays_removed subscription items k own is rising =
    stays_but subscription k items (remove_entry (is_at (nat_cmp k)) items) (λ n other. gone_other k n other items) (own_found subscription (item_at k items) own is) after
  where
    after : IsItsOwn subscription (item_at k (remove_entry (is_at (nat_cmp k)) items))
    after item found = let clash : None ≡ Some item = sym (gone_here k items rising) ∙ found in absurd cc

-- ---- the end of a subscription

left_in : (subscription : ℕ) (items : NumberedItems) → OthersAreIn subscription items (without_all subscription items)
left_in subscription [] n item found not_own = found
left_in subscription (e ∷ es) n item found not_own = by (is_at (nat_cmp n) e.0) refl (is_of subscription e.1) refl found (λ f. left_in subscription es n item f not_own)
  where
    by : (b : Bool) → is_at (nat_cmp n) e.0 ≡ b → (c : Bool) → is_of subscription e.1 ≡ c → cond b (Some e.1) (item_at n es) ≡ Some item → (item_at n es ≡ Some item → item_at n (without_all subscription es) ≡ Some item)
        → item_at n (cond (not c) (e ∷ without_all subscription es) (without_all subscription es)) ≡ Some item
    by true is true own here rest =
        let it : e.1 ≡ item = cc in
        absurd (false≢true (sym not_own ∙ ap (is_of subscription) (sym it) ∙ own))
    by true is false own here rest = rw is here
    by false is true own here rest = rest here
    by false is false own here rest = rw is (rest here)

pub was_in : (subscription : ℕ) (items : NumberedItems) → AreRising items → (n : ℕ) (item : Item) → item_at n (without_all subscription items) ≡ Some item → item_at n items ≡ Some item
was_in subscription [] rising n item found = found
was_in subscription (e ∷ es) rising n item found = by (is_at (nat_cmp n) e.0) refl (is_of subscription e.1) found (was_in subscription es rising.1 n item)
  where
    first : (b : Bool) → is_at (nat_cmp n) e.0 ≡ b → item_at n (e ∷ without_all subscription es) ≡ Some item → cond b (Some e.1) (item_at n (without_all subscription es)) ≡ Some item
    first b is here = sym (ap (λ (c : Bool). cond c (Some e.1) (item_at n (without_all subscription es))) is) ∙ here

    by : (b : Bool) → is_at (nat_cmp n) e.0 ≡ b → (c : Bool) → item_at n (cond (not c) (e ∷ without_all subscription es) (without_all subscription es)) ≡ Some item
        → (item_at n (without_all subscription es) ≡ Some item → item_at n es ≡ Some item) → cond b (Some e.1) (item_at n es) ≡ Some item
    by true is true here rest =
        let above : e.0 < n = above_found e.0 n item es rising.0 (rest here) in
        let same : n ≡ e.0 = same_number n e.0 is in
        absurd (omega (arith, above, same))
    by false is true here rest = rest here
    by true is false here rest = first true is here
    by false is false here rest = rest (first false is here)

stays_ended : (subscription : ℕ) (items : NumberedItems) → AreRising items → OthersStay subscription items (without_all subscription items)
stays_ended subscription items rising = (left_in subscription items, λ n item found not_own. was_in subscription items rising n item found)

-- ---- what is done with an item leaves it its subscription's

there_made : (nodes : Nodes) (clock : Moment) (s : ItemsState) (subscription : ℕ) (timestamps : Timestamps) (request : MonitoredItemCreateRequest) (kind : Kind) →
    is_of subscription (begun nodes clock (new_item s subscription timestamps request kind)) ≡ true
there_made nodes clock s subscription timestamps request kind = by (is_enabled kind.mode)
  where
    item : Item
    item = new_item s subscription timestamps request kind

    by : (b : Bool) → is_of subscription (cond b (queued (reading nodes clock item) item) item) ≡ true
    by true = eq-eqb subscription subscription refl
    by false = eq-eqb subscription subscription refl

there_switched : (nodes : Nodes) (clock : Moment) (mode : Mode) (item : Item) → IsThere item (moded nodes clock mode item)
there_switched nodes clock mode item = by (is_enabled mode) (is_enabled item.mode)
  where
    by : (b c : Bool) → IsThere item (cond b (with_mode mode (cond c item (queued (reading nodes clock item) item))) (disabled item))
    by true true = record { subscription = refl; node = refl; attribute = refl }
    by true false = record { subscription = refl; node = refl; attribute = refl }
    by false c = record { subscription = refl; node = refl; attribute = refl }

-- ---- the entries of a request

abbrev Stays : {R : Type 0} → ℕ → ItemsState → One R → Type 0
Stays subscription s one = OthersStay subscription s.items one.state.items

created_stays : (nodes : Nodes) (clock : Moment) (subscription : ℕ) (timestamps : Timestamps) (s : ItemsState) (request : MonitoredItemCreateRequest) → IsSound s.made s.items
    → Stays subscription s (create_one nodes clock subscription timestamps s request)
unfolding create_one
created_stays nodes clock subscription timestamps s request h = by (create_judged s nodes subscription request)
  where
    by : (verdict : Result Kind Status) → Stays subscription s (created_by nodes clock subscription timestamps s request verdict)
    by (Err code) = stays_none subscription s.items
    by (Ok kind) = stays_new subscription s.made s.items (begun nodes clock (new_item s subscription timestamps request kind)) (there_made nodes clock s subscription timestamps request kind) h.within

modified_stays : (subscription : ℕ) (timestamps : Timestamps) (s : ItemsState) (request : MonitoredItemModifyRequest) → Stays subscription s (modify_one subscription timestamps s request)
unfolding modify_one
modified_stays subscription timestamps s request = by (own_if subscription (item_at number s.items)) refl (trigger_of request.requested_parameters.filter)
  where
    number : ℕ
    number = request.monitored_item_id

    by : (own : Option Item) → own_if subscription (item_at number s.items) ≡ own → (trigger : Option Trigger) → Stays subscription s (modified_by timestamps s request own trigger)
    by None e trigger = stays_none subscription s.items
    by (Some item) e None = stays_none subscription s.items
    by (Some item) e (Some trigger) = stays_changed subscription s.items number (modified s.longest timestamps trigger request.requested_parameters) item
        (there_modified s.longest timestamps trigger request.requested_parameters) e

moded_stays : (nodes : Nodes) (clock : Moment) (subscription : ℕ) (mode : Mode) (s : ItemsState) (number : ℕ) → Stays subscription s (mode_one nodes clock subscription mode s number)
unfolding mode_one
moded_stays nodes clock subscription mode s number = by (own_if subscription (item_at number s.items)) refl
  where
    by : (own : Option Item) → own_if subscription (item_at number s.items) ≡ own → Stays subscription s (moded_by nodes clock mode s number own)
    by None e = stays_none subscription s.items
    by (Some item) e = stays_changed subscription s.items number (moded nodes clock mode) item (there_switched nodes clock mode) e

deleted_stays : (subscription : ℕ) (s : ItemsState) (number : ℕ) → IsSound s.made s.items → Stays subscription s (delete_one subscription s number)
unfolding delete_one
deleted_stays subscription s number h = by (own_if subscription (item_at number s.items)) refl
  where
    by : (own : Option Item) → own_if subscription (item_at number s.items) ≡ own → Stays subscription s (deleted_by s number own)
    by None e = stays_none subscription s.items
    by (Some item) e = stays_removed subscription s.items number item e h.rising

module _ {A R : Type 0} (subscription : ℕ) (serve : ItemsState → A → One R) (sound : (s : ItemsState) (x : A) → IsSound s.made s.items → IsSound (serve s x).state.made (serve s x).state.items)
    (each : (s : ItemsState) (x : A) → IsSound s.made s.items → Stays subscription s (serve s x)) where
  all_stay : (before : Served R) (xs : List A) → IsSound before.state.made before.state.items → OthersStay subscription before.state.items (fold (with_one serve) before xs).state.items
  all_stay before [] h = stays_none subscription before.state.items
  all_stay before (x ∷ xs) h =
      let next = with_one serve before x in
      stays_then subscription before.state.items next.state.items (fold (with_one serve) next xs).state.items (each before.state x h) (all_stay next xs (sound before.state x h))

-- ---- links and releases

linked_stays : (subscription triggering : ℕ) (add remove : List ℕ) (s : ItemsState) → OthersStay subscription s.items (after_link s (link s subscription triggering add remove)).items
unfolding link
linked_stays subscription triggering add remove s = by (own_item s subscription triggering) refl
  where
    by : (own : Option Item) → own_item s subscription triggering ≡ own → OthersStay subscription s.items (after_link s (linked_by s subscription triggering add remove own)).items
    by None e = stays_none subscription s.items
    by (Some item) e = stays_changed subscription s.items triggering (with_links _) item (there_linked _) e

-- an item of another subscription isn't released
release_stays : (subscription : ℕ) (items : NumberedItems) (number : ℕ) → OthersStay subscription items (with_item number (released_in subscription) items)
release_stays subscription items number = by (item_at number items) refl
  where
    other : (item : Item) → is_of subscription item ≡ false → released_in subscription item ≡ item
    other item e = ap (λ (b : Bool). cond ((b && is_sampling item.mode) && nat_lt 0 (length item.queue.entries)) (record item { released = true }) item) e

    one : (item : Item) → item_at number items ≡ Some item → (b : Bool) → is_of subscription item ≡ b → OthersStay subscription items (with_item number (released_in subscription) items)
    one item e true own =
        let is : own_if subscription (item_at number items) ≡ Some item = ap (own_if subscription) e ∙ (rw own refl) in
        stays_changed subscription items number (released_in subscription) item (there_released subscription) is
    one item e false own =
        let same : with_item number (released_in subscription) items ≡ items =
        ap (with_found number (released_in subscription) items) e ∙ ap (set_value (is_at (nat_cmp number)) items) (other item own) ∙ set_same (is_at (nat_cmp number)) items item e in
        subst (OthersStay subscription items) (sym same) (stays_none subscription items)

    by : (found : Option Item) → item_at number items ≡ found → OthersStay subscription items (with_item number (released_in subscription) items)
    by None e = subst (OthersStay subscription items) (sym (ap (with_found number (released_in subscription) items) e)) (stays_none subscription items)
    by (Some item) e = one item e (is_of subscription item) refl

abbrev AllBy : ℕ → List Release → Type 0
AllBy subscription [] = ⊤
AllBy subscription (r ∷ rs) = (r.subscription ≡ subscription) × AllBy subscription rs

by-append : (subscription : ℕ) (rs qs : List Release) → AllBy subscription rs → AllBy subscription qs → AllBy subscription (rs ++ qs)
by-append subscription [] qs h k = k
by-append subscription (r ∷ rs) qs h k = (h.0, by-append subscription rs qs h.1 k)

releases_stay : (subscription : ℕ) (items : NumberedItems) (rs : List Release) → AllBy subscription rs → OthersStay subscription items (all_released items rs)
releases_stay subscription items [] h = stays_none subscription items
releases_stay subscription items (r ∷ rs) h =
    let next = with_release items r in
    let one : OthersStay subscription items next = subst (λ (q : ℕ). OthersStay subscription items (with_item r.number (released_in q) items)) (sym h.0) (release_stays subscription items r.number) in
    stays_then subscription items next (all_released next rs) one (releases_stay subscription next rs h.1)

-- what a request enables releases items by its own subscription
own_releases : (subscription : ℕ) (item : Item) → item.subscription ≡ subscription → AllBy subscription (releases_of item)
own_releases subscription item own = by item.links
  where
    by : (numbers : List ℕ) → AllBy subscription (map (λ (n : ℕ). record { subscription = item.subscription; number = n }) numbers)
    by [] = tt
    by (n ∷ ns) = (own, by ns)

modes_by : (s : ItemsState) (subscription : ℕ) (mode : Mode) (numbers : List ℕ) → AllBy subscription (modes_release s subscription mode numbers)
modes_by s subscription mode [] = tt
modes_by s subscription mode (n ∷ ns) =
    subst (AllBy subscription) (sym (flat_map-cons (λ (number : ℕ). mode_releases mode (own_item s subscription number)) n ns))
    (by-append subscription (mode_releases mode (own_item s subscription n)) (modes_release s subscription mode ns) (by (item_at n s.items)) (modes_by s subscription mode ns))
  where
    if_on : (item : Item) → item.subscription ≡ subscription → (b : Bool) → AllBy subscription (cond b (releases_of item) [])
    if_on item own true = own_releases subscription item own
    if_on item own false = tt

    if_own : (item : Item) (b : Bool) → (item.subscription == subscription) ≡ b → AllBy subscription (mode_releases mode (cond b (Some item) None))
    if_own item true e = if_on item (eqb-true item.subscription subscription e) (is_enabled mode && not (is_enabled item.mode))
    if_own item false e = tt

    by : (found : Option Item) → AllBy subscription (mode_releases mode (own_if subscription found))
    by None = tt
    by (Some item) = if_own item (item.subscription == subscription) refl

-- ---- what a message takes

abbrev AllOwn : ℕ → NumberedItems → List ℕ → Type 0
AllOwn subscription items [] = ⊤
AllOwn subscription items (k ∷ ks) = ((v : Item) → item_at k items ≡ Some v → is_of subscription v ≡ true) × AllOwn subscription items ks

abbrev pub AllGreater : ℕ → List ℕ → Type 0
AllGreater k [] = ⊤
AllGreater k (n ∷ ns) = (k < n) × AllGreater k ns

pub numbers_greater : (subscription k : ℕ) (es : NumberedItems) → AreAbove k es → AllGreater k (numbers_of subscription es)
numbers_greater subscription k [] above = tt
numbers_greater subscription k (e ∷ es) above = by (is_of subscription e.1) (numbers_greater subscription k es above.1)
  where
    by : (b : Bool) → AllGreater k (numbers_of subscription es) → AllGreater k (cond b (e.0 ∷ numbers_of subscription es) (numbers_of subscription es))
    by true rest = (above.0, rest)
    by false rest = rest

own_behind : (subscription : ℕ) (e : ℕ × Item) (es : NumberedItems) (ks : List ℕ) → AllGreater e.0 ks → AllOwn subscription es ks → AllOwn subscription (e ∷ es) ks
own_behind subscription e es [] greater_all own = tt
own_behind subscription e es (k ∷ ks) greater_all own =
    let behind : nat_cmp k e.0 ≡ Greater = greater k e.0 greater_all.0 in
    let skip : item_at k (e ∷ es) ≡ item_at k es = rw behind refl in
    (λ v found. own.0 v (sym skip ∙ found), own_behind subscription e es ks greater_all.1 own.1)

all_own : (subscription : ℕ) (es : NumberedItems) → AreRising es → AllOwn subscription es (numbers_of subscription es)
all_own subscription [] rising = tt
all_own subscription (e ∷ es) rising =
    by (is_of subscription e.1) refl (own_behind subscription e es (numbers_of subscription es) (numbers_greater subscription e.0 es rising.0) (all_own subscription es rising.1))
  where
    by : (b : Bool) → is_of subscription e.1 ≡ b → AllOwn subscription (e ∷ es) (numbers_of subscription es) → AllOwn subscription (e ∷ es) (cond b (e.0 ∷ numbers_of subscription es) (numbers_of subscription es))
    by true own rest =
        let here : item_at e.0 (e ∷ es) ≡ Some e.1 = rw (at_itself e.0) refl in
        ((λ v found. let clash : Some e.1 ≡ Some v = sym here ∙ found in let it : e.1 ≡ v = cc in ap (is_of subscription) (sym it) ∙ own), rest)
    by false own rest = rest

own_kept : (subscription k j : ℕ) (items : NumberedItems) (item : Item) → item_at k items ≡ Some item → (ks : List ℕ) → AllOwn subscription items ks → is_of subscription item ≡ true → AllOwn subscription (with_item k (gave j) items) ks
own_kept subscription k j items item found [] own its = tt
own_kept subscription k j items item found (n ∷ ns) own its = (λ v at_n. one (k == n) refl v at_n, own_kept subscription k j items item found ns own.1 its)
  where
    after : with_item k (gave j) items ≡ set_value (is_at (nat_cmp k)) items (gave j item)
    after = ap (with_found k (gave j) items) found

    one : (b : Bool) → (k == n) ≡ b → (v : Item) → item_at n (with_item k (gave j) items) ≡ Some v → is_of subscription v ≡ true
    one true e v at_n =
        let same : k ≡ n = eqb-true k n e in
        let there : item_at k (with_item k (gave j) items) ≡ Some (gave j item) = ap (item_at k) after ∙ set_here k item (gave j item) items found in
        let clash : Some (gave j item) ≡ Some v = sym there ∙ ap (λ (m : ℕ). item_at m (with_item k (gave j) items)) same ∙ at_n in
        let it : gave j item ≡ v = cc in
        ap (is_of subscription) (sym it) ∙ its
    one false e v at_n =
        let other : n ≢ k = λ same. false≢true (sym e ∙ eq-eqb k n (sym same)) in
        own.0 v (sym (ap (item_at n) after ∙ set_other k n (gave j item) other items) ∙ at_n)

takes_stay : (subscription : ℕ) (t : Taking) (ks : List ℕ) → AllOwn subscription t.items ks → OthersStay subscription t.items (fold with_taken t ks).items
takes_stay subscription t [] own = stays_none subscription t.items
takes_stay subscription t (k ∷ ks) own = by (item_at k t.items) refl (λ u. takes_stay subscription u ks)
  where
    by : (found : Option Item) → item_at k t.items ≡ found → ((u : Taking) → AllOwn subscription u.items ks → OthersStay subscription u.items (fold with_taken u ks).items)
        → OthersStay subscription t.items (fold with_taken (taken_from t k found) ks).items
    by None e rest = rest t own.1
    by (Some item) e rest =
        let n = nat_least t.left (waiting_in item) in
        let its : is_of subscription item ≡ true = own.0 item e in
        let is : own_if subscription (item_at k t.items) ≡ Some item = ap (own_if subscription) e ∙ (rw its refl) in
        stays_then subscription t.items (taken_from t k (Some item)).items (fold with_taken (taken_from t k (Some item)) ks).items
        (stays_changed subscription t.items k (gave n) item (there_gave n) is)
        (rest (taken_from t k (Some item)) (own_kept subscription k n t.items item e ks own.1 its))

-- ---- any call

move_stays : (s : ItemsState) (m : Move) (subscription : ℕ) → IsSound s.made s.items → IsOfSubscription subscription m → OthersStay subscription s.items (moved s m).state.items
move_stays s (Create nodes clock own timestamps requests) subscription h is =
    subst (λ (k : ℕ). OthersStay k s.items (moved s (Create nodes clock own timestamps requests)).state.items) is
    (all_stay own (create_one nodes clock own timestamps) (λ t x g. (created_served nodes clock own timestamps t x g).sound) (λ t x g. created_stays nodes clock own timestamps t x g) (nothing_served s) requests h)
move_stays s (Modify own timestamps requests) subscription h is =
    subst (λ (k : ℕ). OthersStay k s.items (moved s (Modify own timestamps requests)).state.items) is
    (all_stay own (modify_one own timestamps) (λ t x g. (modified_served own timestamps t x g).sound) (λ t x g. modified_stays own timestamps t x) (nothing_served s) requests h)
move_stays s (SetMode nodes clock own mode numbers) subscription h is =
    subst (λ (k : ℕ). OthersStay k s.items (moved s (SetMode nodes clock own mode numbers)).state.items) is
    (let served = all_served (mode_one nodes clock own mode) s numbers in
    stays_then own s.items served.state.items (all_released served.state.items (modes_release s own mode numbers))
    (all_stay own (mode_one nodes clock own mode) (λ t x g. (moded_served nodes clock own mode t x g).sound) (λ t x g. moded_stays nodes clock own mode t x) (nothing_served s) numbers h)
    (releases_stay own served.state.items (modes_release s own mode numbers) (modes_by s own mode numbers)))
move_stays s (Link own triggering add remove) subscription h is =
    subst (λ (k : ℕ). OthersStay k s.items (moved s (Link own triggering add remove)).state.items) is (linked_stays own triggering add remove s)
move_stays s (Delete own numbers) subscription h is =
    subst (λ (k : ℕ). OthersStay k s.items (moved s (Delete own numbers)).state.items) is
    (all_stay own (delete_one own) (λ t x g. (deleted_served own t x g).sound) (λ t x g. deleted_stays own t x g) (nothing_served s) numbers h)
move_stays s (End own) subscription h is = subst (λ (k : ℕ). OthersStay k s.items (moved s (End own)).state.items) is (stays_ended own s.items h.rising)
move_stays s (Show changed) subscription h is = absurd is
move_stays s (TakeNotes own n) subscription h is =
    subst (λ (k : ℕ). OthersStay k s.items (moved s (TakeNotes own n)).state.items) is (takes_stay own (nothing_taken s.items n) (numbers_of own s.items) (all_own own s.items h.rising))

pub subscriptions_stay_apart : SubscriptionsStayApart
subscriptions_stay_apart config moves move subscription is =
    let s = (run config moves).state in
    let after : (run config (moves ++ move ∷ [])).state ≡ (moved s move).state =
    ap (λ (m : Moved). m.state) (fold-append moved_on (record { state = no_items config; queue_moves = [] }) moves (move ∷ [])) in
    subst (λ (t : ItemsState). OthersStay subscription s.items t.items) (sym after) (move_stays s move subscription (run_step config moves).sound is)
