-- Each call's moves, and those of any calls one after the other.
use Rattle.std.proofs.Common.{◌≡◌, ℕ, ◌+◌, arith, Bool, true, false, cond, List, [], ◌∷◌, ◌++◌, Option, Some, None, Result, Ok, Err, refl, sym, ap, subst, ◌∙◌, append_assoc, append-nil}
use Rattle.std.proofs.lemmas.List.Sums.{fold-append}
use Rattle.std.specs.Prelude.{◌==◌, fold}
use Rattle.ua_types.specs.Configuration.{Configuration}
use Rattle.ua_types.specs.declared.moment.Moment.{Moment}
use Rattle.ua_types.specs.declared.status.Status.{Status}
use Rattle.ua_types.specs.declared.data_value.DataValue.{DataValue}
use Rattle.ua_space.specs.Nodes.{Nodes}
use Rattle.ua_read_write.specs.declared.timestamps.Timestamps.{Timestamps}
use Rattle.ua_read_write.specs.declared.writing.Change.{Change}
use Rattle.ua_subscription_messages.specs.declared.monitored_items.MonitoredItemCreateRequest.{MonitoredItemCreateRequest}
use Rattle.ua_subscription_messages.specs.declared.monitored_items.MonitoredItemModifyRequest.{MonitoredItemModifyRequest}
use Rattle.ua_item_queue.specs.Fates.{account, account_after, GoesOn}
use Rattle.ua_item_queue.specs.ItemQueue.{QueueMove, queue_after}
use Rattle.ua_item_queue.specs.ItemQueue.QueueMove.{Send, Clear}
use Rattle.ua_item_queue.proofs.QueueLemmas.{queue_is_what_waits}
use Rattle.ua_item_queue.proofs.KeptLemmas.{queue_moves_go}
use Rattle.ua_item_queue.proofs.AccountLemmas.{account_in_order, account_marks}
use Rattle.ua_monitored_items.specs.Kinds.{trigger_of}
use Rattle.ua_monitored_items.specs.Item.{is_enabled, takes, queued, seen, reading, moded, with_mode, disabled, modified, gave, waiting_in, released_in, with_links, sample_queue_move, seen_queue_moves, mode_queue_moves, modify_queue_moves}
use Rattle.ua_monitored_items.specs.ItemTables.{NumberedItems, item_at, with_found, with_item, AreWithin, AreRising}
use Rattle.ua_monitored_items.specs.Items.{ItemsState, no_items, ItemQueueMove, queue_moves_on, One, Served, with_one, nothing_served, all_served, create_one, create_judged, created_by, new_item, begun, begin_queue_moves, own_if, own_item, modify_one, modified_by, mode_one, moded_by, delete_one, deleted_by, Visit, visits_of, visited, sampled_items, Taking, nat_least, taken_from, with_taken}
use Rattle.ua_monitored_items.specs.Links.{linked_by, link, after_link}
use Rattle.ua_monitored_items.specs.Moves.{Move, Moved, visit_queue_moves, sample_queue_moves, show_queue_moves, give_queue_moves, take_queue_moves, moved, moved_on, run, queue_moves_of, account_of, QueuesAreTheirMoves, QueuesAreWhatWaits, AccountsAreInOrder, AccountsMarkLosses, FatesAreFinal}
use Rattle.ua_monitored_items.specs.Moves.Move.{Create, Modify, SetMode, Link, Delete, End, Show, TakeNotes}
use Rattle.ua_monitored_items.specs.Releases.{with_release, all_released, sample_releases, seen_by_all, modes_release, shown_one, shown}
use Rattle.ua_monitored_items.specs.declared.item.Item.{Item}
use Rattle.ua_monitored_items.specs.declared.kinds.Kind.{Kind}
use Rattle.ua_monitored_items.specs.declared.kinds.Mode.{Mode}
use Rattle.ua_monitored_items.specs.declared.kinds.Trigger.{Trigger}
use Rattle.ua_monitored_items.specs.declared.releases.Release.{Release}
use Rattle.ua_monitored_items.proofs.Tables.{within_put, within_set, within_removed, rising_put, rising_set, rising_removed}
use Rattle.ua_monitored_items.proofs.Releasing.{released_queue}
use Rattle.ua_monitored_items.proofs.Following.{Follows, follows_none, follows_then, follows_change, follows_new, follows_removed, queue_moves_join}
use Rattle.ua_monitored_items.proofs.FollowingEnds.{follows_ended, within_filtered, rising_filtered}

-- items as they are reached: no number above the last one, and each once
pub record IsSound (made : ℕ) (items : NumberedItems) : Type 0 where
  pub within : AreWithin made items
  pub rising : AreRising items

-- a step that keeps that, and whose moves are these
pub record IsStep (items : NumberedItems) (made : ℕ) (after : NumberedItems) (queue_moves : List ItemQueueMove) : Type 0 where
  pub follows : Follows items after queue_moves
  pub sound : IsSound made after

nothing : (made : ℕ) (items : NumberedItems) → IsSound made items → IsStep items made items []
nothing made items h = record { follows = follows_none items; sound = h }

changed_sound : (made : ℕ) (items : NumberedItems) (k : ℕ) (change : Item → Item) → IsSound made items → IsSound made (with_item k change items)
changed_sound made items k change h = by (item_at k items)
  where
    by : (found : Option Item) → IsSound made (with_found k change items found)
    by None = h
    by (Some v) = record { within = within_set made k (change v) items h.within; rising = rising_set k (change v) items h.rising }

one_changed : (made : ℕ) (items : NumberedItems) (k : ℕ) (change : Item → Item) (item : Item) (ds : List (QueueMove DataValue)) → item_at k items ≡ Some item
    → (change item).queue.entries ≡ fold queue_after item.queue.entries ds → IsSound made items → IsStep items made (with_item k change items) (queue_moves_on k ds)
one_changed made items k change item ds found is h = record { follows = follows_change items k change item ds found is; sound = changed_sound made items k change h }

-- ---- what is done with an item, and its moves

moded_is : (nodes : Nodes) (clock : Moment) (mode : Mode) (item : Item) → (moded nodes clock mode item).queue.entries ≡ fold queue_after item.queue.entries (mode_queue_moves nodes clock mode item)
moded_is nodes clock mode item = by (is_enabled mode) (is_enabled item.mode)
  where
    by : (b c : Bool) → (cond b (with_mode mode (cond c item (queued (reading nodes clock item) item))) (disabled item)).queue.entries
        ≡ fold queue_after item.queue.entries (cond b (cond c [] (sample_queue_move (reading nodes clock item) item)) (Clear ∷ []))
    by true true = refl
    by true false = refl
    by false c = refl

seen_is : (v : DataValue) (item : Item) → (seen v item).queue.entries ≡ fold queue_after item.queue.entries (seen_queue_moves v item)
seen_is v item = by (takes item v)
  where
    by : (b : Bool) → (cond b (queued v item) item).queue.entries ≡ fold queue_after item.queue.entries (cond b (sample_queue_move v item) [])
    by true = refl
    by false = refl

begun_is : (nodes : Nodes) (clock : Moment) (item : Item) → item.queue.entries ≡ [] → (begun nodes clock item).queue.entries ≡ fold queue_after [] (begin_queue_moves nodes clock item)
begun_is nodes clock item empty = by (is_enabled item.mode)
  where
    by : (b : Bool) → (cond b (queued (reading nodes clock item) item) item).queue.entries ≡ fold queue_after [] (cond b (sample_queue_move (reading nodes clock item) item) [])
    by true = ap (λ q. fold queue_after q (sample_queue_move (reading nodes clock item) item)) empty
    by false = empty

-- ---- the entries of a request

pub own_is : (subscription : ℕ) (found : Option Item) (item : Item) → own_if subscription found ≡ Some item → found ≡ Some item
own_is subscription None item e = absurd cc
own_is subscription (Some other) item e = by (other.subscription == subscription) e
  where
    by : (b : Bool) → cond b (Some other) None ≡ Some item → Some other ≡ Some item
    by true e = e
    by false e = absurd cc

abbrev pub IsServed : {R : Type 0} → ItemsState → One R → Type 0
IsServed s one = IsStep s.items one.state.made one.state.items one.queue_moves

pub created_served : (nodes : Nodes) (clock : Moment) (subscription : ℕ) (timestamps : Timestamps) (s : ItemsState) (request : MonitoredItemCreateRequest) → IsSound s.made s.items
    → IsServed s (create_one nodes clock subscription timestamps s request)
unfolding create_one
created_served nodes clock subscription timestamps s request h = by (create_judged s nodes subscription request)
  where
    by : (verdict : Result Kind Status) → IsServed s (created_by nodes clock subscription timestamps s request verdict)
    by (Err code) = nothing s.made s.items h
    by (Ok kind) =
        let item = new_item s subscription timestamps request kind in
        let new = begun nodes clock item in
        record {
          follows = follows_new s.made s.items new (begin_queue_moves nodes clock item) h.within (begun_is nodes clock item refl);
          sound = record { within = within_put s.made new s.items h.within; rising = rising_put s.made (s.made + 1) new (omega arith) s.items h.within h.rising };
        }

pub modified_served : (subscription : ℕ) (timestamps : Timestamps) (s : ItemsState) (request : MonitoredItemModifyRequest) → IsSound s.made s.items → IsServed s (modify_one subscription timestamps s request)
unfolding modify_one
modified_served subscription timestamps s request h = by (own_if subscription (item_at number s.items)) refl (trigger_of request.requested_parameters.filter)
  where
    number : ℕ
    number = request.monitored_item_id

    by : (own : Option Item) → own_if subscription (item_at number s.items) ≡ own → (trigger : Option Trigger) → IsServed s (modified_by timestamps s request own trigger)
    by None e trigger = nothing s.made s.items h
    by (Some item) e None = nothing s.made s.items h
    by (Some item) e (Some trigger) =
        one_changed s.made s.items number (modified s.longest timestamps trigger request.requested_parameters) item (modify_queue_moves s.longest request.requested_parameters)
        (own_is subscription (item_at number s.items) item e) refl h

pub moded_served : (nodes : Nodes) (clock : Moment) (subscription : ℕ) (mode : Mode) (s : ItemsState) (number : ℕ) → IsSound s.made s.items → IsServed s (mode_one nodes clock subscription mode s number)
unfolding mode_one
moded_served nodes clock subscription mode s number h = by (own_if subscription (item_at number s.items)) refl
  where
    by : (own : Option Item) → own_if subscription (item_at number s.items) ≡ own → IsServed s (moded_by nodes clock mode s number own)
    by None e = nothing s.made s.items h
    by (Some item) e =
        one_changed s.made s.items number (moded nodes clock mode) item (mode_queue_moves nodes clock mode item) (own_is subscription (item_at number s.items) item e) (moded_is nodes clock mode item) h

pub deleted_served : (subscription : ℕ) (s : ItemsState) (number : ℕ) → IsSound s.made s.items → IsServed s (delete_one subscription s number)
unfolding delete_one
deleted_served subscription s number h = by (own_if subscription (item_at number s.items))
  where
    by : (own : Option Item) → IsServed s (deleted_by s number own)
    by None = nothing s.made s.items h
    by (Some item) = record { follows = follows_removed s.items number h.rising; sound = record { within = within_removed s.made number s.items h.within; rising = rising_removed number s.items h.rising } }

module _ {A R : Type 0} (serve : ItemsState → A → One R) (each : (s : ItemsState) (x : A) → IsSound s.made s.items → IsServed s (serve s x)) where
  all_from : (start : NumberedItems) (before : Served R) (xs : List A) → IsStep start before.state.made before.state.items before.queue_moves
      → let after = fold (with_one serve) before xs in IsStep start after.state.made after.state.items after.queue_moves
  all_from start before [] h = h
  all_from start before (x ∷ xs) h =
      let one = each before.state x h.sound in
      all_from start (with_one serve before x) xs
      (record { follows = follows_then start before.state.items (serve before.state x).state.items before.queue_moves (serve before.state x).queue_moves h.follows one.follows; sound = one.sound })

  all_steps : (s : ItemsState) (xs : List A) → IsSound s.made s.items → let after = all_served serve s xs in IsStep s.items after.state.made after.state.items after.queue_moves
  all_steps s xs h = all_from s.items (nothing_served s) xs (nothing s.made s.items h)

-- ---- samples and notes

visit_step : (made : ℕ) (items : NumberedItems) (v : Visit) → IsSound made items → IsStep items made (visited items v) (visit_queue_moves v (item_at v.number items))
visit_step made items v h = by (item_at v.number items) refl
  where
    by : (found : Option Item) → item_at v.number items ≡ found → IsStep items made (visited items v) (visit_queue_moves v found)
    by None e =
        let same : visited items v ≡ items = ap (with_found v.number (seen v.value) items) e in
        subst (λ (es : NumberedItems). IsStep items made es []) (sym same) (nothing made items h)
    by (Some item) e = one_changed made items v.number (seen v.value) item (seen_queue_moves v.value item) e (seen_is v.value item) h

visits_step : (made : ℕ) (items : NumberedItems) (vs : List Visit) → IsSound made items → IsStep items made (sampled_items items vs) (sample_queue_moves items vs)
visits_step made items [] h = nothing made items h
visits_step made items (v ∷ vs) h =
    let one = visit_step made items v h in
    let rest = visits_step made (visited items v) vs one.sound in
    record {
      follows = follows_then items (visited items v) (sampled_items (visited items v) vs) (visit_queue_moves v (item_at v.number items)) (sample_queue_moves (visited items v) vs) one.follows rest.follows;
      sound = rest.sound;
    }

-- ---- releases and links move no value

-- a step, and one whose moves are none
pub and_quiet : (made : ℕ) (a b c : NumberedItems) (ds : List ItemQueueMove) → Follows a b ds → IsStep b made c [] → IsStep a made c ds
and_quiet made a b c ds first next = record { follows = λ n. next.follows n ∙ first n; sound = next.sound }

release_step : (made : ℕ) (items : NumberedItems) (r : Release) → IsSound made items → IsStep items made (with_release items r) []
release_step made items r h = by (item_at r.number items) refl
  where
    by : (found : Option Item) → item_at r.number items ≡ found → IsStep items made (with_found r.number (released_in r.subscription) items found) []
    by None e = nothing made items h
    by (Some item) e =
        subst (λ (es : NumberedItems). IsStep items made es []) (ap (with_found r.number (released_in r.subscription) items) e)
        (one_changed made items r.number (released_in r.subscription) item [] e (released_queue r.subscription item) h)

pub releases_step : (made : ℕ) (items : NumberedItems) (rs : List Release) → IsSound made items → IsStep items made (all_released items rs) []
releases_step made items [] h = nothing made items h
releases_step made items (r ∷ rs) h =
    let one = release_step made items r h in
    and_quiet made items (with_release items r) (all_released (with_release items r) rs) [] one.follows (releases_step made (with_release items r) rs one.sound)

pub link_step : (s : ItemsState) (subscription triggering : ℕ) (add remove : List ℕ) → IsSound s.made s.items
    → let after = after_link s (link s subscription triggering add remove) in IsStep s.items after.made after.items []
unfolding link
link_step s subscription triggering add remove h = by (own_item s subscription triggering) refl
  where
    by : (own : Option Item) → own_item s subscription triggering ≡ own → let after = after_link s (linked_by s subscription triggering add remove own) in IsStep s.items after.made after.items []
    by None e = nothing s.made s.items h
    by (Some item) e = one_changed s.made s.items triggering (with_links _) item [] (own_is subscription (item_at triggering s.items) item e) refl h

shown_step : (made : ℕ) (items : NumberedItems) (cs : List Change) → IsSound made items → IsStep items made (shown items cs) (show_queue_moves items cs)
shown_step made items [] h = nothing made items h
shown_step made items (c ∷ cs) h =
    let vs = visits_of items c in
    let seen = visits_step made items vs h in
    let one = and_quiet made items (sampled_items items vs) (seen_by_all items vs) (sample_queue_moves items vs) seen.follows (releases_step made (sampled_items items vs) (sample_releases items vs) seen.sound) in
    let rest = shown_step made (shown_one items c) cs one.sound in
    record {
      follows = follows_then items (shown_one items c) (shown (shown_one items c) cs) (sample_queue_moves items vs) (show_queue_moves (shown_one items c) cs) one.follows rest.follows;
      sound = rest.sound;
    }

pub take_step : (made : ℕ) (t : Taking) (n : ℕ) → IsSound made t.items → IsStep t.items made (with_taken t n).items (give_queue_moves t.left n (item_at n t.items))
take_step made t n h = by (item_at n t.items) refl
  where
    by : (found : Option Item) → item_at n t.items ≡ found → IsStep t.items made (taken_from t n found).items (give_queue_moves t.left n found)
    by None e = nothing made t.items h
    by (Some item) e =
        let k = nat_least t.left (waiting_in item) in
        one_changed made t.items n (gave k) item (Send k ∷ []) e refl h

takes_step : (made : ℕ) (t : Taking) (ns : List ℕ) → IsSound made t.items → IsStep t.items made (fold with_taken t ns).items (take_queue_moves t ns)
takes_step made t [] h = nothing made t.items h
takes_step made t (n ∷ ns) h =
    let one = take_step made t n h in
    let rest = takes_step made (with_taken t n) ns one.sound in
    record {
      follows = follows_then t.items (with_taken t n).items (fold with_taken (with_taken t n) ns).items (give_queue_moves t.left n (item_at n t.items)) (take_queue_moves (with_taken t n) ns) one.follows rest.follows;
      sound = rest.sound;
    }

-- ---- any calls

pub move_step : (s : ItemsState) (m : Move) → IsSound s.made s.items → IsStep s.items (moved s m).state.made (moved s m).state.items (moved s m).queue_moves
move_step s (Create nodes clock subscription timestamps requests) h =
    all_steps (create_one nodes clock subscription timestamps) (λ t x. created_served nodes clock subscription timestamps t x) s requests h
move_step s (Modify subscription timestamps requests) h = all_steps (modify_one subscription timestamps) (λ t x. modified_served subscription timestamps t x) s requests h
move_step s (SetMode nodes clock subscription mode numbers) h =
    let served = all_served (mode_one nodes clock subscription mode) s numbers in
    let all = all_steps (mode_one nodes clock subscription mode) (λ t x. moded_served nodes clock subscription mode t x) s numbers h in
    let rs = modes_release s subscription mode numbers in
    and_quiet served.state.made s.items served.state.items (all_released served.state.items rs) served.queue_moves all.follows (releases_step served.state.made served.state.items rs all.sound)
move_step s (Link subscription triggering add remove) h = link_step s subscription triggering add remove h
move_step s (Delete subscription numbers) h = all_steps (delete_one subscription) (λ t x. deleted_served subscription t x) s numbers h
move_step s (End subscription) h = record {
  follows = follows_ended subscription s.items h.rising;
  sound = record { within = within_filtered subscription s.made s.items h.within; rising = rising_filtered subscription s.items h.rising };
}
move_step s (Show changed) h = shown_step s.made s.items changed h
move_step s (TakeNotes subscription n) h = takes_step s.made _ _ h

run_from : (start : NumberedItems) (before : Moved) (ms : List Move) → IsStep start before.state.made before.state.items before.queue_moves
    → let after = fold moved_on before ms in IsStep start after.state.made after.state.items after.queue_moves
run_from start before [] h = h
run_from start before (m ∷ ms) h =
    let one = move_step before.state m h.sound in
    run_from start (moved_on before m) ms
    (record { follows = follows_then start before.state.items (moved before.state m).state.items before.queue_moves (moved before.state m).queue_moves h.follows one.follows; sound = one.sound })

pub run_step : (config : Configuration) (ms : List Move) → IsStep [] (run config ms).state.made (run config ms).state.items (run config ms).queue_moves
run_step config ms = run_from [] (record { state = no_items config; queue_moves = [] }) ms (nothing 0 [] (record { within = tt; rising = tt }))

pub queues_are_their_moves : QueuesAreTheirMoves
queues_are_their_moves config moves number = (run_step config moves).follows number

pub queues_are_what_waits : QueuesAreWhatWaits
queues_are_what_waits config moves number =
    queue_is_what_waits (queue_moves_of number (run config moves).queue_moves) ∙ sym (queues_are_their_moves config moves number)

pub accounts_are_in_order : AccountsAreInOrder
accounts_are_in_order config moves number = account_in_order (queue_moves_of number (run config moves).queue_moves)

pub accounts_mark_losses : AccountsMarkLosses
accounts_mark_losses config moves number = account_marks (queue_moves_of number (run config moves).queue_moves)

-- later calls add moves
adds : (before : Moved) (ms : List Move) → (more : List ItemQueueMove) × ((fold moved_on before ms).queue_moves ≡ before.queue_moves ++ more)
adds before [] = ([], sym (append-nil before.queue_moves))
adds before (m ∷ ms) = of_rest (adds (moved_on before m) ms)
  where
    of_rest : (more : List ItemQueueMove) × ((fold moved_on (moved_on before m) ms).queue_moves ≡ (before.queue_moves ++ (moved before.state m).queue_moves) ++ more)
        → (more : List ItemQueueMove) × ((fold moved_on before (m ∷ ms)).queue_moves ≡ before.queue_moves ++ more)
    of_rest (more, is) = ((moved before.state m).queue_moves ++ more, is ∙ append_assoc before.queue_moves (moved before.state m).queue_moves more)

pub fates_are_final : FatesAreFinal
fates_are_final config moves more number = of_more (adds (run config moves) more)
  where
    of_more : (later : List ItemQueueMove) × ((fold moved_on (run config moves) more).queue_moves ≡ (run config moves).queue_moves ++ later) → GoesOn (account_of config moves number) (account_of config (moves ++ more) number)
    of_more (later, is) =
        let ds = (run config moves).queue_moves in
        let runs : (run config (moves ++ more)).queue_moves ≡ ds ++ later = ap (λ (m : Moved). m.queue_moves) (fold-append moved_on (record { state = no_items config; queue_moves = [] }) moves more) ∙ is in
        let all : queue_moves_of number (run config (moves ++ more)).queue_moves ≡ queue_moves_of number ds ++ queue_moves_of number later = ap (queue_moves_of number) runs ∙ queue_moves_join number ds later in
        let told : account_of config (moves ++ more) number ≡ fold account_after (account (queue_moves_of number ds)) (queue_moves_of number later) =
        ap account all ∙ fold-append account_after [] (queue_moves_of number ds) (queue_moves_of number later) in
        subst (GoesOn (account_of config moves number)) (sym told) (queue_moves_go (queue_moves_of number later) (account (queue_moves_of number ds)))
