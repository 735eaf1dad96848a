-- A call gives a value no fate but its own.
use Rattle.std.proofs.Common.{◌≡◌, ℕ, ◌+◌, Bool, true, false, cond, List, [], ◌∷◌, ◌++◌, Option, Some, None, Result, Ok, Err, refl, sym, ap, subst, ◌∙◌}
use Rattle.std.proofs.lemmas.List.Sums.{fold-append}
use Rattle.std.specs.Prelude.{◌==◌, flat_map, fold}
use Rattle.ua_types.specs.declared.moment.Moment.{Moment}
use Rattle.ua_types.specs.declared.status.Status.{Status}
use Rattle.ua_types.specs.declared.data_value.DataValue.{DataValue}
use Rattle.ua_space.specs.Nodes.{Nodes}
use Rattle.ua_read_write.specs.declared.timestamps.Timestamps.{Timestamps}
use Rattle.ua_read_write.specs.declared.writing.Change.{Change}
use Rattle.ua_subscription_messages.specs.declared.monitored_items.MonitoredItemCreateRequest.{MonitoredItemCreateRequest}
use Rattle.ua_subscription_messages.specs.declared.monitored_items.MonitoredItemModifyRequest.{MonitoredItemModifyRequest}
use Rattle.ua_item_queue.specs.Causes.{is_cleared, GetsOnly}
use Rattle.ua_item_queue.specs.Fates.{Fate, is_sent, is_lost, account, account_after}
use Rattle.ua_item_queue.specs.ItemQueue.{QueueMove}
use Rattle.ua_item_queue.specs.ItemQueue.QueueMove.{Send, Clear}
use Rattle.ua_item_queue.proofs.CauseLemmas.{AreWithin, queue_moves_get}
use Rattle.ua_monitored_items.specs.Causes.{call_may_give, FatesHaveTheirCauses}
use Rattle.ua_monitored_items.specs.Item.{is_enabled, takes, reading, waiting_in, sample_queue_move, seen_queue_moves, mode_queue_moves, modify_queue_moves}
use Rattle.ua_monitored_items.specs.ItemTables.{NumberedItems, item_at, numbers_of}
use Rattle.ua_monitored_items.specs.Items.{ItemsState, no_items, ItemQueueMove, queue_moves_on, One, Served, with_one, nothing_served, all_served, create_one, create_judged, created_by, new_item, begin_queue_moves, own_if, modify_one, modified_by, mode_one, moded_by, delete_one, deleted_by, Visit, visits_of, visited, Taking, nat_least, with_taken, nothing_taken}
use Rattle.ua_monitored_items.specs.Kinds.{trigger_of}
use Rattle.ua_monitored_items.specs.Moves.{Move, Moved, visit_queue_moves, sample_queue_moves, show_queue_moves, give_queue_moves, take_queue_moves, moved, moved_on, run, queue_moves_of, account_of}
use Rattle.ua_monitored_items.specs.Moves.Move.{Create, Modify, SetMode, Link, Delete, End, Show, TakeNotes}
use Rattle.ua_monitored_items.specs.Releases.{shown_one}
use Rattle.ua_monitored_items.specs.declared.item.Item.{Item}
use Rattle.ua_monitored_items.specs.declared.kinds.Kind.{Kind}
use Rattle.ua_monitored_items.specs.declared.kinds.Mode.{Mode}
use Rattle.ua_monitored_items.specs.declared.kinds.Trigger.{Trigger}
use Rattle.ua_monitored_items.proofs.Following.{queue_moves_join, queue_moves_at}

abbrev QueueMoves : Type 0
QueueMoves = List (QueueMove DataValue)

-- ---- moves that give no fate but such

module _ (may : Fate → Bool) where
  within-append : (ds es : QueueMoves) → AreWithin may ds → AreWithin may es → AreWithin may (ds ++ es)
  within-append [] es h k = k
  within-append (d ∷ ds) es h k = (h.0, within-append ds es h.1 k)

  abbrev AllWithin : List ItemQueueMove → Type 0
  AllWithin queue_moves = (n : ℕ) → AreWithin may (queue_moves_of n queue_moves)

  within_then : (ds es : List ItemQueueMove) → AllWithin ds → AllWithin es → AllWithin (ds ++ es)
  within_then ds es h k n = subst (AreWithin may) (sym (queue_moves_join n ds es)) (within-append (queue_moves_of n ds) (queue_moves_of n es) (h n) (k n))

  within_on : (k : ℕ) (ds : QueueMoves) → AreWithin may ds → AllWithin (queue_moves_on k ds)
  within_on k ds h n = by (k == n) refl
    where
      by : (b : Bool) → (k == n) ≡ b → AreWithin may (queue_moves_of n (queue_moves_on k ds))
      by true e = subst (AreWithin may) (sym (queue_moves_at k n ds true e)) h
      by false e = subst (AreWithin may) (sym (queue_moves_at k n ds false e)) tt

  module _ {A R : Type 0} (serve : ItemsState → A → One R) (each : (s : ItemsState) (x : A) → AllWithin (serve s x).queue_moves) where
    all_within : (xs : List A) (before : Served R) → AllWithin before.queue_moves → AllWithin (fold (with_one serve) before xs).queue_moves
    all_within [] before h = h
    all_within (x ∷ xs) before h = all_within xs (with_one serve before x) (within_then before.queue_moves (serve before.state x).queue_moves h (each before.state x))

    served_within : (s : ItemsState) (xs : List A) → AllWithin (all_served serve s xs).queue_moves
    served_within s xs = all_within xs (nothing_served s) (λ n. tt)

  -- where losses may be
  module _ (lost : (f : Fate) → is_lost f ≡ true → may f ≡ true) where
    sample_within : (b : Bool) (v : DataValue) (item : Item) → AreWithin may (cond b (sample_queue_move v item) [])
    sample_within true v item = (lost, tt)
    sample_within false v item = tt

    created_within : (nodes : Nodes) (clock : Moment) (subscription : ℕ) (timestamps : Timestamps) (s : ItemsState) (request : MonitoredItemCreateRequest) →
        AllWithin (create_one nodes clock subscription timestamps s request).queue_moves
    unfolding create_one
    created_within nodes clock subscription timestamps s request = by (create_judged s nodes subscription request)
      where
        by : (verdict : Result Kind Status) → AllWithin (created_by nodes clock subscription timestamps s request verdict).queue_moves
        by (Err code) = λ n. tt
        by (Ok kind) =
            let item = new_item s subscription timestamps request kind in
            within_on (s.made + 1) (begin_queue_moves nodes clock item) (sample_within (is_enabled item.mode) (reading nodes clock item) item)

    visit_within : (v : Visit) (found : Option Item) → AllWithin (visit_queue_moves v found)
    visit_within v None = λ n. tt
    visit_within v (Some item) = within_on v.number (seen_queue_moves v.value item) (sample_within (takes item v.value) v.value item)

    visits_within : (vs : List Visit) (items : NumberedItems) → AllWithin (sample_queue_moves items vs)
    visits_within [] items = λ n. tt
    visits_within (v ∷ vs) items =
        within_then (visit_queue_moves v (item_at v.number items)) (sample_queue_moves (visited items v) vs) (visit_within v (item_at v.number items)) (visits_within vs (visited items v))

    shows_within : (cs : List Change) (items : NumberedItems) → AllWithin (show_queue_moves items cs)
    shows_within [] items = λ n. tt
    shows_within (c ∷ cs) items =
        within_then (sample_queue_moves items (visits_of items c)) (show_queue_moves (shown_one items c) cs) (visits_within (visits_of items c) items) (shows_within cs (shown_one items c))

  -- where values may be cleared
  module _ (cleared : (f : Fate) → is_cleared f ≡ true → may f ≡ true) where
    modified_within : (subscription : ℕ) (timestamps : Timestamps) (s : ItemsState) (request : MonitoredItemModifyRequest) → AllWithin (modify_one subscription timestamps s request).queue_moves
    unfolding modify_one
    modified_within subscription timestamps s request = by (own_if subscription (item_at request.monitored_item_id s.items)) (trigger_of request.requested_parameters.filter)
      where
        by : (own : Option Item) (trigger : Option Trigger) → AllWithin (modified_by timestamps s request own trigger).queue_moves
        by None trigger = λ n. tt
        by (Some item) None = λ n. tt
        by (Some item) (Some trigger) = within_on request.monitored_item_id (modify_queue_moves s.longest request.requested_parameters) (cleared, tt)

    deleted_within : (subscription : ℕ) (s : ItemsState) (number : ℕ) → AllWithin (delete_one subscription s number).queue_moves
    unfolding delete_one
    deleted_within subscription s number = by (own_if subscription (item_at number s.items))
      where
        by : (own : Option Item) → AllWithin (deleted_by s number own).queue_moves
        by None = λ n. tt
        by (Some item) = within_on number (Clear ∷ []) (cleared, tt)

    ends_within : (numbers : List ℕ) → AllWithin (flat_map (λ number. queue_moves_on number (Clear ∷ [])) numbers)
    ends_within [] = λ n. tt
    ends_within (k ∷ ks) = within_then (queue_moves_on k (Clear ∷ [])) (flat_map (λ number. queue_moves_on number (Clear ∷ [])) ks) (within_on k (Clear ∷ []) (cleared, tt)) (ends_within ks)

  -- where values may be lost, or cleared, as the mode says
  module _ (enabled : Bool) (lost : enabled ≡ true → (f : Fate) → is_lost f ≡ true → may f ≡ true) (cleared : enabled ≡ false → (f : Fate) → is_cleared f ≡ true → may f ≡ true) where
    mode_within : (c : Bool) (v : DataValue) (item : Item) → AreWithin may (cond enabled (cond c [] (sample_queue_move v item)) (Clear ∷ []))
    mode_within c v item = by enabled c refl
      where
        by : (b c : Bool) → enabled ≡ b → AreWithin may (cond b (cond c [] (sample_queue_move v item)) (Clear ∷ []))
        by true true e = tt
        by true false e = (lost e, tt)
        by false c e = (cleared e, tt)

  module _ (mode : Mode) (lost : is_enabled mode ≡ true → (f : Fate) → is_lost f ≡ true → may f ≡ true) (cleared : is_enabled mode ≡ false → (f : Fate) → is_cleared f ≡ true → may f ≡ true) where
    moded_within : (nodes : Nodes) (clock : Moment) (subscription : ℕ) (s : ItemsState) (number : ℕ) → AllWithin (mode_one nodes clock subscription mode s number).queue_moves
    unfolding mode_one
    moded_within nodes clock subscription s number = by (own_if subscription (item_at number s.items))
      where
        by : (own : Option Item) → AllWithin (moded_by nodes clock mode s number own).queue_moves
        by None = λ n. tt
        by (Some item) = within_on number (mode_queue_moves nodes clock mode item) (mode_within (is_enabled mode) lost cleared (is_enabled item.mode) (reading nodes clock item) item)

  -- where values may be sent
  module _ (sent : (f : Fate) → is_sent f ≡ true → may f ≡ true) where
    give_within : (left number : ℕ) (found : Option Item) → AllWithin (give_queue_moves left number found)
    give_within left number None = λ n. tt
    give_within left number (Some item) = within_on number (Send (nat_least left (waiting_in item)) ∷ []) (sent, tt)

    takes_within : (ns : List ℕ) (t : Taking) → AllWithin (take_queue_moves t ns)
    takes_within [] t = λ n. tt
    takes_within (k ∷ ks) t = within_then (give_queue_moves t.left k (item_at k t.items)) (take_queue_moves (with_taken t k) ks) (give_within t.left k (item_at k t.items)) (takes_within ks (with_taken t k))

-- ---- any call

move_within : (s : ItemsState) (m : Move) → AllWithin (call_may_give m) (moved s m).queue_moves
move_within s (Create nodes clock subscription timestamps requests) =
    let may = call_may_give (Create nodes clock subscription timestamps requests) in
    served_within may (create_one nodes clock subscription timestamps) (created_within may (λ f e. e) nodes clock subscription timestamps) s requests
move_within s (Modify subscription timestamps requests) =
    let may = call_may_give (Modify subscription timestamps requests) in
    served_within may (modify_one subscription timestamps) (modified_within may (λ f e. e) subscription timestamps) s requests
move_within s (SetMode nodes clock subscription mode numbers) =
    let may = call_may_give (SetMode nodes clock subscription mode numbers) in
    served_within may (mode_one nodes clock subscription mode)
    (moded_within may mode (λ e f h. ap (λ b. cond b (is_lost f) (is_cleared f)) e ∙ h) (λ e f h. ap (λ b. cond b (is_lost f) (is_cleared f)) e ∙ h) nodes clock subscription) s numbers
move_within s (Link subscription triggering add remove) = λ n. tt
move_within s (Delete subscription numbers) =
    let may = call_may_give (Delete subscription numbers) in
    served_within may (delete_one subscription) (deleted_within may (λ f e. e) subscription) s numbers
move_within s (End subscription) = ends_within (call_may_give (End subscription)) (λ f e. e) (numbers_of subscription s.items)
move_within s (Show changed) = shows_within (call_may_give (Show changed)) (λ f e. e) changed s.items
move_within s (TakeNotes subscription n) = takes_within (call_may_give (TakeNotes subscription n)) (λ f e. e) (numbers_of subscription s.items) (nothing_taken s.items n)

pub fates_have_their_causes : FatesHaveTheirCauses
fates_have_their_causes config moves move number =
    let before = run config moves in
    let after = moved before.state move in
    let runs : (run config (moves ++ move ∷ [])).queue_moves ≡ before.queue_moves ++ after.queue_moves = ap (λ (m : Moved). m.queue_moves) (fold-append moved_on (record { state = no_items config; queue_moves = [] }) moves (move ∷ [])) in
    let told : account_of config (moves ++ move ∷ []) number ≡ fold account_after (account (queue_moves_of number before.queue_moves)) (queue_moves_of number after.queue_moves) =
    ap account (ap (queue_moves_of number) runs ∙ queue_moves_join number before.queue_moves after.queue_moves) ∙ fold-append account_after [] (queue_moves_of number before.queue_moves) (queue_moves_of number after.queue_moves) in
    subst (GetsOnly (call_may_give move) (account_of config moves number)) (sym told)
    (queue_moves_get (call_may_give move) (queue_moves_of number after.queue_moves) (account (queue_moves_of number before.queue_moves)) (move_within before.state move number))
