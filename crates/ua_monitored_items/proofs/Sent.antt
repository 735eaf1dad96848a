-- What items give to messages is what was sent of their values.
use Rattle.std.proofs.Common.{◌≡◌, ℕ, ◌+◌, Bool, true, false, cond, List, [], ◌∷◌, ◌++◌, take, map, Option, Some, None, Result, Ok, Err, refl, sym, ap, subst, ◌∙◌, append_assoc, append-nil}
use Rattle.std.proofs.lemmas.Bool.{eqb-true}
use Rattle.std.proofs.lemmas.List.{take-map}
use Rattle.std.specs.Prelude.{◌==◌, flat_map, fold}
use Rattle.ua_types.specs.declared.moment.Moment.{Moment}
use Rattle.ua_types.specs.declared.status.Status.{Status}
use Rattle.ua_types.specs.declared.data_value.DataValue.{DataValue}
use Rattle.ua_space.specs.Nodes.{Nodes}
use Rattle.ua_read_write.specs.declared.timestamps.Timestamps.{Timestamps}
use Rattle.ua_read_write.specs.declared.writing.Change.{Change}
use Rattle.ua_subscription_messages.specs.declared.monitored_items.MonitoredItemCreateRequest.{MonitoredItemCreateRequest}
use Rattle.ua_subscription_messages.specs.declared.monitored_items.MonitoredItemModifyRequest.{MonitoredItemModifyRequest}
use Rattle.ua_subscription_messages.specs.declared.publishing.MonitoredItemNotification.{MonitoredItemNotification}
use Rattle.ua_item_queue.specs.ItemQueue.{QueueMove, queue_after}
use Rattle.ua_item_queue.specs.ItemQueue.QueueMove.{Sample, Send, Clear, Resize}
use Rattle.ua_item_queue.specs.Sendings.{given_by}
use Rattle.ua_item_queue.specs.declared.entry.Entry.{Entry}
use Rattle.ua_item_queue.proofs.SentLemmas.{sent_are_given}
use Rattle.ua_monitored_items.specs.Givings.{Giving, given_from, givings, notes_given, given, all_given, entries_of, NotesAreOfGivings, GivingsAreWhatWasSent}
use Rattle.ua_monitored_items.specs.Item.{is_enabled, takes, reading, notes_of, note_of, waiting_in, sample_queue_move, seen_queue_moves, mode_queue_moves, modify_queue_moves}
use Rattle.ua_monitored_items.specs.ItemTables.{NumberedItems, item_at, numbers_of}
use Rattle.ua_monitored_items.specs.Items.{ItemsState, no_items, ItemQueueMove, queue_moves_on, One, Served, with_one, nothing_served, all_served, create_one, create_judged, created_by, new_item, begin_queue_moves, own_if, modify_one, modified_by, mode_one, moded_by, delete_one, deleted_by, end_queue_moves, Visit, visits_of, visited, Taking, nat_least, taken_from, with_taken, nothing_taken}
use Rattle.ua_monitored_items.specs.Kinds.{trigger_of}
use Rattle.ua_monitored_items.specs.Moves.{Move, Moved, visit_queue_moves, sample_queue_moves, show_queue_moves, give_queue_moves, take_queue_moves, moved, moved_on, run, queue_moves_of, queue_in, queue_at}
use Rattle.ua_monitored_items.specs.Moves.Move.{Create, Modify, SetMode, Link, Delete, End, Show, TakeNotes}
use Rattle.ua_monitored_items.specs.Releases.{shown_one}
use Rattle.ua_monitored_items.specs.declared.item.Item.{Item}
use Rattle.ua_monitored_items.specs.declared.kinds.Kind.{Kind}
use Rattle.ua_monitored_items.specs.declared.kinds.Mode.{Mode}
use Rattle.ua_monitored_items.specs.declared.kinds.Trigger.{Trigger}
use Rattle.ua_monitored_items.proofs.Following.{Follows, queue_moves_join, queue_moves_at}
use Rattle.ua_monitored_items.proofs.Runs.{IsSound, take_step, move_step}

abbrev Entries : Type 0
Entries = List (Entry DataValue)

abbrev QueueMoves : Type 0
QueueMoves = List (QueueMove DataValue)

-- ---- what a message tells

notes-append : (xs ys : List Giving) → notes_given (xs ++ ys) ≡ notes_given xs ++ notes_given ys
notes-append [] ys = refl
notes-append (g ∷ gs) ys =
    ap (λ (notes : List MonitoredItemNotification). map (note_of g.handle g.timestamps) g.entries ++ notes) (notes-append gs ys)
    ∙ sym (append_assoc (map (note_of g.handle g.timestamps) g.entries) (notes_given gs) (notes_given ys))

one_note : (before : Taking) (n : ℕ) (rest : List MonitoredItemNotification) (found : Option Item) →
    (taken_from before n found).notes ++ rest ≡ before.notes ++ (notes_given (given_from before.left n found) ++ rest)
one_note before n rest None = refl
one_note before n rest (Some item) =
    let k = nat_least before.left (waiting_in item) in
    let f : Entry DataValue → MonitoredItemNotification = note_of item.client_handle item.timestamps in
    append_assoc before.notes (take k (notes_of item)) rest
    ∙ ap (λ (notes : List MonitoredItemNotification). before.notes ++ (notes ++ rest)) (take-map f k item.queue.entries ∙ sym (append-nil (map f (take k item.queue.entries))))

notes_from : (ns : List ℕ) (before : Taking) → (fold with_taken before ns).notes ≡ before.notes ++ notes_given (givings before ns)
notes_from [] before = sym (append-nil before.notes)
notes_from (n ∷ ns) before =
    let next = with_taken before n in
    notes_from ns next ∙ one_note before n (notes_given (givings next ns)) (item_at n before.items)
    ∙ ap (λ (notes : List MonitoredItemNotification). before.notes ++ notes) (sym (notes-append (given_from before.left n (item_at n before.items)) (givings next ns)))

pub notes_are_of_givings : NotesAreOfGivings
notes_are_of_givings items n numbers = notes_from numbers (nothing_taken items n)

-- ---- moves that give nothing, and what is given by moves behind others

given-append : (ds es : QueueMoves) (q : Entries) → given_by q (ds ++ es) ≡ given_by q ds ++ given_by (fold queue_after q ds) es
given-append [] es q = refl
given-append (Send n ∷ ds) es q =
    ap (λ (xs : Entries). take n q ++ xs) (given-append ds es (queue_after q (Send n)))
    ∙ sym (append_assoc (take n q) (given_by (queue_after q (Send n)) ds) (given_by (fold queue_after (queue_after q (Send n)) ds) es))
given-append (Sample size oldest v ∷ ds) es q = given-append ds es (queue_after q (Sample size oldest v))
given-append (Clear ∷ ds) es q = given-append ds es (queue_after q Clear)
given-append (Resize size oldest ∷ ds) es q = given-append ds es (queue_after q (Resize size oldest))

pub entries-append : (n : ℕ) (gs hs : List Giving) → entries_of n (gs ++ hs) ≡ entries_of n gs ++ entries_of n hs
entries-append n [] hs = refl
entries-append n (g ∷ gs) hs = by (g.number == n) (entries-append n gs hs)
  where
    by : (b : Bool) → entries_of n (gs ++ hs) ≡ entries_of n gs ++ entries_of n hs →
        cond b (g.entries ++ entries_of n (gs ++ hs)) (entries_of n (gs ++ hs)) ≡ cond b (g.entries ++ entries_of n gs) (entries_of n gs) ++ entries_of n hs
    by true rest = ap (λ (xs : Entries). g.entries ++ xs) rest ∙ sym (append_assoc g.entries (entries_of n gs) (entries_of n hs))
    by false rest = rest

-- what the moves give is what the items gave
abbrev Gives : NumberedItems → List ItemQueueMove → List Giving → Type 0
Gives items queue_moves gs = (n : ℕ) → given_by (queue_at n items) (queue_moves_of n queue_moves) ≡ entries_of n gs

gives_then : (a b : NumberedItems) (ds es : List ItemQueueMove) (gs hs : List Giving) → Follows a b ds → Gives a ds gs → Gives b es hs → Gives a (ds ++ es) (gs ++ hs)
gives_then a b ds es gs hs follows f g n =
    ap (given_by (queue_at n a)) (queue_moves_join n ds es) ∙ given-append (queue_moves_of n ds) (queue_moves_of n es) (queue_at n a)
    ∙ ap (λ (xs : Entries). xs ++ given_by (fold queue_after (queue_at n a) (queue_moves_of n ds)) (queue_moves_of n es)) (f n)
    ∙ ap (λ (q : Entries). entries_of n gs ++ given_by q (queue_moves_of n es)) (sym (follows n))
    ∙ ap (λ (xs : Entries). entries_of n gs ++ xs) (g n) ∙ sym (entries-append n gs hs)

-- whatever waits, these moves give nothing
abbrev AreSilent : List ItemQueueMove → Type 0
AreSilent queue_moves = (n : ℕ) (q : Entries) → given_by q (queue_moves_of n queue_moves) ≡ []

silent_then : (ds es : List ItemQueueMove) → AreSilent ds → AreSilent es → AreSilent (ds ++ es)
silent_then ds es f g n q =
    ap (given_by q) (queue_moves_join n ds es) ∙ given-append (queue_moves_of n ds) (queue_moves_of n es) q
    ∙ ap (λ (xs : Entries). xs ++ given_by (fold queue_after q (queue_moves_of n ds)) (queue_moves_of n es)) (f n q) ∙ g n (fold queue_after q (queue_moves_of n ds))

silent_on : (k : ℕ) (ds : QueueMoves) → ((q : Entries) → given_by q ds ≡ []) → AreSilent (queue_moves_on k ds)
silent_on k ds silent n q = by (k == n) refl
  where
    by : (b : Bool) → (k == n) ≡ b → given_by q (queue_moves_of n (queue_moves_on k ds)) ≡ []
    by true e = ap (given_by q) (queue_moves_at k n ds true e) ∙ silent q
    by false e = ap (given_by q) (queue_moves_at k n ds false e)

silent_sample : (b : Bool) (v : DataValue) (item : Item) (q : Entries) → given_by q (cond b (sample_queue_move v item) []) ≡ []
silent_sample true v item q = refl
silent_sample false v item q = refl

silent_mode : (b c : Bool) (v : DataValue) (item : Item) (q : Entries) → given_by q (cond b (cond c [] (sample_queue_move v item)) (Clear ∷ [])) ≡ []
silent_mode true true v item q = refl
silent_mode true false v item q = refl
silent_mode false c v item q = refl

-- ---- each call

created_silent : (nodes : Nodes) (clock : Moment) (subscription : ℕ) (timestamps : Timestamps) (s : ItemsState) (request : MonitoredItemCreateRequest) → AreSilent (create_one nodes clock subscription timestamps s request).queue_moves
unfolding create_one
created_silent nodes clock subscription timestamps s request = by (create_judged s nodes subscription request)
  where
    by : (verdict : Result Kind Status) → AreSilent (created_by nodes clock subscription timestamps s request verdict).queue_moves
    by (Err code) = λ n q. refl
    by (Ok kind) =
        let item = new_item s subscription timestamps request kind in
        silent_on (s.made + 1) (begin_queue_moves nodes clock item) (silent_sample (is_enabled item.mode) (reading nodes clock item) item)

modified_silent : (subscription : ℕ) (timestamps : Timestamps) (s : ItemsState) (request : MonitoredItemModifyRequest) → AreSilent (modify_one subscription timestamps s request).queue_moves
unfolding modify_one
modified_silent subscription timestamps s request = by (own_if subscription (item_at request.monitored_item_id s.items)) (trigger_of request.requested_parameters.filter)
  where
    by : (own : Option Item) (trigger : Option Trigger) → AreSilent (modified_by timestamps s request own trigger).queue_moves
    by None trigger = λ n q. refl
    by (Some item) None = λ n q. refl
    by (Some item) (Some trigger) = silent_on request.monitored_item_id (modify_queue_moves s.longest request.requested_parameters) (λ q. refl)

moded_silent : (nodes : Nodes) (clock : Moment) (subscription : ℕ) (mode : Mode) (s : ItemsState) (number : ℕ) → AreSilent (mode_one nodes clock subscription mode s number).queue_moves
unfolding mode_one
moded_silent nodes clock subscription mode s number = by (own_if subscription (item_at number s.items))
  where
    by : (own : Option Item) → AreSilent (moded_by nodes clock mode s number own).queue_moves
    by None = λ n q. refl
    by (Some item) = silent_on number (mode_queue_moves nodes clock mode item) (silent_mode (is_enabled mode) (is_enabled item.mode) (reading nodes clock item) item)

deleted_silent : (subscription : ℕ) (s : ItemsState) (number : ℕ) → AreSilent (delete_one subscription s number).queue_moves
unfolding delete_one
deleted_silent subscription s number = by (own_if subscription (item_at number s.items))
  where
    by : (own : Option Item) → AreSilent (deleted_by s number own).queue_moves
    by None = λ n q. refl
    by (Some item) = silent_on number (Clear ∷ []) (λ q. refl)

module _ {A R : Type 0} (serve : ItemsState → A → One R) (each : (s : ItemsState) (x : A) → AreSilent (serve s x).queue_moves) where
  all_silent : (xs : List A) (before : Served R) → AreSilent before.queue_moves → AreSilent (fold (with_one serve) before xs).queue_moves
  all_silent [] before h = h
  all_silent (x ∷ xs) before h = all_silent xs (with_one serve before x) (silent_then before.queue_moves (serve before.state x).queue_moves h (each before.state x))

  served_silent : (s : ItemsState) (xs : List A) → AreSilent (all_served serve s xs).queue_moves
  served_silent s xs = all_silent xs (nothing_served s) (λ n q. refl)

end_silent : (s : ItemsState) (subscription : ℕ) → AreSilent (end_queue_moves s subscription)
end_silent s subscription = by (numbers_of subscription s.items)
  where
    by : (numbers : List ℕ) → AreSilent (flat_map (λ number. queue_moves_on number (Clear ∷ [])) numbers)
    by [] = λ n q. refl
    by (k ∷ ks) = silent_then (queue_moves_on k (Clear ∷ [])) (flat_map (λ number. queue_moves_on number (Clear ∷ [])) ks) (silent_on k (Clear ∷ []) (λ q. refl)) (by ks)

visit_silent : (v : Visit) (found : Option Item) → AreSilent (visit_queue_moves v found)
visit_silent v None = λ n q. refl
visit_silent v (Some item) = silent_on v.number (seen_queue_moves v.value item) (silent_sample (takes item v.value) v.value item)

visits_silent : (vs : List Visit) (items : NumberedItems) → AreSilent (sample_queue_moves items vs)
visits_silent [] items = λ n q. refl
visits_silent (v ∷ vs) items = silent_then (visit_queue_moves v (item_at v.number items)) (sample_queue_moves (visited items v) vs) (visit_silent v (item_at v.number items)) (visits_silent vs (visited items v))

shows_silent : (cs : List Change) (items : NumberedItems) → AreSilent (show_queue_moves items cs)
shows_silent [] items = λ n q. refl
shows_silent (c ∷ cs) items =
    silent_then (sample_queue_moves items (visits_of items c)) (show_queue_moves (shown_one items c) cs) (visits_silent (visits_of items c) items) (shows_silent cs (shown_one items c))

-- ---- what is taken

one_given : (left k : ℕ) (items : NumberedItems) (found : Option Item) → item_at k items ≡ found → Gives items (give_queue_moves left k found) (given_from left k found)
one_given left k items None e n = refl
one_given left k items (Some item) e n = by (k == n) refl
  where
    least : ℕ
    least = nat_least left (waiting_in item)

    by : (b : Bool) → (k == n) ≡ b → given_by (queue_at n items) (queue_moves_of n (queue_moves_on k (Send least ∷ []))) ≡ cond b (take least item.queue.entries ++ []) []
    by true same =
        let here : queue_at n items ≡ item.queue.entries = ap (λ (m : ℕ). queue_at m items) (sym (eqb-true k n same)) ∙ ap queue_in e in
        ap (given_by (queue_at n items)) (queue_moves_at k n (Send least ∷ []) true same) ∙ ap (λ (q : Entries). take least q ++ []) here
    by false other = ap (given_by (queue_at n items)) (queue_moves_at k n (Send least ∷ []) false other)

all_taken : (made : ℕ) (ns : List ℕ) (t : Taking) → IsSound made t.items → Gives t.items (take_queue_moves t ns) (givings t ns)
all_taken made [] t h = λ n. refl
all_taken made (k ∷ ks) t h =
    let one = take_step made t k h in
    let next = with_taken t k in
    gives_then t.items next.items (give_queue_moves t.left k (item_at k t.items)) (take_queue_moves next ks) (given_from t.left k (item_at k t.items)) (givings next ks) one.follows
    (one_given t.left k t.items (item_at k t.items) refl) (all_taken made ks next one.sound)

-- ---- any calls

move_gives : (s : ItemsState) (m : Move) → IsSound s.made s.items → Gives s.items (moved s m).queue_moves (given s m)
move_gives s (Create nodes clock subscription timestamps requests) h =
    λ n. served_silent (create_one nodes clock subscription timestamps) (created_silent nodes clock subscription timestamps) s requests n (queue_at n s.items)
move_gives s (Modify subscription timestamps requests) h = λ n. served_silent (modify_one subscription timestamps) (modified_silent subscription timestamps) s requests n (queue_at n s.items)
move_gives s (SetMode nodes clock subscription mode numbers) h =
    λ n. served_silent (mode_one nodes clock subscription mode) (moded_silent nodes clock subscription mode) s numbers n (queue_at n s.items)
move_gives s (Link subscription triggering add remove) h = λ n. refl
move_gives s (Delete subscription numbers) h = λ n. served_silent (delete_one subscription) (deleted_silent subscription) s numbers n (queue_at n s.items)
move_gives s (End subscription) h = λ n. end_silent s subscription n (queue_at n s.items)
move_gives s (Show changed) h = λ n. shows_silent changed s.items n (queue_at n s.items)
move_gives s (TakeNotes subscription n) h = all_taken s.made (numbers_of subscription s.items) (nothing_taken s.items n) h

queue_moves_from : (ms : List Move) (before : Moved) → (fold moved_on before ms).queue_moves ≡ before.queue_moves ++ (fold moved_on (record { state = before.state; queue_moves = [] }) ms).queue_moves
queue_moves_from [] before = sym (append-nil before.queue_moves)
queue_moves_from (m ∷ ms) before =
    let one = moved before.state m in
    queue_moves_from ms (moved_on before m) ∙ append_assoc before.queue_moves one.queue_moves (fold moved_on (record { state = one.state; queue_moves = [] }) ms).queue_moves
    ∙ ap (λ (ds : List ItemQueueMove). before.queue_moves ++ ds) (sym (queue_moves_from ms one))

all_give : (ms : List Move) (s : ItemsState) → IsSound s.made s.items → Gives s.items (fold moved_on (record { state = s; queue_moves = [] }) ms).queue_moves (all_given s ms)
all_give [] s h = λ n. refl
all_give (m ∷ ms) s h =
    let one = move_step s m h in
    let after = moved s m in
    subst (λ (ds : List ItemQueueMove). Gives s.items ds (given s m ++ all_given after.state ms)) (sym (queue_moves_from ms after))
    (gives_then s.items after.state.items after.queue_moves (fold moved_on (record { state = after.state; queue_moves = [] }) ms).queue_moves (given s m) (all_given after.state ms) one.follows
    (move_gives s m h) (all_give ms after.state one.sound))

pub givings_are_what_was_sent : GivingsAreWhatWasSent
givings_are_what_was_sent config moves number =
    sym (all_give moves (no_items config) (record { within = tt; rising = tt }) number) ∙ sym (sent_are_given (queue_moves_of number (run config moves).queue_moves))
