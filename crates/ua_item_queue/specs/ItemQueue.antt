-- The queue of a monitored item, and what may happen to it.
use Rattle.std.specs.Prelude.{ℕ, ◌-◌, Bool, true, false, List, [], ◌∷◌, ◌++◌, length, take, drop, fold, Option, None, Some, nat_lt, nat_le, if◌then◌else◌}
use Rattle.ua_item_queue.specs.declared.entry.Entry.{Entry}

abbrev pub entry : {V : Type 0} → V → Bool → Entry V
entry v marked = record { value = v; marked = marked }

abbrev pub marked_front : {V : Type 0} → List (Entry V) → List (Entry V)
marked_front [] = []
marked_front (e ∷ es) = record e { marked = true } ∷ es

-- a queue: the values that wait, how many may, which one goes where it is full, and the value that was queued last
pub record QueueState (V : Type 0) : Type 0 where
  pub entries : List (Entry V)
  pub size : ℕ
  pub discard_oldest : Bool
  pub last : Option V

-- the changes of a queue
pub data QueueChange (V : Type 0) : Type 0 where
  -- a value comes in at the back
  Queued : V → QueueChange V
  -- the oldest value is lost, and the one behind it is marked
  FrontDropped : QueueChange V
  -- the newest value is lost, and this one comes in its place, marked
  NewestReplaced : V → QueueChange V
  -- where the queue holds one value: it is lost, and this one comes in its place, unmarked
  OnlyReplaced : V → QueueChange V
  -- so many of the oldest are sent
  Sent : ℕ → QueueChange V
  -- all are cleared, so many of the oldest are, or all but so many of the oldest
  Cleared : QueueChange V
  FrontCleared : ℕ → QueueChange V
  BackCleared : ℕ → QueueChange V

abbrev pub changed : {V : Type 0} → List (Entry V) → QueueChange V → List (Entry V)
changed q (Queued v) = q ++ entry v false ∷ []
changed q FrontDropped = marked_front (drop 1 q)
changed q (NewestReplaced v) = take (length q - 1) q ++ entry v true ∷ []
changed q (OnlyReplaced v) = entry v false ∷ []
changed q (Sent n) = drop n q
changed q Cleared = []
changed q (FrontCleared n) = drop n q
changed q (BackCleared n) = take n q

-- what the server does with an item
pub data QueueMove (V : Type 0) : Type 0 where
  -- queues a value, in a queue of that size, whose oldest value goes where it is full, or else the newest
  Sample : (size : ℕ) (discard_oldest : Bool) → V → QueueMove V
  -- sends the oldest values, as many as that
  Send : ℕ → QueueMove V
  -- the item is disabled or deleted, or its subscription ends
  Clear : QueueMove V
  -- the queue gets another size
  Resize : (size : ℕ) (discard_oldest : Bool) → QueueMove V

abbrev pub changes_of : {V : Type 0} → List (Entry V) → QueueMove V → List (QueueChange V)
changes_of q (Sample size discard_oldest v) =
    if nat_lt (length q) size then Queued v ∷ []
    else (if nat_lt 1 size then (if discard_oldest then Queued v ∷ FrontDropped ∷ [] else NewestReplaced v ∷ []) else OnlyReplaced v ∷ [])
changes_of q (Send n) = Sent n ∷ []
changes_of q Clear = Cleared ∷ []
changes_of q (Resize size discard_oldest) =
    if nat_le (length q) size then [] else (if discard_oldest then FrontCleared (length q - size) ∷ [] else BackCleared size ∷ [])

-- the queue after a move, and after all of some
abbrev pub queue_after : {V : Type 0} → List (Entry V) → QueueMove V → List (Entry V)
queue_after q d = fold changed q (changes_of q d)

abbrev pub queue : {V : Type 0} → List (QueueMove V) → List (Entry V)
queue ds = fold queue_after [] ds

-- the newest value
abbrev pub newest : {V : Type 0} → List (Entry V) → Option V
newest [] = None
newest (e ∷ []) = Some e.value
newest (e ∷ f ∷ es) = newest (f ∷ es)

-- of the values of a ring those that wait: all but the newest where that is only kept, or else all
abbrev pub waiting_of : {V : Type 0} → Bool → List (Entry V) → List (Entry V)
waiting_of true es = take (length es - 1) es
waiting_of false es = es

-- a queue after each call, which is one move
abbrev pub after : {V : Type 0} → QueueState V → QueueMove V → QueueState V
after q d = record q { entries = queue_after q.entries d }

abbrev pub sampled : {V : Type 0} → QueueState V → V → QueueState V
sampled q v = record (after q (Sample q.size q.discard_oldest v)) { last = Some v }

abbrev pub sent : {V : Type 0} → QueueState V → ℕ → QueueState V
sent q n = after q (Send n)

abbrev pub cleared : {V : Type 0} → QueueState V → QueueState V
cleared q = after q Clear

abbrev pub resized : {V : Type 0} → QueueState V → ℕ → Bool → QueueState V
resized q size discard_oldest = record (after q (Resize size discard_oldest)) { size = size; discard_oldest = discard_oldest }
