-- Each value that needs a mark has it.
use Rattle.std.proofs.Common.{◌≡◌, ℕ, ◌-◌, ◌≤◌, Bool, true, false, cond, List, [], ◌∷◌, ◌++◌, length, suc, zero, refl, arith}
use Rattle.std.specs.Prelude.{⊤}
use Rattle.ua_item_queue.specs.ItemQueue.{entry, QueueChange}
use Rattle.ua_item_queue.specs.Fates.{Fate, AccountEntry, is_waiting, is_sent, is_left, entered, with_fate, waiting, first_get, others_get, first_marked, settled, accounted, NoneSent, IsInOrder, is_first_marked, LossesAreMarked}
use Rattle.ua_item_queue.specs.Fates.Fate.{Waits, WasSent, WasLost, WasCleared}

left_waits : (f : Fate) → is_waiting f ≡ true → is_left f ≡ true
left_waits Waits w = refl
left_waits WasSent w = refl
left_waits WasLost w = absurd (cc)
left_waits WasCleared w = absurd (cc)

-- neither waiting nor sent: not left
not_left : (f : Fate) → is_waiting f ≡ false → is_sent f ≡ false → is_left f ≡ false
not_left Waits w s = absurd (cc)
not_left WasSent w s = absurd (cc)
not_left WasLost w s = refl
not_left WasCleared w s = refl

pub first_appended : {V : Type 0} → (ts us : List (AccountEntry V)) → is_first_marked ts ≡ true → is_first_marked (ts ++ us) ≡ true
first_appended [] us h = absurd (cc)
first_appended (t ∷ ts) us h = by (is_left t.fate) h (first_appended ts us)
  where
    by : (b : Bool) → cond b t.marked (is_first_marked ts) ≡ true → (is_first_marked ts ≡ true → is_first_marked (ts ++ us) ≡ true) → cond b t.marked (is_first_marked (ts ++ us)) ≡ true
    by true k ih = k
    by false k ih = ih k

marked_appended : {V : Type 0} → (ts : List (AccountEntry V)) (v : V) (m : Bool) → LossesAreMarked ts → LossesAreMarked (ts ++ entered v m ∷ [])
marked_appended [] v m h = ((λ needs_mark. absurd (cc)), tt)
marked_appended (t ∷ ts) v m h = ((λ needs_mark. first_appended ts (entered v m ∷ []) (h.0 needs_mark)), marked_appended ts v m h.1)

marked_settled : {V : Type 0} → (ts : List (AccountEntry V)) → LossesAreMarked (settled ts)
marked_settled [] = tt
marked_settled (t ∷ ts) = ((λ needs_mark. absurd (cc)), marked_settled ts)

-- what is sent is still left
pub first_sent : {V : Type 0} → (n : ℕ) (ts : List (AccountEntry V)) → is_first_marked ts ≡ true → is_first_marked (first_get WasSent n ts) ≡ true
first_sent n [] h = h
first_sent zero (t ∷ ts) h = h
first_sent (suc n) (t ∷ ts) h = by (is_waiting t.fate) refl h (first_sent (suc n) ts)
  where
    stays : (b : Bool) → cond b t.marked (is_first_marked ts) ≡ true → (is_first_marked ts ≡ true → is_first_marked (first_get WasSent (suc n) ts) ≡ true) → cond b t.marked (is_first_marked (first_get WasSent (suc n) ts)) ≡ true
    stays true k ih = k
    stays false k ih = ih k

    by : (b : Bool) → is_waiting t.fate ≡ b → cond (is_left t.fate) t.marked (is_first_marked ts) ≡ true → (is_first_marked ts ≡ true → is_first_marked (first_get WasSent (suc n) ts) ≡ true) → is_first_marked (cond b (with_fate WasSent t ∷ first_get WasSent n ts) (t ∷ first_get WasSent (suc n) ts)) ≡ true
    by true e k ih = rw (left_waits t.fate e) at k
    by false e k ih = stays (is_left t.fate) k ih

marked_sent : {V : Type 0} → (n : ℕ) (ts : List (AccountEntry V)) → LossesAreMarked ts → LossesAreMarked (first_get WasSent n ts)
marked_sent n [] h = tt
marked_sent zero (t ∷ ts) h = h
marked_sent (suc n) (t ∷ ts) h = by (is_waiting t.fate) (marked_sent n ts h.1) (marked_sent (suc n) ts h.1)
  where
    by : (b : Bool) → LossesAreMarked (first_get WasSent n ts) → LossesAreMarked (first_get WasSent (suc n) ts) → LossesAreMarked (cond b (with_fate WasSent t ∷ first_get WasSent n ts) (t ∷ first_get WasSent (suc n) ts))
    by true k _ = ((λ needs_mark. absurd (cc)), k)
    by false _ k = ((λ needs_mark. first_sent (suc n) ts (h.0 needs_mark)), k)

-- the first that waits is marked, so the first that is left is, where none was sent
pub first_is_marked : {V : Type 0} → (ts : List (AccountEntry V)) → NoneSent ts → 1 ≤ length (waiting ts) → is_first_marked (first_marked ts) ≡ true
first_is_marked [] h some = absurd (omega arith)
first_is_marked (t ∷ ts) h some = by (is_waiting t.fate) refl some (first_is_marked ts h.1)
  where
    by : (b : Bool) → is_waiting t.fate ≡ b → 1 ≤ length (cond b (entry t.value t.marked ∷ waiting ts) (waiting ts)) → (1 ≤ length (waiting ts) → is_first_marked (first_marked ts) ≡ true) → is_first_marked (cond b (record t { marked = true } ∷ ts) (t ∷ first_marked ts)) ≡ true
    by true e k ih = rw (left_waits t.fate e) refl
    by false e k ih = rw (not_left t.fate e h.0) (ih k)

-- marks are only added
pub stays_marked : {V : Type 0} → (ts : List (AccountEntry V)) → is_first_marked ts ≡ true → is_first_marked (first_marked ts) ≡ true
stays_marked [] h = h
stays_marked (t ∷ ts) h = by (is_waiting t.fate) refl h (stays_marked ts)
  where
    stays : (b : Bool) → cond b t.marked (is_first_marked ts) ≡ true → (is_first_marked ts ≡ true → is_first_marked (first_marked ts) ≡ true) → cond b t.marked (is_first_marked (first_marked ts)) ≡ true
    stays true k ih = k
    stays false k ih = ih k

    by : (b : Bool) → is_waiting t.fate ≡ b → cond (is_left t.fate) t.marked (is_first_marked ts) ≡ true → (is_first_marked ts ≡ true → is_first_marked (first_marked ts) ≡ true) → is_first_marked (cond b (record t { marked = true } ∷ ts) (t ∷ first_marked ts)) ≡ true
    by true e k ih = rw (left_waits t.fate e) refl
    by false e k ih = stays (is_left t.fate) k ih

marked_marked : {V : Type 0} → (ts : List (AccountEntry V)) → LossesAreMarked ts → LossesAreMarked (first_marked ts)
marked_marked [] h = tt
marked_marked (t ∷ ts) h = by (is_waiting t.fate) (marked_marked ts h.1)
  where
    by : (b : Bool) → LossesAreMarked (first_marked ts) → LossesAreMarked (cond b (record t { marked = true } ∷ ts) (t ∷ first_marked ts))
    by true k = (h.0, h.1)
    by false k = ((λ needs_mark. stays_marked ts (h.0 needs_mark)), k)

pub get_none : {V : Type 0} → (f : Fate) (ts : List (AccountEntry V)) → first_get f 0 ts ≡ ts
get_none f [] = refl
get_none f (t ∷ ts) = refl

-- the front is lost, and the next one is marked
abbrev pub lost_front : {V : Type 0} → List (AccountEntry V) → List (AccountEntry V)
lost_front ts = first_marked (first_get WasLost 1 ts)

pub first_of_front : {V : Type 0} → (ts : List (AccountEntry V)) → IsInOrder ts → 2 ≤ length (waiting ts) → is_first_marked ts ≡ true → is_first_marked (lost_front ts) ≡ true
first_of_front [] o some h = absurd (cc)
first_of_front (t ∷ ts) o some h = by (is_waiting t.fate) refl some h (first_of_front ts o.1)
  where
    stays : (b : Bool) → cond b t.marked (is_first_marked ts) ≡ true → (is_first_marked ts ≡ true → is_first_marked (lost_front ts) ≡ true) → cond b t.marked (is_first_marked (lost_front ts)) ≡ true
    stays true k ih = k
    stays false k ih = ih k

    by : (b : Bool) → is_waiting t.fate ≡ b → 2 ≤ length (cond b (entry t.value t.marked ∷ waiting ts) (waiting ts)) → cond (is_left t.fate) t.marked (is_first_marked ts) ≡ true → (2 ≤ length (waiting ts) → is_first_marked ts ≡ true → is_first_marked (lost_front ts) ≡ true) → is_first_marked (first_marked (cond b (with_fate WasLost t ∷ first_get WasLost 0 ts) (t ∷ first_get WasLost 1 ts))) ≡ true
    by true e some k ih = rw (get_none WasLost ts) (first_is_marked ts (o.0 e) (omega arith))
    by false e some k ih = rw e (stays (is_left t.fate) k (ih some))

marked_front_lost : {V : Type 0} → (ts : List (AccountEntry V)) → IsInOrder ts → 2 ≤ length (waiting ts) → LossesAreMarked ts → LossesAreMarked (lost_front ts)
marked_front_lost [] o some h = tt
marked_front_lost (t ∷ ts) o some h = by (is_waiting t.fate) refl some (λ some. marked_front_lost ts o.1 some h.1)
  where
    by : (b : Bool) → is_waiting t.fate ≡ b → 2 ≤ length (cond b (entry t.value t.marked ∷ waiting ts) (waiting ts)) → (2 ≤ length (waiting ts) → LossesAreMarked (lost_front ts)) → LossesAreMarked (first_marked (cond b (with_fate WasLost t ∷ first_get WasLost 0 ts) (t ∷ first_get WasLost 1 ts)))
    by true e some ih = rw (get_none WasLost ts) ((λ needs_mark. first_is_marked ts (o.0 e) (omega arith)), marked_marked ts h.1)
    by false e some ih = rw e ((λ needs_mark. first_of_front ts o.1 some (h.0 needs_mark)), ih some)

-- the newest are lost, and a marked value comes in their place
abbrev pub replaced : {V : Type 0} → ℕ → V → List (AccountEntry V) → List (AccountEntry V)
replaced n v ts = others_get WasLost n ts ++ entered v true ∷ []

pub new_is_first : {V : Type 0} → (v : V) (ts : List (AccountEntry V)) → NoneSent ts → is_first_marked (replaced 0 v ts) ≡ true
new_is_first v [] h = refl
new_is_first v (t ∷ ts) h = by (is_waiting t.fate) refl (new_is_first v ts h.1)
  where
    by : (b : Bool) → is_waiting t.fate ≡ b → is_first_marked (replaced 0 v ts) ≡ true → is_first_marked (cond b (with_fate WasLost t ∷ others_get WasLost 0 ts) (t ∷ others_get WasLost 0 ts) ++ entered v true ∷ []) ≡ true
    by true e ih = ih
    by false e ih = rw (not_left t.fate e h.0) ih

pub first_of_replaced : {V : Type 0} → (n : ℕ) (v : V) (ts : List (AccountEntry V)) → IsInOrder ts → is_first_marked ts ≡ true → is_first_marked (replaced n v ts) ≡ true
first_of_replaced n v [] o h = absurd (cc)
first_of_replaced zero v (t ∷ ts) o h = by (is_waiting t.fate) refl h (first_of_replaced zero v ts o.1)
  where
    stays : (b : Bool) → cond b t.marked (is_first_marked ts) ≡ true → (is_first_marked ts ≡ true → is_first_marked (replaced zero v ts) ≡ true) → cond b t.marked (is_first_marked (replaced zero v ts)) ≡ true
    stays true k ih = k
    stays false k ih = ih k

    by : (b : Bool) → is_waiting t.fate ≡ b → cond (is_left t.fate) t.marked (is_first_marked ts) ≡ true → (is_first_marked ts ≡ true → is_first_marked (replaced zero v ts) ≡ true) → is_first_marked (cond b (with_fate WasLost t ∷ others_get WasLost zero ts) (t ∷ others_get WasLost zero ts) ++ entered v true ∷ []) ≡ true
    by true e k ih = new_is_first v ts (o.0 e)
    by false e k ih = stays (is_left t.fate) k ih
first_of_replaced (suc n) v (t ∷ ts) o h = by (is_waiting t.fate) refl h (first_of_replaced (suc n) v ts o.1)
  where
    stays : (b : Bool) → cond b t.marked (is_first_marked ts) ≡ true → (is_first_marked ts ≡ true → is_first_marked (replaced (suc n) v ts) ≡ true) → cond b t.marked (is_first_marked (replaced (suc n) v ts)) ≡ true
    stays true k ih = k
    stays false k ih = ih k

    by : (b : Bool) → is_waiting t.fate ≡ b → cond (is_left t.fate) t.marked (is_first_marked ts) ≡ true → (is_first_marked ts ≡ true → is_first_marked (replaced (suc n) v ts) ≡ true) → is_first_marked (cond b (t ∷ others_get WasLost n ts) (t ∷ others_get WasLost (suc n) ts) ++ entered v true ∷ []) ≡ true
    by true e k ih = let left = left_waits t.fate e in rw left (rw left at k)
    by false e k ih = stays (is_left t.fate) k ih

marked_replaced : {V : Type 0} → (n : ℕ) (v : V) (ts : List (AccountEntry V)) → IsInOrder ts → LossesAreMarked ts → LossesAreMarked (replaced n v ts)
marked_replaced n v [] o h = ((λ needs_mark. absurd (cc)), tt)
marked_replaced zero v (t ∷ ts) o h = by (is_waiting t.fate) refl (marked_replaced zero v ts o.1 h.1)
  where
    by : (b : Bool) → is_waiting t.fate ≡ b → LossesAreMarked (replaced zero v ts) → LossesAreMarked (cond b (with_fate WasLost t ∷ others_get WasLost zero ts) (t ∷ others_get WasLost zero ts) ++ entered v true ∷ [])
    by true e ih = ((λ needs_mark. new_is_first v ts (o.0 e)), ih)
    by false e ih = ((λ needs_mark. first_of_replaced zero v ts o.1 (h.0 needs_mark)), ih)
marked_replaced (suc n) v (t ∷ ts) o h = by (is_waiting t.fate) (marked_replaced n v ts o.1 h.1) (marked_replaced (suc n) v ts o.1 h.1)
  where
    by : (b : Bool) → LossesAreMarked (replaced n v ts) → LossesAreMarked (replaced (suc n) v ts) → LossesAreMarked (cond b (t ∷ others_get WasLost n ts) (t ∷ others_get WasLost (suc n) ts) ++ entered v true ∷ [])
    by true ih _ = ((λ needs_mark. first_of_replaced n v ts o.1 (h.0 needs_mark)), ih)
    by false _ ih = ((λ needs_mark. first_of_replaced (suc n) v ts o.1 (h.0 needs_mark)), ih)

-- a change at which no value is left without a mark that it needs
abbrev pub IsFit : {V : Type 0} → List (AccountEntry V) → QueueChange V → Type 0
IsFit ts QueueChange.FrontDropped = 2 ≤ length (waiting ts)
IsFit ts a = ⊤

pub marked_kept : {V : Type 0} → (ts : List (AccountEntry V)) (a : QueueChange V) → IsFit ts a → IsInOrder ts → LossesAreMarked ts → LossesAreMarked (accounted ts a)
marked_kept ts (QueueChange.Queued v) fit o h = marked_appended ts v false h
marked_kept ts QueueChange.FrontDropped fit o h = marked_front_lost ts o fit h
marked_kept ts (QueueChange.NewestReplaced v) fit o h = marked_replaced (length (waiting ts) - 1) v ts o h
marked_kept ts (QueueChange.OnlyReplaced v) fit o h = marked_appended (settled (others_get WasLost 0 ts)) v false (marked_settled (others_get WasLost 0 ts))
marked_kept ts (QueueChange.Sent n) fit o h = marked_sent n ts h
marked_kept ts QueueChange.Cleared fit o h = marked_settled (others_get WasCleared 0 ts)
marked_kept ts (QueueChange.FrontCleared n) fit o h = marked_settled (first_get WasCleared n ts)
marked_kept ts (QueueChange.BackCleared n) fit o h = marked_settled (others_get WasCleared n ts)
