-- The values that wait are the queue.
use Rattle.std.proofs.Common.{◌≡◌, ℕ, ◌-◌, Bool, true, false, cond, List, [], ◌∷◌, ◌++◌, take, drop, length, suc, zero, refl, ap, ◌∙◌}
use Rattle.std.specs.Prelude.{fold}
use Rattle.ua_item_queue.specs.declared.entry.Entry.{Entry}
use Rattle.ua_item_queue.specs.ItemQueue.{entry, marked_front, QueueChange, changed, QueueMove, changes_of, queue_after, queue}
use Rattle.ua_item_queue.specs.Fates.{Fate, AccountEntry, is_waiting, entered, with_fate, waiting, first_get, others_get, first_marked, settled, accounted, account_after, account}
use Rattle.ua_item_queue.specs.Fates.Fate.{WasSent, WasLost, WasCleared}

pub waiting-append : {V : Type 0} → (ts us : List (AccountEntry V)) → waiting (ts ++ us) ≡ waiting ts ++ waiting us
waiting-append [] us = refl
waiting-append (t ∷ ts) us = by (is_waiting t.fate) (waiting-append ts us)
  where
    by : (b : Bool) → waiting (ts ++ us) ≡ waiting ts ++ waiting us → cond b (entry t.value t.marked ∷ waiting (ts ++ us)) (waiting (ts ++ us)) ≡ cond b (entry t.value t.marked ∷ waiting ts) (waiting ts) ++ waiting us
    by true ih = ap (λ es. entry t.value t.marked ∷ es) ih
    by false ih = ih

pub waiting-settled : {V : Type 0} → (ts : List (AccountEntry V)) → waiting (settled ts) ≡ waiting ts
waiting-settled [] = refl
waiting-settled (t ∷ ts) = ap (λ es. cond (is_waiting t.fate) (entry t.value t.marked ∷ es) es) (waiting-settled ts)

pub waiting-first_marked : {V : Type 0} → (ts : List (AccountEntry V)) → waiting (first_marked ts) ≡ marked_front (waiting ts)
waiting-first_marked [] = refl
waiting-first_marked (t ∷ ts) = by (is_waiting t.fate) refl (waiting-first_marked ts)
  where
    by : (b : Bool) → is_waiting t.fate ≡ b → waiting (first_marked ts) ≡ marked_front (waiting ts) → waiting (cond b (record t { marked = true } ∷ ts) (t ∷ first_marked ts)) ≡ marked_front (cond b (entry t.value t.marked ∷ waiting ts) (waiting ts))
    by true e ih = rw e refl
    by false e ih = rw e ih

pub waiting-first_get : {V : Type 0} → (f : Fate) → is_waiting f ≡ false → (n : ℕ) (ts : List (AccountEntry V)) → waiting (first_get f n ts) ≡ drop n (waiting ts)
waiting-first_get f w zero [] = refl
waiting-first_get f w (suc n) [] = refl
waiting-first_get f w zero (t ∷ ts) = refl
waiting-first_get f w (suc n) (t ∷ ts) = by (is_waiting t.fate) refl (waiting-first_get f w n ts) (waiting-first_get f w (suc n) ts)
  where
    by : (b : Bool) → is_waiting t.fate ≡ b → waiting (first_get f n ts) ≡ drop n (waiting ts) → waiting (first_get f (suc n) ts) ≡ drop (suc n) (waiting ts) → waiting (cond b (with_fate f t ∷ first_get f n ts) (t ∷ first_get f (suc n) ts)) ≡ drop (suc n) (cond b (entry t.value t.marked ∷ waiting ts) (waiting ts))
    by true e ih _ = rw w ih
    by false e _ ih = rw e ih

pub waiting-others_get : {V : Type 0} → (f : Fate) → is_waiting f ≡ false → (n : ℕ) (ts : List (AccountEntry V)) → waiting (others_get f n ts) ≡ take n (waiting ts)
waiting-others_get f w zero [] = refl
waiting-others_get f w (suc n) [] = refl
waiting-others_get f w zero (t ∷ ts) = by (is_waiting t.fate) refl (waiting-others_get f w zero ts)
  where
    by : (b : Bool) → is_waiting t.fate ≡ b → waiting (others_get f zero ts) ≡ take zero (waiting ts) → waiting (cond b (with_fate f t ∷ others_get f zero ts) (t ∷ others_get f zero ts)) ≡ take zero (cond b (entry t.value t.marked ∷ waiting ts) (waiting ts))
    by true e ih = rw w ih
    by false e ih = rw e ih
waiting-others_get f w (suc n) (t ∷ ts) = by (is_waiting t.fate) refl (waiting-others_get f w n ts) (waiting-others_get f w (suc n) ts)
  where
    by : (b : Bool) → is_waiting t.fate ≡ b → waiting (others_get f n ts) ≡ take n (waiting ts) → waiting (others_get f (suc n) ts) ≡ take (suc n) (waiting ts) → waiting (cond b (t ∷ others_get f n ts) (t ∷ others_get f (suc n) ts)) ≡ take (suc n) (cond b (entry t.value t.marked ∷ waiting ts) (waiting ts))
    by true e ih _ = rw e (ap (λ es. entry t.value t.marked ∷ es) ih)
    by false e _ ih = rw e ih

take_none : {V : Type 0} → (es : List (Entry V)) → take 0 es ≡ []
take_none [] = refl
take_none (e ∷ es) = refl

-- a change of the account is that change of what waits
pub waiting-accounted : {V : Type 0} → (ts : List (AccountEntry V)) (a : QueueChange V) → waiting (accounted ts a) ≡ changed (waiting ts) a
waiting-accounted ts (QueueChange.Queued v) = waiting-append ts (entered v false ∷ [])
waiting-accounted ts QueueChange.FrontDropped = waiting-first_marked (first_get WasLost 1 ts) ∙ ap marked_front (waiting-first_get WasLost refl 1 ts)
waiting-accounted ts (QueueChange.NewestReplaced v) = waiting-append (others_get WasLost (length (waiting ts) - 1) ts) (entered v true ∷ []) ∙ ap (λ es. es ++ entry v true ∷ []) (waiting-others_get WasLost refl (length (waiting ts) - 1) ts)
waiting-accounted ts (QueueChange.OnlyReplaced v) = waiting-append (settled (others_get WasLost 0 ts)) (entered v false ∷ []) ∙ ap (λ es. es ++ entry v false ∷ []) (waiting-settled (others_get WasLost 0 ts) ∙ waiting-others_get WasLost refl 0 ts ∙ take_none (waiting ts))
waiting-accounted ts (QueueChange.Sent n) = waiting-first_get WasSent refl n ts
waiting-accounted ts QueueChange.Cleared = waiting-settled (others_get WasCleared 0 ts) ∙ waiting-others_get WasCleared refl 0 ts ∙ take_none (waiting ts)
waiting-accounted ts (QueueChange.FrontCleared n) = waiting-settled (first_get WasCleared n ts) ∙ waiting-first_get WasCleared refl n ts
waiting-accounted ts (QueueChange.BackCleared n) = waiting-settled (others_get WasCleared n ts) ∙ waiting-others_get WasCleared refl n ts

waiting-acts : {V : Type 0} → (changes : List (QueueChange V)) (ts : List (AccountEntry V)) → waiting (fold accounted ts changes) ≡ fold changed (waiting ts) changes
waiting-acts [] ts = refl
waiting-acts (a ∷ changes) ts = waiting-acts changes (accounted ts a) ∙ ap (λ q. fold changed q changes) (waiting-accounted ts a)

waiting-queue_moves : {V : Type 0} → (ds : List (QueueMove V)) (ts : List (AccountEntry V)) → waiting (fold account_after ts ds) ≡ fold queue_after (waiting ts) ds
waiting-queue_moves [] ts = refl
waiting-queue_moves (d ∷ ds) ts = waiting-queue_moves ds (account_after ts d) ∙ ap (λ q. fold queue_after q ds) (waiting-acts (changes_of (waiting ts) d) ts)

pub queue_is_what_waits : {V : Type 0} → (ds : List (QueueMove V)) → waiting (account ds) ≡ queue ds
queue_is_what_waits ds = waiting-queue_moves ds []
