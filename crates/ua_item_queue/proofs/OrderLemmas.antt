-- No value is sent before an older one that waits.
use Rattle.std.proofs.Common.{◌≡◌, ℕ, ◌-◌, Bool, true, false, cond, List, [], ◌∷◌, ◌++◌, length, suc, zero, refl, sym, ◌∙◌}
use Rattle.ua_item_queue.specs.ItemQueue.{QueueChange}
use Rattle.ua_item_queue.specs.Fates.{Fate, AccountEntry, is_waiting, is_sent, entered, with_fate, waiting, first_get, others_get, first_marked, settled, accounted, NoneSent, IsInOrder}
use Rattle.ua_item_queue.specs.Fates.Fate.{WasSent, WasLost, WasCleared}

pub both : {A : Type 0} {b : Bool} → b ≡ true → b ≡ false → A
both h k = let e : true ≡ false = sym h ∙ k in absurd (cc)

none_appended : {V : Type 0} → (ts us : List (AccountEntry V)) → NoneSent ts → NoneSent us → NoneSent (ts ++ us)
none_appended [] us h k = k
none_appended (t ∷ ts) us h k = (h.0, none_appended ts us h.1 k)

none_others : {V : Type 0} → (f : Fate) → is_sent f ≡ false → (n : ℕ) (ts : List (AccountEntry V)) → NoneSent ts → NoneSent (others_get f n ts)
none_others f s n [] h = tt
none_others f s zero (t ∷ ts) h = by (is_waiting t.fate) (none_others f s zero ts h.1)
  where
    by : (b : Bool) → NoneSent (others_get f zero ts) → NoneSent (cond b (with_fate f t ∷ others_get f zero ts) (t ∷ others_get f zero ts))
    by true k = (s, k)
    by false k = (h.0, k)
none_others f s (suc n) (t ∷ ts) h = by (is_waiting t.fate) (none_others f s n ts h.1) (none_others f s (suc n) ts h.1)
  where
    by : (b : Bool) → NoneSent (others_get f n ts) → NoneSent (others_get f (suc n) ts) → NoneSent (cond b (t ∷ others_get f n ts) (t ∷ others_get f (suc n) ts))
    by true k _ = (h.0, k)
    by false _ k = (h.0, k)

none_marked : {V : Type 0} → (ts : List (AccountEntry V)) → NoneSent ts → NoneSent (first_marked ts)
none_marked [] h = tt
none_marked (t ∷ ts) h = by (is_waiting t.fate) (none_marked ts h.1)
  where
    by : (b : Bool) → NoneSent (first_marked ts) → NoneSent (cond b (record t { marked = true } ∷ ts) (t ∷ first_marked ts))
    by true k = (h.0, h.1)
    by false k = (h.0, k)

none_settled : {V : Type 0} → (ts : List (AccountEntry V)) → NoneSent ts → NoneSent (settled ts)
none_settled [] h = tt
none_settled (t ∷ ts) h = (h.0, none_settled ts h.1)

order_first : {V : Type 0} → (f : Fate) → is_waiting f ≡ false → (n : ℕ) (ts : List (AccountEntry V)) → IsInOrder ts → IsInOrder (first_get f n ts)
order_first f w n [] h = tt
order_first f w zero (t ∷ ts) h = h
order_first f w (suc n) (t ∷ ts) h = by (is_waiting t.fate) refl (order_first f w n ts h.1) (order_first f w (suc n) ts h.1)
  where
    by : (b : Bool) → is_waiting t.fate ≡ b → IsInOrder (first_get f n ts) → IsInOrder (first_get f (suc n) ts) → IsInOrder (cond b (with_fate f t ∷ first_get f n ts) (t ∷ first_get f (suc n) ts))
    by true e k _ = ((λ waits. both waits w), k)
    by false e _ k = ((λ waits. both waits e), k)

order_others : {V : Type 0} → (f : Fate) → is_waiting f ≡ false → is_sent f ≡ false → (n : ℕ) (ts : List (AccountEntry V)) → IsInOrder ts → IsInOrder (others_get f n ts)
order_others f w s n [] h = tt
order_others f w s zero (t ∷ ts) h = by (is_waiting t.fate) refl (order_others f w s zero ts h.1)
  where
    by : (b : Bool) → is_waiting t.fate ≡ b → IsInOrder (others_get f zero ts) → IsInOrder (cond b (with_fate f t ∷ others_get f zero ts) (t ∷ others_get f zero ts))
    by true e k = ((λ waits. both waits w), k)
    by false e k = ((λ waits. both waits e), k)
order_others f w s (suc n) (t ∷ ts) h = by (is_waiting t.fate) refl (order_others f w s n ts h.1) (order_others f w s (suc n) ts h.1)
  where
    by : (b : Bool) → is_waiting t.fate ≡ b → IsInOrder (others_get f n ts) → IsInOrder (others_get f (suc n) ts) → IsInOrder (cond b (t ∷ others_get f n ts) (t ∷ others_get f (suc n) ts))
    by true e k _ = ((λ waits. none_others f s n ts (h.0 waits)), k)
    by false e _ k = ((λ waits. both waits e), k)

order_marked : {V : Type 0} → (ts : List (AccountEntry V)) → IsInOrder ts → IsInOrder (first_marked ts)
order_marked [] h = tt
order_marked (t ∷ ts) h = by (is_waiting t.fate) refl (order_marked ts h.1)
  where
    by : (b : Bool) → is_waiting t.fate ≡ b → IsInOrder (first_marked ts) → IsInOrder (cond b (record t { marked = true } ∷ ts) (t ∷ first_marked ts))
    by true e k = (h.0, h.1)
    by false e k = ((λ waits. both waits e), k)

order_settled : {V : Type 0} → (ts : List (AccountEntry V)) → IsInOrder ts → IsInOrder (settled ts)
order_settled [] h = tt
order_settled (t ∷ ts) h = ((λ waits. none_settled ts (h.0 waits)), order_settled ts h.1)

order_appended : {V : Type 0} → (ts : List (AccountEntry V)) (v : V) (m : Bool) → IsInOrder ts → IsInOrder (ts ++ entered v m ∷ [])
order_appended [] v m h = ((λ waits. tt), tt)
order_appended (t ∷ ts) v m h = ((λ waits. none_appended ts (entered v m ∷ []) (h.0 waits) (refl, tt)), order_appended ts v m h.1)

pub order_kept : {V : Type 0} → (ts : List (AccountEntry V)) (a : QueueChange V) → IsInOrder ts → IsInOrder (accounted ts a)
order_kept ts (QueueChange.Queued v) h = order_appended ts v false h
order_kept ts QueueChange.FrontDropped h = order_marked (first_get WasLost 1 ts) (order_first WasLost refl 1 ts h)
order_kept ts (QueueChange.NewestReplaced v) h = order_appended (others_get WasLost (length (waiting ts) - 1) ts) v true (order_others WasLost refl refl (length (waiting ts) - 1) ts h)
order_kept ts (QueueChange.OnlyReplaced v) h = order_appended (settled (others_get WasLost 0 ts)) v false (order_settled (others_get WasLost 0 ts) (order_others WasLost refl refl 0 ts h))
order_kept ts (QueueChange.Sent n) h = order_first WasSent refl n ts h
order_kept ts QueueChange.Cleared h = order_settled (others_get WasCleared 0 ts) (order_others WasCleared refl refl 0 ts h)
order_kept ts (QueueChange.FrontCleared n) h = order_settled (first_get WasCleared n ts) (order_first WasCleared refl n ts h)
order_kept ts (QueueChange.BackCleared n) h = order_settled (others_get WasCleared n ts) (order_others WasCleared refl refl n ts h)
