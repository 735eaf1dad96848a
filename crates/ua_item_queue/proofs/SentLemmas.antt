-- What was sent is what the sendings took from the front of the queue.
use Rattle.std.proofs.Common.{◌≡◌, ℕ, ◌-◌, Bool, true, false, cond, List, [], ◌∷◌, ◌++◌, append_assoc, append-nil, length, take, suc, zero, refl, sym, ap, ◌∙◌}
use Rattle.std.specs.Prelude.{nat_lt, nat_le, fold}
use Rattle.ua_item_queue.specs.ItemQueue.{entry, QueueChange, QueueMove, changed, changes_of, queue_after}
use Rattle.ua_item_queue.specs.ItemQueue.QueueChange.{Queued, FrontDropped, NewestReplaced, OnlyReplaced, FrontCleared, BackCleared}
use Rattle.ua_item_queue.specs.ItemQueue.QueueMove.{Sample, Send, Clear, Resize}
use Rattle.ua_item_queue.specs.Fates.{Fate, AccountEntry, is_waiting, is_sent, entered, with_fate, waiting, first_get, others_get, first_marked, settled, accounted, account_after, account, NoneSent, IsInOrder}
use Rattle.ua_item_queue.specs.Fates.Fate.{Waits, WasSent, WasLost, WasCleared}
use Rattle.ua_item_queue.specs.Sendings.{sent_of, given_by}
use Rattle.ua_item_queue.proofs.QueueLemmas.{waiting-accounted}
use Rattle.ua_item_queue.proofs.AccountLemmas.{IsRight, queue_move_right}

waits_unsent : (f : Fate) → is_waiting f ≡ true → is_sent f ≡ false
waits_unsent Waits w = refl
waits_unsent WasSent w = absurd (cc)
waits_unsent WasLost w = refl
waits_unsent WasCleared w = refl

sent-append : {V : Type 0} → (ts us : List (AccountEntry V)) → sent_of (ts ++ us) ≡ sent_of ts ++ sent_of us
sent-append [] us = refl
sent-append (t ∷ ts) us = by (is_sent t.fate) (sent-append ts us)
  where
    by : (b : Bool) → sent_of (ts ++ us) ≡ sent_of ts ++ sent_of us → cond b (entry t.value t.marked ∷ sent_of (ts ++ us)) (sent_of (ts ++ us)) ≡ cond b (entry t.value t.marked ∷ sent_of ts) (sent_of ts) ++ sent_of us
    by true h = ap (λ es. entry t.value t.marked ∷ es) h
    by false h = h

none-sent : {V : Type 0} → (ts : List (AccountEntry V)) → NoneSent ts → sent_of ts ≡ []
none-sent [] h = refl
none-sent (t ∷ ts) h = rw h.0 (none-sent ts h.1)

-- a value that wasn't sent
unsent : {V : Type 0} → (t : AccountEntry V) (ts : List (AccountEntry V)) → is_sent t.fate ≡ false → sent_of (t ∷ ts) ≡ sent_of ts
unsent t ts s = rw s refl

-- values that get another fate than that
sent-first_get : {V : Type 0} → (f : Fate) → is_sent f ≡ false → (n : ℕ) (ts : List (AccountEntry V)) → sent_of (first_get f n ts) ≡ sent_of ts
sent-first_get f s n [] = refl
sent-first_get f s zero (t ∷ ts) = refl
sent-first_get f s (suc n) (t ∷ ts) = by (is_waiting t.fate) refl (sent-first_get f s n ts) (sent-first_get f s (suc n) ts)
  where
    by : (b : Bool) → is_waiting t.fate ≡ b → sent_of (first_get f n ts) ≡ sent_of ts → sent_of (first_get f (suc n) ts) ≡ sent_of ts →
        sent_of (cond b (with_fate f t ∷ first_get f n ts) (t ∷ first_get f (suc n) ts)) ≡ sent_of (t ∷ ts)
    by true w h k = unsent (with_fate f t) (first_get f n ts) s ∙ h ∙ sym (unsent t ts (waits_unsent t.fate w))
    by false w h k = ap (λ es. cond (is_sent t.fate) (entry t.value t.marked ∷ es) es) k

sent-others_get : {V : Type 0} → (f : Fate) → is_sent f ≡ false → (n : ℕ) (ts : List (AccountEntry V)) → sent_of (others_get f n ts) ≡ sent_of ts
sent-others_get f s n [] = refl
sent-others_get f s zero (t ∷ ts) = by (is_waiting t.fate) refl (sent-others_get f s zero ts)
  where
    by : (b : Bool) → is_waiting t.fate ≡ b → sent_of (others_get f zero ts) ≡ sent_of ts → sent_of (cond b (with_fate f t ∷ others_get f zero ts) (t ∷ others_get f zero ts)) ≡ sent_of (t ∷ ts)
    by true w h = unsent (with_fate f t) (others_get f zero ts) s ∙ h ∙ sym (unsent t ts (waits_unsent t.fate w))
    by false w h = ap (λ es. cond (is_sent t.fate) (entry t.value t.marked ∷ es) es) h
sent-others_get f s (suc n) (t ∷ ts) = by (is_waiting t.fate) (sent-others_get f s n ts) (sent-others_get f s (suc n) ts)
  where
    by : (b : Bool) → sent_of (others_get f n ts) ≡ sent_of ts → sent_of (others_get f (suc n) ts) ≡ sent_of ts → sent_of (cond b (t ∷ others_get f n ts) (t ∷ others_get f (suc n) ts)) ≡ sent_of (t ∷ ts)
    by true h k = ap (λ es. cond (is_sent t.fate) (entry t.value t.marked ∷ es) es) h
    by false h k = ap (λ es. cond (is_sent t.fate) (entry t.value t.marked ∷ es) es) k

sent-first_marked : {V : Type 0} → (ts : List (AccountEntry V)) → sent_of (first_marked ts) ≡ sent_of ts
sent-first_marked [] = refl
sent-first_marked (t ∷ ts) = by (is_waiting t.fate) refl (sent-first_marked ts)
  where
    by : (b : Bool) → is_waiting t.fate ≡ b → sent_of (first_marked ts) ≡ sent_of ts → sent_of (cond b (record t { marked = true } ∷ ts) (t ∷ first_marked ts)) ≡ sent_of (t ∷ ts)
    by true w h = unsent (record t { marked = true }) ts (waits_unsent t.fate w) ∙ sym (unsent t ts (waits_unsent t.fate w))
    by false w h = ap (λ es. cond (is_sent t.fate) (entry t.value t.marked ∷ es) es) h

sent-settled : {V : Type 0} → (ts : List (AccountEntry V)) → sent_of (settled ts) ≡ sent_of ts
sent-settled [] = refl
sent-settled (t ∷ ts) = ap (λ es. cond (is_sent t.fate) (entry t.value t.marked ∷ es) es) (sent-settled ts)

-- one more behind, that waits
more : {V : Type 0} → (ts us : List (AccountEntry V)) (v : V) (marked : Bool) → sent_of us ≡ sent_of ts → sent_of (us ++ entered v marked ∷ []) ≡ sent_of ts
more ts us v marked h = sent-append us (entered v marked ∷ []) ∙ append-nil (sent_of us) ∙ h

-- the first that wait are sent
sent-sent : {V : Type 0} → (n : ℕ) (ts : List (AccountEntry V)) → IsInOrder ts → sent_of (first_get WasSent n ts) ≡ sent_of ts ++ take n (waiting ts)
sent-sent zero [] h = refl
sent-sent (suc n) [] h = refl
sent-sent zero (t ∷ ts) h = sym (append-nil (sent_of (t ∷ ts)))
sent-sent (suc n) (t ∷ ts) h = by (is_waiting t.fate) refl (sent-sent n ts h.1) (sent-sent (suc n) ts h.1)
  where
    by : (b : Bool) → is_waiting t.fate ≡ b → sent_of (first_get WasSent n ts) ≡ sent_of ts ++ take n (waiting ts) → sent_of (first_get WasSent (suc n) ts) ≡ sent_of ts ++ take (suc n) (waiting ts) →
        sent_of (cond b (with_fate WasSent t ∷ first_get WasSent n ts) (t ∷ first_get WasSent (suc n) ts)) ≡ sent_of (t ∷ ts) ++ take (suc n) (cond b (entry t.value t.marked ∷ waiting ts) (waiting ts))
    by true w hyp k =
        let none : sent_of ts ≡ [] = none-sent ts (h.0 w) in
        let all : sent_of (t ∷ ts) ≡ [] = unsent t ts (waits_unsent t.fate w) ∙ none in
        ap (λ es. entry t.value t.marked ∷ es) (hyp ∙ ap (λ es. es ++ take n (waiting ts)) none) ∙ sym (ap (λ es. es ++ entry t.value t.marked ∷ take n (waiting ts)) all)
    by false w hyp k = either (is_sent t.fate)
      where
        either : (s : Bool) → cond s (entry t.value t.marked ∷ sent_of (first_get WasSent (suc n) ts)) (sent_of (first_get WasSent (suc n) ts)) ≡ cond s (entry t.value t.marked ∷ sent_of ts) (sent_of ts) ++ take (suc n) (waiting ts)
        either true = ap (λ es. entry t.value t.marked ∷ es) k
        either false = k

sent-sample : {V : Type 0} → (ts : List (AccountEntry V)) (size : ℕ) (oldest : Bool) (v : V) → sent_of (account_after ts (Sample size oldest v)) ≡ sent_of ts
sent-sample ts size oldest v = by (nat_lt (length (waiting ts)) size) (nat_lt 1 size) oldest
  where
    by : (a b c : Bool) → sent_of (fold accounted ts (cond a (Queued v ∷ []) (cond b (cond c (Queued v ∷ FrontDropped ∷ []) (NewestReplaced v ∷ [])) (OnlyReplaced v ∷ [])))) ≡ sent_of ts
    by true b c = more ts ts v false refl
    by false true true = sent-first_marked (first_get WasLost 1 (ts ++ entered v false ∷ [])) ∙ sent-first_get WasLost refl 1 (ts ++ entered v false ∷ []) ∙ more ts ts v false refl
    by false true false = more ts (others_get WasLost (length (waiting ts) - 1) ts) v true (sent-others_get WasLost refl (length (waiting ts) - 1) ts)
    by false false c = more ts (settled (others_get WasLost 0 ts)) v false (sent-settled (others_get WasLost 0 ts) ∙ sent-others_get WasLost refl 0 ts)

sent-resize : {V : Type 0} → (ts : List (AccountEntry V)) (size : ℕ) (oldest : Bool) → sent_of (account_after ts (Resize size oldest)) ≡ sent_of ts
sent-resize ts size oldest = by (nat_le (length (waiting ts)) size) oldest
  where
    by : (a b : Bool) → sent_of (fold accounted ts (cond a [] (cond b (FrontCleared (length (waiting ts) - size) ∷ []) (BackCleared size ∷ [])))) ≡ sent_of ts
    by true b = refl
    by false true = sent-settled (first_get WasCleared (length (waiting ts) - size) ts) ∙ sent-first_get WasCleared refl (length (waiting ts) - size) ts
    by false false = sent-settled (others_get WasCleared size ts) ∙ sent-others_get WasCleared refl size ts

waiting-acts : {V : Type 0} → (changes : List (QueueChange V)) (ts : List (AccountEntry V)) → waiting (fold accounted ts changes) ≡ fold changed (waiting ts) changes
waiting-acts [] ts = refl
waiting-acts (a ∷ changes) ts = waiting-acts changes (accounted ts a) ∙ ap (λ q. fold changed q changes) (waiting-accounted ts a)

waiting-queue_move : {V : Type 0} → (ts : List (AccountEntry V)) (d : QueueMove V) → waiting (account_after ts d) ≡ queue_after (waiting ts) d
waiting-queue_move ts d = waiting-acts (changes_of (waiting ts) d) ts

-- a move that sends none, and those behind it
unsending : {V : Type 0} → (ts : List (AccountEntry V)) (d : QueueMove V) (ds : List (QueueMove V)) → sent_of (account_after ts d) ≡ sent_of ts →
    sent_of (fold account_after (account_after ts d) ds) ≡ sent_of (account_after ts d) ++ given_by (waiting (account_after ts d)) ds →
    sent_of (fold account_after ts (d ∷ ds)) ≡ sent_of ts ++ given_by (queue_after (waiting ts) d) ds
unsending ts d ds h k = k ∙ ap (λ es. es ++ given_by (waiting (account_after ts d)) ds) h ∙ ap (λ q. sent_of ts ++ given_by q ds) (waiting-queue_move ts d)

sent-from : {V : Type 0} → (ds : List (QueueMove V)) (ts : List (AccountEntry V)) → IsRight ts → sent_of (fold account_after ts ds) ≡ sent_of ts ++ given_by (waiting ts) ds
sent-from [] ts h = sym (append-nil (sent_of ts))
sent-from (Send n ∷ ds) ts h =
    sent-from ds (account_after ts (Send n)) (queue_move_right ts (Send n) h)
    ∙ ap (λ es. es ++ given_by (waiting (account_after ts (Send n))) ds) (sent-sent n ts h.order)
    ∙ append_assoc (sent_of ts) (take n (waiting ts)) (given_by (waiting (account_after ts (Send n))) ds)
    ∙ ap (λ q. sent_of ts ++ (take n (waiting ts) ++ given_by q ds)) (waiting-queue_move ts (Send n))
sent-from (Sample size oldest v ∷ ds) ts h =
    unsending ts (Sample size oldest v) ds (sent-sample ts size oldest v) (sent-from ds (account_after ts (Sample size oldest v)) (queue_move_right ts (Sample size oldest v) h))
sent-from (Clear ∷ ds) ts h =
    unsending ts Clear ds (sent-settled (others_get WasCleared 0 ts) ∙ sent-others_get WasCleared refl 0 ts) (sent-from ds (account_after ts Clear) (queue_move_right ts Clear h))
sent-from (Resize size oldest ∷ ds) ts h =
    unsending ts (Resize size oldest) ds (sent-resize ts size oldest) (sent-from ds (account_after ts (Resize size oldest)) (queue_move_right ts (Resize size oldest) h))

pub sent_are_given : {V : Type 0} → (ds : List (QueueMove V)) → sent_of (account ds) ≡ given_by [] ds
sent_are_given ds = sent-from ds [] (record { order = tt; losses = tt })
