-- Each value that is queued stands in the account.
use Rattle.std.proofs.Common.{◌≡◌, ℕ, ◌-◌, Bool, true, false, cond, List, [], ◌∷◌, ◌++◌, append_assoc, append-nil, length, suc, zero, refl, sym, ap, ◌∙◌}
use Rattle.std.specs.Prelude.{nat_lt, nat_le, fold}
use Rattle.ua_item_queue.specs.ItemQueue.{QueueMove}
use Rattle.ua_item_queue.specs.ItemQueue.QueueChange.{Queued, FrontDropped, NewestReplaced, OnlyReplaced, FrontCleared, BackCleared}
use Rattle.ua_item_queue.specs.ItemQueue.QueueMove.{Sample, Send, Clear, Resize}
use Rattle.ua_item_queue.specs.Fates.{Fate, AccountEntry, is_waiting, entered, with_fate, waiting, first_get, others_get, first_marked, settled, accounted, account_after, account}
use Rattle.ua_item_queue.specs.Fates.Fate.{WasSent, WasLost, WasCleared}
use Rattle.ua_item_queue.specs.Sendings.{values_of, sampled_by}

values-append : {V : Type 0} → (ts us : List (AccountEntry V)) → values_of (ts ++ us) ≡ values_of ts ++ values_of us
values-append [] us = refl
values-append (t ∷ ts) us = ap (λ vs. t.value ∷ vs) (values-append ts us)

values-first_get : {V : Type 0} → (f : Fate) (n : ℕ) (ts : List (AccountEntry V)) → values_of (first_get f n ts) ≡ values_of ts
values-first_get f n [] = refl
values-first_get f zero (t ∷ ts) = refl
values-first_get f (suc n) (t ∷ ts) = by (is_waiting t.fate) (values-first_get f n ts) (values-first_get f (suc n) ts)
  where
    by : (b : Bool) → values_of (first_get f n ts) ≡ values_of ts → values_of (first_get f (suc n) ts) ≡ values_of ts →
        values_of (cond b (with_fate f t ∷ first_get f n ts) (t ∷ first_get f (suc n) ts)) ≡ t.value ∷ values_of ts
    by true h k = ap (λ vs. t.value ∷ vs) h
    by false h k = ap (λ vs. t.value ∷ vs) k

values-others_get : {V : Type 0} → (f : Fate) (n : ℕ) (ts : List (AccountEntry V)) → values_of (others_get f n ts) ≡ values_of ts
values-others_get f n [] = refl
values-others_get f zero (t ∷ ts) = by (is_waiting t.fate) (values-others_get f zero ts)
  where
    by : (b : Bool) → values_of (others_get f zero ts) ≡ values_of ts → values_of (cond b (with_fate f t ∷ others_get f zero ts) (t ∷ others_get f zero ts)) ≡ t.value ∷ values_of ts
    by true h = ap (λ vs. t.value ∷ vs) h
    by false h = ap (λ vs. t.value ∷ vs) h
values-others_get f (suc n) (t ∷ ts) = by (is_waiting t.fate) (values-others_get f n ts) (values-others_get f (suc n) ts)
  where
    by : (b : Bool) → values_of (others_get f n ts) ≡ values_of ts → values_of (others_get f (suc n) ts) ≡ values_of ts →
        values_of (cond b (t ∷ others_get f n ts) (t ∷ others_get f (suc n) ts)) ≡ t.value ∷ values_of ts
    by true h k = ap (λ vs. t.value ∷ vs) h
    by false h k = ap (λ vs. t.value ∷ vs) k

values-first_marked : {V : Type 0} → (ts : List (AccountEntry V)) → values_of (first_marked ts) ≡ values_of ts
values-first_marked [] = refl
values-first_marked (t ∷ ts) = by (is_waiting t.fate) (values-first_marked ts)
  where
    by : (b : Bool) → values_of (first_marked ts) ≡ values_of ts → values_of (cond b (record t { marked = true } ∷ ts) (t ∷ first_marked ts)) ≡ t.value ∷ values_of ts
    by true h = refl
    by false h = ap (λ vs. t.value ∷ vs) h

values-settled : {V : Type 0} → (ts : List (AccountEntry V)) → values_of (settled ts) ≡ values_of ts
values-settled [] = refl
values-settled (t ∷ ts) = ap (λ vs. t.value ∷ vs) (values-settled ts)

-- one more behind
more : {V : Type 0} → (ts us : List (AccountEntry V)) (v : V) (marked : Bool) → values_of us ≡ values_of ts → values_of (us ++ entered v marked ∷ []) ≡ values_of ts ++ v ∷ []
more ts us v marked h = values-append us (entered v marked ∷ []) ∙ ap (λ vs. vs ++ v ∷ []) h

values-sample : {V : Type 0} → (ts : List (AccountEntry V)) (size : ℕ) (oldest : Bool) (v : V) → values_of (account_after ts (Sample size oldest v)) ≡ values_of ts ++ v ∷ []
values-sample ts size oldest v = by (nat_lt (length (waiting ts)) size) (nat_lt 1 size) oldest
  where
    by : (a b c : Bool) → values_of (fold accounted ts (cond a (Queued v ∷ []) (cond b (cond c (Queued v ∷ FrontDropped ∷ []) (NewestReplaced v ∷ [])) (OnlyReplaced v ∷ [])))) ≡ values_of ts ++ v ∷ []
    by true b c = more ts ts v false refl
    by false true true =
        values-first_marked (first_get WasLost 1 (ts ++ entered v false ∷ [])) ∙ values-first_get WasLost 1 (ts ++ entered v false ∷ []) ∙ more ts ts v false refl
    by false true false = more ts (others_get WasLost (length (waiting ts) - 1) ts) v true (values-others_get WasLost (length (waiting ts) - 1) ts)
    by false false c = more ts (settled (others_get WasLost 0 ts)) v false (values-settled (others_get WasLost 0 ts) ∙ values-others_get WasLost 0 ts)

values-resize : {V : Type 0} → (ts : List (AccountEntry V)) (size : ℕ) (oldest : Bool) → values_of (account_after ts (Resize size oldest)) ≡ values_of ts
values-resize ts size oldest = by (nat_le (length (waiting ts)) size) oldest
  where
    by : (a b : Bool) → values_of (fold accounted ts (cond a [] (cond b (FrontCleared (length (waiting ts) - size) ∷ []) (BackCleared size ∷ [])))) ≡ values_of ts
    by true b = refl
    by false true = values-settled (first_get WasCleared (length (waiting ts) - size) ts) ∙ values-first_get WasCleared (length (waiting ts) - size) ts
    by false false = values-settled (others_get WasCleared size ts) ∙ values-others_get WasCleared size ts

values-from : {V : Type 0} → (ds : List (QueueMove V)) (ts : List (AccountEntry V)) → values_of (fold account_after ts ds) ≡ values_of ts ++ sampled_by ds
values-from [] ts = sym (append-nil (values_of ts))
values-from (Sample size oldest v ∷ ds) ts =
    values-from ds (account_after ts (Sample size oldest v)) ∙ ap (λ vs. vs ++ sampled_by ds) (values-sample ts size oldest v) ∙ append_assoc (values_of ts) (v ∷ []) (sampled_by ds)
values-from (Send n ∷ ds) ts = values-from ds (account_after ts (Send n)) ∙ ap (λ vs. vs ++ sampled_by ds) (values-first_get WasSent n ts)
values-from (Clear ∷ ds) ts =
    values-from ds (account_after ts Clear) ∙ ap (λ vs. vs ++ sampled_by ds) (values-settled (others_get WasCleared 0 ts) ∙ values-others_get WasCleared 0 ts)
values-from (Resize size oldest ∷ ds) ts = values-from ds (account_after ts (Resize size oldest)) ∙ ap (λ vs. vs ++ sampled_by ds) (values-resize ts size oldest)

pub values_are_sent : {V : Type 0} → (ds : List (QueueMove V)) → values_of (account ds) ≡ sampled_by ds
values_are_sent ds = values-from ds []
