-- A move gives a value no fate but its own.
use Rattle.std.proofs.Common.{◌≡◌, ℕ, ◌-◌, Bool, true, false, cond, List, [], ◌∷◌, ◌++◌, length, suc, zero, refl, ap, ◌∙◌}
use Rattle.std.specs.Prelude.{⊤, not, nat_lt, nat_le, fold}
use Rattle.ua_item_queue.specs.Causes.{gives, may_give, GetsOnly}
use Rattle.ua_item_queue.specs.ItemQueue.{QueueMove}
use Rattle.ua_item_queue.specs.ItemQueue.QueueChange.{Queued, FrontDropped, NewestReplaced, OnlyReplaced, FrontCleared, BackCleared}
use Rattle.ua_item_queue.specs.ItemQueue.QueueMove.{Sample, Send, Clear, Resize}
use Rattle.ua_item_queue.specs.Fates.{Fate, AccountEntry, is_waiting, entered, with_fate, waiting, first_get, others_get, first_marked, settled, accounted, account_after, GoesOn}
use Rattle.ua_item_queue.specs.Fates.Fate.{WasSent, WasLost, WasCleared}
use Rattle.ua_item_queue.proofs.KeptLemmas.{change_goes, first_marked_goes, settled_goes, queue_moves_go}
use Rattle.ua_item_queue.proofs.OrderLemmas.{both}

module _ {V : Type 0} (may : Fate → Bool) where
  gets_none : (ts : List (AccountEntry V)) → GetsOnly may ts ts
  gets_none [] = tt
  gets_none (t ∷ ts) = ((λ w u. both w u), gets_none ts)

  gets_more : (ts us : List (AccountEntry V)) (v : V) (marked : Bool) → GetsOnly may ts us → GetsOnly may ts (us ++ entered v marked ∷ [])
  gets_more [] [] v marked h = ((λ u. absurd (cc)), tt)
  gets_more [] (u ∷ us) v marked h = (h.0, gets_more [] us v marked h.1)
  gets_more (t ∷ ts) [] v marked h = absurd h
  gets_more (t ∷ ts) (u ∷ us) v marked h = (h.0, gets_more ts us v marked h.1)

  gets_first : (f : Fate) → may f ≡ true → (n : ℕ) (ts : List (AccountEntry V)) → GetsOnly may ts (first_get f n ts)
  gets_first f ok n [] = tt
  gets_first f ok zero (t ∷ ts) = gets_none (t ∷ ts)
  gets_first f ok (suc n) (t ∷ ts) = by (is_waiting t.fate) (gets_first f ok n ts) (gets_first f ok (suc n) ts)
    where
      by : (b : Bool) → GetsOnly may ts (first_get f n ts) → GetsOnly may ts (first_get f (suc n) ts) → GetsOnly may (t ∷ ts) (cond b (with_fate f t ∷ first_get f n ts) (t ∷ first_get f (suc n) ts))
      by true h k = ((λ w u. ok), h)
      by false h k = ((λ w u. both w u), k)

  gets_others : (f : Fate) → may f ≡ true → (n : ℕ) (ts : List (AccountEntry V)) → GetsOnly may ts (others_get f n ts)
  gets_others f ok n [] = tt
  gets_others f ok zero (t ∷ ts) = by (is_waiting t.fate) (gets_others f ok zero ts)
    where
      by : (b : Bool) → GetsOnly may ts (others_get f zero ts) → GetsOnly may (t ∷ ts) (cond b (with_fate f t ∷ others_get f zero ts) (t ∷ others_get f zero ts))
      by true h = ((λ w u. ok), h)
      by false h = ((λ w u. both w u), h)
  gets_others f ok (suc n) (t ∷ ts) = by (is_waiting t.fate) (gets_others f ok n ts) (gets_others f ok (suc n) ts)
    where
      by : (b : Bool) → GetsOnly may ts (others_get f n ts) → GetsOnly may ts (others_get f (suc n) ts) → GetsOnly may (t ∷ ts) (cond b (t ∷ others_get f n ts) (t ∷ others_get f (suc n) ts))
      by true h k = ((λ w u. both w u), h)
      by false h k = ((λ w u. both w u), k)

  gets_marked : (ts : List (AccountEntry V)) → GetsOnly may ts (first_marked ts)
  gets_marked [] = tt
  gets_marked (t ∷ ts) = by (is_waiting t.fate) (gets_marked ts)
    where
      by : (b : Bool) → GetsOnly may ts (first_marked ts) → GetsOnly may (t ∷ ts) (cond b (record t { marked = true } ∷ ts) (t ∷ first_marked ts))
      by true h = ((λ w u. both w u), gets_none ts)
      by false h = ((λ w u. both w u), h)

  gets_settled : (ts : List (AccountEntry V)) → GetsOnly may ts (settled ts)
  gets_settled [] = tt
  gets_settled (t ∷ ts) = ((λ w u. both w u), gets_settled ts)

  -- a fate is for good
  later : (u w : AccountEntry V) → (is_waiting u.fate ≡ false → w.fate ≡ u.fate) → (is_waiting u.fate ≡ false → may u.fate ≡ true) → (is_waiting u.fate ≡ true → may w.fate ≡ true) → may w.fate ≡ true
  later u w last first second = by (is_waiting u.fate) refl
    where
      by : (b : Bool) → is_waiting u.fate ≡ b → may w.fate ≡ true
      by true e = second e
      by false e = ap may (last e) ∙ first e

  gets_then : (ts us ws : List (AccountEntry V)) → GetsOnly may ts us → GoesOn us ws → GetsOnly may us ws → GetsOnly may ts ws
  gets_then [] [] ws h g k = k
  gets_then [] (u ∷ us) [] h g k = absurd k
  gets_then [] (u ∷ us) (w ∷ ws) h g k = ((λ nw. later u w g.0.last_fate h.0 (λ e. k.0 e nw)), gets_then [] us ws h.1 g.1 k.1)
  gets_then (t ∷ ts) [] ws h g k = absurd h
  gets_then (t ∷ ts) (u ∷ us) [] h g k = absurd k
  gets_then (t ∷ ts) (u ∷ us) (w ∷ ws) h g k = ((λ tw nw. later u w g.0.last_fate (h.0 tw) (λ e. k.0 e nw)), gets_then ts us ws h.1 g.1 k.1)

  front_gets : may WasLost ≡ true → (ts : List (AccountEntry V)) → GetsOnly may ts (accounted ts FrontDropped)
  front_gets lost ts = gets_then ts (first_get WasLost 1 ts) (first_marked (first_get WasLost 1 ts)) (gets_first WasLost lost 1 ts) (first_marked_goes (first_get WasLost 1 ts)) (gets_marked (first_get WasLost 1 ts))

  others_settled : (f : Fate) → may f ≡ true → (n : ℕ) (ts : List (AccountEntry V)) → GetsOnly may ts (settled (others_get f n ts))
  others_settled f ok n ts = gets_then ts (others_get f n ts) (settled (others_get f n ts)) (gets_others f ok n ts) (settled_goes (others_get f n ts)) (gets_settled (others_get f n ts))

  first_settled : (f : Fate) → may f ≡ true → (n : ℕ) (ts : List (AccountEntry V)) → GetsOnly may ts (settled (first_get f n ts))
  first_settled f ok n ts = gets_then ts (first_get f n ts) (settled (first_get f n ts)) (gets_first f ok n ts) (settled_goes (first_get f n ts)) (gets_settled (first_get f n ts))

  sample_gets : (size : ℕ) (oldest : Bool) (v : V) (ts : List (AccountEntry V)) → (nat_lt (length (waiting ts)) size ≡ false → may WasLost ≡ true) → GetsOnly may ts (account_after ts (Sample size oldest v))
  sample_gets size oldest v ts lost = by (nat_lt (length (waiting ts)) size) (nat_lt 1 size) oldest refl
    where
      queued : GetsOnly may ts (accounted ts (Queued v))
      queued = gets_more ts ts v false (gets_none ts)

      by : (a b c : Bool) → nat_lt (length (waiting ts)) size ≡ a →
          GetsOnly may ts (fold accounted ts (cond a (Queued v ∷ []) (cond b (cond c (Queued v ∷ FrontDropped ∷ []) (NewestReplaced v ∷ [])) (OnlyReplaced v ∷ []))))
      by true b c e = queued
      by false true true e =
          gets_then ts (accounted ts (Queued v)) (accounted (accounted ts (Queued v)) FrontDropped) queued (change_goes (accounted ts (Queued v)) FrontDropped) (front_gets (lost e) (accounted ts (Queued v)))
      by false true false e = gets_more ts (others_get WasLost (length (waiting ts) - 1) ts) v true (gets_others WasLost (lost e) (length (waiting ts) - 1) ts)
      by false false c e = gets_more ts (settled (others_get WasLost 0 ts)) v false (others_settled WasLost (lost e) 0 ts)

  resize_gets : (size : ℕ) (oldest : Bool) (ts : List (AccountEntry V)) → (nat_le (length (waiting ts)) size ≡ false → may WasCleared ≡ true) → GetsOnly may ts (account_after ts (Resize size oldest))
  resize_gets size oldest ts cleared = by (nat_le (length (waiting ts)) size) oldest refl
    where
      by : (a b : Bool) → nat_le (length (waiting ts)) size ≡ a →
          GetsOnly may ts (fold accounted ts (cond a [] (cond b (FrontCleared (length (waiting ts) - size) ∷ []) (BackCleared size ∷ []))))
      by true b e = gets_none ts
      by false true e = first_settled WasCleared (cleared e) (length (waiting ts) - size) ts
      by false false e = others_settled WasCleared (cleared e) size ts

  -- each fate that a move gives is such a one
  abbrev pub IsWithin : QueueMove V → Type 0
  IsWithin d = (f : Fate) → gives d f ≡ true → may f ≡ true

  queue_move_gets : (d : QueueMove V) (ts : List (AccountEntry V)) → IsWithin d → GetsOnly may ts (account_after ts d)
  queue_move_gets (Sample size oldest v) ts ok = sample_gets size oldest v ts (λ e. ok WasLost refl)
  queue_move_gets (Send n) ts ok = gets_first WasSent (ok WasSent refl) n ts
  queue_move_gets Clear ts ok = others_settled WasCleared (ok WasCleared refl) 0 ts
  queue_move_gets (Resize size oldest) ts ok = resize_gets size oldest ts (λ e. ok WasCleared refl)

  abbrev pub AreWithin : List (QueueMove V) → Type 0
  AreWithin [] = ⊤
  AreWithin (d ∷ ds) = IsWithin d × AreWithin ds

  pub queue_moves_get : (ds : List (QueueMove V)) (ts : List (AccountEntry V)) → AreWithin ds → GetsOnly may ts (fold account_after ts ds)
  queue_moves_get [] ts ok = gets_none ts
  queue_moves_get (d ∷ ds) ts ok =
      gets_then ts (account_after ts d) (fold account_after (account_after ts d) ds) (queue_move_gets d ts ok.0) (queue_moves_go ds (account_after ts d)) (queue_moves_get ds (account_after ts d) ok.1)

pub own_fates : {V : Type 0} → (d : QueueMove V) (ts : List (AccountEntry V)) → GetsOnly (may_give ts d) ts (account_after ts d)
own_fates (Sample size oldest v) ts = sample_gets (may_give ts (Sample size oldest v)) size oldest v ts (λ e. ap not e)
own_fates (Send n) ts = gets_first (may_give ts (Send n)) WasSent refl n ts
own_fates Clear ts = others_settled (may_give ts Clear) WasCleared refl 0 ts
own_fates (Resize size oldest) ts = resize_gets (may_give ts (Resize size oldest)) size oldest ts (λ e. ap not e)
