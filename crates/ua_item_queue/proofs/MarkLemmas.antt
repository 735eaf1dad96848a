-- A value that is lost has a mark behind it at once.
use Rattle.std.proofs.Common.{◌≡◌, ℕ, ◌-◌, ◌<◌, ◌≤◌, Bool, true, false, ◌&&◌, ◌||◌, cond, List, [], ◌∷◌, ◌++◌, length, suc, zero, refl, arith}
use Rattle.std.specs.Prelude.{nat_lt, fold}
use Rattle.ua_item_queue.specs.ItemQueue.{entry, QueueChange, QueueMove}
use Rattle.ua_item_queue.specs.Fates.{Fate, AccountEntry, is_waiting, is_lost, entered, with_fate, waiting, first_get, others_get, first_marked, accounted, account_after, any_marked, NewLossesAreMarked}
use Rattle.ua_item_queue.specs.Fates.Fate.{Waits, WasSent, WasLost, WasCleared}
use Rattle.ua_item_queue.proofs.OrderLemmas.{both}
use Rattle.ua_item_queue.proofs.LossLemmas.{get_none, lost_front, replaced}
use Rattle.ua_item_queue.proofs.AccountLemmas.{two_wait}

waits_not_lost : (f : Fate) → is_waiting f ≡ true → is_lost f ≡ false
waits_not_lost Waits w = refl
waits_not_lost WasSent w = refl
waits_not_lost WasLost w = absurd (cc)
waits_not_lost WasCleared w = refl

or_true : (b c : Bool) → c ≡ true → (b || c) ≡ true
or_true true c h = refl
or_true false c h = h

any_appended : {V : Type 0} → (ts : List (AccountEntry V)) (v : V) → any_marked (ts ++ entered v true ∷ []) ≡ true
any_appended [] v = refl
any_appended (t ∷ ts) v = or_true (is_waiting t.fate && t.marked) (any_marked (ts ++ entered v true ∷ [])) (any_appended ts v)

any_first : {V : Type 0} → (ts : List (AccountEntry V)) → 1 ≤ length (waiting ts) → any_marked (first_marked ts) ≡ true
any_first [] some = absurd (omega arith)
any_first (t ∷ ts) some = by (is_waiting t.fate) refl some (any_first ts)
  where
    by : (b : Bool) → is_waiting t.fate ≡ b → 1 ≤ length (cond b (entry t.value t.marked ∷ waiting ts) (waiting ts)) → (1 ≤ length (waiting ts) → any_marked (first_marked ts) ≡ true) → any_marked (cond b (record t { marked = true } ∷ ts) (t ∷ first_marked ts)) ≡ true
    by true e k ih = rw e refl
    by false e k ih = or_true (is_waiting t.fate && t.marked) (any_marked (first_marked ts)) (ih k)

-- nothing new is lost
none_lost : {V : Type 0} → (ts us : List (AccountEntry V)) → NewLossesAreMarked ts (ts ++ us)
none_lost [] us = tt
none_lost (t ∷ ts) us = ((λ waits lost. both lost (waits_not_lost t.fate waits)), none_lost ts us)

none_lost_marked : {V : Type 0} → (ts us : List (AccountEntry V)) → NewLossesAreMarked ts (first_marked (ts ++ us))
none_lost_marked [] us = tt
none_lost_marked (t ∷ ts) us = by (is_waiting t.fate) (none_lost_marked ts us)
  where
    by : (b : Bool) → NewLossesAreMarked ts (first_marked (ts ++ us)) → NewLossesAreMarked (t ∷ ts) (cond b (record t { marked = true } ∷ (ts ++ us)) (t ∷ first_marked (ts ++ us)))
    by true ih = ((λ waits lost. both lost (waits_not_lost t.fate waits)), none_lost ts us)
    by false ih = ((λ waits lost. both lost (waits_not_lost t.fate waits)), ih)

marks_front : {V : Type 0} → (ts us : List (AccountEntry V)) → 2 ≤ length (waiting (ts ++ us)) → NewLossesAreMarked ts (lost_front (ts ++ us))
marks_front [] us some = tt
marks_front (t ∷ ts) us some = by (is_waiting t.fate) refl some (marks_front ts us)
  where
    by : (b : Bool) → is_waiting t.fate ≡ b → 2 ≤ length (cond b (entry t.value t.marked ∷ waiting (ts ++ us)) (waiting (ts ++ us))) → (2 ≤ length (waiting (ts ++ us)) → NewLossesAreMarked ts (lost_front (ts ++ us))) → NewLossesAreMarked (t ∷ ts) (first_marked (cond b (with_fate WasLost t ∷ first_get WasLost 0 (ts ++ us)) (t ∷ first_get WasLost 1 (ts ++ us))))
    by true e some ih = rw (get_none WasLost (ts ++ us)) ((λ waits lost. any_first (ts ++ us) (omega arith)), none_lost_marked ts us)
    by false e some ih = rw e ((λ waits lost. both waits e), ih some)

marks_newest : {V : Type 0} → (n : ℕ) (v : V) (ts : List (AccountEntry V)) → NewLossesAreMarked ts (replaced n v ts)
marks_newest n v [] = tt
marks_newest zero v (t ∷ ts) = by (is_waiting t.fate) (marks_newest zero v ts)
  where
    by : (b : Bool) → NewLossesAreMarked ts (replaced zero v ts) → NewLossesAreMarked (t ∷ ts) (cond b (with_fate WasLost t ∷ others_get WasLost zero ts) (t ∷ others_get WasLost zero ts) ++ entered v true ∷ [])
    by true ih = ((λ waits lost. any_appended (others_get WasLost zero ts) v), ih)
    by false ih = ((λ waits lost. any_appended (others_get WasLost zero ts) v), ih)
marks_newest (suc n) v (t ∷ ts) = by (is_waiting t.fate) (marks_newest n v ts) (marks_newest (suc n) v ts)
  where
    by : (b : Bool) → NewLossesAreMarked ts (replaced n v ts) → NewLossesAreMarked ts (replaced (suc n) v ts) → NewLossesAreMarked (t ∷ ts) (cond b (t ∷ others_get WasLost n ts) (t ∷ others_get WasLost (suc n) ts) ++ entered v true ∷ [])
    by true ih _ = ((λ waits lost. any_appended (others_get WasLost n ts) v), ih)
    by false _ ih = ((λ waits lost. any_appended (others_get WasLost (suc n) ts) v), ih)

above_one : (size : ℕ) → 1 < size → nat_lt 1 size ≡ true
above_one size h = grind arith

pub marks_losses : {V : Type 0} → (ts : List (AccountEntry V)) (size : ℕ) (discard_oldest : Bool) (v : V) → 1 < size → NewLossesAreMarked ts (account_after ts (QueueMove.Sample size discard_oldest v))
marks_losses ts size discard_oldest v large = by (nat_lt (length (waiting ts)) size) (nat_lt 1 size) discard_oldest refl refl
  where
    by : (room more oldest : Bool) → nat_lt (length (waiting ts)) size ≡ room → nat_lt 1 size ≡ more → NewLossesAreMarked ts (fold accounted ts (cond room (QueueChange.Queued v ∷ []) (cond more (cond oldest (QueueChange.Queued v ∷ QueueChange.FrontDropped ∷ []) (QueueChange.NewestReplaced v ∷ [])) (QueueChange.OnlyReplaced v ∷ []))))
    by true more oldest x y = none_lost ts (entered v false ∷ [])
    by false true true x y = marks_front ts (entered v false ∷ []) (two_wait ts v size x y)
    by false true false x y = marks_newest (length (waiting ts) - 1) v ts
    by false false oldest x y = both (above_one size large) y
