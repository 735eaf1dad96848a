-- Behind a value that was lost the first one that is left is marked, until a value is cleared.
use Rattle.std.proofs.Common.{◌≡◌, ℕ, ◌-◌, ◌<◌, ◌≤◌, Bool, true, false, cond, List, [], ◌∷◌, ◌++◌, length, drop, suc, zero, Option, Some, refl, sym, ap, ◌∙◌, arith}
use Rattle.std.specs.Prelude.{nat_lt, nat_le, fold}
use Rattle.ua_item_queue.specs.ItemQueue.{entry, QueueChange, QueueMove, changes_of}
use Rattle.ua_item_queue.specs.Fates.{Fate, AccountEntry, is_waiting, is_left, entered, with_fate, waiting, first_get, others_get, first_marked, settled, accounted, account_after, account, IsInOrder, IsKept, GoesOn, is_first_marked}
use Rattle.ua_item_queue.specs.Fates.Fate.{Waits, WasSent, WasLost, WasCleared}
use Rattle.ua_item_queue.specs.Causes.{GetsOnly}
use Rattle.ua_item_queue.specs.Marks.{fate_at, AllAboveOne, is_uncleared, MarksTheNextLeft}
use Rattle.ua_item_queue.proofs.AccountLemmas.{two_wait, account_in_order}
use Rattle.ua_item_queue.proofs.KeptLemmas.{changes_go, queue_moves_go}
use Rattle.ua_item_queue.proofs.LossLemmas.{first_appended, first_sent, stays_marked, first_is_marked, get_none, lost_front, first_of_front, replaced, new_is_first, first_of_replaced}
use Rattle.ua_item_queue.proofs.OrderLemmas.{both, order_kept}

-- ---- the first value behind a place that is left stays marked

-- behind so many
abbrev marked_from : {V : Type 0} → ℕ → List (AccountEntry V) → Type 0
marked_from k ts = is_first_marked (drop k ts) ≡ true

queued : {V : Type 0} → (k : ℕ) (ts us : List (AccountEntry V)) → marked_from k ts → marked_from k (ts ++ us)
queued zero ts us h = first_appended ts us h
queued (suc k) [] us h = absurd (cc)
queued (suc k) (t ∷ ts) us h = queued k ts us h

marks_more : {V : Type 0} → (k : ℕ) (ts : List (AccountEntry V)) → marked_from k ts → marked_from k (first_marked ts)
marks_more zero ts h = stays_marked ts h
marks_more (suc k) [] h = h
marks_more (suc k) (t ∷ ts) h = by (is_waiting t.fate) (marks_more k ts h)
  where
    by : (b : Bool) → marked_from k (first_marked ts) → marked_from (suc k) (cond b (record t { marked = true } ∷ ts) (t ∷ first_marked ts))
    by true ih = h
    by false ih = ih

front_lost : {V : Type 0} → (k : ℕ) (ts : List (AccountEntry V)) → IsInOrder ts → 2 ≤ length (waiting ts) → marked_from k ts → marked_from k (lost_front ts)
front_lost zero ts o some h = first_of_front ts o some h
front_lost (suc k) [] o some h = absurd (cc)
front_lost (suc k) (t ∷ ts) o some h = by (is_waiting t.fate) refl some (λ some. front_lost k ts o.1 some h)
  where
    by : (b : Bool) → is_waiting t.fate ≡ b → 2 ≤ length (cond b (entry t.value t.marked ∷ waiting ts) (waiting ts)) → (2 ≤ length (waiting ts) → marked_from k (lost_front ts)) →
        marked_from (suc k) (first_marked (cond b (with_fate WasLost t ∷ first_get WasLost 0 ts) (t ∷ first_get WasLost 1 ts)))
    by true e some ih = rw (get_none WasLost ts) (marks_more k ts h)
    by false e some ih = rw e (ih some)

newest_replaced : {V : Type 0} → (n : ℕ) (v : V) (k : ℕ) (ts : List (AccountEntry V)) → IsInOrder ts → marked_from k ts → marked_from k (replaced n v ts)
newest_replaced n v zero ts o h = first_of_replaced n v ts o h
newest_replaced n v (suc k) [] o h = absurd (cc)
newest_replaced zero v (suc k) (t ∷ ts) o h = by (is_waiting t.fate) (newest_replaced zero v k ts o.1 h)
  where
    by : (b : Bool) → marked_from k (replaced zero v ts) → marked_from (suc k) (cond b (with_fate WasLost t ∷ others_get WasLost zero ts) (t ∷ others_get WasLost zero ts) ++ entered v true ∷ [])
    by true ih = ih
    by false ih = ih
newest_replaced (suc n) v (suc k) (t ∷ ts) o h = by (is_waiting t.fate) (newest_replaced n v k ts o.1 h) (newest_replaced (suc n) v k ts o.1 h)
  where
    by : (b : Bool) → marked_from k (replaced n v ts) → marked_from k (replaced (suc n) v ts) →
        marked_from (suc k) (cond b (t ∷ others_get WasLost n ts) (t ∷ others_get WasLost (suc n) ts) ++ entered v true ∷ [])
    by true ih _ = ih
    by false _ ih = ih

sent : {V : Type 0} → (n k : ℕ) (ts : List (AccountEntry V)) → marked_from k ts → marked_from k (first_get WasSent n ts)
sent n zero ts h = first_sent n ts h
sent n (suc k) [] h = h
sent zero (suc k) (t ∷ ts) h = h
sent (suc n) (suc k) (t ∷ ts) h = by (is_waiting t.fate) (sent n k ts h) (sent (suc n) k ts h)
  where
    by : (b : Bool) → marked_from k (first_get WasSent n ts) → marked_from k (first_get WasSent (suc n) ts) →
        marked_from (suc k) (cond b (with_fate WasSent t ∷ first_get WasSent n ts) (t ∷ first_get WasSent (suc n) ts))
    by true ih _ = ih
    by false _ ih = ih

-- ---- where no value is cleared, what clears leaves all

first_settled : {V : Type 0} → (ts : List (AccountEntry V)) → is_first_marked (settled ts) ≡ is_first_marked ts
first_settled [] = refl
first_settled (t ∷ ts) = ap (λ b. cond (is_left t.fate) t.marked b) (first_settled ts)

settled_from : {V : Type 0} → (k : ℕ) (ts : List (AccountEntry V)) → marked_from k ts → marked_from k (settled ts)
settled_from zero ts h = first_settled ts ∙ h
settled_from (suc k) [] h = h
settled_from (suc k) (t ∷ ts) h = settled_from k ts h

others_stay : {V : Type 0} → (n : ℕ) (ts : List (AccountEntry V)) → GetsOnly is_uncleared ts (settled (others_get WasCleared n ts)) → others_get WasCleared n ts ≡ ts
others_stay n [] h = refl
others_stay zero (t ∷ ts) h = by (is_waiting t.fate) refl h (others_stay zero ts)
  where
    by : (b : Bool) → is_waiting t.fate ≡ b → GetsOnly is_uncleared (t ∷ ts) (settled (cond b (with_fate WasCleared t ∷ others_get WasCleared zero ts) (t ∷ others_get WasCleared zero ts))) →
        (GetsOnly is_uncleared ts (settled (others_get WasCleared zero ts)) → others_get WasCleared zero ts ≡ ts) →
        cond b (with_fate WasCleared t ∷ others_get WasCleared zero ts) (t ∷ others_get WasCleared zero ts) ≡ t ∷ ts
    by true e k ih = let no : false ≡ true = k.0 e refl in absurd (cc)
    by false e k ih = ap (λ us. t ∷ us) (ih k.1)
others_stay (suc n) (t ∷ ts) h = by (is_waiting t.fate) h (others_stay n ts) (others_stay (suc n) ts)
  where
    by : (b : Bool) → GetsOnly is_uncleared (t ∷ ts) (settled (cond b (t ∷ others_get WasCleared n ts) (t ∷ others_get WasCleared (suc n) ts))) →
        (GetsOnly is_uncleared ts (settled (others_get WasCleared n ts)) → others_get WasCleared n ts ≡ ts) →
        (GetsOnly is_uncleared ts (settled (others_get WasCleared (suc n) ts)) → others_get WasCleared (suc n) ts ≡ ts) →
        cond b (t ∷ others_get WasCleared n ts) (t ∷ others_get WasCleared (suc n) ts) ≡ t ∷ ts
    by true k ih _ = ap (λ us. t ∷ us) (ih k.1)
    by false k _ ih = ap (λ us. t ∷ us) (ih k.1)

first_stay : {V : Type 0} → (n : ℕ) (ts : List (AccountEntry V)) → GetsOnly is_uncleared ts (settled (first_get WasCleared n ts)) → first_get WasCleared n ts ≡ ts
first_stay n [] h = refl
first_stay zero (t ∷ ts) h = refl
first_stay (suc n) (t ∷ ts) h = by (is_waiting t.fate) refl h (first_stay (suc n) ts)
  where
    by : (b : Bool) → is_waiting t.fate ≡ b → GetsOnly is_uncleared (t ∷ ts) (settled (cond b (with_fate WasCleared t ∷ first_get WasCleared n ts) (t ∷ first_get WasCleared (suc n) ts))) →
        (GetsOnly is_uncleared ts (settled (first_get WasCleared (suc n) ts)) → first_get WasCleared (suc n) ts ≡ ts) →
        cond b (with_fate WasCleared t ∷ first_get WasCleared n ts) (t ∷ first_get WasCleared (suc n) ts) ≡ t ∷ ts
    by true e k ih = let no : false ≡ true = k.0 e refl in absurd (cc)
    by false e k ih = ap (λ us. t ∷ us) (ih k.1)

-- ---- a move

above_one : (size : ℕ) → 1 < size → nat_lt 1 size ≡ true
above_one size h = grind arith

sampled : {V : Type 0} → (k : ℕ) (ts : List (AccountEntry V)) (size : ℕ) (discard_oldest : Bool) (v : V) → 1 < size → IsInOrder ts → marked_from k ts →
    marked_from k (account_after ts (QueueMove.Sample size discard_oldest v))
sampled k ts size discard_oldest v large o h = by (nat_lt (length (waiting ts)) size) (nat_lt 1 size) discard_oldest refl refl
  where
    by : (room more oldest : Bool) → nat_lt (length (waiting ts)) size ≡ room → nat_lt 1 size ≡ more →
        marked_from k (fold accounted ts (cond room (QueueChange.Queued v ∷ []) (cond more (cond oldest (QueueChange.Queued v ∷ QueueChange.FrontDropped ∷ []) (QueueChange.NewestReplaced v ∷ [])) (QueueChange.OnlyReplaced v ∷ []))))
    by true more oldest x y = queued k ts (entered v false ∷ []) h
    by false true true x y = front_lost k (ts ++ entered v false ∷ []) (order_kept ts (QueueChange.Queued v) o) (two_wait ts v size x y) (queued k ts (entered v false ∷ []) h)
    by false true false x y = newest_replaced (length (waiting ts) - 1) v k ts o h
    by false false oldest x y = both (above_one size large) y

resized : {V : Type 0} → (k : ℕ) (ts : List (AccountEntry V)) (size : ℕ) (discard_oldest : Bool) → GetsOnly is_uncleared ts (account_after ts (QueueMove.Resize size discard_oldest)) → marked_from k ts →
    marked_from k (account_after ts (QueueMove.Resize size discard_oldest))
resized k ts size discard_oldest stays h = by (nat_le (length (waiting ts)) size) discard_oldest stays
  where
    by : (fits oldest : Bool) → GetsOnly is_uncleared ts (fold accounted ts (cond fits [] (cond oldest (QueueChange.FrontCleared (length (waiting ts) - size) ∷ []) (QueueChange.BackCleared size ∷ [])))) →
        marked_from k (fold accounted ts (cond fits [] (cond oldest (QueueChange.FrontCleared (length (waiting ts) - size) ∷ []) (QueueChange.BackCleared size ∷ []))))
    by true oldest only = h
    by false true only = rw (first_stay (length (waiting ts) - size) ts only) (settled_from k ts h)
    by false false only = rw (others_stay size ts only) (settled_from k ts h)

-- ---- several moves

-- what is so of all is so of the first, and of the others
gets_first : {V : Type 0} → (may : Fate → Bool) (ts us ws : List (AccountEntry V)) → GoesOn ts us → GoesOn us ws → GetsOnly may ts ws → GetsOnly may ts us
gets_first may [] [] ws a b h = tt
gets_first may [] (u ∷ us) [] a b h = absurd b
gets_first may [] (u ∷ us) (w ∷ ws) a b h =
    ((λ no. ap may (sym (b.0.last_fate no)) ∙ h.0 (ap is_waiting (b.0.last_fate no) ∙ no)), gets_first may [] us ws tt b.1 h.1)
gets_first may (t ∷ ts) [] ws a b h = absurd a
gets_first may (t ∷ ts) (u ∷ us) [] a b h = absurd b
gets_first may (t ∷ ts) (u ∷ us) (w ∷ ws) a b h =
    ((λ waits no. ap may (sym (b.0.last_fate no)) ∙ h.0 waits (ap is_waiting (b.0.last_fate no) ∙ no)), gets_first may ts us ws a.1 b.1 h.1)

waited : {V : Type 0} → (t u : AccountEntry V) → IsKept t u → is_waiting u.fate ≡ true → (b : Bool) → is_waiting t.fate ≡ b → is_waiting t.fate ≡ true
waited t u a waits true e = e
waited t u a waits false e = both waits (ap is_waiting (a.last_fate e) ∙ e)

gets_rest : {V : Type 0} → (may : Fate → Bool) (ts us ws : List (AccountEntry V)) → GoesOn ts us → GoesOn us ws → GetsOnly may ts ws → GetsOnly may us ws
gets_rest may [] [] ws a b h = h
gets_rest may [] (u ∷ us) [] a b h = absurd b
gets_rest may [] (u ∷ us) (w ∷ ws) a b h = ((λ waits no. h.0 no), gets_rest may [] us ws tt b.1 h.1)
gets_rest may (t ∷ ts) [] ws a b h = absurd a
gets_rest may (t ∷ ts) (u ∷ us) [] a b h = absurd b
gets_rest may (t ∷ ts) (u ∷ us) (w ∷ ws) a b h =
    ((λ waits no. h.0 (waited t u a.0 waits (is_waiting t.fate) refl) no), gets_rest may ts us ws a.1 b.1 h.1)

moved : {V : Type 0} → (k : ℕ) (d : QueueMove V) (ds : List (QueueMove V)) (ts : List (AccountEntry V)) → AllAboveOne (d ∷ ds) → IsInOrder ts → GetsOnly is_uncleared ts (account_after ts d) → marked_from k ts →
    marked_from k (account_after ts d)
moved k (QueueMove.Sample size discard_oldest v) ds ts large o stays h = sampled k ts size discard_oldest v large.0 o h
moved k (QueueMove.Send n) ds ts large o stays h = sent n k ts h
moved k QueueMove.Clear ds ts large o stays h = rw (others_stay 0 ts stays) (settled_from k ts h)
moved k (QueueMove.Resize size discard_oldest) ds ts large o stays h = resized k ts size discard_oldest stays h

rest_above_one : {V : Type 0} → (d : QueueMove V) (ds : List (QueueMove V)) → AllAboveOne (d ∷ ds) → AllAboveOne ds
rest_above_one (QueueMove.Sample size discard_oldest v) ds h = h.1
rest_above_one (QueueMove.Send n) ds h = h
rest_above_one QueueMove.Clear ds h = h
rest_above_one (QueueMove.Resize size discard_oldest) ds h = h.1

changes_in_order : {V : Type 0} → (changes : List (QueueChange V)) (ts : List (AccountEntry V)) → IsInOrder ts → IsInOrder (fold accounted ts changes)
changes_in_order [] ts o = o
changes_in_order (a ∷ changes) ts o = changes_in_order changes (accounted ts a) (order_kept ts a o)

all_moved : {V : Type 0} → (k : ℕ) (ds : List (QueueMove V)) (ts : List (AccountEntry V)) → AllAboveOne ds → IsInOrder ts → GetsOnly is_uncleared ts (fold account_after ts ds) → marked_from k ts →
    marked_from k (fold account_after ts ds)
all_moved k [] ts large o stays h = h
all_moved k (d ∷ ds) ts large o stays h =
    let us = account_after ts d in
    let here = changes_go (changes_of (waiting ts) d) ts in
    let there = queue_moves_go ds us in
    all_moved k ds us (rest_above_one d ds large) (changes_in_order (changes_of (waiting ts) d) ts o)
    (gets_rest is_uncleared ts us (fold account_after us ds) here there stays)
    (moved k d ds ts large o (gets_first is_uncleared ts us (fold account_after us ds) here there stays) h)

-- ---- where a value is lost

fate_appended : {V : Type 0} → (place : ℕ) (ts us : List (AccountEntry V)) → fate_at place ts ≡ Some Waits → fate_at place (ts ++ us) ≡ Some Waits
fate_appended place [] us w = absurd (cc)
fate_appended zero (t ∷ ts) us w = w
fate_appended (suc place) (t ∷ ts) us w = fate_appended place ts us w

fate_marked : {V : Type 0} → (place : ℕ) (ts : List (AccountEntry V)) → fate_at place (first_marked ts) ≡ fate_at place ts
fate_marked place [] = refl
fate_marked zero (t ∷ ts) = by (is_waiting t.fate)
  where
    by : (b : Bool) → fate_at zero (cond b (record t { marked = true } ∷ ts) (t ∷ first_marked ts)) ≡ Some t.fate
    by true = refl
    by false = refl
fate_marked (suc place) (t ∷ ts) = by (is_waiting t.fate) (fate_marked place ts)
  where
    by : (b : Bool) → fate_at place (first_marked ts) ≡ fate_at place ts → fate_at (suc place) (cond b (record t { marked = true } ∷ ts) (t ∷ first_marked ts)) ≡ fate_at place ts
    by true ih = refl
    by false ih = ih

-- both fates can't be
two_fates : {A : Type 0} (x : Option Fate) → x ≡ Some Waits → x ≡ Some WasLost → A
two_fates x w l = let e : Some Waits ≡ Some WasLost = sym w ∙ l in absurd (cc)

not_waiting : {A : Type 0} (f : Fate) → Some f ≡ Some Waits → is_waiting f ≡ false → A
not_waiting Waits w e = absurd (cc)
not_waiting WasSent w e = absurd (cc)
not_waiting WasLost w e = absurd (cc)
not_waiting WasCleared w e = absurd (cc)

lost_in_front : {V : Type 0} → (place : ℕ) (ts : List (AccountEntry V)) → IsInOrder ts → 2 ≤ length (waiting ts) → fate_at place ts ≡ Some Waits → fate_at place (lost_front ts) ≡ Some WasLost →
    marked_from (suc place) (lost_front ts)
lost_in_front place [] o some w l = absurd (cc)
lost_in_front zero (t ∷ ts) o some w l = by (is_waiting t.fate) refl some
  where
    by : (b : Bool) → is_waiting t.fate ≡ b → 2 ≤ length (cond b (entry t.value t.marked ∷ waiting ts) (waiting ts)) → marked_from 1 (first_marked (cond b (with_fate WasLost t ∷ first_get WasLost 0 ts) (t ∷ first_get WasLost 1 ts)))
    by true e some = rw (get_none WasLost ts) (first_is_marked ts (o.0 e) (omega arith))
    by false e some = not_waiting t.fate w e
lost_in_front (suc place) (t ∷ ts) o some w l = by (is_waiting t.fate) refl some l (λ some l. lost_in_front place ts o.1 some w l)
  where
    by : (b : Bool) → is_waiting t.fate ≡ b → 2 ≤ length (cond b (entry t.value t.marked ∷ waiting ts) (waiting ts)) →
        fate_at (suc place) (first_marked (cond b (with_fate WasLost t ∷ first_get WasLost 0 ts) (t ∷ first_get WasLost 1 ts))) ≡ Some WasLost →
        (2 ≤ length (waiting ts) → fate_at place (lost_front ts) ≡ Some WasLost → marked_from (suc place) (lost_front ts)) →
        marked_from (suc (suc place)) (first_marked (cond b (with_fate WasLost t ∷ first_get WasLost 0 ts) (t ∷ first_get WasLost 1 ts)))
    by true e some l ih = two_fates (fate_at place (first_marked (first_get WasLost 0 ts))) (fate_marked place (first_get WasLost 0 ts) ∙ ap (fate_at place) (get_none WasLost ts) ∙ w) l
    by false e some l ih = rw e (ih some (rw e at l))

lost_as_newest : {V : Type 0} → (n : ℕ) (v : V) (place : ℕ) (ts : List (AccountEntry V)) → IsInOrder ts → fate_at place ts ≡ Some Waits → fate_at place (replaced n v ts) ≡ Some WasLost →
    marked_from (suc place) (replaced n v ts)
lost_as_newest n v place [] o w l = absurd (cc)
lost_as_newest zero v zero (t ∷ ts) o w l = by (is_waiting t.fate) refl
  where
    by : (b : Bool) → is_waiting t.fate ≡ b → marked_from 1 (cond b (with_fate WasLost t ∷ others_get WasLost zero ts) (t ∷ others_get WasLost zero ts) ++ entered v true ∷ [])
    by true e = new_is_first v ts (o.0 e)
    by false e = not_waiting t.fate w e
lost_as_newest (suc n) v zero (t ∷ ts) o w l = by (is_waiting t.fate) l
  where
    by : (b : Bool) → fate_at zero (cond b (t ∷ others_get WasLost n ts) (t ∷ others_get WasLost (suc n) ts) ++ entered v true ∷ []) ≡ Some WasLost →
        marked_from 1 (cond b (t ∷ others_get WasLost n ts) (t ∷ others_get WasLost (suc n) ts) ++ entered v true ∷ [])
    by true l = two_fates (Some t.fate) w l
    by false l = two_fates (Some t.fate) w l
lost_as_newest zero v (suc place) (t ∷ ts) o w l = by (is_waiting t.fate) l (lost_as_newest zero v place ts o.1 w)
  where
    by : (b : Bool) → fate_at (suc place) (cond b (with_fate WasLost t ∷ others_get WasLost zero ts) (t ∷ others_get WasLost zero ts) ++ entered v true ∷ []) ≡ Some WasLost →
        (fate_at place (replaced zero v ts) ≡ Some WasLost → marked_from (suc place) (replaced zero v ts)) →
        marked_from (suc (suc place)) (cond b (with_fate WasLost t ∷ others_get WasLost zero ts) (t ∷ others_get WasLost zero ts) ++ entered v true ∷ [])
    by true l ih = ih l
    by false l ih = ih l
lost_as_newest (suc n) v (suc place) (t ∷ ts) o w l = by (is_waiting t.fate) l (lost_as_newest n v place ts o.1 w) (lost_as_newest (suc n) v place ts o.1 w)
  where
    by : (b : Bool) → fate_at (suc place) (cond b (t ∷ others_get WasLost n ts) (t ∷ others_get WasLost (suc n) ts) ++ entered v true ∷ []) ≡ Some WasLost →
        (fate_at place (replaced n v ts) ≡ Some WasLost → marked_from (suc place) (replaced n v ts)) →
        (fate_at place (replaced (suc n) v ts) ≡ Some WasLost → marked_from (suc place) (replaced (suc n) v ts)) →
        marked_from (suc (suc place)) (cond b (t ∷ others_get WasLost n ts) (t ∷ others_get WasLost (suc n) ts) ++ entered v true ∷ [])
    by true l ih _ = ih l
    by false l _ ih = ih l

lost_by_sample : {V : Type 0} → (place : ℕ) (ts : List (AccountEntry V)) (size : ℕ) (discard_oldest : Bool) (v : V) → 1 < size → IsInOrder ts → fate_at place ts ≡ Some Waits →
    fate_at place (account_after ts (QueueMove.Sample size discard_oldest v)) ≡ Some WasLost → marked_from (suc place) (account_after ts (QueueMove.Sample size discard_oldest v))
lost_by_sample place ts size discard_oldest v large o w l = by (nat_lt (length (waiting ts)) size) (nat_lt 1 size) discard_oldest refl refl l
  where
    by : (room more oldest : Bool) → nat_lt (length (waiting ts)) size ≡ room → nat_lt 1 size ≡ more →
        fate_at place (fold accounted ts (cond room (QueueChange.Queued v ∷ []) (cond more (cond oldest (QueueChange.Queued v ∷ QueueChange.FrontDropped ∷ []) (QueueChange.NewestReplaced v ∷ [])) (QueueChange.OnlyReplaced v ∷ [])))) ≡ Some WasLost →
        marked_from (suc place) (fold accounted ts (cond room (QueueChange.Queued v ∷ []) (cond more (cond oldest (QueueChange.Queued v ∷ QueueChange.FrontDropped ∷ []) (QueueChange.NewestReplaced v ∷ [])) (QueueChange.OnlyReplaced v ∷ []))))
    by true more oldest x y l = two_fates (fate_at place (ts ++ entered v false ∷ [])) (fate_appended place ts (entered v false ∷ []) w) l
    by false true true x y l = lost_in_front place (ts ++ entered v false ∷ []) (order_kept ts (QueueChange.Queued v) o) (two_wait ts v size x y) (fate_appended place ts (entered v false ∷ []) w) l
    by false true false x y l = lost_as_newest (length (waiting ts) - 1) v place ts o w l
    by false false oldest x y l = both (above_one size large) y

pub marks_the_next : {V : Type 0} → (queue_moves more : List (QueueMove V)) (size : ℕ) (discard_oldest : Bool) (value : V) → 1 < size → AllAboveOne more →
    MarksTheNextLeft (account queue_moves) (account_after (account queue_moves) (QueueMove.Sample size discard_oldest value)) more
marks_the_next queue_moves more size discard_oldest value large larger place w l stays =
    let ts = account queue_moves in
    let d = QueueMove.Sample size discard_oldest value in
    let o = account_in_order queue_moves in
    all_moved (suc place) more (account_after ts d) larger (changes_in_order (changes_of (waiting ts) d) ts o) stays (lost_by_sample place ts size discard_oldest value large o w l)
