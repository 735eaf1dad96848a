-- What stands in the account stays in its place.
use Rattle.std.proofs.Common.{◌≡◌, ℕ, ◌-◌, Bool, true, false, cond, List, [], ◌∷◌, ◌++◌, length, suc, zero, refl, sym, ap, ◌∙◌}
use Rattle.std.specs.Prelude.{fold}
use Rattle.ua_item_queue.specs.ItemQueue.{QueueChange, QueueMove, changes_of}
use Rattle.ua_item_queue.specs.Fates.{Fate, AccountEntry, is_waiting, with_fate, waiting, first_get, others_get, first_marked, settled, accounted, account_after, IsKept, GoesOn}
use Rattle.ua_item_queue.specs.Fates.Fate.{WasSent, WasLost, WasCleared}

same : {V : Type 0} → (t : AccountEntry V) → IsKept t t
same t = record { value = refl; mark = λ h. h; last_mark = λ h. refl; last_fate = λ h. refl }

then : {V : Type 0} → (t u w : AccountEntry V) → IsKept t u → IsKept u w → IsKept t w
then t u w h k = record {
  value = k.value ∙ h.value;
  mark = λ m. k.mark (h.mark m);
  last_mark = λ n. k.last_mark (ap is_waiting (h.last_fate n) ∙ n) ∙ h.last_mark n;
  last_fate = λ n. k.last_fate (ap is_waiting (h.last_fate n) ∙ n) ∙ h.last_fate n;
}

both : {b : Bool} → b ≡ true → b ≡ false → ⊥
both h k = let e : true ≡ false = sym h ∙ k in absurd (cc)

fated : {V : Type 0} → (f : Fate) (t : AccountEntry V) → is_waiting t.fate ≡ true → IsKept t (with_fate f t)
fated f t w = record { value = refl; mark = λ h. h; last_mark = λ h. refl; last_fate = λ h. absurd (both w h) }

marks : {V : Type 0} → (t : AccountEntry V) → is_waiting t.fate ≡ true → IsKept t (record t { marked = true })
marks t w = record { value = refl; mark = λ h. refl; last_mark = λ h. absurd (both w h); last_fate = λ h. refl }

settles : {V : Type 0} → (t : AccountEntry V) → IsKept t (record t { needs_mark = false })
settles t = record { value = refl; mark = λ h. h; last_mark = λ h. refl; last_fate = λ h. refl }

pub goes_on : {V : Type 0} → (ts : List (AccountEntry V)) → GoesOn ts ts
goes_on [] = tt
goes_on (t ∷ ts) = (same t, goes_on ts)

pub goes_further : {V : Type 0} → (ts us ws : List (AccountEntry V)) → GoesOn ts us → GoesOn us ws → GoesOn ts ws
goes_further [] us ws h k = tt
goes_further (t ∷ ts) [] ws h k = absurd h
goes_further (t ∷ ts) (u ∷ us) [] h k = absurd k
goes_further (t ∷ ts) (u ∷ us) (w ∷ ws) h k = (then t u w h.0 k.0, goes_further ts us ws h.1 k.1)

longer : {V : Type 0} → (ts us ws : List (AccountEntry V)) → GoesOn ts us → GoesOn ts (us ++ ws)
longer [] us ws h = tt
longer (t ∷ ts) [] ws h = absurd h
longer (t ∷ ts) (u ∷ us) ws h = (h.0, longer ts us ws h.1)

first_get_goes : {V : Type 0} → (f : Fate) (n : ℕ) (ts : List (AccountEntry V)) → GoesOn ts (first_get f n ts)
first_get_goes f n [] = tt
first_get_goes f zero (t ∷ ts) = goes_on (t ∷ ts)
first_get_goes f (suc n) (t ∷ ts) = by (is_waiting t.fate) refl (first_get_goes f n ts) (first_get_goes f (suc n) ts)
  where
    by : (b : Bool) → is_waiting t.fate ≡ b → GoesOn ts (first_get f n ts) → GoesOn ts (first_get f (suc n) ts) → GoesOn (t ∷ ts) (cond b (with_fate f t ∷ first_get f n ts) (t ∷ first_get f (suc n) ts))
    by true e h _ = (fated f t e, h)
    by false e _ h = (same t, h)

others_get_goes : {V : Type 0} → (f : Fate) (n : ℕ) (ts : List (AccountEntry V)) → GoesOn ts (others_get f n ts)
others_get_goes f n [] = tt
others_get_goes f zero (t ∷ ts) = by (is_waiting t.fate) refl (others_get_goes f zero ts)
  where
    by : (b : Bool) → is_waiting t.fate ≡ b → GoesOn ts (others_get f zero ts) → GoesOn (t ∷ ts) (cond b (with_fate f t ∷ others_get f zero ts) (t ∷ others_get f zero ts))
    by true e h = (fated f t e, h)
    by false e h = (same t, h)
others_get_goes f (suc n) (t ∷ ts) = by (is_waiting t.fate) (others_get_goes f n ts) (others_get_goes f (suc n) ts)
  where
    by : (b : Bool) → GoesOn ts (others_get f n ts) → GoesOn ts (others_get f (suc n) ts) → GoesOn (t ∷ ts) (cond b (t ∷ others_get f n ts) (t ∷ others_get f (suc n) ts))
    by true h _ = (same t, h)
    by false _ h = (same t, h)

pub first_marked_goes : {V : Type 0} → (ts : List (AccountEntry V)) → GoesOn ts (first_marked ts)
first_marked_goes [] = tt
first_marked_goes (t ∷ ts) = by (is_waiting t.fate) refl (first_marked_goes ts)
  where
    by : (b : Bool) → is_waiting t.fate ≡ b → GoesOn ts (first_marked ts) → GoesOn (t ∷ ts) (cond b (record t { marked = true } ∷ ts) (t ∷ first_marked ts))
    by true e h = (marks t e, goes_on ts)
    by false e h = (same t, h)

pub settled_goes : {V : Type 0} → (ts : List (AccountEntry V)) → GoesOn ts (settled ts)
settled_goes [] = tt
settled_goes (t ∷ ts) = (settles t, settled_goes ts)

pub change_goes : {V : Type 0} → (ts : List (AccountEntry V)) (a : QueueChange V) → GoesOn ts (accounted ts a)
change_goes ts (QueueChange.Queued v) = longer ts ts _ (goes_on ts)
change_goes ts QueueChange.FrontDropped = goes_further ts (first_get WasLost 1 ts) _ (first_get_goes WasLost 1 ts) (first_marked_goes (first_get WasLost 1 ts))
change_goes ts (QueueChange.NewestReplaced v) = longer ts (others_get WasLost (length (waiting ts) - 1) ts) _ (others_get_goes WasLost (length (waiting ts) - 1) ts)
change_goes ts (QueueChange.OnlyReplaced v) = longer ts (settled (others_get WasLost 0 ts)) _ (goes_further ts (others_get WasLost 0 ts) _ (others_get_goes WasLost 0 ts) (settled_goes (others_get WasLost 0 ts)))
change_goes ts (QueueChange.Sent n) = first_get_goes WasSent n ts
change_goes ts QueueChange.Cleared = goes_further ts (others_get WasCleared 0 ts) _ (others_get_goes WasCleared 0 ts) (settled_goes (others_get WasCleared 0 ts))
change_goes ts (QueueChange.FrontCleared n) = goes_further ts (first_get WasCleared n ts) _ (first_get_goes WasCleared n ts) (settled_goes (first_get WasCleared n ts))
change_goes ts (QueueChange.BackCleared n) = goes_further ts (others_get WasCleared n ts) _ (others_get_goes WasCleared n ts) (settled_goes (others_get WasCleared n ts))

pub changes_go : {V : Type 0} → (changes : List (QueueChange V)) (ts : List (AccountEntry V)) → GoesOn ts (fold accounted ts changes)
changes_go [] ts = goes_on ts
changes_go (a ∷ changes) ts = goes_further ts (accounted ts a) _ (change_goes ts a) (changes_go changes (accounted ts a))

pub queue_moves_go : {V : Type 0} → (ds : List (QueueMove V)) (ts : List (AccountEntry V)) → GoesOn ts (fold account_after ts ds)
queue_moves_go [] ts = goes_on ts
queue_moves_go (d ∷ ds) ts = goes_further ts (account_after ts d) _ (changes_go (changes_of (waiting ts) d) ts) (queue_moves_go ds (account_after ts d))
