-- What every account fulfils.
use Rattle.std.proofs.Common.{◌≡◌, ℕ, ◌-◌, ◌≤◌, Bool, true, false, cond, List, [], ◌∷◌, ◌++◌, length, refl, arith, length-append}
use Rattle.std.specs.Prelude.{nat_lt, nat_le, fold}
use Rattle.ua_item_queue.specs.declared.entry.Entry.{Entry}
use Rattle.ua_item_queue.specs.ItemQueue.{entry, QueueChange, QueueMove}
use Rattle.ua_item_queue.specs.Fates.{AccountEntry, entered, waiting, accounted, account_after, account, IsInOrder, LossesAreMarked}
use Rattle.ua_item_queue.proofs.QueueLemmas.{waiting-append}
use Rattle.ua_item_queue.proofs.OrderLemmas.{order_kept}
use Rattle.ua_item_queue.proofs.LossLemmas.{IsFit, marked_kept}

pub record IsRight {V : Type 0} (ts : List (AccountEntry V)) : Type 0 where
  pub order : IsInOrder ts
  pub losses : LossesAreMarked ts

change_right : {V : Type 0} → (ts : List (AccountEntry V)) (a : QueueChange V) → IsFit ts a → IsRight ts → IsRight (accounted ts a)
change_right ts a fit h = record { order = order_kept ts a h.order; losses = marked_kept ts a fit h.order h.losses }

enough : {V : Type 0} → (q : List (Entry V)) (v : V) (size : ℕ) → nat_lt (length q) size ≡ false → nat_lt 1 size ≡ true → 2 ≤ length (q ++ entry v false ∷ [])
enough q v size full large = let more = length-append q (entry v false ∷ []) in grind (arith, more, large, full)

pub two_wait : {V : Type 0} → (ts : List (AccountEntry V)) (v : V) (size : ℕ) → nat_lt (length (waiting ts)) size ≡ false → nat_lt 1 size ≡ true → 2 ≤ length (waiting (ts ++ entered v false ∷ []))
two_wait ts v size full large = rw (waiting-append ts (entered v false ∷ [])) (enough (waiting ts) v size full large)

pub queue_move_right : {V : Type 0} → (ts : List (AccountEntry V)) (d : QueueMove V) → IsRight ts → IsRight (account_after ts d)
queue_move_right ts (QueueMove.Sample size discard_oldest v) h = by (nat_lt (length (waiting ts)) size) (nat_lt 1 size) discard_oldest refl refl
  where
    queued : IsRight (accounted ts (QueueChange.Queued v))
    queued = change_right ts (QueueChange.Queued v) tt h

    by : (room large oldest : Bool) → nat_lt (length (waiting ts)) size ≡ room → nat_lt 1 size ≡ large → IsRight (fold accounted ts (cond room (QueueChange.Queued v ∷ []) (cond large (cond oldest (QueueChange.Queued v ∷ QueueChange.FrontDropped ∷ []) (QueueChange.NewestReplaced v ∷ [])) (QueueChange.OnlyReplaced v ∷ []))))
    by true large oldest x y = queued
    by false true true x y = change_right (accounted ts (QueueChange.Queued v)) QueueChange.FrontDropped (two_wait ts v size x y) queued
    by false true false x y = change_right ts (QueueChange.NewestReplaced v) tt h
    by false false oldest x y = change_right ts (QueueChange.OnlyReplaced v) tt h
queue_move_right ts (QueueMove.Send n) h = change_right ts (QueueChange.Sent n) tt h
queue_move_right ts QueueMove.Clear h = change_right ts QueueChange.Cleared tt h
queue_move_right ts (QueueMove.Resize size discard_oldest) h = by (nat_le (length (waiting ts)) size) discard_oldest
  where
    by : (fits oldest : Bool) → IsRight (fold accounted ts (cond fits [] (cond oldest (QueueChange.FrontCleared (length (waiting ts) - size) ∷ []) (QueueChange.BackCleared size ∷ []))))
    by true oldest = h
    by false true = change_right ts (QueueChange.FrontCleared (length (waiting ts) - size)) tt h
    by false false = change_right ts (QueueChange.BackCleared size) tt h

queue_moves_right : {V : Type 0} → (ds : List (QueueMove V)) (ts : List (AccountEntry V)) → IsRight ts → IsRight (fold account_after ts ds)
queue_moves_right [] ts h = h
queue_moves_right (d ∷ ds) ts h = queue_moves_right ds (account_after ts d) (queue_move_right ts d h)

pub account_right : {V : Type 0} → (ds : List (QueueMove V)) → IsRight (account ds)
account_right ds = queue_moves_right ds [] (record { order = tt; losses = tt })

pub account_in_order : {V : Type 0} → (ds : List (QueueMove V)) → IsInOrder (account ds)
account_in_order ds = (account_right ds).order

pub account_marks : {V : Type 0} → (ds : List (QueueMove V)) → LossesAreMarked (account ds)
account_marks ds = (account_right ds).losses
