-- What became of the values that were queued.
use Rattle.std.specs.Prelude.{◌≡◌, ◌&&◌, ◌||◌, ℕ, ◌-◌, zero, suc, Bool, true, false, List, [], ◌∷◌, ◌++◌, length, fold, if◌then◌else◌, ⊤}
use Rattle.ua_item_queue.specs.declared.entry.Entry.{Entry}
use Rattle.ua_item_queue.specs.ItemQueue.{entry, QueueChange, QueueMove, changes_of}
use Rattle.ua_item_queue.specs.ItemQueue.QueueChange.{Queued, FrontDropped, NewestReplaced, OnlyReplaced, Sent, Cleared, FrontCleared, BackCleared}

-- a value waits in the queue, was sent, was lost where the queue was full, or was cleared by a call
pub data Fate : Type 0 where
  Waits WasSent WasLost WasCleared : Fate

-- a value of the account; and of a lost one, whether it still needs a mark on a later value: nothing was cleared since, and the
-- queue holds more than one value
pub record AccountEntry (V : Type 0) : Type 0 where
  pub value : V
  pub marked : Bool
  pub fate : Fate
  pub needs_mark : Bool

abbrev pub is_waiting : Fate → Bool
is_waiting Waits = true
is_waiting _ = false

abbrev pub is_sent : Fate → Bool
is_sent WasSent = true
is_sent _ = false

abbrev pub is_lost : Fate → Bool
is_lost WasLost = true
is_lost _ = false

abbrev pub entered : {V : Type 0} → V → Bool → AccountEntry V
entered v marked = record { value = v; marked = marked; fate = Waits; needs_mark = false }

abbrev pub with_fate : {V : Type 0} → Fate → AccountEntry V → AccountEntry V
with_fate f t = record t { fate = f; needs_mark = is_lost f }

-- the values that wait, in order
abbrev pub waiting : {V : Type 0} → List (AccountEntry V) → List (Entry V)
waiting [] = []
waiting (t ∷ ts) = if is_waiting t.fate then entry t.value t.marked ∷ waiting ts else waiting ts

-- the first n that wait get another fate
abbrev pub first_get : {V : Type 0} → Fate → ℕ → List (AccountEntry V) → List (AccountEntry V)
first_get f n [] = []
first_get f zero (t ∷ ts) = t ∷ ts
first_get f (suc n) (t ∷ ts) = if is_waiting t.fate then with_fate f t ∷ first_get f n ts else t ∷ first_get f (suc n) ts

-- all that wait but the first n get another fate
abbrev pub others_get : {V : Type 0} → Fate → ℕ → List (AccountEntry V) → List (AccountEntry V)
others_get f n [] = []
others_get f zero (t ∷ ts) = if is_waiting t.fate then with_fate f t ∷ others_get f zero ts else t ∷ others_get f zero ts
others_get f (suc n) (t ∷ ts) = if is_waiting t.fate then t ∷ others_get f n ts else t ∷ others_get f (suc n) ts

-- the first that waits is marked
abbrev pub first_marked : {V : Type 0} → List (AccountEntry V) → List (AccountEntry V)
first_marked [] = []
first_marked (t ∷ ts) = if is_waiting t.fate then record t { marked = true } ∷ ts else t ∷ first_marked ts

-- no value needs a mark any more
abbrev pub settled : {V : Type 0} → List (AccountEntry V) → List (AccountEntry V)
settled [] = []
settled (t ∷ ts) = record t { needs_mark = false } ∷ settled ts

-- the account after a change
abbrev pub accounted : {V : Type 0} → List (AccountEntry V) → QueueChange V → List (AccountEntry V)
accounted ts (Queued v) = ts ++ entered v false ∷ []
accounted ts FrontDropped = first_marked (first_get WasLost 1 ts)
accounted ts (NewestReplaced v) = others_get WasLost (length (waiting ts) - 1) ts ++ entered v true ∷ []
accounted ts (OnlyReplaced v) = settled (others_get WasLost 0 ts) ++ entered v false ∷ []
accounted ts (Sent n) = first_get WasSent n ts
accounted ts Cleared = settled (others_get WasCleared 0 ts)
accounted ts (FrontCleared n) = settled (first_get WasCleared n ts)
accounted ts (BackCleared n) = settled (others_get WasCleared n ts)

abbrev pub account_after : {V : Type 0} → List (AccountEntry V) → QueueMove V → List (AccountEntry V)
account_after ts d = fold accounted ts (changes_of (waiting ts) d)

-- the account of all that was ever queued
abbrev pub account : {V : Type 0} → List (QueueMove V) → List (AccountEntry V)
account ds = fold account_after [] ds

-- a value of the account later: it is the same value; a mark stays; and once it doesn't wait, nothing of it changes
pub record IsKept {V : Type 0} (before later : AccountEntry V) : Type 0 where
  pub value : later.value ≡ before.value
  pub mark : before.marked ≡ true → later.marked ≡ true
  pub last_mark : is_waiting before.fate ≡ false → later.marked ≡ before.marked
  pub last_fate : is_waiting before.fate ≡ false → later.fate ≡ before.fate

-- an account goes on: what stands in it stays in its place
abbrev pub GoesOn : {V : Type 0} → List (AccountEntry V) → List (AccountEntry V) → Type 0
GoesOn [] us = ⊤
GoesOn (t ∷ ts) [] = ⊥
GoesOn (t ∷ ts) (u ∷ us) = IsKept t u × GoesOn ts us

-- no value was sent
abbrev pub NoneSent : {V : Type 0} → List (AccountEntry V) → Type 0
NoneSent [] = ⊤
NoneSent (t ∷ ts) = (is_sent t.fate ≡ false) × NoneSent ts

-- no value was sent before an older one that waits
abbrev pub IsInOrder : {V : Type 0} → List (AccountEntry V) → Type 0
IsInOrder [] = ⊤
IsInOrder (t ∷ ts) = (is_waiting t.fate ≡ true → NoneSent ts) × IsInOrder ts

abbrev pub is_left : Fate → Bool
is_left Waits = true
is_left WasSent = true
is_left _ = false

-- the first value that was neither lost nor cleared is marked
abbrev pub is_first_marked : {V : Type 0} → List (AccountEntry V) → Bool
is_first_marked [] = false
is_first_marked (t ∷ ts) = if is_left t.fate then t.marked else is_first_marked ts

-- each value that needs a mark has it: the first value after it that is left carries one
abbrev pub LossesAreMarked : {V : Type 0} → List (AccountEntry V) → Type 0
LossesAreMarked [] = ⊤
LossesAreMarked (t ∷ ts) = (t.needs_mark ≡ true → is_first_marked ts ≡ true) × LossesAreMarked ts

-- some value waits and is marked
abbrev pub any_marked : {V : Type 0} → List (AccountEntry V) → Bool
any_marked [] = false
any_marked (t ∷ ts) = is_waiting t.fate && t.marked || any_marked ts

-- behind each value that is lost between two accounts, a marked one waits
abbrev pub NewLossesAreMarked : {V : Type 0} → List (AccountEntry V) → List (AccountEntry V) → Type 0
NewLossesAreMarked [] us = ⊤
NewLossesAreMarked (t ∷ ts) [] = ⊥
NewLossesAreMarked (t ∷ ts) (u ∷ us) = (is_waiting t.fate ≡ true → is_lost u.fate ≡ true → any_marked us ≡ true) × NewLossesAreMarked ts us
