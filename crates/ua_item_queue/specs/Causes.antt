-- Which move gives a value which fate.
use Rattle.std.specs.Prelude.{◌≡◌, ◌&&◌, ⊤, Bool, true, false, not, nat_lt, nat_le, length, List, [], ◌∷◌}
use Rattle.ua_item_queue.specs.Fates.{Fate, AccountEntry, is_waiting, is_sent, is_lost, waiting}
use Rattle.ua_item_queue.specs.Fates.Fate.{WasCleared}
use Rattle.ua_item_queue.specs.ItemQueue.{QueueMove}
use Rattle.ua_item_queue.specs.ItemQueue.QueueMove.{Sample, Send, Clear, Resize}

abbrev pub is_cleared : Fate → Bool
is_cleared WasCleared = true
is_cleared _ = false

-- the fate that a move gives: a value is lost where another is queued, sent by a sending, and cleared with the queue or where
-- that is made smaller
abbrev pub gives : {V : Type 0} → QueueMove V → Fate → Bool
gives (Sample size discard_oldest v) f = is_lost f
gives (Send n) f = is_sent f
gives Clear f = is_cleared f
gives (Resize size discard_oldest) f = is_cleared f

-- a value that is queued drives one out only where as many wait as the size says, and a new size clears only where more do
abbrev pub may_drop : {V : Type 0} → List (AccountEntry V) → QueueMove V → Bool
may_drop before (Sample size discard_oldest v) = not (nat_lt (length (waiting before)) size)
may_drop before (Send n) = true
may_drop before Clear = true
may_drop before (Resize size discard_oldest) = not (nat_le (length (waiting before)) size)

-- the fate that a move may give where these are the values of before
abbrev pub may_give : {V : Type 0} → List (AccountEntry V) → QueueMove V → Fate → Bool
may_give before queue_move f = gives queue_move f && may_drop before queue_move

-- from an account to a later one no value got another fate than such, neither one that waited nor one that is new
abbrev pub GetsOnly : {V : Type 0} → (Fate → Bool) → List (AccountEntry V) → List (AccountEntry V) → Type 0
GetsOnly may [] [] = ⊤
GetsOnly may [] (u ∷ us) = (is_waiting u.fate ≡ false → may u.fate ≡ true) × GetsOnly may [] us
GetsOnly may (t ∷ ts) [] = ⊥
GetsOnly may (t ∷ ts) (u ∷ us) = (is_waiting t.fate ≡ true → is_waiting u.fate ≡ false → may u.fate ≡ true) × GetsOnly may ts us
