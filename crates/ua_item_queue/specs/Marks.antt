-- Which value carries the mark of one that was lost.
use Rattle.std.specs.Prelude.{◌≡◌, ◌<◌, ⊤, ℕ, zero, suc, Bool, true, not, drop, fold, List, [], ◌∷◌, Option, Some, None}
use Rattle.ua_item_queue.specs.Causes.{is_cleared, GetsOnly}
use Rattle.ua_item_queue.specs.Fates.{Fate, AccountEntry, account_after, is_first_marked}
use Rattle.ua_item_queue.specs.Fates.Fate.{Waits, WasLost}
use Rattle.ua_item_queue.specs.ItemQueue.{QueueMove}
use Rattle.ua_item_queue.specs.ItemQueue.QueueMove.{Sample, Send, Clear, Resize}

-- the fate of the value at a place of an account, if there is one
abbrev pub fate_at : {V : Type 0} → ℕ → List (AccountEntry V) → Option Fate
fate_at place [] = None
fate_at zero (t ∷ ts) = Some t.fate
fate_at (suc place) (t ∷ ts) = fate_at place ts

-- the queue has a size above 1 at each of some moves
abbrev pub AllAboveOne : {V : Type 0} → List (QueueMove V) → Type 0
AllAboveOne [] = ⊤
AllAboveOne (Sample size discard_oldest v ∷ ds) = (1 < size) × AllAboveOne ds
AllAboveOne (Send n ∷ ds) = AllAboveOne ds
AllAboveOne (Clear ∷ ds) = AllAboveOne ds
AllAboveOne (Resize size discard_oldest ∷ ds) = (1 < size) × AllAboveOne ds

abbrev pub is_uncleared : Fate → Bool
is_uncleared f = not (is_cleared f)

-- Where the value at a place waits in one account and is lost in the next, and no value becomes cleared by what is done then, the first
-- later value that was neither lost nor cleared is marked
abbrev pub MarksTheNextLeft : {V : Type 0} → List (AccountEntry V) → List (AccountEntry V) → List (QueueMove V) → Type 0
MarksTheNextLeft before lost more = (place : ℕ) → fate_at place before ≡ Some Waits → fate_at place lost ≡ Some WasLost →
    GetsOnly is_uncleared lost (fold account_after lost more) → is_first_marked (drop (suc place) (fold account_after lost more)) ≡ true
