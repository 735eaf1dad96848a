-- The marks of an overflow (IEC 62541-4, 5.12.1.5: the Overflow bit tells of values that were discarded).
use Rattle.std.specs.Prelude.{◌≡◌, ◌<◌, ℕ, Bool, List, ◌∷◌, ◌++◌}
use Rattle.ua_item_queue.specs.Fates.{account, account_after}
use Rattle.ua_item_queue.specs.ItemQueue.{QueueMove}
use Rattle.ua_item_queue.specs.ItemQueue.QueueMove.{Sample}
use Rattle.ua_item_queue.specs.Marks.{AllAboveOne, MarksTheNextLeft}
use Rattle.ua_types.specs.declared.data_value.DataValue.{DataValue}

-- Where a queue of more than one loses the value at a place, as another is sampled, and from then on it holds more than one and
-- nothing of it becomes cleared, the first value behind that place that was neither lost nor cleared carries the mark
abbrev pub MarksWhatFollows : List (QueueMove DataValue) → Type 0
MarksWhatFollows queue_moves = (before after : List (QueueMove DataValue)) (size : ℕ) (discard_oldest : Bool) (value : DataValue) →
    before ++ Sample size discard_oldest value ∷ after ≡ queue_moves → 1 < size → AllAboveOne after →
    MarksTheNextLeft (account before) (account_after (account before) (Sample size discard_oldest value)) after
