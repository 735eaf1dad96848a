-- What becomes of the values that items queue, whatever is called.
use Rattle.std.specs.Prelude.{◌≡◌, ◌<◌, ℕ, Bool, List, [], ◌∷◌, ◌++◌}
use Rattle.ua_types.specs.Configuration.{Configuration}
use Rattle.ua_types.specs.declared.data_value.DataValue.{DataValue}
use Rattle.ua_item_queue.specs.Causes.{may_give, GetsOnly}
use Rattle.ua_item_queue.specs.Fates.{AccountEntry, account, GoesOn, NewLossesAreMarked}
use Rattle.ua_item_queue.specs.ItemQueue.{QueueMove}
use Rattle.ua_item_queue.specs.ItemQueue.QueueMove.{Sample}
use Rattle.ua_monitored_items.specs.Causes.{call_may_give}
use Rattle.ua_monitored_items.specs.Moves as item_moves
use Rattle.subscription_laws.specs.ItemCalls.{item_calls}
use Rattle.subscription_laws.specs.Runs.{Move}

-- all that was done with the queue of the item of a number
abbrev pub queue_moves_at : Configuration → List Move → ℕ → List (QueueMove DataValue)
queue_moves_at config moves number = item_moves.queue_moves_of number (item_moves.run config (item_calls config moves)).queue_moves

-- the account of all values that the item ever queued, oldest first, each with its fate and its mark
abbrev pub account_at : Configuration → List Move → ℕ → List (AccountEntry DataValue)
account_at config moves number = account (queue_moves_at config moves number)

-- each of some calls of the items gives a value no fate but its own: a message sends values, and so on
abbrev pub AreCaused : Configuration → List item_moves.Move → ℕ → Type 0
AreCaused config calls number = (before after : List item_moves.Move) (call : item_moves.Move) → calls ≡ before ++ call ∷ after →
    GetsOnly (call_may_give call) (item_moves.account_of config before number) (item_moves.account_of config (before ++ call ∷ []) number)

-- and each thing that is done with a queue gives a value no fate but its own, and drives one out only where it must: a value is
-- lost only where as many wait as the size says, and cleared by a new size only where more do
abbrev pub HaveTheirCauses : List (QueueMove DataValue) → Type 0
HaveTheirCauses queue_moves = (before after : List (QueueMove DataValue)) (queue_move : QueueMove DataValue) → queue_moves ≡ before ++ queue_move ∷ after →
    GetsOnly (may_give (account before) queue_move) (account before) (account (before ++ queue_move ∷ []))

-- a value that is queued, between what was done before and after: behind each value that is lost then, a marked one waits at
-- once; and what stands in the account stays in its place, the mark too
pub record IsMarkedForGood (before : List (QueueMove DataValue)) (queue_move : QueueMove DataValue) (after : List (QueueMove DataValue)) : Type 0 where
  pub at_once : NewLossesAreMarked (account before) (account (before ++ queue_move ∷ []))
  pub for_good : GoesOn (account (before ++ queue_move ∷ [])) (account (before ++ queue_move ∷ after))

-- so it is wherever a value is queued in a queue of a size above 1
abbrev pub EachLossIsMarked : List (QueueMove DataValue) → Type 0
EachLossIsMarked queue_moves = (before after : List (QueueMove DataValue)) (size : ℕ) (discard_oldest : Bool) (value : DataValue) →
    queue_moves ≡ before ++ Sample size discard_oldest value ∷ after → 1 < size → IsMarkedForGood before (Sample size discard_oldest value) after
