-- What becomes of the values that items queue, whatever happens to a server.
use Rattle.std.specs.Prelude.{◌≡◌, ℕ, List, ◌++◌}
use Rattle.ua_types.specs.Configuration.{Configuration}
use Rattle.ua_space.specs.Nodes.{SpaceState}
use Rattle.ua_types.specs.declared.data_value.DataValue.{DataValue}
use Rattle.ua_item_queue.specs.Fates.{AccountEntry, waiting, GoesOn, IsInOrder, LossesAreMarked}
use Rattle.ua_item_queue.specs.ItemQueue.{QueueMove}
use Rattle.ua_item_queue.specs.Sendings.{values_of, sampled_by, sent_of}
use Rattle.ua_monitored_items.specs.Moves.{queue_at}
use Rattle.subscription_laws.specs.Fates.{queue_moves_at, account_at, AreCaused, HaveTheirCauses, EachLossIsMarked}
use Rattle.subscription_laws.specs.ItemCalls.{item_calls}
use Rattle.subscription_laws.specs.Marks.{MarksWhatFollows}
use Rattle.subscription_laws.specs.MessageContents.{all_taken, AreMadeOf, entries_sent}
use Rattle.ua_services.specs.declared.services.Services.{Services}
use Rattle.server_core.specs.Coherent.{reached, IfRuns}
use Rattle.server_core.specs.declared.world.World.{World}
use Rattle.server_core.specs.declared.event.Event.{Event}
use Rattle.server_laws.specs.EventMoves.{moves_of}
use Rattle.server_laws.specs.Messages.{made_by}

-- all that the events did with the queue of the item of a number
abbrev pub queue_moves_after : Configuration → SpaceState → List Event → ℕ → List (QueueMove DataValue)
queue_moves_after config space events number = queue_moves_at config (moves_of config space events) number

-- the account of all values that it ever queued, oldest first, each with its fate and its mark
abbrev pub account_after : Configuration → SpaceState → List Event → ℕ → List (AccountEntry DataValue)
account_after config space events number = account_at config (moves_of config space events) number

-- the values of an account that wait are what the queue of the server's item of a number holds
abbrev pub HoldsWhatWaits : List (AccountEntry DataValue) → ℕ → World → Type 0
HoldsWhatWaits account number world = let services : Services = world.core.services in waiting account ≡ queue_at number services.items.items

-- Each value that an item queued has one fate: the account has each of them once, in the order of sampling; those that wait are
-- what the queue holds; none is sent before an older one that waits; once a value doesn't wait, its fate and its mark are final;
-- each call of the items gives a value no fate but its own, and drives one out, or clears one, only where it must
pub record HaveOneFate (config : Configuration) (space : SpaceState) (events : List Event) (number : ℕ) : Type 0 where
  pub all : values_of (account_after config space events number) ≡ sampled_by (queue_moves_after config space events number)
  pub waiting : IfRuns (HoldsWhatWaits (account_after config space events number) number) (reached config space events).server
  pub ordered : IsInOrder (account_after config space events number)
  pub for_good : (more : List Event) → GoesOn (account_after config space events number) (account_after config space (events ++ more) number)
  pub caused : AreCaused config (item_calls config (moves_of config space events)) number
  pub within : HaveTheirCauses (queue_moves_after config space events number)

-- Each value that was sent stands in one message, with its mark: the messages that were made are those of what the items gave,
-- one for each time that values were taken; and what an item gave are the values of its account that were sent, in their order
pub record StandInMessages (config : Configuration) (space : SpaceState) (events : List Event) (number : ℕ) : Type 0 where
  pub told : AreMadeOf (made_by config space events) (all_taken config (moves_of config space events))
  pub sent : entries_sent number (all_taken config (moves_of config space events)) ≡ sent_of (account_after config space events number)

-- Where the queue holds more than one value, behind each value that is lost a later one waits at once with the mark, which it keeps;
-- and the first one behind it that was neither lost nor cleared carries the mark, until something of the item is cleared. More than
-- that: it does as long as the queue holds more than one value and nothing of the item becomes cleared
pub record MarksItsLosses (config : Configuration) (space : SpaceState) (events : List Event) (number : ℕ) : Type 0 where
  pub told : LossesAreMarked (account_after config space events number)
  pub at_once : EachLossIsMarked (queue_moves_after config space events number)
  pub from_then_on : MarksWhatFollows (queue_moves_after config space events number)
