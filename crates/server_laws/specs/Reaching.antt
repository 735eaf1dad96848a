-- How the values that items queued reach their clients.
use Rattle.std.specs.Prelude.{◌≡◌, ℕ, suc, ◌<◌, ◌≤◌, Bool, true, false, List, [], ◌∷◌, ◌++◌, drop, length, map, Option, Some, None, Ok, not}
use Rattle.std.specs.List.{AllByRecursion, flat_map}
use Rattle.ua_types.specs.Configuration.{Configuration}
use Rattle.ua_types.specs.declared.moment.Moment.{Moment}
use Rattle.ua_space.specs.Nodes.{SpaceState}
use Rattle.ua_types.specs.declared.data_value.DataValue.{DataValue}
use Rattle.ua_item_queue.specs.Fates.{Fate, account, any_marked, is_first_marked, is_waiting, waiting, LossesAreMarked}
use Rattle.ua_item_queue.specs.Fates.Fate.{Waits, WasLost, WasCleared}
use Rattle.ua_item_queue.specs.ItemQueue.{QueueMove}
use Rattle.ua_item_queue.specs.ItemQueue.QueueMove.{Sample}
use Rattle.ua_item_queue.specs.Marks.{AllAboveOne, fate_at}
use Rattle.ua_item_queue.specs.Sendings.{sent_of}
use Rattle.ua_item_queue.specs.declared.entry.Entry.{Entry}
use Rattle.ua_monitored_items.specs.Causes.{call_may_give}
use Rattle.ua_monitored_items.specs.Givings.{entries_of}
use Rattle.ua_monitored_items.specs.Moves as item_moves
use Rattle.ua_monitored_items.specs.Moves.{account_of}
use Rattle.ua_subscriptions.specs.declared.messages.KeptMessage.{KeptMessage}
use Rattle.ua_subscriptions.specs.Making.{republished}
use Rattle.ua_subscriptions.specs.SubscriptionCalls.{stage_of}
use Rattle.subscription_laws.specs.ItemCalls.{item_calls}
use Rattle.subscription_laws.specs.MessageContents.{Taken, IsMadeOf, all_taken}
use Rattle.subscription_laws.specs.Messaging.{Made, IsAmong, messages_for}
use Rattle.subscription_laws.specs.Tellings.{Telling, Told, Notifications, answer_of}
use Rattle.ua_services.specs.declared.services.Services.{Services}
use Rattle.server_core.specs.Subscriptions.{kept_on}
use Rattle.server_core.specs.declared.world.World.{World}
use Rattle.server_core.specs.declared.event.Event.{Event}
use Rattle.server_laws.specs.EventMoves.{moves_of}
use Rattle.server_laws.specs.Fates.{queue_moves_after, account_after, HoldsWhatWaits}
use Rattle.server_laws.specs.Messages.{made_by}
use Rattle.server_laws.specs.Postings.{Posting, posted}
use Rattle.server_laws.specs.Tellings.{told_by}

-- ---- which answer brings which value

-- a value of an item that an answer brings: the answer, its message, what the items of the message's subscription gave for it, and
-- the value
pub record BroughtValue : Type 0 where
  pub answer : Telling
  pub message : Made
  pub taken : Taken
  pub value : Entry DataValue

abbrev pub brought_value : Telling → Made → Taken → Entry DataValue → BroughtValue
brought_value answer message taken value = record { answer = answer; message = message; taken = taken; value = value }

-- the message of an answer with notifications; the others bring none
abbrev pub message_by : Telling → Told → List (Telling × Made)
message_by answer (Notifications message more) = (answer, message) ∷ []
message_by answer told = []

abbrev pub messages_by : Telling → List (Telling × Made)
messages_by answer = message_by answer answer.told

-- each message brings what was taken next, in the order in which the item of a number gave it
abbrev pub values_by : ℕ → List (Telling × Made) → List Taken → List BroughtValue
values_by number [] taken = []
values_by number (b ∷ bs) [] = []
values_by number (b ∷ bs) (t ∷ ts) = map (brought_value b.0 b.1 t) (entries_of number t.givings) ++ values_by number bs ts

-- the values of the item of a number that answers bring, answer after answer
abbrev pub brought_values : ℕ → List Telling → List Taken → List BroughtValue
brought_values number answers taken = values_by number (flat_map messages_by answers) taken

abbrev pub value_of : BroughtValue → Entry DataValue
value_of b = b.value

-- all of a run
abbrev pub brought_in : Configuration → SpaceState → List Event → ℕ → List BroughtValue
brought_in config space events number = brought_values number (told_by config space events) (all_taken config (moves_of config space events))

-- a message is the only one of its subscription with its number: the numbers begin anew once 32 bits are used up
abbrev pub IsAlone : Made → List Made → Type 0
IsAlone m made = (other : KeptMessage) → IsAmong other (messages_for m.subscription made) → other.number ≡ m.message.number → other ≡ m.message

-- The run posted the answer, to the request that it answers: it goes out on the connection that the request came by, or, where it is
-- too large for its client, a fault does in its place. It brings the message, whose bytes are the notes of what the items gave for
-- it, in their order, and nothing else. Those bytes are what the server keeps under the message's number, as long as it does,
-- and what Republish gives then, to whichever session
pub record IsBrought (config : Configuration) (space : SpaceState) (events : List Event) (world : World) (b : BroughtValue) : Type 0 where
  pub more : Bool
  pub brings : b.answer.told ≡ Notifications b.message more
  pub posting : Posting
  pub carries : posting.reply ≡ answer_of b.answer
  pub goes_out : IsAmong posting (posted config space events)
  pub notes : IsMadeOf b.message b.taken
  pub kept : IsAlone b.message (made_by config space events) → (bytes : List ℕ) → kept_on (Some world) b.message.subscription b.message.message.number ≡ Some bytes → bytes ≡ b.message.message.bytes
  pub republished : IsAlone b.message (made_by config space events) → (clock : Moment) (session : ℕ) (bytes : List ℕ) → let services : Services = world.core.services in
      (republished session b.message.subscription b.message.message.number (stage_of services.subscriptions services.items clock)).answer ≡ Ok bytes → bytes ≡ b.message.message.bytes

-- ---- why a value is gone

abbrev pub is_decided : Option Fate → Bool
is_decided None = false
is_decided (Some fate) = not (is_waiting fate)

-- The value at a place of an item's account has its fate by a call of the items that gives such ones, and that stands among those of
-- the run: before it the value waited, or wasn't there; after it, it has the fate
pub record IsCausedBy (config : Configuration) (calls : List item_moves.Move) (number place : ℕ) (fate : Fate) : Type 0 where
  pub before : List item_moves.Move
  pub call : item_moves.Move
  pub after : List item_moves.Move
  pub among : calls ≡ before ++ call ∷ after
  pub gives : call_may_give call fate ≡ true
  pub undecided : is_decided (fate_at place (account_of config before number)) ≡ false
  pub decided : fate_at place (account_of config (before ++ call ∷ []) number) ≡ Some fate

-- The value at a place was lost where another one was queued and as many waited as the queue holds. Where that is more than one, a
-- later value carried the mark at once; and as long as it is and nothing of the item becomes cleared, the first one left behind it does
pub record IsDrivenOut (queue_moves : List (QueueMove DataValue)) (place : ℕ) : Type 0 where
  pub before : List (QueueMove DataValue)
  pub size : ℕ
  pub discard_oldest : Bool
  pub newer : DataValue
  pub after : List (QueueMove DataValue)
  pub among : queue_moves ≡ before ++ Sample size discard_oldest newer ∷ after
  pub full : size ≤ length (waiting (account before))
  pub waited : fate_at place (account before) ≡ Some Waits
  pub lost : fate_at place (account (before ++ Sample size discard_oldest newer ∷ [])) ≡ Some WasLost
  pub marked : 1 < size → any_marked (drop (suc place) (account (before ++ Sample size discard_oldest newer ∷ []))) ≡ true
  pub followed : 1 < size → AllAboveOne after → ((other : ℕ) → fate_at other (account queue_moves) ≡ Some WasCleared → fate_at other (account (before ++ Sample size discard_oldest newer ∷ [])) ≡ Some WasCleared) →
      is_first_marked (drop (suc place) (account queue_moves)) ≡ true

-- ---- what has come of each

-- Of each value that the item of a number queued, as its account has them, in the order of sampling: the queue is those that wait; what
-- answers brought are those that were sent, in order, each with its mark in its message; each that was lost or cleared has its cause,
-- and if nothing was cleared since and the queue holds more than one value, the first one left behind a lost one carries the mark
pub record ValuesHaveCome (config : Configuration) (space : SpaceState) (events : List Event) (number : ℕ) (world : World) : Type 0 where
  pub wait : HoldsWhatWaits (account_after config space events number) number world
  pub sent : map value_of (brought_in config space events number) ≡ sent_of (account_after config space events number)
  pub brought : AllByRecursion (IsBrought config space events world) (brought_in config space events number)
  pub lost : (place : ℕ) → fate_at place (account_after config space events number) ≡ Some WasLost →
      IsDrivenOut (queue_moves_after config space events number) place × IsCausedBy config (item_calls config (moves_of config space events)) number place WasLost
  pub cleared : (place : ℕ) → fate_at place (account_after config space events number) ≡ Some WasCleared →
      IsCausedBy config (item_calls config (moves_of config space events)) number place WasCleared
  pub marked : LossesAreMarked (account_after config space events number)
