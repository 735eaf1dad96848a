-- Which request a row answers, and which answers bring messages (IEC 62541-4, "Publish").
use Rattle.std.specs.Prelude.{◌≡◌, ⊤, ◌⊎◌, ℕ, Bool, true, false, List, [], ◌∷◌, Option, if◌then◌else◌}
use Rattle.std.specs.List.{list_any}
use Rattle.ua_types.specs.declared.moment.Moment.{Moment}
use Rattle.server_messages.specs.declared.reply.Reply.{Reply}
use Rattle.ua_state_table.specs.Doing.{is_sending}
use Rattle.ua_state_table.specs.StateTable.{actions_of}
use Rattle.ua_state_table.specs.declared.action.Action.{Action}
use Rattle.ua_state_table.specs.declared.action.Action.TheVariants.{Dequeue, SendKeepAlive}
use Rattle.ua_state_table.specs.declared.row.RowId.{RowId}
use Rattle.ua_subscriptions.specs.declared.publish_call.PublishCall.{PublishCall}
use Rattle.ua_subscriptions.specs.Answers.{published_of}
use Rattle.ua_subscriptions.specs.Queues.{first_of}
use Rattle.ua_subscriptions.specs.Scenes.{Scene}
use Rattle.subscription_laws.specs.Messaging.{Made}

-- ---- a row

abbrev pub is_keep_alive : Action → Bool
is_keep_alive SendKeepAlive = true
is_keep_alive action = false

abbrev pub is_dequeueing : Action → Bool
is_dequeueing Dequeue = true
is_dequeueing action = false

-- a row sends a message, with notifications or without; it sends a keep-alive; it takes a request out of the queue
abbrev pub sends : RowId → Bool
sends r = list_any is_sending (actions_of r)

abbrev pub sends_keep_alive : RowId → Bool
sends_keep_alive r = list_any is_keep_alive (actions_of r)

abbrev pub dequeues : RowId → Bool
dequeues r = list_any is_dequeueing (actions_of r)

-- the request that a row answers, or the first of several: the oldest that is queued where it takes that, else the one that came
abbrev pub answering : RowId → Scene → Option PublishCall
answering r c = if dequeues r then first_of c.part.requests else c.round.asked

-- ---- answers and messages

-- the answer to a Publish request that brings this message, byte for byte, under its subscription's number
pub record Brings (reply : Reply) (m : Made) : Type 0 where
  pub clock : Moment
  pub call : PublishCall
  pub kept : List ℕ
  pub more : Bool
  pub so : reply ≡ published_of clock call m.subscription kept more m.message.bytes

-- each of some has one of its own among others, in their order; more may stand between
abbrev pub HaveTheirOwn : {A B : Type 0} → (A → B → Type 0) → List A → List B → Type 0
HaveTheirOwn Is [] ys = ⊤
HaveTheirOwn Is (x ∷ xs) [] = ⊥
HaveTheirOwn Is (x ∷ xs) (y ∷ ys) = (Is x y × HaveTheirOwn Is xs ys) ⊎ HaveTheirOwn Is (x ∷ xs) ys

-- each message is brought by an answer of its own; answers that bring none may stand between
abbrev pub AreBrought : List Reply → List Made → Type 0
AreBrought replies made = HaveTheirOwn (λ m reply. Brings reply m) made replies
