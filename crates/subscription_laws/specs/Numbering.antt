-- The messages that a row makes, and their numbers (IEC 62541-4, 5.13: SequenceNumber and the retransmission queue).
use Rattle.std.specs.Prelude.{◌≡◌, ⊤, ℕ, Bool, true, false, List, [], ◌∷◌, fold, map}
use Rattle.ua_state_table.specs.declared.action.Action.{Action}
use Rattle.ua_state_table.specs.declared.action.Action.TheVariants.{SendNotifications}
use Rattle.ua_state_table.specs.declared.row.RowId.{RowId}
use Rattle.ua_state_table.specs.declared.row.RowId.TheVariants.{C2, G5, G6, G8, G10}
use Rattle.ua_subscriptions.specs.declared.messages.KeptMessage.{KeptMessage}
use Rattle.ua_subscriptions.specs.declared.subscription.Subscription.{Subscription}
use Rattle.ua_subscriptions.specs.Messages.{number_after}
use Rattle.ua_subscriptions.specs.Scenes.{Scene, Noting, message_made, kept_with}
use Rattle.subscription_laws.specs.Actions.{of_row, notings_at}

-- the message that is made next
abbrev pub note_made : Noting → KeptMessage
note_made n = record { number = number_after n.subscription.number; bytes = message_made n.round n.subscription n.items }

-- each number follows the one before it
abbrev pub AreNumbered : ℕ → List KeptMessage → Type 0
AreNumbered number [] = ⊤
AreNumbered number (m ∷ ms) = (m.number ≡ number_after number) × AreNumbered m.number ms

abbrev pub last_number : ℕ → List KeptMessage → ℕ
last_number number [] = number
last_number number (m ∷ ms) = last_number m.number ms

-- all are kept, one after the other, the oldest going where there are more than may be
abbrev pub all_kept : ℕ → List KeptMessage → List KeptMessage → List KeptMessage
all_kept bound kept made = fold (kept_with bound) kept made

-- what a row leaves of numbers and kept messages, where it makes these
pub record IsMade (bound : ℕ) (before after : Subscription) (made : List KeptMessage) : Type 0 where
  pub numbered : AreNumbered before.number made
  pub number : after.number ≡ last_number before.number made
  pub kept : after.kept ≡ all_kept bound before.kept made

-- the messages that a row makes, by its action that sends notifications
abbrev pub action_made : Scene → Action → List KeptMessage
action_made c SendNotifications = map note_made (notings_at c)
action_made c action = []

abbrev pub messages_of : RowId → Scene → List KeptMessage
messages_of r c = of_row action_made r c

-- a row begins or ends a subscription
abbrev pub begins_or_ends : RowId → Bool
begins_or_ends C2 = true
begins_or_ends G5 = true
begins_or_ends G6 = true
begins_or_ends G8 = true
begins_or_ends G10 = true
begins_or_ends r = false
