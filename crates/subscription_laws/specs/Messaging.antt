-- The messages with notifications that any calls make, in order (IEC 62541-4, 5.13: SequenceNumber). Those that Publish
-- requests and timers fire rows for may make some; no other row sends notifications.
use Rattle.std.specs.Prelude.{◌≡◌, ◌⊎◌, ℕ, ◌==◌, List, [], ◌∷◌, map, if◌then◌else◌}
use Rattle.std.specs.List.{AllByRecursion, flat_map}
use Rattle.ua_subscriptions.specs.declared.messages.KeptMessage.{KeptMessage}
use Rattle.ua_subscriptions.specs.declared.session_part.TimeoutNote.{TimeoutNote}
use Rattle.ua_subscriptions.specs.declared.subscription.Subscription.{Subscription}
use Rattle.ua_subscriptions.specs.Firing.{row_of}
use Rattle.ua_subscriptions.specs.Messages.{number_after}
use Rattle.ua_subscriptions.specs.Tables.{TableState, part_at}
use Rattle.subscription_laws.specs.Numbering.{AreNumbered, last_number, messages_of}
use Rattle.subscription_laws.specs.Runs.{Move, Ran, of_run}
use Rattle.subscription_laws.specs.Encounters.{Encounter, Meets, Does, encounters}

-- a message, and whose it is
pub record Made : Type 0 where
  pub subscription : ℕ
  pub message : KeptMessage

abbrev pub made_of : ℕ → List KeptMessage → List Made
made_of number messages = map (λ m. record { subscription = number; message = m }) messages

-- those of the row that fires at an encounter
abbrev pub made_at : Encounter → List Made
made_at (Meets c) = made_of c.round.own (messages_of (row_of c) c)
made_at (Does w b) = []

-- those of a call
abbrev pub moved_made : Ran → Move → List Made
moved_made r m = flat_map made_at (encounters r m)

-- by any calls
abbrev pub run_made : Ran → List Move → List Made
run_made r moves = of_run moved_made r moves

-- ---- one subscription's

abbrev pub messages_for : ℕ → List Made → List KeptMessage
messages_for number [] = []
messages_for number (m ∷ ms) = if m.subscription == number then m.message ∷ messages_for number ms else messages_for number ms

abbrev pub IsAmong : {A : Type 0} → A → List A → Type 0
IsAmong x [] = ⊥
IsAmong x (y ∷ ys) = (x ≡ y) ⊎ IsAmong x ys

abbrev pub AreAmong : List KeptMessage → List KeptMessage → Type 0
AreAmong ms made = AllByRecursion (λ m. IsAmong m made) ms

-- the note of a time-out has the number that its subscription's next message would have had
abbrev pub AreNotes : List Made → List TimeoutNote → Type 0
AreNotes made notes = AllByRecursion (λ (note : TimeoutNote). note.number ≡ number_after (last_number 0 (messages_for note.subscription made))) notes

-- so it is with all that wait
abbrev pub NotesComeNext : List Made → TableState → Type 0
NotesComeNext made t = (session : ℕ) → AreNotes made (part_at session t.sessions).notes

-- the messages of each subscription are numbered from 1 without a gap, after the last of 32 bits comes 1; also once it is no more
abbrev pub AllAreNumbered : List Made → Type 0
AllAreNumbered made = (number : ℕ) → AreNumbered 0 (messages_for number made)

-- of a live subscription: the last message has its number, and what is kept was made
pub record AreItsMessages (s : Subscription) (messages : List KeptMessage) : Type 0 where
  pub last : last_number 0 messages ≡ s.number
  pub kept : AreAmong s.kept messages
