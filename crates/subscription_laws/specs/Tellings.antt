-- What the answers to Publish requests tell, one after the other (IEC 62541-4, "Publish"): messages with notifications, keep-alives,
-- notes of time-outs, and faults.
use Rattle.std.specs.Prelude.{◌≡◌, ⊤, ℕ, Bool, false, nat_le, length, List, [], ◌∷◌, ◌++◌, map, Option, Some, None, if◌then◌else◌}
use Rattle.std.specs.List.{flat_map}
use Rattle.std.specs.Map.{values_of}
use Rattle.ua_types.specs.declared.moment.Moment.{Moment}
use Rattle.ua_types.specs.declared.status.Status.{Status}
use Rattle.ua_types.specs.declared.status.TheConstants.Status as status
use Rattle.server_messages.specs.declared.reply.Reply.{Reply}
use Rattle.ua_state_table.specs.declared.action.Action.{Action}
use Rattle.ua_state_table.specs.declared.action.Action.TheVariants.{Enqueue, SendNotifications, SendKeepAlive}
use Rattle.ua_state_table.specs.declared.row.RowId.{RowId}
use Rattle.ua_subscriptions.specs.Answers.{number_of, published_of, refused_of}
use Rattle.ua_subscriptions.specs.Ending.{all_requests}
use Rattle.ua_subscriptions.specs.Firing.{row_of}
use Rattle.ua_subscriptions.specs.Messages.{number_after, keep_alive_message, timeout_message}
use Rattle.ua_subscriptions.specs.Queues.{first_of}
use Rattle.ua_subscriptions.specs.Scenes.{Scene, Noting, subscription_noted}
use Rattle.subscription_laws.specs.Actions.{of_row, notings_at}
use Rattle.ua_subscriptions.specs.Tables.{Stage, part_at}
use Rattle.subscription_laws.specs.Encounters.{Beside, TellsNote, TellsNone, Refuses, LeavesAll, Encounter, Meets, Does, encounters}
use Rattle.ua_subscriptions.specs.declared.messages.KeptMessage.{KeptMessage}
use Rattle.ua_subscriptions.specs.declared.publish_call.PublishCall.{PublishCall}
use Rattle.ua_subscriptions.specs.declared.round.Round.{Round}
use Rattle.ua_subscriptions.specs.declared.session_part.SessionSubscriptions.{SessionSubscriptions}
use Rattle.ua_subscriptions.specs.declared.session_part.TimeoutNote.{TimeoutNote}
use Rattle.subscription_laws.specs.Messaging.{Made, messages_for, AreAmong}
use Rattle.subscription_laws.specs.Numbering.{note_made, last_number}
use Rattle.subscription_laws.specs.Runs.{Move, Ran, of_run}

pub data Told : Type 0 where
  -- a message with notifications, and whether values are left
  Notifications : Made → (more : Bool) → Told
  -- a keep-alive, under a number
  KeepAlive : (subscription number : ℕ) → Told
  -- a subscription has timed out
  TimedOut : TimeoutNote → Told
  -- nothing but a fault
  Refused : Status → Told

-- one answer: when it is given, to which request, what it tells, and the messages that its subscription keeps then
pub record Telling : Type 0 where
  pub clock : Moment
  pub call : PublishCall
  pub kept : List KeptMessage
  pub told : Told

-- the answer itself. It lists the numbers of the kept messages
abbrev pub answer_by : Moment → PublishCall → List KeptMessage → Told → Reply
answer_by clock asked kept (Notifications m more) = published_of clock asked m.subscription (map number_of kept) more m.message.bytes
answer_by clock asked kept (KeepAlive subscription number) = published_of clock asked subscription (map number_of kept) false (keep_alive_message number clock)
answer_by clock asked kept (TimedOut note) = published_of clock asked note.subscription (map number_of kept) false (timeout_message note.number clock)
answer_by clock asked kept (Refused code) = refused_of clock code asked

abbrev pub answer_of : Telling → Reply
answer_of t = answer_by t.clock t.call t.kept t.told

abbrev pub message_in : Told → List Made
message_in (Notifications m more) = m ∷ []
message_in told = []

-- the messages with notifications among what is told
abbrev pub messages_in : List Telling → List Made
messages_in ts = flat_map (λ (t : Telling). message_in t.told) ts

-- ---- a row

abbrev pub refused_told : Moment → Status → PublishCall → Telling
refused_told clock code asked = record { clock = clock; call = asked; kept = []; told = Refused code }

-- a request is told it, if there is one
abbrev pub if_asked : Moment → List KeptMessage → Told → Option PublishCall → List Telling
if_asked clock kept told None = []
if_asked clock kept told (Some asked) = record { clock = clock; call = asked; kept = kept; told = told } ∷ []

-- a request is queued; where as many wait as may, the oldest is answered that they are too many
abbrev pub queued_told : Option PublishCall → Round → SessionSubscriptions → List Telling
queued_told None round part = []
queued_told (Some asked) round part = if nat_le round.bounds.publish_queue (length part.requests) then if_asked round.clock [] (Refused status.BAD_TOO_MANY_PUBLISH_REQUESTS) (first_of part.requests) else []

-- a message with notifications; it is kept then
abbrev pub message_told : Noting → List Telling
message_told n =
    let after = subscription_noted n.round n.subscription n.items in
    if_asked n.round.clock after.kept (Notifications (record { subscription = n.round.own; message = note_made n }) after.more) n.round.asked

-- what a row tells: by its action that queues the request, sends notifications, or sends a keep-alive, with the number that comes next
abbrev pub action_told : Scene → Action → List Telling
action_told c Enqueue = queued_told c.round.asked c.round c.part
action_told c SendNotifications = flat_map message_told (notings_at c)
action_told c SendKeepAlive = if_asked c.round.clock c.subscription.kept (KeepAlive c.round.own (number_after c.subscription.number)) c.round.asked
action_told c action = []

abbrev pub row_told : RowId → Scene → List Telling
row_told r c = of_row action_told r c

-- ---- any call

-- what is told beside the rows: the note of a time-out, that there is no subscription, and that requests wait in vain
abbrev pub beside_told : Stage → Beside → List Telling
beside_told w (TellsNote session asked note) = record { clock = w.round.clock; call = asked; kept = []; told = TimedOut note } ∷ []
beside_told w (TellsNone asked) = refused_told w.round.clock status.BAD_NO_SUBSCRIPTION asked ∷ []
beside_told w (Refuses session code) = map (refused_told w.round.clock code) (part_at session w.table.sessions).requests
beside_told w (LeavesAll code) = map (refused_told w.round.clock code) (all_requests (values_of w.table.sessions))
beside_told w b = []

-- those of an encounter
abbrev pub told_at : Encounter → List Telling
told_at (Meets c) = row_told (row_of c) c
told_at (Does w b) = beside_told w b

-- those of a call
abbrev pub moved_told : Ran → Move → List Telling
moved_told r m = flat_map told_at (encounters r m)

-- by any calls
abbrev pub run_told : Ran → List Move → List Telling
run_told r moves = of_run moved_told r moves

-- ---- numbers

abbrev pub number_next : ℕ → List Made → ℕ
number_next subscription made = number_after (last_number 0 (messages_for subscription made))

-- after these messages: each answer has the number that comes next of its subscription, and lists messages that were made
abbrev pub IsNext : List Made → List KeptMessage → Told → Type 0
IsNext made kept (Notifications m more) = (m.message.number ≡ number_next m.subscription made) × AreAmong kept (messages_for m.subscription (made ++ m ∷ []))
IsNext made kept (KeepAlive subscription number) = (number ≡ number_next subscription made) × AreAmong kept (messages_for subscription made)
IsNext made kept (TimedOut note) = (note.number ≡ number_next note.subscription made) × (kept ≡ [])
IsNext made kept (Refused code) = ⊤

-- one after the other: a message with notifications alone uses its number up
abbrev pub AreInSequence : List Made → List Telling → Type 0
AreInSequence made [] = ⊤
AreInSequence made (t ∷ ts) = IsNext made t.kept t.told × AreInSequence (made ++ message_in t.told) ts
