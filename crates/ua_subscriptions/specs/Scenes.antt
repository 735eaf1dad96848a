-- What the actions of the state table do (IEC 62541-4, 5.13).
use Rattle.std.specs.Prelude.{◌≡◌, ⊤, ℕ, ◌+◌, ◌-◌, ◌^◌, ◌&&◌, min, Bool, true, false, List, [], ◌∷◌, ◌++◌, map, length, drop, fold, nat_lt, nat_le, Option, Some, None, Result, Ok, Err, if◌then◌else◌, ◌+ℤ◌, pos}
use Rattle.std.specs.Int.{w64, saturate_signed}
use Rattle.ua_types.specs.declared.status.TheConstants.Status as status
use Rattle.server_messages.specs.declared.halt.Halt.{Halt}
use Rattle.server_messages.specs.declared.halt.Halt.TheVariants.{Memory, Exhausted}
use Rattle.server_messages.specs.declared.reply.Reply.{Reply}
use Rattle.ua_state_table.specs.StateTable.{actions_of, next_of}
use Rattle.ua_state_table.specs.declared.action.Action.{Action}
use Rattle.ua_state_table.specs.declared.action.Action.TheVariants.{RefuseTooMany, Initialise, StartTimer, Answer, DeleteAcknowledged, Enqueue, Dequeue, ResetLife, ResetKeep, CountKeep, SendNotifications, SendKeepAlive, SetSent, DeleteItems, NoteTimeout, Update, LimitKeep, SetEnabled, ClearMore, AnswerKept, RefuseNotKept, CallItems, LimitMore, LeaveSession}
use Rattle.ua_state_table.specs.declared.row.RowId.{RowId}
use Rattle.ua_state_table.specs.declared.state.State.{State}
use Rattle.ua_monitored_items.specs.Items.{ItemsState, is_available, taken_of, ended}
use Rattle.ua_monitored_items.specs.ItemTables.{numbers_of}
use Rattle.ua_subscriptions.specs.declared.messages.KeptMessage.{KeptMessage}
use Rattle.ua_subscriptions.specs.declared.publish_call.PublishCall.{PublishCall}
use Rattle.ua_subscriptions.specs.declared.session_part.SessionSubscriptions.{SessionSubscriptions}
use Rattle.ua_subscriptions.specs.declared.settings.Settings.{Settings}
use Rattle.ua_subscriptions.specs.declared.subscription.Subscription.{Subscription}
use Rattle.ua_subscriptions.specs.declared.round.Round.{Round}
use Rattle.ua_subscriptions.specs.Answers.{number_of, published_of, refused_of}
use Rattle.ua_subscriptions.specs.Calls.{settings_of, asks_enabled}
use Rattle.ua_subscription_messages.specs.DataChangeMessages.{data_change_message}
use Rattle.ua_subscriptions.specs.Messages.{number_after, keep_alive_message}
use Rattle.ua_subscriptions.specs.Queues.{first_of}
use Rattle.ua_subscriptions.specs.Settings.{revised_keep_alive_count, revised_lifetime_count, revised_notifications}

-- what a row sees and changes: its subscription, what that one's session has of subscriptions, and the items
pub record Scene : Type 0 where
  pub round : Round
  pub subscription : Subscription
  pub part : SessionSubscriptions
  pub items : ItemsState

abbrev pub scene : Round → Subscription → SessionSubscriptions → ItemsState → Scene
scene round s part items = record { round = round; subscription = s; part = part; items = items }

abbrev pub with_subscription : Scene → Subscription → Scene
with_subscription c s = record c { subscription = s }

-- ---- counts, as asked and revised

abbrev pub with_settings : Round → Settings → Subscription → Subscription
with_settings round asked s = record s {
  keep_alive_count = revised_keep_alive_count asked.keep_alive_count;
  lifetime_count = revised_lifetime_count (revised_keep_alive_count asked.keep_alive_count) asked.lifetime_count;
  notifications = revised_notifications round.bounds.notifications asked.notifications;
  priority = asked.priority;
}

abbrev pub updated : Round → Subscription → Subscription
updated round s = with_settings round (settings_of round.call) s

-- it begins: the counters are the counts, and no message was sent
abbrev pub initialised : Round → Subscription → Subscription
initialised round s =
    let t : Subscription = updated round s in
    record t { enabled = asks_enabled round.call; more = false; sent = false; keep_alive = t.keep_alive_count; lifetime = t.lifetime_count; message_count = 0; number = 0; kept = [] }

-- ---- the timer

-- the next timer comes a publishing interval from now
abbrev pub started : Round → Subscription → Subscription
started round s = record s { due = record { 0 = saturate_signed w64 (round.clock.0 +ℤ pos round.bounds.publish_time) }; lifetime = s.lifetime - 1 }

abbrev pub life_reset : Subscription → Subscription
life_reset s = record s { lifetime = s.lifetime_count }

-- ---- Publish requests

abbrev pub with_reply : Round → Reply → Round
with_reply round reply = record round { replies = round.replies ++ reply ∷ [] }

abbrev pub with_refused : Round → Option PublishCall → Round
with_refused round None = round
with_refused round (Some call) = with_reply round (refused_of round.clock status.BAD_TOO_MANY_PUBLISH_REQUESTS call)

-- what happens while a request is queued: the round, and the session's part
pub record Queueing : Type 0 where
  pub round : Round
  pub part : SessionSubscriptions

-- a request is queued; where as many wait as may, the oldest is answered that they are too many
abbrev pub enqueued_by : Option PublishCall → Round → SessionSubscriptions → Queueing
enqueued_by None round part = record { round = round; part = part }
enqueued_by (Some call) round part =
    if nat_le round.bounds.publish_queue (length part.requests)
    then record { round = with_refused (record round { asked = None }) (first_of part.requests); part = record part { requests = drop 1 part.requests ++ call ∷ [] } }
    else record { round = record round { asked = None }; part = record part { requests = part.requests ++ call ∷ [] } }

unfoldable pub enqueued : Round → SessionSubscriptions → Queueing
enqueued round part = enqueued_by round.asked round part

abbrev pub with_queueing : Scene → Queueing → Scene
with_queueing c q = record c { round = q.round; part = q.part }

abbrev pub dequeued : Round → SessionSubscriptions → Queueing
dequeued round part = record { round = record round { asked = first_of part.requests }; part = record part { requests = drop 1 part.requests } }

-- ---- messages

-- one more message of all
abbrev pub counted : Round → Round
counted round = record round { message_count = round.message_count + 1 }

abbrev pub answered_by : Option PublishCall → Round → Subscription → Bool → List ℕ → Round
answered_by None round s more message = round
answered_by (Some call) round s more message =
    with_reply (record round { asked = None }) (published_of round.clock call round.own (map number_of s.kept) more message)

-- the request that is answered now brings this message
abbrev pub answered : Round → Subscription → Bool → List ℕ → Round
answered round s more message = answered_by round.asked round s more message

-- a message is kept, and the oldest goes where there are more than may be
abbrev pub kept_with : ℕ → List KeptMessage → KeptMessage → List KeptMessage
kept_with bound kept message = if nat_lt bound (length kept + 1) then drop 1 (kept ++ message ∷ []) else kept ++ message ∷ []

abbrev pub placed : Round → Subscription → Subscription
placed round s = record s { message_count = round.message_count }

-- a message with nothing to tell has the next number and doesn't use it up
abbrev pub keep_alive_sent : Round → Subscription → Round
keep_alive_sent round s = answered (counted round) (placed (counted round) s) false (keep_alive_message (number_after s.number) round.clock)

-- what happens while a message is made: the round, the subscription, and the items
pub record Noting : Type 0 where
  pub round : Round
  pub subscription : Subscription
  pub items : ItemsState

abbrev pub noting : Round → Subscription → ItemsState → Noting
noting round s items = record { round = round; subscription = s; items = items }

abbrev pub items_noted : Round → Subscription → ItemsState → ItemsState
items_noted round s items = record items { items = (taken_of items.items s.notifications (numbers_of round.own items.items)).items }

abbrev pub message_made : Round → Subscription → ItemsState → List ℕ
message_made round s items = data_change_message (number_after s.number) round.clock (taken_of items.items s.notifications (numbers_of round.own items.items)).notes

abbrev pub subscription_noted : Round → Subscription → ItemsState → Subscription
subscription_noted round s items = record s {
  more = is_available (items_noted round s items) round.own;
  message_count = round.message_count + 1;
  number = number_after s.number;
  kept = kept_with round.bounds.kept s.kept (record { number = number_after s.number; bytes = message_made round s items });
}

-- a message with the first values of the subscription's items is sent and kept; `more` says whether values are left
unfoldable pub note_sent : Noting → Noting
note_sent n =
    let after = subscription_noted n.round n.subscription n.items in
    record { round = answered (counted n.round) after after.more (message_made n.round n.subscription n.items); subscription = after; items = items_noted n.round n.subscription n.items }

-- and the requests that wait yet
pub record Sending : Type 0 where
  pub noting : Noting
  pub requests : List PublishCall

abbrev pub sending : Noting → List PublishCall → Sending
sending n calls = record { noting = n; requests = calls }

abbrev pub with_asked : Noting → PublishCall → Noting
with_asked n call = let round : Round = n.round in record n { round = record round { asked = Some call } }

-- further requests are answered as long as values are left
abbrev pub rest_sent : List PublishCall → Noting → Sending
rest_sent [] n = sending n []
rest_sent (call ∷ calls) n = if n.subscription.more then rest_sent calls (note_sent (with_asked n call)) else sending n (call ∷ calls)

unfoldable pub notes_sent : List PublishCall → Noting → Sending
notes_sent calls n = rest_sent calls (note_sent n)

abbrev pub with_sending : Scene → Sending → Scene
with_sending c sent =
    let part : SessionSubscriptions = c.part in
    record { round = sent.noting.round; subscription = sent.noting.subscription; part = record part { requests = sent.requests }; items = sent.noting.items }

-- ---- the end

abbrev pub items_deleted : Scene → Scene
items_deleted c =
    let s : Subscription = c.subscription in
    record c { subscription = record s { kept = [] }; items = ended c.items c.round.own }

-- its session is to be told, under the number of its next message
abbrev pub timeout_noted : Scene → Scene
timeout_noted c =
    let part : SessionSubscriptions = c.part in
    record c { part = record part { notes = part.notes ++ record { subscription = c.round.own; number = number_after c.subscription.number } ∷ [] } }

-- ---- all actions

-- The call's own answer, and what a client asked of its items, is not the table's business: whoever calls does it.
abbrev pub done : Scene → Action → Scene
done c RefuseTooMany = c
done c Initialise = with_subscription c (initialised c.round c.subscription)
done c StartTimer = with_subscription c (started c.round c.subscription)
done c Answer = c
done c DeleteAcknowledged = c
done c Enqueue = with_queueing c (enqueued c.round c.part)
done c Dequeue = with_queueing c (dequeued c.round c.part)
done c ResetLife = with_subscription c (life_reset c.subscription)
done c ResetKeep = let s : Subscription = c.subscription in with_subscription c (record s { keep_alive = s.keep_alive_count })
done c CountKeep = let s : Subscription = c.subscription in with_subscription c (record s { keep_alive = s.keep_alive - 1 })
done c SendNotifications = with_sending c (notes_sent c.part.requests (noting c.round c.subscription c.items))
done c SendKeepAlive = record c { round = keep_alive_sent c.round c.subscription; subscription = placed (counted c.round) c.subscription }
done c SetSent = let s : Subscription = c.subscription in with_subscription c (record s { sent = true })
done c DeleteItems = items_deleted c
done c NoteTimeout = timeout_noted c
done c Update = with_subscription c (updated c.round c.subscription)
done c LimitKeep = let s : Subscription = c.subscription in with_subscription c (record s { keep_alive = min s.keep_alive s.keep_alive_count })
done c SetEnabled = let s : Subscription = c.subscription in with_subscription c (record s { enabled = asks_enabled c.round.call })
done c ClearMore = let s : Subscription = c.subscription in with_subscription c (record s { more = false })
done c AnswerKept = c
done c RefuseNotKept = c
done c CallItems = c
done c LimitMore = let s : Subscription = c.subscription in with_subscription c (record s { more = s.more && is_available c.items c.round.own })
done c LeaveSession = let s : Subscription = c.subscription in with_subscription c (record s { session = None })

abbrev pub all_done : Scene → List Action → Scene
all_done c actions = fold done c actions

abbrev pub moved_to : State → Scene → Scene
moved_to state c = let s : Subscription = c.subscription in with_subscription c (record s { state = state })

-- the scene after a row
unfoldable pub row_done : RowId → Scene → Scene
row_done row c = moved_to (next_of row c.subscription.state) (all_done c (actions_of row))

-- ---- what the code does of it

-- messages past the last number of 64 bits were counted
abbrev pub is_overspent : Round → Bool
is_overspent round = nat_le (2 ^ 64) round.message_count

-- a call leaves the scene that is said of it, unless memory ran out, or messages can't be counted any more
abbrev pub Acts : Result Unit Halt → Scene → Scene → Type 0
Acts (Ok done) new said = new ≡ said
Acts (Err Memory) new said = ⊤
Acts (Err Exhausted) new said = is_overspent said.round ≡ true
