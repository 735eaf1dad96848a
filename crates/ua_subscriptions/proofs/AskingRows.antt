-- A row leaves no requests waiting but those that waited, and the one that is asked.
use Rattle.std.proofs.Common.{ℕ, Bool, List, [], ◌∷◌, drop, nat_le, length, Option, Some, None}
use Rattle.ua_state_table.specs.StateTable.{actions_of}
use Rattle.ua_state_table.specs.declared.action.Action.{Action}
use Rattle.ua_state_table.specs.declared.action.Action.TheVariants.{RefuseTooMany, Initialise, StartTimer, Answer, DeleteAcknowledged, Enqueue, Dequeue, ResetLife, ResetKeep, CountKeep, SendNotifications, SendKeepAlive, SetSent, DeleteItems, NoteTimeout, Update, LimitKeep, SetEnabled, ClearMore, AnswerKept, RefuseNotKept, CallItems, LimitMore, LeaveSession}
use Rattle.ua_state_table.specs.declared.row.RowId.{RowId}
use Rattle.ua_subscriptions.specs.declared.publish_call.PublishCall.{PublishCall}
use Rattle.ua_subscriptions.specs.declared.session_part.SessionSubscriptions.{SessionSubscriptions}
use Rattle.ua_subscriptions.specs.declared.subscription.Subscription.{Subscription}
use Rattle.ua_subscriptions.specs.declared.round.Round.{Round}
use Rattle.ua_subscriptions.specs.Firing.{fired, row_of}
use Rattle.ua_subscriptions.specs.Owing.{AllBy, AskedBy}
use Rattle.ua_subscriptions.specs.Queues.{first_of}
use Rattle.ua_subscriptions.specs.Scenes.{Scene, Noting, noting, Sending, with_asked, with_refused, Queueing, enqueued, enqueued_by, answered_by, keep_alive_sent, note_sent, rest_sent, notes_sent, done, all_done, row_done}
use Rattle.ua_subscriptions.proofs.Choosing.{either}
use Rattle.ua_subscriptions.proofs.OwingRows.{first_by, calls_append, calls_dropped}

module _ (Such : ℕ → Type 0) where
  -- ---- requests that are queued

  record QueueingAsks (q : Queueing) : Type 0 where
    asked : AskedBy Such q.round.asked
    requests : AllBy Such q.part.requests

  refused_asks : (round : Round) (call : Option PublishCall) → AskedBy Such round.asked → AskedBy Such (with_refused round call).asked
  refused_asks round None h = h
  refused_asks round (Some call) h = h

  enqueued_by_asks : (asked : Option PublishCall) (round : Round) (part : SessionSubscriptions) → AskedBy Such asked → AskedBy Such round.asked → AllBy Such part.requests → QueueingAsks (enqueued_by asked round part)
  enqueued_by_asks None round part a h g = record { asked = h; requests = g }
  enqueued_by_asks (Some call) round part a h g =
      either QueueingAsks (nat_le round.bounds.publish_queue (length part.requests)) _ _
      (record { asked = refused_asks (record round { asked = None }) (first_of part.requests) tt; requests = calls_append Such (drop 1 part.requests) (call ∷ []) (calls_dropped Such part.requests g) (a, tt) })
      (record { asked = tt; requests = calls_append Such part.requests (call ∷ []) g (a, tt) })

  enqueued_asks : (round : Round) (part : SessionSubscriptions) → AskedBy Such round.asked → AllBy Such part.requests → QueueingAsks (enqueued round part)
  unfolding enqueued
  enqueued_asks round part h g = enqueued_by_asks round.asked round part h h g

  -- ---- messages that are sent

  answered_asks : (asked : Option PublishCall) (round : Round) (s : Subscription) (more : Bool) (message : List ℕ) → AskedBy Such round.asked → AskedBy Such (answered_by asked round s more message).asked
  answered_asks None round s more message h = h
  answered_asks (Some call) round s more message h = tt

  note_asks : (n : Noting) → AskedBy Such n.round.asked → AskedBy Such (note_sent n).round.asked
  unfolding note_sent
  note_asks n h = answered_asks n.round.asked _ _ _ _ h

  record SendingAsks (sent : Sending) : Type 0 where
    asked : AskedBy Such sent.noting.round.asked
    requests : AllBy Such sent.requests

  rest_asks : (calls : List PublishCall) (n : Noting) → AskedBy Such n.round.asked → AllBy Such calls → SendingAsks (rest_sent calls n)
  rest_asks [] n h g = record { asked = h; requests = tt }
  rest_asks (call ∷ calls) n h g =
      either SendingAsks n.subscription.more _ _
      (rest_asks calls (note_sent (with_asked n call)) (note_asks (with_asked n call) g.0) g.1)
      (record { asked = h; requests = g })

  notes_asks : (calls : List PublishCall) (n : Noting) → AskedBy Such n.round.asked → AllBy Such calls → SendingAsks (notes_sent calls n)
  unfolding notes_sent
  notes_asks calls n h g = rest_asks calls (note_sent n) (note_asks n h) g

  -- ---- what actions and rows leave

  record SceneAsks (c : Scene) : Type 0 where
    asked : AskedBy Such c.round.asked
    requests : AllBy Such c.part.requests

  alive_asks : (round : Round) (s : Subscription) → AskedBy Such round.asked → AskedBy Such (keep_alive_sent round s).asked
  alive_asks round s h = answered_asks round.asked _ _ _ _ h

  done_asks : (c : Scene) (action : Action) → SceneAsks c → SceneAsks (done c action)
  done_asks c RefuseTooMany h = h
  done_asks c Initialise h = record { asked = h.asked; requests = h.requests }
  done_asks c StartTimer h = record { asked = h.asked; requests = h.requests }
  done_asks c Answer h = h
  done_asks c DeleteAcknowledged h = h
  done_asks c Enqueue h = let q = enqueued_asks c.round c.part h.asked h.requests in record { asked = q.asked; requests = q.requests }
  done_asks c Dequeue h = record { asked = first_by Such c.part.requests h.requests; requests = calls_dropped Such c.part.requests h.requests }
  done_asks c ResetLife h = record { asked = h.asked; requests = h.requests }
  done_asks c ResetKeep h = record { asked = h.asked; requests = h.requests }
  done_asks c CountKeep h = record { asked = h.asked; requests = h.requests }
  done_asks c SendNotifications h = let sent = notes_asks c.part.requests (noting c.round c.subscription c.items) h.asked h.requests in record { asked = sent.asked; requests = sent.requests }
  done_asks c SendKeepAlive h = record { asked = alive_asks c.round c.subscription h.asked; requests = h.requests }
  done_asks c SetSent h = record { asked = h.asked; requests = h.requests }
  done_asks c DeleteItems h = record { asked = h.asked; requests = h.requests }
  done_asks c NoteTimeout h = record { asked = h.asked; requests = h.requests }
  done_asks c Update h = record { asked = h.asked; requests = h.requests }
  done_asks c LimitKeep h = record { asked = h.asked; requests = h.requests }
  done_asks c SetEnabled h = record { asked = h.asked; requests = h.requests }
  done_asks c ClearMore h = record { asked = h.asked; requests = h.requests }
  done_asks c AnswerKept h = h
  done_asks c RefuseNotKept h = h
  done_asks c CallItems h = h
  done_asks c LimitMore h = record { asked = h.asked; requests = h.requests }
  done_asks c LeaveSession h = record { asked = h.asked; requests = h.requests }

  all_done_asks : (actions : List Action) (c : Scene) → SceneAsks c → SceneAsks (all_done c actions)
  all_done_asks [] c h = h
  all_done_asks (action ∷ actions) c h = all_done_asks actions (done c action) (done_asks c action h)

  row_asks : (row : RowId) (c : Scene) → SceneAsks c → SceneAsks (row_done row c)
  unfolding row_done
  row_asks row c h = let after = all_done_asks (actions_of row) c h in record { asked = after.asked; requests = after.requests }

  pub fired_asks : (c : Scene) → AskedBy Such c.round.asked → AllBy Such c.part.requests → AllBy Such (fired c).part.requests
  unfolding fired
  fired_asks c h g = (row_asks (row_of c) c (record { asked = h; requests = g })).requests
