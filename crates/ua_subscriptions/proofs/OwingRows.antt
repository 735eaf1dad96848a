-- A row answers no connections but those that asked or that waited.
use Rattle.std.proofs.Common.{ℕ, Bool, List, [], ◌∷◌, ◌++◌, drop, nat_le, length, Option, Some, None}
use Rattle.std.specs.List.{AllByRecursion}
use Rattle.ua_state_table.specs.StateTable.{actions_of}
use Rattle.ua_state_table.specs.declared.action.Action.{Action}
use Rattle.ua_state_table.specs.declared.action.Action.TheVariants.{RefuseTooMany, Initialise, StartTimer, Answer, DeleteAcknowledged, Enqueue, Dequeue, ResetLife, ResetKeep, CountKeep, SendNotifications, SendKeepAlive, SetSent, DeleteItems, NoteTimeout, Update, LimitKeep, SetEnabled, ClearMore, AnswerKept, RefuseNotKept, CallItems, LimitMore, LeaveSession}
use Rattle.ua_state_table.specs.declared.row.RowId.{RowId}
use Rattle.server_messages.specs.declared.reply.Reply.{Reply}
use Rattle.ua_subscriptions.specs.declared.publish_call.PublishCall.{PublishCall}
use Rattle.ua_subscriptions.specs.declared.session_part.SessionSubscriptions.{SessionSubscriptions}
use Rattle.ua_subscriptions.specs.declared.subscription.Subscription.{Subscription}
use Rattle.ua_subscriptions.specs.declared.round.Round.{Round}
use Rattle.ua_subscriptions.specs.Firing.{fired, row_of}
use Rattle.ua_subscriptions.specs.Owing.{AllBy, AskedBy, RepliedTo, RoundOwesOnly}
use Rattle.ua_subscriptions.specs.Queues.{first_of}
use Rattle.ua_subscriptions.specs.Scenes.{Scene, Noting, noting, Sending, with_asked, with_refused, Queueing, enqueued, enqueued_by, answered_by, keep_alive_sent, note_sent, rest_sent, notes_sent, done, all_done, row_done}
use Rattle.ua_subscriptions.proofs.Choosing.{either}

-- ---- lists of which something holds throughout

module _ {A : Type 0} (P : A → Type 0) where
  pub all_append : (xs ys : List A) → AllByRecursion P xs → AllByRecursion P ys → AllByRecursion P (xs ++ ys)
  all_append [] ys h g = g
  all_append (x ∷ xs) ys h g = (h.0, all_append xs ys h.1 g)

  pub all_dropped : (xs : List A) → AllByRecursion P xs → AllByRecursion P (drop 1 xs)
  all_dropped [] h = tt
  all_dropped (x ∷ xs) h = h.1

module _ (Such : ℕ → Type 0) where
  pub first_by : (calls : List PublishCall) → AllBy Such calls → AskedBy Such (first_of calls)
  first_by [] h = tt
  first_by (call ∷ calls) h = h.0

  pub calls_append : (xs ys : List PublishCall) → AllBy Such xs → AllBy Such ys → AllBy Such (xs ++ ys)
  calls_append = all_append (λ (call : PublishCall). Such call.origin.conn)

  pub calls_dropped : (calls : List PublishCall) → AllBy Such calls → AllBy Such (drop 1 calls)
  calls_dropped = all_dropped (λ (call : PublishCall). Such call.origin.conn)

  pub one_more : (replies : List Reply) (reply : Reply) → RepliedTo Such replies → Such reply.origin.conn → RepliedTo Such (replies ++ reply ∷ [])
  one_more replies reply h g = all_append (λ (r : Reply). Such r.origin.conn) replies (reply ∷ []) h (g, tt)

  -- ---- requests that are queued

  pub record QueueingOwesOnly (q : Queueing) : Type 0 where
    pub round : RoundOwesOnly Such q.round
    pub requests : AllBy Such q.part.requests

  refused_only : (round : Round) (call : Option PublishCall) → RoundOwesOnly Such round → AskedBy Such call → RoundOwesOnly Such (with_refused round call)
  refused_only round None h g = h
  refused_only round (Some call) h g = record { replies = one_more round.replies _ h.replies g; asked = h.asked }

  enqueued_by_only : (asked : Option PublishCall) (round : Round) (part : SessionSubscriptions) → AskedBy Such asked → RoundOwesOnly Such round → AllBy Such part.requests → QueueingOwesOnly (enqueued_by asked round part)
  enqueued_by_only None round part a h g = record { round = h; requests = g }
  enqueued_by_only (Some call) round part a h g =
      let answered : RoundOwesOnly Such (record round { asked = None }) = record { replies = h.replies; asked = tt } in
      either QueueingOwesOnly (nat_le round.bounds.publish_queue (length part.requests)) _ _
      (record { round = refused_only (record round { asked = None }) (first_of part.requests) answered (first_by part.requests g); requests = calls_append (drop 1 part.requests) (call ∷ []) (calls_dropped part.requests g) (a, tt) })
      (record { round = answered; requests = calls_append part.requests (call ∷ []) g (a, tt) })

  enqueued_only : (round : Round) (part : SessionSubscriptions) → RoundOwesOnly Such round → AllBy Such part.requests → QueueingOwesOnly (enqueued round part)
  unfolding enqueued
  enqueued_only round part h g = enqueued_by_only round.asked round part h.asked h g

  -- ---- messages that are sent

  answered_only : (asked : Option PublishCall) (round : Round) (s : Subscription) (more : Bool) (message : List ℕ) → AskedBy Such asked → RoundOwesOnly Such round → RoundOwesOnly Such (answered_by asked round s more message)
  answered_only None round s more message a h = h
  answered_only (Some call) round s more message a h = record { replies = one_more round.replies _ h.replies a; asked = tt }

  note_only : (n : Noting) → RoundOwesOnly Such n.round → RoundOwesOnly Such (note_sent n).round
  unfolding note_sent
  note_only n h = answered_only n.round.asked _ _ _ _ h.asked (record { replies = h.replies; asked = h.asked })

  pub record SendingOwesOnly (sent : Sending) : Type 0 where
    pub round : RoundOwesOnly Such sent.noting.round
    pub requests : AllBy Such sent.requests

  rest_only : (calls : List PublishCall) (n : Noting) → RoundOwesOnly Such n.round → AllBy Such calls → SendingOwesOnly (rest_sent calls n)
  rest_only [] n h g = record { round = h; requests = tt }
  rest_only (call ∷ calls) n h g =
      either SendingOwesOnly n.subscription.more _ _
      (rest_only calls (note_sent (with_asked n call)) (note_only (with_asked n call) (record { replies = h.replies; asked = g.0 })) g.1)
      (record { round = h; requests = g })

  notes_only : (calls : List PublishCall) (n : Noting) → RoundOwesOnly Such n.round → AllBy Such calls → SendingOwesOnly (notes_sent calls n)
  unfolding notes_sent
  notes_only calls n h g = rest_only calls (note_sent n) (note_only n h) g

  -- ---- what actions and rows leave

  pub record SceneOwesOnly (c : Scene) : Type 0 where
    pub round : RoundOwesOnly Such c.round
    pub requests : AllBy Such c.part.requests

  alive_only : (round : Round) (s : Subscription) → RoundOwesOnly Such round → RoundOwesOnly Such (keep_alive_sent round s)
  alive_only round s h = answered_only round.asked _ _ _ _ h.asked (record { replies = h.replies; asked = h.asked })

  pub done_only : (c : Scene) (action : Action) → SceneOwesOnly c → SceneOwesOnly (done c action)
  done_only c RefuseTooMany h = h
  done_only c Initialise h = record { round = h.round; requests = h.requests }
  done_only c StartTimer h = record { round = h.round; requests = h.requests }
  done_only c Answer h = h
  done_only c DeleteAcknowledged h = h
  done_only c Enqueue h = let q = enqueued_only c.round c.part h.round h.requests in record { round = q.round; requests = q.requests }
  done_only c Dequeue h = record { round = record { replies = h.round.replies; asked = first_by c.part.requests h.requests }; requests = calls_dropped c.part.requests h.requests }
  done_only c ResetLife h = record { round = h.round; requests = h.requests }
  done_only c ResetKeep h = record { round = h.round; requests = h.requests }
  done_only c CountKeep h = record { round = h.round; requests = h.requests }
  done_only c SendNotifications h = let sent = notes_only c.part.requests (noting c.round c.subscription c.items) h.round h.requests in record { round = sent.round; requests = sent.requests }
  done_only c SendKeepAlive h = record { round = alive_only c.round c.subscription h.round; requests = h.requests }
  done_only c SetSent h = record { round = h.round; requests = h.requests }
  done_only c DeleteItems h = record { round = h.round; requests = h.requests }
  done_only c NoteTimeout h = record { round = h.round; requests = h.requests }
  done_only c Update h = record { round = h.round; requests = h.requests }
  done_only c LimitKeep h = record { round = h.round; requests = h.requests }
  done_only c SetEnabled h = record { round = h.round; requests = h.requests }
  done_only c ClearMore h = record { round = h.round; requests = h.requests }
  done_only c AnswerKept h = h
  done_only c RefuseNotKept h = h
  done_only c CallItems h = h
  done_only c LimitMore h = record { round = h.round; requests = h.requests }
  done_only c LeaveSession h = record { round = h.round; requests = h.requests }

  pub all_done_only : (actions : List Action) (c : Scene) → SceneOwesOnly c → SceneOwesOnly (all_done c actions)
  all_done_only [] c h = h
  all_done_only (action ∷ actions) c h = all_done_only actions (done c action) (done_only c action h)

  pub row_only : (row : RowId) (c : Scene) → SceneOwesOnly c → SceneOwesOnly (row_done row c)
  unfolding row_done
  row_only row c h = let after = all_done_only (actions_of row) c h in record { round = after.round; requests = after.requests }

  pub fired_only : (c : Scene) → SceneOwesOnly c → SceneOwesOnly (fired c)
  unfolding fired
  fired_only c h = let after = row_only (row_of c) c h in record { round = record { replies = after.round.replies; asked = after.round.asked }; requests = after.requests }
