-- Actions that are done one after the other.
use Rattle.std.proofs.Common.{◌≡◌, ◌≤◌, ◌+◌, Bool, true, false, List, [], ◌∷◌, ◌++◌, nat_le, Option, Some, None, refl, arith, cond, length}
use Rattle.ua_state_table.specs.declared.action.Action.{Action}
use Rattle.ua_state_table.specs.declared.action.Action.TheVariants.{RefuseTooMany, Initialise, StartTimer, Answer, DeleteAcknowledged, Enqueue, Dequeue, ResetLife, ResetKeep, CountKeep, SendNotifications, SendKeepAlive, SetSent, DeleteItems, NoteTimeout, Update, LimitKeep, SetEnabled, ClearMore, AnswerKept, RefuseNotKept, CallItems, LimitMore, LeaveSession}
use Rattle.ua_subscriptions.specs.declared.publish_call.PublishCall.{PublishCall}
use Rattle.ua_subscriptions.specs.declared.session_part.SessionSubscriptions.{SessionSubscriptions}
use Rattle.ua_subscriptions.specs.declared.round.Round.{Round}
use Rattle.ua_subscriptions.specs.Queues.{first_of}
use Rattle.ua_subscriptions.specs.Scenes.{Scene, noting, with_refused, enqueued, enqueued_by, Queueing, keep_alive_sent, note_sent, notes_sent, done, all_done, is_overspent}
use Rattle.ua_subscriptions.proofs.Sendings.{rest_place, note_place, answered_place}

refused_place : (round : Round) (call : Option PublishCall) → (with_refused round call).message_count ≡ round.message_count
refused_place round None = refl
refused_place round (Some call) = refl

enqueued_place_if : (full : Bool) (round : Round) (a b : Queueing) → a.round.message_count ≡ round.message_count → b.round.message_count ≡ round.message_count → (cond full a b).round.message_count ≡ round.message_count
enqueued_place_if true round a b g h = g
enqueued_place_if false round a b g h = h

enqueued_place_by : (asked : Option PublishCall) (round : Round) (part : SessionSubscriptions) → (enqueued_by asked round part).round.message_count ≡ round.message_count
enqueued_place_by None round part = refl
enqueued_place_by (Some call) round part = enqueued_place_if (nat_le round.bounds.publish_queue (length part.requests)) round _ _ (refused_place (record round { asked = None }) (first_of part.requests)) refl

enqueued_place : (round : Round) (part : SessionSubscriptions) → (enqueued round part).round.message_count ≡ round.message_count
unfolding enqueued
enqueued_place round part = enqueued_place_by round.asked round part

sent_place : (calls : List PublishCall) (c : Scene) → c.round.message_count ≤ (notes_sent calls (noting c.round c.subscription c.items)).noting.round.message_count
unfolding notes_sent
sent_place calls c = grind (arith, rest_place calls (note_sent (noting c.round c.subscription c.items)), note_place (noting c.round c.subscription c.items))

alive_place : (c : Scene) → (keep_alive_sent c.round c.subscription).message_count ≡ c.round.message_count + 1
alive_place c = answered_place c.round.asked _ _ _ _

-- places only rise
pub done_place : (c : Scene) (action : Action) → c.round.message_count ≤ (done c action).round.message_count
done_place c RefuseTooMany = grind arith
done_place c Initialise = grind arith
done_place c StartTimer = grind arith
done_place c Answer = grind arith
done_place c DeleteAcknowledged = grind arith
done_place c Enqueue = grind (arith, enqueued_place c.round c.part)
done_place c Dequeue = grind arith
done_place c ResetLife = grind arith
done_place c ResetKeep = grind arith
done_place c CountKeep = grind arith
done_place c SendNotifications = sent_place c.part.requests c
done_place c SendKeepAlive = grind (arith, alive_place c)
done_place c SetSent = grind arith
done_place c DeleteItems = grind arith
done_place c NoteTimeout = grind arith
done_place c Update = grind arith
done_place c LimitKeep = grind arith
done_place c SetEnabled = grind arith
done_place c ClearMore = grind arith
done_place c AnswerKept = grind arith
done_place c RefuseNotKept = grind arith
done_place c CallItems = grind arith
done_place c LimitMore = grind arith
done_place c LeaveSession = grind arith

pub all_place : (actions : List Action) (c : Scene) → c.round.message_count ≤ (all_done c actions).round.message_count
all_place [] c = grind arith
all_place (action ∷ actions) c = grind (arith, done_place c action, all_place actions (done c action))

-- an action that can't be counted isn't followed by fewer messages
pub all_overspent : (before : List Action) (action : Action) (after : List Action) (c : Scene) → is_overspent (done (all_done c before) action).round ≡ true → is_overspent (all_done c (before ++ action ∷ after)).round ≡ true
all_overspent [] action after c h = grind (arith, h, all_place after (done c action))
all_overspent (a ∷ before) action after c h = all_overspent before action after (done c a) h
