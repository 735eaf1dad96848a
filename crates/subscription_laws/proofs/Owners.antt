-- A row keeps which subscription the round is at, the moment, what the server allows, what came, and the rows that fired.
use Rattle.std.proofs.Common.{◌≡◌, ℕ, Bool, false, List, [], ◌∷◌, nat_le, length, Option, Some, None, refl, ap, ◌∙◌}
use Rattle.std.proofs.lemmas.Bool.{or_parts}
use Rattle.std.specs.List.{list_any}
use Rattle.ua_types.specs.declared.moment.Moment.{Moment}
use Rattle.server_messages.specs.declared.fired.Fired.{Fired}
use Rattle.ua_state_table.specs.declared.action.Action.{Action}
use Rattle.ua_state_table.specs.declared.action.Action.TheVariants.{Enqueue, SendNotifications, SendKeepAlive}
use Rattle.ua_subscriptions.specs.declared.call.Call.{Call}
use Rattle.ua_subscriptions.specs.declared.publish_call.PublishCall.{PublishCall}
use Rattle.ua_subscriptions.specs.declared.session_part.SessionSubscriptions.{SessionSubscriptions}
use Rattle.ua_subscriptions.specs.declared.settings.Bounds.{Bounds}
use Rattle.ua_subscriptions.specs.declared.subscription.Subscription.{Subscription}
use Rattle.ua_subscriptions.specs.declared.round.Round.{Round}
use Rattle.ua_subscriptions.specs.Queues.{first_of}
use Rattle.ua_subscriptions.specs.Scenes.{Sending, Scene, Noting, sending, with_asked, with_refused, Queueing, enqueued, enqueued_by, answered_by, note_sent, rest_sent, notes_sent, noting, done, all_done}
use Rattle.ua_subscriptions.proofs.Choosing.{either}

-- what a round keeps
pub record Frame : Type 0 where
  pub bounds : Bounds
  pub clock : Moment
  pub own : ℕ
  pub call : Call
  pub rows : List Fired

abbrev pub frame : Round → Frame
frame round = record { bounds = round.bounds; clock = round.clock; own = round.own; call = round.call; rows = round.rows }

refused_frame : (round : Round) (call : Option PublishCall) → frame (with_refused round call) ≡ frame round
refused_frame round None = refl
refused_frame round (Some call) = refl

enqueued_frame_by : (asked : Option PublishCall) (round : Round) (part : SessionSubscriptions) → frame (enqueued_by asked round part).round ≡ frame round
enqueued_frame_by None round part = refl
enqueued_frame_by (Some call) round part = either (λ (q : Queueing). frame q.round ≡ frame round) (nat_le round.bounds.publish_queue (length part.requests)) _ _ (refused_frame (record round { asked = None }) (first_of part.requests)) refl

enqueued_frame : (round : Round) (part : SessionSubscriptions) → frame (enqueued round part).round ≡ frame round
unfolding enqueued
enqueued_frame round part = enqueued_frame_by round.asked round part

answered_frame : (asked : Option PublishCall) (round : Round) (s : Subscription) (more : Bool) (message : List ℕ) → frame (answered_by asked round s more message) ≡ frame round
answered_frame None round s more message = refl
answered_frame (Some call) round s more message = refl

pub note_frame : (n : Noting) → frame (note_sent n).round ≡ frame n.round
unfolding note_sent
note_frame n = answered_frame n.round.asked _ _ _ _

pub note_own : (n : Noting) → (note_sent n).round.own ≡ n.round.own
note_own n = ap (λ (f : Frame). f.own) (note_frame n)

-- what each further message keeps, all keep
pub rest_keeps : (P : Noting → Type 0) → ((n : Noting) (call : PublishCall) → P n → P (note_sent (with_asked n call))) → (calls : List PublishCall) (n : Noting) → P n → P (rest_sent calls n).noting
rest_keeps P step [] n h = h
rest_keeps P step (call ∷ calls) n h =
    let next = note_sent (with_asked n call) in
    either (λ (sent : Sending). P sent.noting) n.subscription.more (rest_sent calls next) (sending n (call ∷ calls)) (rest_keeps P step calls next (step n call h)) h

pub rest_frame : (calls : List PublishCall) (n : Noting) → frame (rest_sent calls n).noting.round ≡ frame n.round
rest_frame calls n = rest_keeps (λ (m : Noting). frame m.round ≡ frame n.round) (λ m call h. note_frame (with_asked m call) ∙ h) calls n refl

notes_frame : (calls : List PublishCall) (n : Noting) → frame (notes_sent calls n).noting.round ≡ frame n.round
unfolding notes_sent
notes_frame calls n = rest_frame calls (note_sent n) ∙ note_frame n

pub done_frame : (c : Scene) (action : Action) → frame (done c action).round ≡ frame c.round
done_frame c Enqueue = enqueued_frame c.round c.part
done_frame c SendNotifications = notes_frame c.part.requests (noting c.round c.subscription c.items)
done_frame c SendKeepAlive = answered_frame c.round.asked _ _ _ _
done_frame c action = refl

-- what actions keep, but those of a kind, is kept by a row that has none of those
pub actions_keep : (P : Scene → Type 0) (test : Action → Bool) → ((c : Scene) (action : Action) → test action ≡ false → P c → P (done c action)) → (actions : List Action) (c : Scene) → list_any test actions ≡ false → P c → P (all_done c actions)
actions_keep P test step [] c e h = h
actions_keep P test step (action ∷ actions) c e h =
    let split = or_parts (test action) (list_any test actions) e in
    actions_keep P test step actions (done c action) split.1 (step c action split.0 h)
