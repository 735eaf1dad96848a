-- A row that sends has a request to answer.
use Rattle.std.proofs.Common.{◌≡◌, Bool, true, false, ◌||◌, not, cond, List, [], ◌∷◌, Option, Some, None, refl, sym, ap, ◌∙◌}
use Rattle.std.proofs.lemmas.Bool.{false≢true, and_parts}
use Rattle.std.specs.Prelude.{ℕ}
use Rattle.std.specs.Option.{is_some}
use Rattle.ua_state_table.specs.Chosen.{Answers, answers, timer_row, publish_row, chosen}
use Rattle.ua_state_table.specs.declared.row.RowId.{RowId}
use Rattle.ua_state_table.specs.declared.row.RowId.TheVariants.{N3, N4, N5, N6, K2, K3, K4, K5, G6}
use Rattle.ua_state_table.specs.declared.state.State.{State}
use Rattle.ua_state_table.specs.declared.state.State.TheVariants.{Closed, Normal, Late, KeepAlive}
use Rattle.ua_subscriptions.specs.declared.call.Call.{Call}
use Rattle.ua_subscriptions.specs.declared.call.Call.TheVariants.{Create, Publish, Timer, Republish, SessionEnd}
use Rattle.ua_subscriptions.specs.declared.publish_call.PublishCall.{PublishCall}
use Rattle.ua_subscriptions.specs.declared.subscription.Subscription.{Subscription}
use Rattle.ua_subscriptions.specs.Calls.{event_of}
use Rattle.ua_subscriptions.specs.Firing.{vars_in, before_by, row_of}
use Rattle.ua_subscriptions.specs.Queues.{first_of}
use Rattle.ua_state_table.specs.Steady.{waits_in}
use Rattle.ua_subscriptions.specs.Ranks.{is_waiting}
use Rattle.ua_subscriptions.specs.Scenes.{Scene}
use Rattle.ua_subscriptions.specs.Subscriptions.{is_any}
use Rattle.ua_subscriptions.specs.Tables.{Stage, scene_at}
use Rattle.subscription_laws.specs.Answering.{sends, dequeues, answering}
use Rattle.subscription_laws.proofs.ChosenRows.{publish_is_none}

-- a row that sends has a request to answer
abbrev pub IsGiven : RowId → Scene → Type 0
IsGiven r c = sends r ≡ true → (call : PublishCall) × (answering r c ≡ Some call)

-- ---- a timer: what sends takes a request out of the queue, and one is there

timer_takes : (s : State) (a : Answers) → sends (timer_row s a) ≡ true → (a.queued ≡ true) × (dequeues (timer_row s a) ≡ true)
timer_takes Normal a h = by a.queued a.enabled_available a.sent h
  where
    by : (q ea se : Bool) → sends (cond q (cond ea N3 (cond se N6 N4)) (cond (not se || ea) N5 N6)) ≡ true → (q ≡ true) × (dequeues (cond q (cond ea N3 (cond se N6 N4)) (cond (not se || ea) N5 N6)) ≡ true)
    by true true se h = (refl, refl)
    by true false true h = absurd (cc)
    by true false false h = (refl, refl)
    by false true true h = absurd (cc)
    by false true false h = absurd (cc)
    by false false true h = absurd (cc)
    by false false false h = absurd (cc)
timer_takes Late a h = absurd (cc)
timer_takes KeepAlive a h = by a.queued a.enabled_available a.last_keep h
  where
    by : (q ea k1 : Bool) → sends (cond q (cond ea K2 (cond k1 K3 K4)) (cond (k1 || ea) K5 K4)) ≡ true → (q ≡ true) × (dequeues (cond q (cond ea K2 (cond k1 K3 K4)) (cond (k1 || ea) K5 K4)) ≡ true)
    by true true k1 h = (refl, refl)
    by true false true h = (refl, refl)
    by true false false h = absurd (cc)
    by false true true h = absurd (cc)
    by false true false h = absurd (cc)
    by false false true h = absurd (cc)
    by false false false h = absurd (cc)
timer_takes Closed a h = absurd (cc)

first_is : (calls : List PublishCall) → is_any calls ≡ true → (call : PublishCall) × (first_of calls ≡ Some call)
first_is [] h = absurd (cc)
first_is (call ∷ calls) h = (call, refl)

pub timer_gives : (c : Scene) → let r = chosen (vars_in c) (event_of Timer) in sends r ≡ true → (call : PublishCall) × (answering r c ≡ Some call)
timer_gives c = by (answers (vars_in c)).last_life
  where
    row : RowId
    row = timer_row c.subscription.state (answers (vars_in c))

    by : (last : Bool) → IsGiven (cond last G6 row) c
    by true h = absurd (cc)
    by false h =
        let takes = timer_takes c.subscription.state (answers (vars_in c)) h in
        let first = first_is c.part.requests (and_parts (is_some c.subscription.session) (is_any c.part.requests) takes.0).1 in
        (first.0, ap (λ (b : Bool). cond b (first_of c.part.requests) c.round.asked) takes.1 ∙ first.1)

-- ---- a Publish request: what sends answers the one that came

pub publish_takes_none : (s : State) (a : Answers) → dequeues (publish_row s a) ≡ false
publish_takes_none = publish_is_none dequeues refl refl refl refl refl refl

pub asked_given : (w : Stage) (n : ℕ) (call : PublishCall) → w.round.asked ≡ Some call → (s : Subscription) → IsGiven (row_of (scene_at w n Publish s)) (scene_at w n Publish s)
asked_given w n call is s h =
    let c = scene_at w n Publish s in
    (call, ap (λ (b : Bool). cond b (first_of c.part.requests) c.round.asked) (publish_takes_none s.state (answers (vars_in c))) ∙ is)

-- one that doesn't wait sends nothing
calm_sends_none : (s : State) (a : Answers) → waits_in s a.enabled_more ≡ false → sends (publish_row s a) ≡ false
calm_sends_none Normal a calm = rw calm refl
calm_sends_none Late a calm = absurd (cc)
calm_sends_none KeepAlive a calm = refl
calm_sends_none Closed a calm = refl

pub calm_given : (w : Stage) (n : ℕ) (s : Subscription) → is_waiting s ≡ false → IsGiven (row_of (scene_at w n Publish s)) (scene_at w n Publish s)
calm_given w n s calm h = absurd (false≢true (sym (calm_sends_none s.state (answers (vars_in (scene_at w n Publish s))) calm) ∙ h))

-- ---- any call

-- a row that sends has a request to answer
pub row_given : (c : Scene) → (c.round.call ≡ Publish → is_some c.round.asked ≡ true) → sends (row_of c) ≡ true → is_some (answering (row_of c) c) ≡ true
row_given c asked h = by c.round.call refl h
  where
    timer : (call : PublishCall) × (answering (chosen (vars_in c) (event_of Timer)) c ≡ Some call) → is_some (answering (chosen (vars_in c) (event_of Timer)) c) ≡ true
    timer (call, is) = ap is_some is

    by : (call : Call) → c.round.call ≡ call → (let r = chosen (before_by call c) (event_of call) in sends r ≡ true → is_some (answering r c) ≡ true)
    by Timer is sent = timer (timer_gives c sent)
    by Publish is sent = ap (λ (b : Bool). is_some (cond b (first_of c.part.requests) c.round.asked)) (publish_takes_none c.subscription.state (answers (vars_in c))) ∙ asked is
    by (Create true settings enabled) is sent = absurd (cc)
    by (Create false settings enabled) is sent = absurd (cc)
    by (Republish true) is sent = absurd (cc)
    by (Republish false) is sent = absurd (cc)
    by (SessionEnd true) is sent = absurd (cc)
    by (SessionEnd false) is sent = absurd (cc)
    by call is sent = absurd (cc)

-- whose it is, where nothing but a Publish request came
pub plain_given : (c : Scene) → (c.round.call ≡ Publish → ⊥) → IsGiven (row_of c) c
plain_given c plain sent = by (answering (row_of c) c) (row_given c (λ is. absurd (plain is)) sent)
  where
    by : (o : Option PublishCall) → is_some o ≡ true → (call : PublishCall) × (o ≡ Some call)
    by None e = absurd (cc)
    by (Some call) e = (call, refl)
