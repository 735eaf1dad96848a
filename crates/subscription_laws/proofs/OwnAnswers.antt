-- Each answer about a subscription is given to a request that came in its own session.
use Rattle.std.proofs.Common.{◌+◌, ◌≡◌, ◌≢◌, ◌⊎◌, inl, inr, ℕ, Bool, true, false, cond, nat_le, length, List, [], ◌∷◌, ◌++◌, map, filter, drop, fold, append_assoc, Option, Some, None, refl, sym, ap, ◌∙◌, subst}
use Rattle.std.proofs.lemmas.Bool.{false≢true}
use Rattle.std.specs.BTreeMap.{is_at}
use Rattle.std.specs.List.{AllByRecursion, flat_map}
use Rattle.std.specs.Map.{remove_entry}
use Rattle.std.specs.Ordering.{nat_cmp}
use Rattle.ua_types.specs.Configuration.{Configuration}
use Rattle.ua_types.specs.declared.moment.Moment.{Moment}
use Rattle.ua_types.specs.declared.status.Status.{Status}
use Rattle.ua_subscription_messages.specs.declared.publishing.SubscriptionAcknowledgement.{SubscriptionAcknowledgement}
use Rattle.ua_state_table.specs.Chosen.{answers, chosen}
use Rattle.ua_state_table.specs.Doing.{is_enqueueing}
use Rattle.ua_state_table.specs.StateTable.{actions_of}
use Rattle.ua_state_table.specs.declared.action.Action.{Action}
use Rattle.ua_state_table.specs.declared.action.Action.TheVariants.{Enqueue, Dequeue, SendNotifications, SendKeepAlive}
use Rattle.ua_state_table.specs.declared.row.RowId.{RowId}
use Rattle.ua_state_table.specs.declared.row.RowId.TheVariants.{N1, N2, N3, N4, L1, L2, K1, K2, K3}
use Rattle.ua_state_table.specs.declared.vars.Vars.{Vars}
use Rattle.ua_subscriptions.specs.declared.call.Call.{Call}
use Rattle.ua_subscriptions.specs.declared.call.Call.TheVariants as call
use Rattle.ua_subscriptions.specs.declared.messages.KeptMessage.{KeptMessage}
use Rattle.ua_subscriptions.specs.declared.publish_call.PublishCall.{PublishCall}
use Rattle.ua_subscriptions.specs.declared.round.Round.{Round}
use Rattle.ua_subscriptions.specs.declared.session_part.SessionSubscriptions.{SessionSubscriptions}
use Rattle.ua_subscriptions.specs.declared.session_part.TimeoutNote.{TimeoutNote}
use Rattle.ua_subscriptions.specs.declared.settings.Settings.{Settings}
use Rattle.ua_subscriptions.specs.declared.subscription.Subscription.{Subscription}
use Rattle.ua_subscriptions.specs.Calls.{event_of}
use Rattle.ua_subscriptions.specs.Ending.{came_by_other, entry_without_conn}
use Rattle.ua_subscriptions.specs.Firing.{is_closed, before_by, vars_in, row_of, fired}
use Rattle.ua_subscriptions.specs.Making.{refused_one, added}
use Rattle.ua_subscriptions.specs.Named.{all_refused, without_requests}
use Rattle.ua_subscriptions.specs.Publishing.{acknowledged_all, part_without_note, asked_by, with_results, ready, asked_numbers}
use Rattle.ua_subscriptions.specs.Queues.{first_of}
use Rattle.ua_subscriptions.specs.Scenes.{Sending, Scene, Noting, noting, sending, Queueing, with_refused, enqueued_by, enqueued, answered_by, note_sent, rest_sent, notes_sent, with_asked, dequeued, started, life_reset, done, row_done}
use Rattle.ua_subscriptions.specs.SubscriptionCalls.{stage_of}
use Rattle.ua_subscriptions.specs.Subscriptions.{no_part}
use Rattle.ua_subscriptions.specs.Tables.{TableState, Stage, met, part_at, part_of, set_part, subscription_at, stage_after, scene_at, met_by}
use Rattle.ua_subscriptions.proofs.Choosing.{either}
use Rattle.ua_subscriptions.proofs.MapEntries.{entries_found, entries_set, entries_removed, entries_inserted}
use Rattle.ua_subscriptions.proofs.OwingRows.{all_append, all_dropped}
use Rattle.subscription_laws.specs.Answering.{is_dequeueing, dequeues}
use Rattle.subscription_laws.specs.Calm.{AreRising}
use Rattle.subscription_laws.specs.Encounters.{Beside, Acknowledges, TellsNote, Refuses, Leaves, LeavesAll, Loses, beside, Encounter, Meets, Does, is_meant, met_if, made_scene, encounters, all_encounters}
use Rattle.subscription_laws.specs.OwnRequests.{CameIn, WasOf, AnswersItsOwn, AreOwnAnswers}
use Rattle.subscription_laws.specs.Actions.{rest_notings, notings}
use Rattle.subscription_laws.specs.Numbering.{messages_of}
use Rattle.subscription_laws.specs.Runs.{Move, Ran, start, moved, run, of_run}
use Rattle.subscription_laws.specs.Tellings.{Told, Telling, told_at, if_asked, queued_told, message_told, row_told}
use Rattle.subscription_laws.proofs.Entries.{some_same}
use Rattle.subscription_laws.proofs.AskedNumbers.{asked_are, listed_are}
use Rattle.subscription_laws.proofs.ChosenRows.{publish_stays, timer_is_none}
use Rattle.subscription_laws.proofs.Folds.{all_so, alone}
use Rattle.subscription_laws.proofs.Keeping.{its_own, fired_stays}
use Rattle.subscription_laws.proofs.KeepingPublish.{ready_kept}
use Rattle.subscription_laws.proofs.MessageNotes.{note_left, fired_notes}
use Rattle.subscription_laws.proofs.RowRequests.{publish_takes_none}
use Rattle.subscription_laws.proofs.Owners.{rest_keeps, actions_keep}
use Rattle.subscription_laws.proofs.RunsKept.{IsRunKept, enter, one_run, started_run}
use Rattle.subscription_laws.proofs.Settling.{IsPutBack, back_is, back_rises}
use Rattle.subscription_laws.proofs.Walks.{left_is, Fits, Follows, FollowsMaking, Begins, walked, DoneBy, OnBeside, all_split, each_done}

-- ---- lists

module _ {X : Type 0} (Q : X → Type 0) where
  all_kept : (p : X → Bool) (xs : List X) → AllByRecursion Q xs → AllByRecursion Q (filter p xs)
  all_kept p [] h = h
  all_kept p (x ∷ xs) h = let k = all_kept p xs h.1 in either (AllByRecursion Q) (p x) (x ∷ filter p xs) (filter p xs) (h.0, k) k

  first_is : (xs : List X) (x : X) → AllByRecursion Q xs → first_of xs ≡ Some x → Q x
  first_is [] x h e = absurd (cc)
  first_is (y ∷ ys) x h e = let it : y ≡ x = cc in subst Q it h.0

both_so : {X : Type 0} (P Q S : X → Type 0) → ((x : X) → P x → Q x → S x) → (xs : List X) → AllByRecursion P xs → AllByRecursion Q xs → AllByRecursion S xs
both_so P Q S so [] h k = tt
both_so P Q S so (x ∷ xs) h k = (so x h.0 k.0, both_so P Q S so xs h.1 k.1)

-- ---- what is told at a scene answers the request that came, or one that waits

-- a row that answers the request that came, or queues it
abbrev uses_asked : RowId → Bool
uses_asked N1 = true
uses_asked K1 = true
uses_asked N2 = true
uses_asked L1 = true
uses_asked L2 = true
uses_asked r = false

module _ (Q : PublishCall → Type 0) where
  abbrev Of : Telling → Type 0
  Of t = Q t.call

  abbrev Came : Option PublishCall → Type 0
  Came o = (asked : PublishCall) → o ≡ Some asked → Q asked

  if_asked_of : (clock : Moment) (kept : List KeptMessage) (told : Told) (o : Option PublishCall) → Came o → AllByRecursion Of (if_asked clock kept told o)
  if_asked_of clock kept told None k = tt
  if_asked_of clock kept told (Some asked) k = (k asked refl, tt)

  queued_of : (o : Option PublishCall) (round : Round) (part : SessionSubscriptions) → AllByRecursion Q part.requests → AllByRecursion Of (queued_told o round part)
  queued_of None round part h = tt
  queued_of (Some asked) round part h =
      either (AllByRecursion Of) (nat_le round.bounds.publish_queue (length part.requests)) _ [] (if_asked_of round.clock [] _ (first_of part.requests) (λ x e. first_is Q part.requests x h e)) tt

  note_of : (n : Noting) → Came n.round.asked → AllByRecursion Of (message_told n)
  note_of n k = if_asked_of n.round.clock _ _ n.round.asked k

  rest_of : (calls : List PublishCall) (n : Noting) → AllByRecursion Q calls → AllByRecursion Of (flat_map message_told (rest_notings calls n))
  rest_of [] n h = tt
  rest_of (asked ∷ calls) n h =
      let m = with_asked n asked in
      either (λ (ns : List Noting). AllByRecursion Of (flat_map message_told ns)) n.subscription.more (m ∷ rest_notings calls (note_sent m)) [] (h.0, rest_of calls (note_sent m) h.1) tt

  notes_of : (calls : List PublishCall) (n : Noting) → Came n.round.asked → AllByRecursion Q calls → AllByRecursion Of (flat_map message_told (notings calls n) ++ [])
  notes_of calls n k h = alone (AllByRecursion Of) _ (all_append Of (message_told n) (flat_map message_told (rest_notings calls (note_sent n))) (note_of n k) (rest_of calls (note_sent n) h))

  row_tells : (r : RowId) (c : Scene) → AllByRecursion Q c.part.requests → (uses_asked r ≡ true → Came c.round.asked) → AllByRecursion Of (row_told r c)
  row_tells N1 c h k = alone (AllByRecursion Of) _ (queued_of c.round.asked c.round c.part h)
  row_tells K1 c h k = alone (AllByRecursion Of) _ (queued_of c.round.asked c.round c.part h)
  row_tells N2 c h k = notes_of c.part.requests (noting c.round (life_reset c.subscription) c.items) (k refl) h
  row_tells L1 c h k = notes_of c.part.requests (noting c.round (life_reset c.subscription) c.items) (k refl) h
  row_tells N3 c h k = notes_of (drop 1 c.part.requests) (noting (dequeued c.round c.part).round (started c.round (life_reset c.subscription)) c.items) (λ x e. first_is Q c.part.requests x h e) (all_dropped Q c.part.requests h)
  row_tells K2 c h k = notes_of (drop 1 c.part.requests) (noting (dequeued c.round c.part).round (started c.round (life_reset c.subscription)) c.items) (λ x e. first_is Q c.part.requests x h e) (all_dropped Q c.part.requests h)
  row_tells N4 c h k = alone (AllByRecursion Of) _ (if_asked_of _ _ _ (first_of c.part.requests) (λ x e. first_is Q c.part.requests x h e))
  row_tells K3 c h k = alone (AllByRecursion Of) _ (if_asked_of _ _ _ (first_of c.part.requests) (λ x e. first_is Q c.part.requests x h e))
  row_tells L2 c h k = alone (AllByRecursion Of) _ (if_asked_of _ _ _ c.round.asked (k refl))
  row_tells r c h k = tt

  -- and what waits afterwards is what waited, or the request that came
  rest_waits : (calls : List PublishCall) (n : Noting) → AllByRecursion Q calls → AllByRecursion Q (rest_sent calls n).requests
  rest_waits [] n h = tt
  rest_waits (asked ∷ calls) n h =
      let next = note_sent (with_asked n asked) in
      either (λ (sent : Sending). AllByRecursion Q sent.requests) n.subscription.more (rest_sent calls next) (sending n (asked ∷ calls)) (rest_waits calls next h.1) h

  notes_wait : (calls : List PublishCall) (n : Noting) → AllByRecursion Q calls → AllByRecursion Q (notes_sent calls n).requests
  unfolding notes_sent
  notes_wait calls n h = rest_waits calls (note_sent n) h

  done_waits : (c : Scene) (action : Action) → is_enqueueing action ≡ false → AllByRecursion Q c.part.requests → AllByRecursion Q (done c action).part.requests
  done_waits c Enqueue e h = absurd (cc)
  done_waits c Dequeue e h = all_dropped Q c.part.requests h
  done_waits c SendNotifications e h = notes_wait c.part.requests (noting c.round c.subscription c.items) h
  done_waits c action e h = h

  enqueued_waits : (round : Round) (part : SessionSubscriptions) → AllByRecursion Q part.requests → Came round.asked → AllByRecursion Q (enqueued round part).part.requests
  unfolding enqueued
  enqueued_waits round part h k = by round.asked k
    where
      full : (asked : PublishCall) → Q asked → (b : Bool) (x y : Round) →
          AllByRecursion Q (cond {A = Queueing} b (record { round = x; part = record part { requests = drop 1 part.requests ++ asked ∷ [] } }) (record { round = y; part = record part { requests = part.requests ++ asked ∷ [] } })).part.requests
      full asked q true x y = all_append Q (drop 1 part.requests) (asked ∷ []) (all_dropped Q part.requests h) (q, tt)
      full asked q false x y = all_append Q part.requests (asked ∷ []) h (q, tt)

      by : (o : Option PublishCall) → Came o → AllByRecursion Q (enqueued_by o round part).part.requests
      by None k = h
      by (Some asked) k = full asked (k asked refl) (nat_le round.bounds.publish_queue (length part.requests)) _ _

  row_waits : (r : RowId) (c : Scene) → AllByRecursion Q c.part.requests → (uses_asked r ≡ true → Came c.round.asked) → AllByRecursion Q (row_done r c).part.requests
  unfolding row_done
  row_waits N1 c h k = enqueued_waits c.round c.part h (k refl)
  row_waits K1 c h k = enqueued_waits c.round c.part h (k refl)
  row_waits r c h k = actions_keep (λ (d : Scene). AllByRecursion Q d.part.requests) is_enqueueing done_waits (actions_of r) c refl h

  fired_waits : (c : Scene) → AllByRecursion Q c.part.requests → (uses_asked (row_of c) ≡ true → Came c.round.asked) → AllByRecursion Q (fired c).part.requests
  unfolding fired
  fired_waits c h k = row_waits (row_of c) c h k

-- ---- the request that came, after a row of a Publish: it is there yet, or none is

abbrev IsLeft : Option PublishCall → Option PublishCall → Type 0
IsLeft before after = (after ≡ None) ⊎ (after ≡ before)

left_then : (a b c : Option PublishCall) → IsLeft a b → IsLeft b c → IsLeft a c
left_then a b c h (inl none) = inl none
left_then a b c (inl none) (inr same) = inl (same ∙ none)
left_then a b c (inr before) (inr same) = inr (same ∙ before)

answered_left : (o : Option PublishCall) (round : Round) (s : Subscription) (more : Bool) (message : List ℕ) → round.asked ≡ o → IsLeft o (answered_by o round s more message).asked
answered_left None round s more message is = inr is
answered_left (Some asked) round s more message is = inl refl

noting_left : (n : Noting) → IsLeft n.round.asked (note_sent n).round.asked
unfolding note_sent
noting_left n = answered_left n.round.asked _ _ _ _ refl

note_gone : (n : Noting) (asked : PublishCall) → (note_sent (with_asked n asked)).round.asked ≡ None
unfolding note_sent
note_gone n asked = refl

rest_left : (calls : List PublishCall) (n : Noting) → IsLeft n.round.asked (rest_sent calls n).noting.round.asked
rest_left calls n = rest_keeps (λ (m : Noting). IsLeft n.round.asked m.round.asked) (λ m call h. inl (note_gone m call)) calls n (inr refl)

notes_left : (calls : List PublishCall) (n : Noting) → IsLeft n.round.asked (notes_sent calls n).noting.round.asked
unfolding notes_sent
notes_left calls n = left_then n.round.asked (note_sent n).round.asked _ (noting_left n) (rest_left calls (note_sent n))

enqueued_left : (round : Round) (part : SessionSubscriptions) → IsLeft round.asked (enqueued round part).round.asked
unfolding enqueued
enqueued_left round part = by round.asked refl
  where
    refused_none : (o : Option PublishCall) → (with_refused (record round { asked = None }) o).asked ≡ None
    refused_none None = refl
    refused_none (Some x) = refl

    by : (o : Option PublishCall) → round.asked ≡ o → IsLeft o (enqueued_by o round part).round.asked
    by None is = inr is
    by (Some asked) is = inl (either (λ (q : Queueing). q.round.asked ≡ None) (nat_le round.bounds.publish_queue (length part.requests)) _ _ (refused_none (first_of part.requests)) refl)

done_left : (c : Scene) (action : Action) → is_dequeueing action ≡ false → IsLeft c.round.asked (done c action).round.asked
done_left c Enqueue e = enqueued_left c.round c.part
done_left c Dequeue e = absurd (cc)
done_left c SendNotifications e = notes_left c.part.requests (noting c.round c.subscription c.items)
done_left c SendKeepAlive e = answered_left c.round.asked _ _ _ _ refl
done_left c action e = inr refl

fired_left : (c : Scene) → dequeues (row_of c) ≡ false → IsLeft c.round.asked (fired c).round.asked
unfolding fired row_done
fired_left c e =
    actions_keep (λ (d : Scene). IsLeft c.round.asked d.round.asked) is_dequeueing (λ d action f h. left_then c.round.asked d.round.asked (done d action).round.asked h (done_left d action f)) (actions_of (row_of c)) c e (inr refl)

-- no other call uses the request that came
abbrev is_publish : Call → Bool
is_publish call.Publish = true
is_publish asked = false

it : (asked : Call) → is_publish asked ≡ true → asked ≡ call.Publish
it call.Publish e = refl
it asked e = absurd (cc)

others_use_none : (asked : Call) (v : Vars) → is_publish asked ≡ false → uses_asked (chosen v (event_of asked)) ≡ false
others_use_none call.Publish v e = absurd (cc)
others_use_none (call.Create true settings enabled) v e = refl
others_use_none (call.Create false settings enabled) v e = refl
others_use_none call.Timer v e = timer_is_none uses_asked (record { n3 = refl; n4 = refl; n5 = refl; n6 = refl; l3 = refl; k2 = refl; k3 = refl; k4 = refl; k5 = refl; g6 = refl }) v
others_use_none (call.Republish true) v e = refl
others_use_none (call.Republish false) v e = refl
others_use_none (call.SessionEnd true) v e = refl
others_use_none (call.SessionEnd false) v e = refl
others_use_none asked v e = refl

-- ---- requests wait under the sessions in which they came, and notes under those that their subscriptions had

module _ (P : ℕ → PublishCall → Type 0) (Q : ℕ → ℕ → Type 0) where
  abbrev IsNote : ℕ → TimeoutNote → Type 0
  IsNote session note = Q session note.subscription

  abbrev IsOwn : ℕ × SessionSubscriptions → Type 0
  IsOwn e = AllByRecursion (P e.0) e.1.requests × AllByRecursion (IsNote e.0) e.1.notes

  abbrev AreOwn : List (ℕ × SessionSubscriptions) → Type 0
  AreOwn sessions = AllByRecursion IsOwn sessions

  own_part : (k : ℕ) (sessions : List (ℕ × SessionSubscriptions)) → AreOwn sessions → IsOwn (k, part_at k sessions)
  own_part k sessions h = entries_found IsOwn k no_part sessions (tt, tt) h

  own_conn : (conn : ℕ) (sessions : List (ℕ × SessionSubscriptions)) → AreOwn sessions → AreOwn (map (entry_without_conn conn) sessions)
  own_conn conn [] h = tt
  own_conn conn (e ∷ es) h = ((all_kept (P e.0) (came_by_other conn) e.1.requests h.0.0, h.0.1), own_conn conn es h.1)

  -- ---- what is said of an encounter

  -- a note is told to a request of its session; and one that is met is of the session that it has
  abbrev IsGood : Encounter → Type 0
  IsGood (Meets c) = (k : ℕ) → c.subscription.session ≡ Some k → Q k c.round.own
  IsGood (Does w (TellsNote session asked note)) = P session asked
  IsGood (Does w b) = Unit {0}

  abbrev OwnTelling : Scene → Telling → Type 0
  OwnTelling c t = (k : ℕ) × (c.subscription.session ≡ Some k) × P k t.call

  abbrev Own : Encounter → Type 0
  Own (Meets c) = AllByRecursion (OwnTelling c) (told_at (Meets c))
  Own (Does w (TellsNote session asked note)) = Q session note.subscription × P session asked
  Own (Does w b) = Unit {0}

  -- what a Publish may meet: one of the session in which its request came
  abbrev MayAsk : Stage → ℕ → Type 0
  MayAsk w n = AreRising w.table.subscriptions × ((s : Subscription) → subscription_at n w.table.subscriptions ≡ Some s → (k : ℕ) × (s.session ≡ Some k) × Came (P k) w.round.asked)

  abbrev May : Option ℕ → Call → Stage → List ℕ → Type 0
  May whose asked w ns = asked ≡ call.Publish → (whose ≡ None) × AllByRecursion (MayAsk w) ns

  came_left : (k : ℕ) (before after : Option PublishCall) → IsLeft before after → Came (P k) before → Came (P k) after
  came_left k before after (inl none) h x e = absurd (cc)
  came_left k before after (inr same) h x e = h x (sym same ∙ e)

  ask_keeps : (w : Stage) (n m : ℕ) → MayAsk w n → MayAsk w m → MayAsk (met w n call.Publish) m
  unfolding met
  ask_keeps w n m a b = by (subscription_at n w.table.subscriptions) refl
    where
      by : (o : Option Subscription) → subscription_at n w.table.subscriptions ≡ o → MayAsk (met_by w n call.Publish o) m
      by None found = b
      by (Some s) found = (back_rises n d.subscription w.table.subscriptions a.0, λ u at_m. after u (back_is n s d.subscription w.table.subscriptions a.0 found m u at_m))
        where
          d : Scene
          d = fired (scene_at w n call.Publish s)

          stays : d.subscription.session ≡ s.session
          stays = fired_stays (scene_at w n call.Publish s) (publish_stays s.state (answers (vars_in (scene_at w n call.Publish s))))

          gone : IsLeft w.round.asked d.round.asked
          gone = fired_left (scene_at w n call.Publish s) (publish_takes_none s.state (answers (vars_in (scene_at w n call.Publish s))))

          after : (u : Subscription) → IsPutBack n m d.subscription u ⊎ ((m ≢ n) × (subscription_at m w.table.subscriptions ≡ Some u)) → (k : ℕ) × (u.session ≡ Some k) × Came (P k) d.round.asked
          after u (inl p) = let x = a.1 s found in (x.0, ap (λ (t : Subscription). t.session) p.is ∙ stays ∙ x.1, came_left x.0 w.round.asked d.round.asked gone x.2)
          after u (inr p) = let x = b.1 u p.1 in (x.0, x.1, came_left x.0 w.round.asked d.round.asked gone x.2)

  rest_may : (w : Stage) (n : ℕ) (ns : List ℕ) → MayAsk w n → AllByRecursion (MayAsk w) ns → AllByRecursion (MayAsk (met w n call.Publish)) ns
  rest_may w n ns one all = all_so (MayAsk w) (MayAsk (met w n call.Publish)) (λ m may. ask_keeps w n m one may) ns all

  rest_of_may : (whose : Option ℕ) (asked : Call) (w : Stage) (n : ℕ) (ns : List ℕ) → May whose asked w (n ∷ ns) → May whose asked (met_if (is_meant whose w n) w n asked) ns
  rest_of_may None asked w n ns h = λ is. let x = (h is).1 in (refl, subst (λ (c : Call). AllByRecursion (MayAsk (met w n c)) ns) (sym is) (rest_may w n ns x.0 x.1))
  rest_of_may (Some session) asked w n ns h = λ is. let clash : Some session ≡ None = (h is).0 in absurd (cc)

  -- ---- one subscription

  -- whether its row uses the request that came
  abbrev Uses : Stage → ℕ → Call → Subscription → Type 0
  Uses w n asked s = uses_asked (row_of (scene_at w n asked s)) ≡ true → (k : ℕ) × (s.session ≡ Some k) × Came (P k) w.round.asked

  uses : (w : Stage) (n : ℕ) (asked : Call) (s : Subscription) → (asked ≡ call.Publish → MayAsk w n) → subscription_at n w.table.subscriptions ≡ Some s → Uses w n asked s
  uses w n asked s may found e = by (is_publish asked) refl
    where
      by : (b : Bool) → is_publish asked ≡ b → (k : ℕ) × (s.session ≡ Some k) × Came (P k) w.round.asked
      by true is = (may (it asked is)).1 s found
      by false is = absurd (false≢true (sym (others_use_none asked (before_by asked (scene_at w n asked s)) is) ∙ e))

  came_to_it : (w : Stage) (s : Subscription) (j : ℕ) → s.session ≡ Some j → (k : ℕ) × (s.session ≡ Some k) × Came (P k) w.round.asked → Came (P j) w.round.asked
  came_to_it w s j is y = let same : y.0 ≡ j = some_same (sym y.1 ∙ is) in subst (λ (i : ℕ). Came (P i) w.round.asked) same y.2

  -- the requests of one that is of no session are none
  scene_own : (w : Stage) (n : ℕ) (asked : Call) (s : Subscription) (o : Option ℕ) → s.session ≡ o → AreOwn w.table.sessions → Uses w n asked s → Own (Meets (scene_at w n asked s))
  scene_own w n asked s None is h u =
      all_so (Of (λ (q : PublishCall). ⊥)) (OwnTelling (scene_at w n asked s)) (λ t e. absurd e) (told_at (Meets (scene_at w n asked s)))
      (row_tells (λ (q : PublishCall). ⊥) (row_of (scene_at w n asked s)) (scene_at w n asked s) (subst (λ (p : Option ℕ). AllByRecursion (λ (q : PublishCall). ⊥) (part_of p w.table.sessions).requests) (sym is) tt)
      (λ e2 x e. let y = u e2 in let clash : None ≡ Some y.0 = sym is ∙ y.1 in absurd (cc)))
  scene_own w n asked s (Some j) is h u =
      all_so (Of (P j)) (OwnTelling (scene_at w n asked s)) (λ t q. (j, is, q)) (told_at (Meets (scene_at w n asked s)))
      (row_tells (P j) (row_of (scene_at w n asked s)) (scene_at w n asked s) (subst (λ (p : Option ℕ). AllByRecursion (P j) (part_of p w.table.sessions).requests) (sym is) (own_part j w.table.sessions h).0)
      (λ e. came_to_it w s j is (u e)))

  part_own : (w : Stage) (n : ℕ) (asked : Call) (s : Subscription) (j : ℕ) → s.session ≡ Some j → AreOwn w.table.sessions → Uses w n asked s → Q j n → IsOwn (j, (fired (scene_at w n asked s)).part)
  part_own w n asked s j is h u its = (
    fired_waits (P j) c was.0 (λ e. came_to_it w s j is (u e)),
    by (fired_notes c),
  )
    where
      c : Scene
      c = scene_at w n asked s

      was : IsOwn (j, (scene_at w n asked s).part)
      was = subst (λ (p : Option ℕ). IsOwn (j, part_of p w.table.sessions)) (sym is) (own_part j w.table.sessions h)

      by : ((fired c).part.notes ≡ c.part.notes) ⊎ (((fired c).part.notes ≡ c.part.notes ++ note_left c ∷ []) × (is_closed (fired c).subscription ≡ true) × (messages_of (row_of c) c ≡ [])) → AllByRecursion (IsNote j) (fired c).part.notes
      by (inl same) = subst (AllByRecursion (IsNote j)) (sym same) was.1
      by (inr (more, closed, none)) = subst (AllByRecursion (IsNote j)) (sym more) (all_append (IsNote j) c.part.notes (note_left c ∷ []) was.1 (its, tt))

  sessions_own : (w : Stage) (n : ℕ) (asked : Call) (s : Subscription) (o : Option ℕ) → s.session ≡ o → AreOwn w.table.sessions → Uses w n asked s → ((k : ℕ) → s.session ≡ Some k → Q k n) →
      AreOwn (set_part o w.table.sessions (fired (scene_at w n asked s)).part)
  sessions_own w n asked s None is h u its = h
  sessions_own w n asked s (Some j) is h u its = entries_set IsOwn j (fired (scene_at w n asked s)).part w.table.sessions (part_own w n asked s j is h u (its j is)) h

  -- ---- any call

  abbrev KeepsOwn : Stage → List Encounter → Stage → Type 0
  KeepsOwn w es v = AllByRecursion IsGood es → AreOwn w.table.sessions → AllByRecursion Own es × AreOwn v.table.sessions

  beside_own : (w : Stage) (b : Beside) → Fits w b → IsGood (Does w b) → AreOwn w.table.sessions → Own (Does w b) × AreOwn (beside w b).table.sessions
  unfolding all_refused
  beside_own w (TellsNote session asked note) fits good h = ((first_is (IsNote session) (part_at session w.table.sessions).notes note (own_part session w.table.sessions h).1 fits, good), h)
  beside_own w (Acknowledges session acks) fits good h =
      let part = part_at session w.table.sessions in
      let own = own_part session w.table.sessions h in
      (tt, entries_set IsOwn session (part_without_note part) w.table.sessions (own.0, all_dropped (IsNote session) part.notes own.1) h)
  beside_own w (Refuses session code) fits good h = (tt, entries_set IsOwn session (without_requests (part_at session w.table.sessions)) w.table.sessions (tt, (own_part session w.table.sessions h).1) h)
  beside_own w (Leaves session) fits good h = (tt, entries_removed IsOwn (is_at (nat_cmp session)) w.table.sessions h)
  beside_own w (LeavesAll code) fits good h = (tt, tt)
  beside_own w (Loses conn) fits good h = (tt, own_conn conn w.table.sessions h)
  beside_own w b fits good h = (tt, h)

  one_own : (whose : Option ℕ) (asked : Call) (w : Stage) (n : ℕ) (ns : List ℕ) (s : Subscription) → May whose asked w (n ∷ ns) → subscription_at n w.table.subscriptions ≡ Some s →
      KeepsOwn w (Meets (scene_at w n asked s) ∷ []) (stage_after n s (fired (scene_at w n asked s)) w.table)
  one_own whose asked w n ns s given found good h =
      let u = uses w n asked s (λ is. (given is).1.0) found in
      ((scene_own w n asked s s.session refl h u, tt), sessions_own w n asked s s.session refl h u good.0)

  next_own : (w v u : Stage) (es fs : List Encounter) → KeepsOwn w es v → KeepsOwn v fs u → KeepsOwn w (es ++ fs) u
  next_own w v u es fs p q good h =
      let goods = all_split IsGood es fs good in
      let x = p goods.0 h in
      let y = q goods.1 x.1 in
      (all_append Own es fs x.0 y.0, y.1)

  follows_own : Follows May KeepsOwn
  follows_own = record {
    rest = rest_of_may;
    none = λ w good h. (tt, h);
    next = next_own;
    passes = λ w n asked good h. (tt, h);
    aside = λ w b fits good h. let x = beside_own w b fits good.0 h in ((x.0, tt), x.1);
    one = λ whose asked w n ns s plain given meant found. one_own whose asked w n ns s given found;
  }

  own_refused : (session number : ℕ) (settings : Settings) (enabled : Bool) (w : Stage) → KeepsOwn w (Meets (made_scene true number session settings enabled w) ∷ []) (refused_one session settings enabled w)
  unfolding refused_one
  own_refused session number settings enabled w good h = ((tt, tt), h)

  own_added : (session number : ℕ) (settings : Settings) (enabled : Bool) (w : Stage) → KeepsOwn w (Meets (made_scene false number session settings enabled w) ∷ []) (added session number settings enabled w)
  unfolding added fired row_done
  own_added session number settings enabled w good h =
      ((tt, tt), entries_inserted IsOwn session _ (remove_entry (is_at (nat_cmp session)) w.table.sessions) (own_part session w.table.sessions h) (entries_removed IsOwn (is_at (nat_cmp session)) w.table.sessions h))

  own_making : FollowsMaking KeepsOwn
  own_making = record { refuses = own_refused; adds = λ r clock session settings enabled room. own_added session (r.subscriptions.made + 1) settings enabled (stage_of r.subscriptions r.items clock) }

  -- a request has what is asked, whatever became of its acknowledgements
  abbrev Asks : Move → Type 0
  Asks (Move.Publish clock session asked acks) = (results : List Status) → P session (with_results asked results)
  Asks m = Unit {0}

  publish_begins : (r : Ran) (clock : Moment) (session : ℕ) (asked : PublishCall) (acks : List SubscriptionAcknowledgement) → IsRunKept r → Asks (Move.Publish clock session asked acks) →
      let v = ready session acks (stage_of r.subscriptions r.items clock) in
      AllByRecursion (MayAsk (asked_by v (with_results asked (acknowledged_all session r.subscriptions.table.subscriptions acks).results))) (asked_numbers v (part_at session v.table.sessions).numbers)
  publish_begins r clock session asked acks kept good =
      let w = stage_of r.subscriptions r.items clock in
      let v = ready session acks w in
      let results = (acknowledged_all session r.subscriptions.table.subscriptions acks).results in
      let u = asked_by v (with_results asked results) in
      let ns = (part_at session v.table.sessions).numbers in
      let k = ready_kept session r.subscriptions.made r.rows acks w (enter r clock kept) in
      asked_are (MayAsk u) v ns
      (listed_are (MayAsk u) ns (λ m listed. (
        k.calm.listed.subscriptions,
        λ s found. (session, its_own v.table session m s (k.own session (λ e. absurd (cc))) listed found, λ x e. subst (P session) (some_same e) (good results)),
      )))

  begins : (r : Ran) (m : Move) → IsRunKept r → Asks m → Begins May r m
  begins r (Move.Publish clock session asked acks) kept good = λ none is. (refl, publish_begins r clock session asked acks kept good)
  begins r (Move.Create clock session settings enabled) kept good = tt
  begins r (Move.Gone conn) kept good = tt
  begins r (Move.Show changed) kept good = tt
  begins r (Move.Items clock number asked) kept good = λ vars is. absurd (cc)
  begins r m kept good = λ is. absurd (cc)

  abbrev IsTold : Beside → Type 0
  IsTold (TellsNote session asked note) = P session asked
  IsTold b = Unit {0}

  told_good : (m : Move) → Asks m → DoneBy IsTold m
  told_good (Move.Publish clock session asked acks) good = (tt, λ results. ((λ note. good results), tt, tt))
  told_good (Move.EndSession clock session deleting) good = (tt, tt)
  told_good m good = tt

  -- those that are met are of the sessions that they have
  abbrev IsMet : Encounter → Type 0
  IsMet (Meets c) = (k : ℕ) → c.subscription.session ≡ Some k → Q k c.round.own
  IsMet (Does w b) = Unit {0}

  both_good : (e : Encounter) → OnBeside IsTold e → IsMet e → IsGood e
  both_good (Meets c) told of = of
  both_good (Does w (TellsNote session asked note)) told of = told
  both_good (Does w b) told of = tt

  abbrev AllMet : Ran → List Move → Type 0
  AllMet r [] = Unit {0}
  AllMet r (m ∷ ms) = AllByRecursion IsMet (encounters r m) × AllMet (moved r m) ms

  abbrev AllOwn : Ran → List Move → Type 0
  AllOwn r [] = Unit {0}
  AllOwn r (m ∷ ms) = AllByRecursion Own (encounters r m) × AllOwn (moved r m) ms

  one_call : (r : Ran) (m : Move) → IsRunKept r → Asks m → AllByRecursion IsMet (encounters r m) → AreOwn r.subscriptions.table.sessions → AllByRecursion Own (encounters r m) × AreOwn (moved r m).subscriptions.table.sessions
  one_call r m kept good of h =
      let goods = both_so (OnBeside IsTold) IsMet IsGood both_good (encounters r m) (each_done IsTold r m (told_good m good)) of in
      let x = walked May KeepsOwn follows_own own_making r m (begins r m kept good) goods h in
      (x.0, subst (λ (t : TableState). AreOwn t.sessions) (sym (left_is r m).table) x.1)

  all_own : (ms : List Move) (r : Ran) → IsRunKept r → AllByRecursion Asks ms → AllMet r ms → AreOwn r.subscriptions.table.sessions → AllOwn r ms
  all_own [] r kept good of h = tt
  all_own (m ∷ ms) r kept good of h = let x = one_call r m kept good.0 of.0 h in (x.0, all_own ms (moved r m) (one_run r m kept) good.1 of.1 x.1)

  last_own : (ms : List Move) (r : Ran) (m : Move) → AllOwn r (ms ++ m ∷ []) → AllByRecursion Own (encounters (fold moved r ms) m)
  last_own [] r m h = h.0
  last_own (n ∷ ms) r m h = last_own ms (moved r n) m h.1

-- ---- what came, and what was met

abbrev CameAmong : List Move → ℕ → PublishCall → Type 0
CameAmong moves session asked = CameIn session asked.origin moves

abbrev WasAmong : List Encounter → ℕ → ℕ → Type 0
WasAmong es session number = WasOf session number es

came_here : (front : List Move) (clock : Moment) (session : ℕ) (asked : PublishCall) (acks : List SubscriptionAcknowledgement) (rest : List Move) (x : PublishCall) → asked.origin ≡ x.origin → CameIn session x.origin (front ++ Move.Publish clock session asked acks ∷ rest)
came_here [] clock session asked acks rest x is = inl (refl, is)
came_here (m ∷ front) clock session asked acks rest x is = by m (came_here front clock session asked acks rest x is)
  where
    by : (m : Move) → CameIn session x.origin (front ++ Move.Publish clock session asked acks ∷ rest) → CameIn session x.origin (m ∷ front ++ Move.Publish clock session asked acks ∷ rest)
    by (Move.Publish c own y a) h = inr h
    by m h = h

good_here : (Q : ℕ → ℕ → Type 0) (front rest : List Move) (m : Move) → Asks (CameAmong (front ++ m ∷ rest)) Q m
good_here Q front rest (Move.Publish clock session asked acks) = λ results. came_here front clock session asked acks rest (with_results asked results) refl
good_here Q front rest m = tt

all_good : (Q : ℕ → ℕ → Type 0) (front ms : List Move) (whole : List Move) → whole ≡ front ++ ms → AllByRecursion (Asks (CameAmong whole) Q) ms
all_good Q front [] whole is = tt
all_good Q front (m ∷ ms) whole is =
    (subst (λ (all : List Move). Asks (CameAmong all) Q m) (sym is) (good_here Q front ms m), all_good Q (front ++ m ∷ []) ms whole (is ∙ sym (append_assoc front (m ∷ []) ms)))

was_here : (front : List Encounter) (c : Scene) (rest : List Encounter) (k : ℕ) → c.subscription.session ≡ Some k → WasOf k c.round.own (front ++ Meets c ∷ rest)
was_here [] c rest k is = inl (refl, is)
was_here (Meets d ∷ front) c rest k is = inr (was_here front c rest k is)
was_here (Does w b ∷ front) c rest k is = was_here front c rest k is

met_here : (P : ℕ → PublishCall → Type 0) (front es rest : List Encounter) (whole : List Encounter) → whole ≡ front ++ (es ++ rest) → AllByRecursion (IsMet P (WasAmong whole)) es
met_here P front [] rest whole is = tt
met_here P front (Meets c ∷ es) rest whole is =
    ((λ k own. subst (λ (all : List Encounter). WasOf k c.round.own all) (sym is) (was_here front c (es ++ rest) k own)), met_here P (front ++ Meets c ∷ []) es rest whole (is ∙ sym (append_assoc front (Meets c ∷ []) (es ++ rest))))
met_here P front (Does w b ∷ es) rest whole is = (tt, met_here P (front ++ Does w b ∷ []) es rest whole (is ∙ sym (append_assoc front (Does w b ∷ []) (es ++ rest))))

all_met : (P : ℕ → PublishCall → Type 0) (front : List Encounter) (ms : List Move) (r : Ran) (whole : List Encounter) → whole ≡ front ++ of_run encounters r ms → AllMet P (WasAmong whole) r ms
all_met P front [] r whole is = tt
all_met P front (m ∷ ms) r whole is =
    (met_here P front (encounters r m) (of_run encounters (moved r m) ms) whole is, all_met P (front ++ encounters r m) ms (moved r m) whole (is ∙ sym (append_assoc front (encounters r m) (of_run encounters (moved r m) ms))))

answers_so : (moves : List Move) (es : List Encounter) (e : Encounter) → Own (CameAmong moves) (WasAmong es) e → AnswersItsOwn es moves e
answers_so moves es (Meets c) h = h
answers_so moves es (Does w (TellsNote session asked note)) h = h
answers_so moves es (Does w b) h = tt

pub answers_are_own : (config : Configuration) (moves : List Move) (m : Move) → AreOwnAnswers config moves m
answers_are_own config moves m =
    let all = moves ++ m ∷ [] in
    let es = all_encounters config all in
    let own = all_own (CameAmong all) (WasAmong es) all (start config) (started_run config) (all_good (WasAmong es) [] all all refl) (all_met (CameAmong all) [] all (start config) es refl) tt in
    all_so (Own (CameAmong all) (WasAmong es)) (AnswersItsOwn es all) (answers_so all es) (encounters (run config moves) m) (last_own (CameAmong all) (WasAmong es) moves (start config) m own)
