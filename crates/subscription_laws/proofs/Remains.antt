-- What a row leaves alone: the rows that fired before, the numbers of its session's part, whose subscription it is, and the
-- items of others.
use Rattle.std.proofs.Common.{◌≡◌, ◌⊎◌, inl, inr, ℕ, Bool, true, false, List, [], ◌∷◌, drop, nat_le, length, Option, Some, None, refl, ap, ◌∙◌, subst}
use Rattle.std.specs.List.{list_any}
use Rattle.ua_state_table.specs.Doing.{is_enqueueing, enqueues}
use Rattle.ua_state_table.specs.StateTable.{actions_of}
use Rattle.ua_state_table.specs.declared.action.Action.{Action}
use Rattle.ua_state_table.specs.declared.action.Action.TheVariants.{Enqueue, Dequeue, SendNotifications, DeleteItems, LeaveSession}
use Rattle.ua_state_table.specs.declared.row.RowId.{RowId}
use Rattle.ua_monitored_items.specs.Items.{ItemsState, ended}
use Rattle.ua_monitored_items.specs.Moves.{OthersStay}
use Rattle.ua_monitored_items.proofs.Apart.{stays_none, stays_then}
use Rattle.ua_monitored_items.specs.Moves.Move.{End, TakeNotes}
use Rattle.ua_subscriptions.specs.declared.publish_call.PublishCall.{PublishCall}
use Rattle.ua_subscriptions.specs.declared.session_part.SessionSubscriptions.{SessionSubscriptions}
use Rattle.ua_subscriptions.specs.declared.subscription.Subscription.{Subscription}
use Rattle.ua_subscriptions.specs.declared.round.Round.{Round}
use Rattle.subscription_laws.specs.Calm.{AreReached}
use Rattle.ua_subscriptions.specs.Scenes.{Scene, Noting, with_asked, Queueing, enqueued, enqueued_by, note_sent, rest_sent, notes_sent, noting, done, all_done, row_done}
use Rattle.ua_subscriptions.specs.Subscriptions.{is_any}
use Rattle.ua_subscriptions.proofs.Choosing.{either}
use Rattle.subscription_laws.proofs.Availability.{reached_on, reached_stay}
use Rattle.subscription_laws.proofs.Owners.{Frame, done_frame, note_own, rest_keeps, actions_keep}
use Rattle.subscription_laws.proofs.RowLinks.{notes_fixed}

-- ---- the numbers of the session's part

-- all of a part but its requests
abbrev pub without : SessionSubscriptions → SessionSubscriptions
without part = record part { requests = [] }

enqueued_by_without : (asked : Option PublishCall) (round : Round) (part : SessionSubscriptions) → without (enqueued_by asked round part).part ≡ without part
enqueued_by_without None round part = refl
enqueued_by_without (Some call) round part = either (λ (q : Queueing). without q.part ≡ without part) (nat_le round.bounds.publish_queue (length part.requests)) _ _ refl refl

pub enqueued_without : (round : Round) (part : SessionSubscriptions) → without (enqueued round part).part ≡ without part
unfolding enqueued
enqueued_without round part = enqueued_by_without round.asked round part

done_numbers : (c : Scene) (action : Action) → (done c action).part.numbers ≡ c.part.numbers
done_numbers c Enqueue = ap (λ (p : SessionSubscriptions). p.numbers) (enqueued_without c.round c.part)
done_numbers c action = refl

-- ---- whose it is

abbrev pub is_leaving : Action → Bool
is_leaving LeaveSession = true
is_leaving action = false

sent_session : (calls : List PublishCall) (n : Noting) → (notes_sent calls n).noting.subscription.session ≡ n.subscription.session
sent_session calls n = ap (λ (s : Subscription). s.session) (notes_fixed calls n)

done_session : (c : Scene) (action : Action) → is_leaving action ≡ false → (done c action).subscription.session ≡ c.subscription.session
done_session c SendNotifications h = sent_session c.part.requests (noting c.round c.subscription c.items)
done_session c LeaveSession h = absurd (cc)
done_session c action h = refl

-- it is of the same session, or of none
session_or : (c : Scene) (action : Action) → ((done c action).subscription.session ≡ c.subscription.session) ⊎ ((done c action).subscription.session ≡ None)
session_or c LeaveSession = inr refl
session_or c action = inl (done_session c action refl)

-- ---- the items

-- items of a subscription are taken or deleted
pub record AreApart (own : ℕ) (before after : ItemsState) : Type 0 where
  pub reached : AreReached before → AreReached after
  pub stay : AreReached before → OthersStay own before.items after.items

pub apart_none : (own : ℕ) (items : ItemsState) → AreApart own items items
apart_none own items = record { reached = λ r. r; stay = λ r. stays_none own items.items }

pub apart_then : (own : ℕ) (a b c : ItemsState) → AreApart own a b → AreApart own b c → AreApart own a c
apart_then own a b c f g = record {
  reached = λ r. g.reached (f.reached r);
  stay = λ r. stays_then own a.items b.items c.items (f.stay r) (g.stay (f.reached r));
}

note_apart : (n : Noting) → AreApart n.round.own n.items (note_sent n).items
unfolding note_sent
note_apart n = record {
  reached = λ r. reached_on n.items (TakeNotes n.round.own n.subscription.notifications) r;
  stay = λ r. reached_stay n.round.own n.items (TakeNotes n.round.own n.subscription.notifications) refl r;
}

rest_apart : (calls : List PublishCall) (n : Noting) (own : ℕ) → n.round.own ≡ own → AreApart own n.items (rest_sent calls n).noting.items
rest_apart calls n own is =
    (rest_keeps (λ (m : Noting). (m.round.own ≡ own) × AreApart own n.items m.items)
    (λ m call h.
    let next = note_sent (with_asked m call) in
    (note_own (with_asked m call) ∙ h.0, apart_then own n.items m.items next.items h.1 (subst (λ (o : ℕ). AreApart o m.items next.items) h.0 (note_apart (with_asked m call)))))
    calls n (is, apart_none own n.items)).1

notes_apart : (calls : List PublishCall) (n : Noting) → AreApart n.round.own n.items (notes_sent calls n).noting.items
unfolding notes_sent
notes_apart calls n =
    apart_then n.round.own n.items (note_sent n).items (rest_sent calls (note_sent n)).noting.items (note_apart n) (rest_apart calls (note_sent n) n.round.own (note_own n))

end_apart : (items : ItemsState) (own : ℕ) → AreApart own items (ended items own)
end_apart items own = record { reached = λ r. reached_on items (End own) r; stay = λ r. reached_stay own items (End own) refl r }

done_apart : (c : Scene) (action : Action) → AreApart c.round.own c.items (done c action).items
done_apart c SendNotifications = notes_apart c.part.requests (noting c.round c.subscription c.items)
done_apart c DeleteItems = end_apart c.items c.round.own
done_apart c action = apart_none c.round.own c.items

-- ---- requests that wait

dropped_none : (calls : List PublishCall) → is_any calls ≡ false → is_any (drop 1 calls) ≡ false
dropped_none [] h = h
dropped_none (call ∷ calls) h = absurd (cc)

rest_none : (calls : List PublishCall) (n : Noting) → is_any calls ≡ false → is_any (rest_sent calls n).requests ≡ false
rest_none [] n h = h
rest_none (call ∷ calls) n h = absurd (cc)

notes_none : (calls : List PublishCall) (n : Noting) → is_any calls ≡ false → is_any (notes_sent calls n).requests ≡ false
unfolding notes_sent
notes_none calls n h = rest_none calls (note_sent n) h

done_none : (c : Scene) (action : Action) → is_enqueueing action ≡ false → is_any c.part.requests ≡ false → is_any (done c action).part.requests ≡ false
done_none c Enqueue e h = absurd (cc)
done_none c Dequeue e h = dropped_none c.part.requests h
done_none c SendNotifications e h = notes_none c.part.requests (noting c.round c.subscription c.items) h
done_none c action e h = h

-- ---- all actions of a row

pub record Remains (c d : Scene) : Type 0 where
  pub own : d.round.own ≡ c.round.own
  pub rows : d.round.rows ≡ c.round.rows
  pub numbers : d.part.numbers ≡ c.part.numbers
  pub items : AreApart c.round.own c.items d.items

done_remains : (c : Scene) (action : Action) → Remains c (done c action)
done_remains c action = record {
  own = ap (λ (f : Frame). f.own) (done_frame c action);
  rows = ap (λ (f : Frame). f.rows) (done_frame c action);
  numbers = done_numbers c action;
  items = done_apart c action;
}

remains_then : (b c d : Scene) → Remains b c → Remains c d → Remains b d
remains_then b c d f g = record {
  own = g.own ∙ f.own;
  rows = g.rows ∙ f.rows;
  numbers = g.numbers ∙ f.numbers;
  items = apart_then b.round.own b.items c.items d.items f.items (subst (λ (o : ℕ). AreApart o c.items d.items) f.own g.items);
}

all_remains : (actions : List Action) (c : Scene) → Remains c (all_done c actions)
all_remains [] c = record { own = refl; rows = refl; numbers = refl; items = apart_none c.round.own c.items }
all_remains (action ∷ actions) c = remains_then c (done c action) (all_done (done c action) actions) (done_remains c action) (all_remains actions (done c action))

pub row_remains : (r : RowId) (c : Scene) → Remains c (row_done r c)
unfolding row_done
row_remains r c = let h = all_remains (actions_of r) c in record { own = h.own; rows = h.rows; numbers = h.numbers; items = h.items }

-- no row but the two that queue a request brings one
pub row_none : (r : RowId) (c : Scene) → enqueues r ≡ false → is_any c.part.requests ≡ false → is_any (row_done r c).part.requests ≡ false
unfolding row_done
row_none r c e h = actions_keep (λ (d : Scene). is_any d.part.requests ≡ false) is_enqueueing done_none (actions_of r) c e h

-- a row that leaves its session
abbrev pub leaves : RowId → Bool
leaves r = list_any is_leaving (actions_of r)

pub row_session : (r : RowId) (c : Scene) → leaves r ≡ false → (row_done r c).subscription.session ≡ c.subscription.session
unfolding row_done
row_session r c e = actions_keep (λ (d : Scene). d.subscription.session ≡ c.subscription.session) is_leaving (λ d action f h. done_session d action f ∙ h) (actions_of r) c e refl

all_session_or : (actions : List Action) (c : Scene) → ((all_done c actions).subscription.session ≡ c.subscription.session) ⊎ ((all_done c actions).subscription.session ≡ None)
all_session_or [] c = inl refl
all_session_or (action ∷ actions) c = by (session_or c action) (all_session_or actions (done c action))
  where
    by : ((done c action).subscription.session ≡ c.subscription.session) ⊎ ((done c action).subscription.session ≡ None)
        → ((all_done (done c action) actions).subscription.session ≡ (done c action).subscription.session) ⊎ ((all_done (done c action) actions).subscription.session ≡ None)
        → ((all_done (done c action) actions).subscription.session ≡ c.subscription.session) ⊎ ((all_done (done c action) actions).subscription.session ≡ None)
    by (inl e) (inl f) = inl (f ∙ e)
    by (inr e) (inl f) = inr (f ∙ e)
    by e (inr f) = inr f

pub row_session_or : (r : RowId) (c : Scene) → ((row_done r c).subscription.session ≡ c.subscription.session) ⊎ ((row_done r c).subscription.session ≡ None)
unfolding row_done
row_session_or r c = all_session_or (actions_of r) c
