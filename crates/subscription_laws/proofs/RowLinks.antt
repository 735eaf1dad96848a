-- What a row does to a subscription is what the state table sees of it.
use Rattle.std.proofs.Common.{◌≡◌, ◌&&◌, ◌||◌, Bool, true, false, List, [], ◌∷◌, ◌++◌, drop, nat_le, length, Option, Some, None, refl, sym, ap, ◌∙◌}
use Rattle.std.proofs.lemmas.Bool.{and_from}
use Rattle.std.specs.Option.{is_some}
use Rattle.ua_state_table.specs.Doing.{Standing, after}
use Rattle.ua_state_table.specs.Laws.{with_queued}
use Rattle.ua_state_table.specs.declared.state.State.TheVariants.{Normal}
use Rattle.ua_state_table.specs.declared.row.RowId.{RowId}
use Rattle.ua_state_table.specs.declared.row.RowId.TheVariants.{C2, N1, N2, N3, N4, K1, K3}
use Rattle.ua_monitored_items.specs.Items.{is_available}
use Rattle.ua_subscriptions.specs.declared.publish_call.PublishCall.{PublishCall}
use Rattle.ua_subscriptions.specs.declared.session_part.SessionSubscriptions.{SessionSubscriptions}
use Rattle.ua_subscriptions.specs.declared.subscription.Subscription.{Subscription}
use Rattle.ua_subscriptions.specs.declared.round.Round.{Round}
use Rattle.ua_subscriptions.specs.Scenes.{Scene, Noting, noting, note_sent, rest_sent, notes_sent, with_asked, Queueing, enqueued, enqueued_by, dequeued, started, life_reset, row_done}
use Rattle.subscription_laws.specs.Standings.{Counts, standing_in, circumstances, counts_of, IsAsked}
use Rattle.ua_subscriptions.specs.Subscriptions.{is_any}
use Rattle.ua_subscriptions.proofs.Choosing.{either}
use Rattle.subscription_laws.proofs.Owners.{rest_keeps}

-- how a subscription stands after a row is how the table says
abbrev pub Links : RowId → Scene → Scene → Type 0
Links r c d = (counts : Counts) → let s = after (circumstances r c d) r (standing_in c.round.own c counts) in standing_in c.round.own d (counts_of s) ≡ s

-- ---- a request that was taken out

-- what is queued after was queued before
and_of : (b q r : Bool) → (r ≡ true → q ≡ true) → (b && r) ≡ ((b && q) && (b && r))
and_of false q r h = refl
and_of true true r h = refl
and_of true false false h = refl
and_of true false true h = sym (h refl)

any_dropped : (calls : List PublishCall) → is_any (drop 1 calls) ≡ true → is_any calls ≡ true
any_dropped [] h = h
any_dropped (call ∷ calls) h = refl

pub link_N4 : (c : Scene) → Links N4 c (row_done N4 c)
unfolding row_done
link_N4 c counts =
    ap (with_queued (standing_in c.round.own (row_done N4 c) (record { started = 1; answerable = 0 })))
    (and_of (is_some c.subscription.session) (is_any c.part.requests) (is_any (drop 1 c.part.requests)) (any_dropped c.part.requests))

pub link_K3 : (c : Scene) → Links K3 c (row_done K3 c)
unfolding row_done
link_K3 c counts =
    ap (with_queued (standing_in c.round.own (row_done K3 c) (record { started = 1; answerable = 0 })))
    (and_of (is_some c.subscription.session) (is_any c.part.requests) (is_any (drop 1 c.part.requests)) (any_dropped c.part.requests))

-- ---- messages that were sent

-- what no message changes
abbrev fixed : Subscription → Subscription
fixed s = record s { more = false; message_count = 0; number = 0; kept = [] }

note_fixed : (n : Noting) → fixed (note_sent n).subscription ≡ fixed n.subscription
unfolding note_sent
note_fixed n = refl

rest_fixed : (calls : List PublishCall) (n : Noting) → fixed (rest_sent calls n).noting.subscription ≡ fixed n.subscription
rest_fixed calls n = rest_keeps (λ (m : Noting). fixed m.subscription ≡ fixed n.subscription) (λ m call h. note_fixed (with_asked m call) ∙ h) calls n refl

pub notes_fixed : (calls : List PublishCall) (n : Noting) → fixed (notes_sent calls n).noting.subscription ≡ fixed n.subscription
unfolding notes_sent
notes_fixed calls n = rest_fixed calls (note_sent n) ∙ note_fixed n

rest_any : (calls : List PublishCall) (n : Noting) → is_any (rest_sent calls n).requests ≡ true → is_any calls ≡ true
rest_any [] n h = h
rest_any (call ∷ calls) n h = refl

notes_any : (calls : List PublishCall) (n : Noting) → is_any (notes_sent calls n).requests ≡ true → is_any calls ≡ true
unfolding notes_sent
notes_any calls n h = rest_any calls (note_sent n) h

-- how it stands after notifications were sent
abbrev sent_standing : Bool → Bool → Bool → Counts → Subscription → Standing
sent_standing waits available more counts s = record {
  vars = record { state = Normal; enabled = s.enabled; queued = is_some s.session && waits; available = available; more = more; sent = true; keep_alive = s.keep_alive; lifetime = s.lifetime };
  keep_alive_count = s.keep_alive_count;
  lifetime_count = s.lifetime_count;
  started = counts.started;
  answerable = counts.answerable;
}

-- the requests before, those that are left, and the subscription between
sent_link : (calls : List PublishCall) (n : Noting) (more : Bool) (available : Bool) (waited : Bool) (counts : Counts) → (is_any (notes_sent calls n).requests ≡ true → waited ≡ true) →
    let left = notes_sent calls n in
    sent_standing (is_any left.requests) available more counts left.noting.subscription
    ≡ with_queued (sent_standing (is_any left.requests) available more counts n.subscription) ((is_some n.subscription.session && waited) && (is_some left.noting.subscription.session && is_any left.requests))
sent_link calls n more available waited counts before =
    let left = notes_sent calls n in
    let same : fixed left.noting.subscription ≡ fixed n.subscription = notes_fixed calls n in
    ap (λ s. sent_standing (is_any left.requests) available more counts s) same
    ∙ ap (with_queued (sent_standing (is_any left.requests) available more counts n.subscription)) (and_of (is_some n.subscription.session) waited (is_any left.requests) before
    ∙ ap (λ s. (is_some n.subscription.session && waited) && (is_some s.session && is_any left.requests)) (sym same))

pub link_N2 : (c : Scene) → Links N2 c (row_done N2 c)
unfolding row_done
link_N2 c counts =
    let n = noting c.round (life_reset c.subscription) c.items in
    let left = notes_sent c.part.requests n in
    sent_link c.part.requests n left.noting.subscription.more (is_available left.noting.items c.round.own) (is_any c.part.requests) (record { started = 0; answerable = 0 }) (notes_any c.part.requests n)

any_sent_dropped : (calls : List PublishCall) (n : Noting) → is_any (notes_sent (drop 1 calls) n).requests ≡ true → is_any calls ≡ true
any_sent_dropped calls n h = any_dropped calls (notes_any (drop 1 calls) n h)

and_again : (q r : Bool) → (q && r) ≡ ((q && r) && r)
and_again true true = refl
and_again true false = refl
and_again false r = refl

-- where a request was taken out before, too
sent_link_again : (calls : List PublishCall) (n : Noting) (more : Bool) (available : Bool) (waited : Bool) (counts : Counts) → (is_any (notes_sent calls n).requests ≡ true → waited ≡ true) →
    let left = notes_sent calls n in
    sent_standing (is_any left.requests) available more counts left.noting.subscription
    ≡ with_queued (sent_standing (is_any left.requests) available more counts n.subscription) (((is_some n.subscription.session && waited) && (is_some left.noting.subscription.session && is_any left.requests)) && (is_some left.noting.subscription.session && is_any left.requests))
sent_link_again calls n more available waited counts before =
    let left = notes_sent calls n in
    sent_link calls n more available waited counts before
    ∙ ap (with_queued (sent_standing (is_any left.requests) available more counts n.subscription)) (and_again (is_some n.subscription.session && waited) (is_some left.noting.subscription.session && is_any left.requests))

pub link_N3 : (c : Scene) → Links N3 c (row_done N3 c)
unfolding row_done
link_N3 c counts =
    let n = noting (dequeued c.round c.part).round (started c.round (life_reset c.subscription)) c.items in
    let left = notes_sent (drop 1 c.part.requests) n in
    sent_link_again (drop 1 c.part.requests) n left.noting.subscription.more (is_available left.noting.items c.round.own) (is_any c.part.requests) (record { started = 1; answerable = 0 }) (any_sent_dropped c.part.requests n)

-- ---- a request that is queued

any_more : (calls : List PublishCall) (call : PublishCall) → is_any (calls ++ call ∷ []) ≡ true
any_more [] call = refl
any_more (c ∷ calls) call = refl

enqueued_any_by : (asked : Option PublishCall) (round : Round) (part : SessionSubscriptions) → (is_some asked || is_any part.requests) ≡ true → is_any (enqueued_by asked round part).part.requests ≡ true
enqueued_any_by None round part h = h
enqueued_any_by (Some call) round part h = either (λ (q : Queueing). is_any q.part.requests ≡ true) (nat_le round.bounds.publish_queue (length part.requests)) _ _ (any_more (drop 1 part.requests) call) (any_more part.requests call)

pub enqueued_any : (c : Scene) → (is_some c.round.asked || is_any c.part.requests) ≡ true → is_any (enqueued c.round c.part).part.requests ≡ true
unfolding enqueued
enqueued_any c h = enqueued_any_by c.round.asked c.round c.part h

pub link_N1 : (c : Scene) → IsAsked c → Links N1 c (row_done N1 c)
unfolding row_done
link_N1 c is counts = ap (with_queued (standing_in c.round.own (row_done N1 c) counts)) (and_from _ _ is.owned (enqueued_any c is.asked))

pub link_K1 : (c : Scene) → IsAsked c → Links K1 c (row_done K1 c)
unfolding row_done
link_K1 c is counts = ap (with_queued (standing_in c.round.own (row_done K1 c) counts)) (and_from _ _ is.owned (enqueued_any c is.asked))

pub link_C2 : (c : Scene) → Links C2 c (row_done C2 c)
unfolding row_done
link_C2 c counts = refl
