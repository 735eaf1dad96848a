-- What rows answer is told: each answer in its place, the messages that it brings, and the numbers that it has.
use Rattle.std.proofs.Common.{◌≡◌, ℕ, Bool, true, false, cond, List, [], ◌∷◌, ◌++◌, append-nil, append_assoc, map, drop, nat_le, length, Option, Some, None, refl, sym, ap, ◌∙◌, subst}
use Rattle.std.proofs.lemmas.List.{map-append}
use Rattle.std.proofs.lemmas.List.Concat.{flat_map-append}
use Rattle.std.specs.List.{flat_map}
use Rattle.ua_types.specs.declared.status.TheConstants.Status as status
use Rattle.server_messages.specs.declared.reply.Reply.{Reply}
use Rattle.ua_state_table.specs.declared.row.RowId.{RowId}
use Rattle.ua_state_table.specs.declared.row.RowId.TheVariants.{N1, N2, N3, N4, L1, L2, K1, K2, K3}
use Rattle.ua_subscriptions.specs.Firing.{row_of, fired}
use Rattle.ua_subscriptions.specs.Messages.{number_after, keep_alive_message}
use Rattle.ua_subscriptions.specs.Queues.{first_of}
use Rattle.ua_subscriptions.specs.Scenes as scenes
use Rattle.ua_subscriptions.specs.Scenes.{Scene, Noting, noting, sending, note_sent, rest_sent, notes_sent, with_asked, with_refused, Queueing, enqueued, enqueued_by, dequeued, started, life_reset, placed, counted, subscription_noted, message_made, row_done}
use Rattle.ua_subscriptions.specs.declared.messages.KeptMessage.{KeptMessage}
use Rattle.ua_subscriptions.specs.declared.publish_call.PublishCall.{PublishCall}
use Rattle.ua_subscriptions.specs.declared.round.Round.{Round}
use Rattle.ua_subscriptions.specs.declared.session_part.SessionSubscriptions.{SessionSubscriptions}
use Rattle.ua_subscriptions.specs.declared.subscription.Subscription.{Subscription}
use Rattle.subscription_laws.specs.Messaging.{Made, made_of, messages_for, AreAmong, AreItsMessages}
use Rattle.subscription_laws.specs.Actions.{rest_notings, notings}
use Rattle.subscription_laws.specs.Numbering.{note_made, messages_of}
use Rattle.subscription_laws.specs.Tellings.{Telling, answer_of, message_in, messages_in, if_asked, Notifications, KeepAlive, Refused, queued_told, message_told, row_told, AreInSequence}
use Rattle.subscription_laws.proofs.Folds.{alone}
use Rattle.subscription_laws.proofs.RowRequests.{IsGiven}
use Rattle.subscription_laws.proofs.MessageLists.{last_on, more_own, more_kept}
use Rattle.subscription_laws.proofs.Owners.{note_own}

-- ---- answers behind others

sequence_join : (ms : List Made) (xs ys : List Telling) → AreInSequence ms xs → AreInSequence (ms ++ messages_in xs) ys → AreInSequence ms (xs ++ ys)
sequence_join ms [] ys h k = subst (λ (l : List Made). AreInSequence l ys) (append-nil ms) k
sequence_join ms (x ∷ xs) ys h k =
    (h.0, sequence_join (ms ++ message_in x.told) xs ys h.1 (subst (λ (l : List Made). AreInSequence l ys) (sym (append_assoc ms (message_in x.told) (messages_in xs))) k))

-- what was answered since, after these messages: this is told, and it brings those messages
pub record Tells (ms : List Made) (before after : List Reply) (made : List Made) (told : List Telling) : Type 0 where
  pub so : after ≡ before ++ map answer_of told
  pub brings : messages_in told ≡ made
  pub sequence : AreInSequence ms told

pub tells_none : (ms : List Made) (before : List Reply) → Tells ms before before [] []
tells_none ms before = record { so = sym (append-nil before); brings = refl; sequence = tt }

pub tells_then : (ms : List Made) (a b c : List Reply) (ns ks : List Made) (xs ys : List Telling) → Tells ms a b ns xs → Tells (ms ++ ns) b c ks ys → Tells ms a c (ns ++ ks) (xs ++ ys)
tells_then ms a b c ns ks xs ys h k = record {
  so = k.so ∙ ap (λ (rs : List Reply). rs ++ map answer_of ys) h.so ∙ append_assoc a (map answer_of xs) (map answer_of ys) ∙ ap (λ (rs : List Reply). a ++ rs) (sym (map-append answer_of xs ys));
  brings = flat_map-append (λ (t : Telling). message_in t.told) xs ys ∙ ap (λ (l : List Made). l ++ messages_in ys) h.brings ∙ ap (λ (l : List Made). ns ++ l) k.brings;
  sequence = sequence_join ms xs ys h.sequence (subst (λ (l : List Made). AreInSequence (ms ++ l) ys) (sym h.brings) k.sequence);
}

-- ---- messages with notifications

abbrev pub IsAt : ℕ → List Made → Subscription → Type 0
IsAt own ms s = AreItsMessages s (messages_for own ms)

-- one more was made
note_at : (own : ℕ) (ms : List Made) (n : Noting) → IsAt own ms n.subscription → IsAt own (ms ++ made_of own (note_made n ∷ [])) (note_sent n).subscription
unfolding note_sent
note_at own ms n h =
    let m = note_made n in
    subst (AreItsMessages (subscription_noted n.round n.subscription n.items)) (sym (more_own own ms (m ∷ []))) (record {
      last = last_on 0 (messages_for own ms) (m ∷ []);
      kept = more_kept n.round.bounds.kept n.subscription.kept (messages_for own ms) (m ∷ []) h.kept;
    })

note_tells : (ms : List Made) (n : Noting) (asked : PublishCall) → n.round.asked ≡ Some asked → IsAt n.round.own ms n.subscription →
    Tells ms n.round.replies (note_sent n).round.replies (made_of n.round.own (note_made n ∷ [])) (message_told n)
unfolding note_sent
note_tells ms n asked is h =
    let after = subscription_noted n.round n.subscription n.items in
    let m = note_made n in
    subst (λ (o : Option PublishCall). Tells ms n.round.replies (note_sent n).round.replies (made_of n.round.own (m ∷ [])) (if_asked n.round.clock after.kept (Notifications (record { subscription = n.round.own; message = m }) after.more) o)) (sym is) (record {
      so = ap (λ (o : Option PublishCall). (scenes.answered_by o (counted n.round) after after.more (message_made n.round n.subscription n.items)).replies) is;
      brings = refl;
      sequence = (
        (
          ap number_after (sym h.last),
          subst (AreAmong after.kept) (sym (more_own n.round.own ms (m ∷ []))) (more_kept n.round.bounds.kept n.subscription.kept (messages_for n.round.own ms) (m ∷ []) h.kept),
        ),
        tt,
      );
    })

-- each further message answers a request that waited
rest_tells : (calls : List PublishCall) (ms : List Made) (n : Noting) (own : ℕ) → n.round.own ≡ own → IsAt own ms n.subscription →
    Tells ms n.round.replies (rest_sent calls n).noting.round.replies (made_of own (map note_made (rest_notings calls n))) (flat_map message_told (rest_notings calls n))
rest_tells [] ms n own is h = tells_none ms n.round.replies
rest_tells (asked ∷ calls) ms n own is h =
    by n.subscription.more (rest_tells calls (ms ++ made_of own (note_made (with_asked n asked) ∷ [])) next own (note_own (with_asked n asked) ∙ is) (note_at own ms (with_asked n asked) (record { last = h.last; kept = h.kept })))
  where
    next : Noting
    next = note_sent (with_asked n asked)

    one : Tells ms n.round.replies next.round.replies (made_of own (note_made (with_asked n asked) ∷ [])) (message_told (with_asked n asked))
    one =
        subst (λ (k : ℕ). Tells ms n.round.replies next.round.replies (made_of k (note_made (with_asked n asked) ∷ [])) (message_told (with_asked n asked))) is
        (note_tells ms (with_asked n asked) asked refl (subst (λ (k : ℕ). IsAt k ms n.subscription) (sym is) h))

    by : (more : Bool) → Tells (ms ++ made_of own (note_made (with_asked n asked) ∷ [])) next.round.replies (rest_sent calls next).noting.round.replies (made_of own (map note_made (rest_notings calls next))) (flat_map message_told (rest_notings calls next)) →
        (let ns = cond more (with_asked n asked ∷ rest_notings calls next) [] in Tells ms n.round.replies (cond more (rest_sent calls next) (sending n (asked ∷ calls))).noting.round.replies (made_of own (map note_made ns)) (flat_map message_told ns))
    by true k =
        tells_then ms n.round.replies next.round.replies (rest_sent calls next).noting.round.replies (made_of own (note_made (with_asked n asked) ∷ [])) (made_of own (map note_made (rest_notings calls next)))
        (message_told (with_asked n asked)) (flat_map message_told (rest_notings calls next)) one k
    by false k = tells_none ms n.round.replies

notes_tell : (ms : List Made) (calls : List PublishCall) (n : Noting) (asked : PublishCall) → n.round.asked ≡ Some asked → IsAt n.round.own ms n.subscription →
    Tells ms n.round.replies (notes_sent calls n).noting.round.replies (made_of n.round.own (map note_made (notings calls n))) (flat_map message_told (notings calls n))
unfolding notes_sent
notes_tell ms calls n asked is h =
    tells_then ms n.round.replies (note_sent n).round.replies (rest_sent calls (note_sent n)).noting.round.replies (made_of n.round.own (note_made n ∷ [])) (made_of n.round.own (map note_made (rest_notings calls (note_sent n))))
    (message_told n) (flat_map message_told (rest_notings calls (note_sent n)))
    (note_tells ms n asked is h) (rest_tells calls (ms ++ made_of n.round.own (note_made n ∷ [])) (note_sent n) n.round.own (note_own n) (note_at n.round.own ms n h))

-- ---- keep-alives, and requests that are queued

alive_tells : (ms : List Made) (c : Scene) (o : Option PublishCall) (round : Round) (s : Subscription) → round.replies ≡ c.round.replies → round.clock ≡ c.round.clock → round.own ≡ c.round.own → s.kept ≡ c.subscription.kept →
    IsAt c.round.own ms c.subscription → Tells ms c.round.replies (scenes.answered_by o round s false (keep_alive_message (number_after c.subscription.number) c.round.clock)).replies [] (if_asked c.round.clock c.subscription.kept (KeepAlive c.round.own (number_after c.subscription.number)) o)
alive_tells ms c None round s replies clock own kept h = record { so = replies ∙ sym (append-nil c.round.replies); brings = refl; sequence = tt }
alive_tells ms c (Some asked) round s replies clock own kept h =
    record { so = rw (replies, clock, own, kept) refl; brings = refl; sequence = ((ap number_after (sym h.last), h.kept), tt) }

queued_tells : (ms : List Made) (round : Round) (part : SessionSubscriptions) → Tells ms round.replies (enqueued round part).round.replies [] (queued_told round.asked round part)
unfolding enqueued
queued_tells ms round part = by round.asked
  where
    refused : (o : Option PublishCall) → Tells ms round.replies (with_refused (record round { asked = None }) o).replies [] (if_asked round.clock [] (Refused status.BAD_TOO_MANY_PUBLISH_REQUESTS) o)
    refused None = tells_none ms round.replies
    refused (Some asked) = record { so = refl; brings = refl; sequence = (tt, tt) }

    full : (b : Bool) (x y : Queueing) (xs : List Telling) → Tells ms round.replies x.round.replies [] xs → Tells ms round.replies y.round.replies [] [] → Tells ms round.replies (cond b x y).round.replies [] (cond b xs [])
    full true x y xs h k = h
    full false x y xs h k = k

    by : (o : Option PublishCall) → Tells ms round.replies (enqueued_by o round part).round.replies [] (queued_told o round part)
    by None = tells_none ms round.replies
    by (Some asked) = full (nat_le round.bounds.publish_queue (length part.requests)) _ _ _ (refused (first_of part.requests)) (tells_none ms round.replies)

-- ---- a row

-- with nothing behind it
both_alone : (ms : List Made) (before after : List Reply) (own : ℕ) (made : List KeptMessage) (told : List Telling) → Tells ms before after (made_of own made) told → Tells ms before after (made_of own (made ++ [])) (told ++ [])
both_alone ms before after own made told h = alone (λ (ks : List KeptMessage). Tells ms before after (made_of own ks) (told ++ [])) made (alone (Tells ms before after (made_of own made)) told h)

row_tells : (ms : List Made) (r : RowId) (c : Scene) → IsGiven r c → IsAt c.round.own ms c.subscription →
    Tells ms c.round.replies (row_done r c).round.replies (made_of c.round.own (messages_of r c)) (row_told r c)
unfolding row_done
row_tells ms N2 c given h =
    let g = given refl in
    let n = noting c.round (life_reset c.subscription) c.items in
    both_alone ms c.round.replies _ c.round.own (map note_made (notings c.part.requests n)) (flat_map message_told (notings c.part.requests n)) (notes_tell ms c.part.requests n g.0 g.1 (record { last = h.last; kept = h.kept }))
row_tells ms L1 c given h =
    let g = given refl in
    let n = noting c.round (life_reset c.subscription) c.items in
    both_alone ms c.round.replies _ c.round.own (map note_made (notings c.part.requests n)) (flat_map message_told (notings c.part.requests n)) (notes_tell ms c.part.requests n g.0 g.1 (record { last = h.last; kept = h.kept }))
row_tells ms N3 c given h =
    let g = given refl in
    let n = noting (dequeued c.round c.part).round (started c.round (life_reset c.subscription)) c.items in
    both_alone ms c.round.replies _ c.round.own (map note_made (notings (drop 1 c.part.requests) n)) (flat_map message_told (notings (drop 1 c.part.requests) n)) (notes_tell ms (drop 1 c.part.requests) n g.0 g.1 (record { last = h.last; kept = h.kept }))
row_tells ms K2 c given h =
    let g = given refl in
    let n = noting (dequeued c.round c.part).round (started c.round (life_reset c.subscription)) c.items in
    both_alone ms c.round.replies _ c.round.own (map note_made (notings (drop 1 c.part.requests) n)) (flat_map message_told (notings (drop 1 c.part.requests) n)) (notes_tell ms (drop 1 c.part.requests) n g.0 g.1 (record { last = h.last; kept = h.kept }))
row_tells ms N4 c given h = both_alone ms c.round.replies _ c.round.own [] _ (alive_tells ms c (first_of c.part.requests) (counted (dequeued c.round c.part).round) (placed (counted c.round) (started c.round (life_reset c.subscription))) refl refl refl refl h)
row_tells ms K3 c given h = both_alone ms c.round.replies _ c.round.own [] _ (alive_tells ms c (first_of c.part.requests) (counted (dequeued c.round c.part).round) (placed (counted c.round) (started c.round (life_reset c.subscription))) refl refl refl refl h)
row_tells ms L2 c given h = both_alone ms c.round.replies _ c.round.own [] _ (alive_tells ms c c.round.asked (counted c.round) (placed (counted c.round) (life_reset c.subscription)) refl refl refl refl h)
row_tells ms N1 c given h = both_alone ms c.round.replies _ c.round.own [] _ (queued_tells ms c.round c.part)
row_tells ms K1 c given h = both_alone ms c.round.replies _ c.round.own [] _ (queued_tells ms c.round c.part)
row_tells ms r c given h = tells_none ms c.round.replies

pub fired_tells : (ms : List Made) (c : Scene) → IsGiven (row_of c) c → IsAt c.round.own ms c.subscription →
    Tells ms c.round.replies (fired c).round.replies (made_of c.round.own (messages_of (row_of c) c)) (row_told (row_of c) c)
unfolding fired
fired_tells ms c given h = row_tells ms (row_of c) c given h
