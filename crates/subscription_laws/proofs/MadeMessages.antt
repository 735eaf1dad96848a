-- Messages are numbered without a gap, and what is kept is what was made.
use Rattle.std.proofs.Common.{◌≡◌, Bool, true, false, List, [], ◌∷◌, map, drop, refl, cond, ap, ◌∙◌, subst}
use Rattle.ua_state_table.specs.declared.row.RowId.{RowId}
use Rattle.ua_state_table.specs.declared.row.RowId.TheVariants.{C2, N2, N3, L1, K2, G5, G6, G8, G10}
use Rattle.ua_subscriptions.specs.declared.publish_call.PublishCall.{PublishCall}
use Rattle.subscription_laws.specs.Actions.{rest_notings, notings}
use Rattle.subscription_laws.specs.Numbering.{note_made, AreNumbered, last_number, all_kept, IsMade, messages_of, begins_or_ends}
use Rattle.ua_subscriptions.specs.Scenes.{Scene, Noting, sending, noting, note_sent, rest_sent, notes_sent, with_asked, kept_with, dequeued, started, life_reset, row_done}
use Rattle.subscription_laws.proofs.Folds.{alone}
use Rattle.subscription_laws.proofs.Owners.{Frame, note_frame}

note_bound : (n : Noting) → (note_sent n).round.bounds.kept ≡ n.round.bounds.kept
note_bound n = ap (λ (f : Frame). f.bounds.kept) (note_frame n)

note_number : (n : Noting) → (note_sent n).subscription.number ≡ (note_made n).number
unfolding note_sent
note_number n = refl

note_kept : (n : Noting) → (note_sent n).subscription.kept ≡ kept_with n.round.bounds.kept n.subscription.kept (note_made n)
unfolding note_sent
note_kept n = refl

-- what is sent after a message
abbrev Follows : List PublishCall → Noting → Type 0
Follows calls n = IsMade n.round.bounds.kept n.subscription (rest_sent calls n).noting.subscription (map note_made (rest_notings calls n))

follows_if : (more : Bool) (call : PublishCall) (calls : List PublishCall) (n : Noting) → Follows calls (note_sent (with_asked n call)) →
    IsMade n.round.bounds.kept n.subscription (cond more (rest_sent calls (note_sent (with_asked n call))) (sending n (call ∷ calls))).noting.subscription (map note_made (cond more (with_asked n call ∷ rest_notings calls (note_sent (with_asked n call))) []))
follows_if false call calls n h = record { numbered = tt; number = refl; kept = refl }
follows_if true call calls n h =
    let m = with_asked n call in
    record {
      numbered = (refl, subst (λ k. AreNumbered k (map note_made (rest_notings calls (note_sent m)))) (note_number m) h.numbered);
      number = h.number ∙ ap (λ k. last_number k (map note_made (rest_notings calls (note_sent m)))) (note_number m);
      kept = h.kept ∙ ap (λ b. all_kept b (note_sent m).subscription.kept (map note_made (rest_notings calls (note_sent m)))) (note_bound m) ∙ ap (λ ks. all_kept n.round.bounds.kept ks (map note_made (rest_notings calls (note_sent m)))) (note_kept m);
    }

follows : (calls : List PublishCall) (n : Noting) → Follows calls n
follows [] n = record { numbered = tt; number = refl; kept = refl }
follows (call ∷ calls) n = follows_if n.subscription.more call calls n (follows calls (note_sent (with_asked n call)))

notes_follow : (calls : List PublishCall) (n : Noting) → IsMade n.round.bounds.kept n.subscription (notes_sent calls n).noting.subscription (map note_made (notings calls n))
unfolding notes_sent
notes_follow calls n =
    let h = follows calls (note_sent n) in
    record {
      numbered = (refl, subst (λ k. AreNumbered k (map note_made (rest_notings calls (note_sent n)))) (note_number n) h.numbered);
      number = h.number ∙ ap (λ k. last_number k (map note_made (rest_notings calls (note_sent n)))) (note_number n);
      kept = h.kept ∙ ap (λ b. all_kept b (note_sent n).subscription.kept (map note_made (rest_notings calls (note_sent n)))) (note_bound n) ∙ ap (λ ks. all_kept n.round.bounds.kept ks (map note_made (rest_notings calls (note_sent n)))) (note_kept n);
    }

abbrev Makes : RowId → Scene → Type 0
Makes r c = IsMade c.round.bounds.kept c.subscription (row_done r c).subscription (messages_of r c)

makes_N2 : (c : Scene) → Makes N2 c
unfolding row_done
makes_N2 c =
    let h = notes_follow c.part.requests (noting c.round (life_reset c.subscription) c.items) in
    alone (IsMade c.round.bounds.kept c.subscription (row_done N2 c).subscription) (map note_made (notings c.part.requests (noting c.round (life_reset c.subscription) c.items))) (record { numbered = h.numbered; number = h.number; kept = h.kept })

makes_N3 : (c : Scene) → Makes N3 c
unfolding row_done
makes_N3 c =
    let h = notes_follow (drop 1 c.part.requests) (noting (dequeued c.round c.part).round (started c.round (life_reset c.subscription)) c.items) in
    alone (IsMade c.round.bounds.kept c.subscription (row_done N3 c).subscription) (map note_made (notings (drop 1 c.part.requests) (noting (dequeued c.round c.part).round (started c.round (life_reset c.subscription)) c.items))) (record { numbered = h.numbered; number = h.number; kept = h.kept })

pub row_makes : (r : RowId) (c : Scene) → begins_or_ends r ≡ false → Makes r c
unfolding row_done
row_makes N2 c h = makes_N2 c
row_makes N3 c h = makes_N3 c
row_makes L1 c h = makes_N2 c
row_makes K2 c h = makes_N3 c
row_makes C2 c h = absurd (cc)
row_makes G5 c h = absurd (cc)
row_makes G6 c h = absurd (cc)
row_makes G8 c h = absurd (cc)
row_makes G10 c h = absurd (cc)
row_makes r c h = record { numbered = tt; number = refl; kept = refl }
