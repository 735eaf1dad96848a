-- Messages that are sent one after the other.
use Rattle.std.proofs.Common.{◌≡◌, ◌≤◌, ◌<◌, length, ℕ, ◌+◌, ◌^◌, Bool, true, false, List, [], ◌∷◌, drop, Option, Some, None, refl, arith, cond, sym, ap, ◌∙◌, subst}
use Rattle.ua_subscriptions.specs.declared.publish_call.PublishCall.{PublishCall}
use Rattle.ua_subscriptions.specs.declared.subscription.Subscription.{Subscription}
use Rattle.ua_subscriptions.specs.declared.round.Round.{Round}
use Rattle.ua_subscriptions.specs.Queues.{first_of}
use Rattle.ua_subscriptions.specs.Scenes.{Noting, Sending, sending, with_asked, note_sent, rest_sent, is_overspent, answered_by}

pub answered_place : (asked : Option PublishCall) (round : Round) (s : Subscription) (more : Bool) (message : List ℕ) → (answered_by asked round s more message).message_count ≡ round.message_count
answered_place None round s more message = refl
answered_place (Some call) round s more message = refl

same_some : {a b : PublishCall} → Some a ≡ Some b → b ≡ a
same_some h = cc

-- a message is counted
pub note_place : (n : Noting) → (note_sent n).round.message_count ≡ n.round.message_count + 1
unfolding note_sent
note_place n = answered_place n.round.asked _ _ _ _

rest_place_if : (more : Bool) (call : PublishCall) (calls : List PublishCall) (n : Noting) → n.round.message_count ≤ (rest_sent calls (note_sent (with_asked n call))).noting.round.message_count → n.round.message_count ≤ (cond more (rest_sent calls (note_sent (with_asked n call))) (sending n (call ∷ calls))).noting.round.message_count
rest_place_if true call calls n h = h
rest_place_if false call calls n h = grind arith

-- places only rise
pub rest_place : (calls : List PublishCall) (n : Noting) → n.round.message_count ≤ (rest_sent calls n).noting.round.message_count
rest_place [] n = grind arith
rest_place (call ∷ calls) n = rest_place_if n.subscription.more call calls n (grind (arith, rest_place calls (note_sent (with_asked n call)), note_place (with_asked n call)))

-- a message that can't be counted isn't the last
pub rest_overspent : (calls : List PublishCall) (n : Noting) → n.round.message_count + 1 ≡ 2 ^ 64 → is_overspent (rest_sent calls (note_sent n)).noting.round ≡ true
rest_overspent calls n h = grind (arith, rest_place calls (note_sent n), note_place n, h)

more_if : (more : Bool) (s t : Sending) → more ≡ true → cond more s t ≡ s
more_if true s t h = refl
more_if false s t h = absurd (cc)

no_more_if : (more : Bool) (s t : Sending) → more ≡ false → cond more s t ≡ t
no_more_if false s t h = refl
no_more_if true s t h = absurd (cc)

-- one more request is answered
pub rest_of_more : (calls : List PublishCall) (call : PublishCall) (n : Noting) → n.subscription.more ≡ true → first_of calls ≡ Some call → rest_sent (drop 1 calls) (note_sent (with_asked n call)) ≡ rest_sent calls n
rest_of_more [] call n m h = absurd (cc)
rest_of_more (c ∷ calls) call n m h = ap (λ x. rest_sent calls (note_sent (with_asked n x))) (same_some h) ∙ sym (more_if n.subscription.more _ _ m)

pub rest_of_none : (calls : List PublishCall) (n : Noting) → first_of calls ≡ None → rest_sent calls n ≡ sending n (drop 1 calls)
rest_of_none [] n h = refl
rest_of_none (c ∷ calls) n h = absurd (cc)

pub rest_of_all : (calls : List PublishCall) (n : Noting) → n.subscription.more ≡ false → rest_sent calls n ≡ sending n calls
rest_of_all [] n m = refl
rest_of_all (c ∷ calls) n m = no_more_if n.subscription.more _ _ m

-- the requests that wait are fewer once one is taken out
pub fewer : (calls rest : List PublishCall) (call : PublishCall) → Some call ≡ first_of calls → rest ≡ drop 1 calls → length rest < length calls
fewer [] rest call h e = absurd (cc)
fewer (c ∷ calls) rest call h e = subst (λ xs. length xs < length (c ∷ calls)) (sym e) (grind arith)
