-- A keep-alive answers one request, with the number that comes next.
use Rattle.std.proofs.Common.{◌≡◌, true, false, [], ◌∷◌, ◌++◌, map, Option, Some, refl, ap}
use Rattle.ua_state_table.specs.declared.row.RowId.{RowId}
use Rattle.ua_state_table.specs.declared.row.RowId.TheVariants.{N4, L2, K3}
use Rattle.ua_subscriptions.specs.declared.publish_call.PublishCall.{PublishCall}
use Rattle.ua_subscriptions.specs.declared.subscription.Subscription.{Subscription}
use Rattle.ua_subscriptions.specs.declared.round.Round.{Round}
use Rattle.ua_subscriptions.specs.Answers.{number_of, published_of}
use Rattle.ua_subscriptions.specs.Messages.{number_after, keep_alive_message}
use Rattle.ua_subscriptions.specs.Queues.{first_of}
use Rattle.ua_subscriptions.specs.Scenes.{Scene, answered_by, counted, placed, dequeued, started, life_reset, row_done}
use Rattle.subscription_laws.specs.Answering.{sends_keep_alive, answering}

-- the one answer more
abbrev Tells : RowId → Scene → PublishCall → Type 0
Tells r c call =
    (row_done r c).round.replies ≡ c.round.replies ++ published_of c.round.clock call c.round.own (map number_of c.subscription.kept) false (keep_alive_message (number_after c.subscription.number) c.round.clock) ∷ []

-- of a round with such a request to answer
told_by : (round : Round) (s : Subscription) (call : PublishCall) (asked : Option PublishCall) → asked ≡ Some call →
    (answered_by asked round s false (keep_alive_message (number_after s.number) round.clock)).replies
    ≡ round.replies ++ published_of round.clock call round.own (map number_of s.kept) false (keep_alive_message (number_after s.number) round.clock) ∷ []
told_by round s call asked is = ap (λ (o : Option PublishCall). (answered_by o round s false (keep_alive_message (number_after s.number) round.clock)).replies) is

tells_N4 : (c : Scene) (call : PublishCall) → first_of c.part.requests ≡ Some call → Tells N4 c call
unfolding row_done
tells_N4 c call is = told_by (counted (dequeued c.round c.part).round) (placed (counted c.round) (started c.round (life_reset c.subscription))) call (first_of c.part.requests) is

tells_K3 : (c : Scene) (call : PublishCall) → first_of c.part.requests ≡ Some call → Tells K3 c call
unfolding row_done
tells_K3 c call is = told_by (counted (dequeued c.round c.part).round) (placed (counted c.round) (started c.round (life_reset c.subscription))) call (first_of c.part.requests) is

tells_L2 : (c : Scene) (call : PublishCall) → c.round.asked ≡ Some call → Tells L2 c call
unfolding row_done
tells_L2 c call is = told_by (counted c.round) (placed (counted c.round) (life_reset c.subscription)) call c.round.asked is

pub keep_alive_told : (r : RowId) (c : Scene) → sends_keep_alive r ≡ true → (call : PublishCall) → answering r c ≡ Some call → Tells r c call
keep_alive_told N4 c sends call is = tells_N4 c call is
keep_alive_told K3 c sends call is = tells_K3 c call is
keep_alive_told L2 c sends call is = tells_L2 c call is
keep_alive_told r c sends call is = absurd (cc)

-- which isn't used up
pub keep_alive_unused : (r : RowId) (c : Scene) → sends_keep_alive r ≡ true → (row_done r c).subscription.number ≡ c.subscription.number
unfolding row_done
keep_alive_unused N4 c sends = refl
keep_alive_unused K3 c sends = refl
keep_alive_unused L2 c sends = refl
keep_alive_unused r c sends = absurd (cc)
