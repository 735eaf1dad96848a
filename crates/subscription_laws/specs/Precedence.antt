-- Which of two subscriptions comes first, where both wait or both are due (IEC 62541-4, 5.13: the priority of a subscription).
use Rattle.std.specs.Prelude.{◌≡◌, ◌≢◌, ℕ, true, List, [], ◌∷◌, map, Some, None}
use Rattle.std.specs.Ordering.{nat_cmp}
use Rattle.std.specs.declared.cmp.Ordering.{Ordering}
use Rattle.std.specs.declared.cmp.Ordering.TheVariants.{Less, Equal, Greater}
use Rattle.ua_types.specs.declared.moment.Moment.{Moment}
use Rattle.ua_subscription_messages.specs.declared.publishing.SubscriptionAcknowledgement.{SubscriptionAcknowledgement}
use Rattle.ua_subscriptions.specs.declared.publish_call.PublishCall.{PublishCall}
use Rattle.ua_subscriptions.specs.declared.ranks.Rank.{Rank}
use Rattle.ua_subscriptions.specs.declared.subscription.Subscription.{Subscription}
use Rattle.ua_subscriptions.specs.Publishing.{note_of}
use Rattle.ua_subscriptions.specs.Ranks.{rank_of, is_waiting, is_due}
use Rattle.ua_subscriptions.specs.Tables.{subscription_at}
use Rattle.subscription_laws.specs.Concern.{subscription_of, concerned}
use Rattle.subscription_laws.specs.Runs.{Move, Ran}
use Rattle.subscription_laws.specs.Tellings.{Telling, moved_told}

-- where the first order sees no difference, the second decides
abbrev pub and_then : Ordering → Ordering → Ordering
and_then Less second = Less
and_then Equal second = second
and_then Greater second = Greater

-- the highest priority, among equals the least recent message, and among those the least number
abbrev pub precedence : Rank → Rank → Ordering
precedence a b = and_then (nat_cmp b.priority.0 a.priority.0) (and_then (nat_cmp a.message_count b.message_count) (nat_cmp a.number b.number))

-- of the subscriptions that are such, that of a number is the best: it is one of them, and comes before each other
pub record IsBest (Such : ℕ → Subscription → Type 0) (subscriptions : List (ℕ × Subscription)) (number : ℕ) : Type 0 where
  pub best : Subscription
  pub found : subscription_at number subscriptions ≡ Some best
  pub such : Such number best
  pub before : (other : ℕ) (s : Subscription) → subscription_at other subscriptions ≡ Some s → Such other s → other ≢ number → precedence (rank_of number best) (rank_of other s) ≡ Less

-- these are all that are such, and no other: first the best, then the best of the rest, until none is left
abbrev pub AreAllBestFirst : (ℕ → Subscription → Type 0) → List (ℕ × Subscription) → List ℕ → Type 0
AreAllBestFirst Such subscriptions [] = (number : ℕ) (s : Subscription) → subscription_at number subscriptions ≡ Some s → Such number s → ⊥
AreAllBestFirst Such subscriptions (n ∷ ns) = IsBest Such subscriptions n × AreAllBestFirst (λ m s. Such m s × (m ≢ n)) subscriptions ns

-- one of a session waits for a request
abbrev pub WaitsIn : (session number : ℕ) → Subscription → Type 0
WaitsIn session number s = (s.session ≡ Some session) × (is_waiting s ≡ true)

-- the time of one has come
abbrev pub IsDueAt : Moment → (number : ℕ) → Subscription → Type 0
IsDueAt clock number s = is_due clock s ≡ true

-- the first of these answers is given to a request
pub record IsAnswered (asked : PublishCall) (told : List Telling) : Type 0 where
  pub answer : Telling
  pub more : List Telling
  pub first : told ≡ answer ∷ more
  pub its : answer.call.origin ≡ asked.origin

-- a Publish request comes to the best of the subscriptions of its session that wait, and to no other; and that one answers it
pub record IsGivenToTheBest (r : Ran) (clock : Moment) (session : ℕ) (asked : PublishCall) (acks : List SubscriptionAcknowledgement) : Type 0 where
  pub number : ℕ
  pub is_best : IsBest (WaitsIn session) r.subscriptions.table.subscriptions number
  pub alone : map subscription_of (concerned r (Move.Publish clock session asked acks)) ≡ number ∷ []
  pub answered : IsAnswered asked (moved_told r (Move.Publish clock session asked acks))

-- so it is where any of them waits, and no note of a time-out is the answer
abbrev pub ComesToTheBest : Ran → Moment → ℕ → PublishCall → List SubscriptionAcknowledgement → Type 0
ComesToTheBest r clock session asked acks =
    (number : ℕ) (s : Subscription) → note_of session r.subscriptions.table.sessions ≡ None → subscription_at number r.subscriptions.table.subscriptions ≡ Some s → WaitsIn session number s →
    IsGivenToTheBest r clock session asked acks

-- time comes to all subscriptions that are due, the best first, and to no other
abbrev pub ComesBestFirst : Ran → Moment → Type 0
ComesBestFirst r clock = AreAllBestFirst (IsDueAt clock) r.subscriptions.table.subscriptions (map subscription_of (concerned r (Move.Timers clock)))
