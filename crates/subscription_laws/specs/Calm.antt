-- What holds of the subscriptions of a server after any calls.
use Rattle.std.specs.Prelude.{◌≡◌, ◌<◌, ◌≤◌, ◌+◌, ⊤, ℕ, Bool, true, List, [], ◌∷◌, Some}
use Rattle.std.specs.BTreeMap.{is_at}
use Rattle.std.specs.List.{AllByRecursion, list_any}
use Rattle.std.specs.Ordering.{nat_cmp}
use Rattle.ua_types.specs.Configuration.{Configuration}
use Rattle.server_messages.specs.declared.fired.Fired.{Fired}
use Rattle.ua_state_table.specs.Doing.{Standing}
use Rattle.ua_state_table.specs.Steady.{IsSteady}
use Rattle.ua_monitored_items.specs.Items.{ItemsState}
use Rattle.ua_monitored_items.specs.Moves.{Move, run}
use Rattle.ua_subscriptions.specs.declared.subscription.Subscription.{Subscription}
use Rattle.subscription_laws.specs.Histories.{counts_at, life_at, AreLawful}
use Rattle.subscription_laws.specs.Standings.{standing}
use Rattle.ua_subscriptions.specs.Ranks.{is_waiting}
use Rattle.ua_subscriptions.specs.Subscriptions.{vars_of}
use Rattle.ua_subscriptions.specs.Tables.{TableState, part_at, part_of, subscription_at}

-- ---- numbers

-- the numbers are above that one
abbrev pub AreAbove : {X : Type 0} → ℕ → List (ℕ × X) → Type 0
AreAbove number es = AllByRecursion (λ e. number < e.0) es

-- the numbers rise
abbrev pub AreRising : {X : Type 0} → List (ℕ × X) → Type 0
AreRising [] = ⊤
AreRising (e ∷ es) = AreAbove e.0 es × AreRising es

abbrev pub AreNumbersAbove : ℕ → List ℕ → Type 0
AreNumbersAbove number ns = AllByRecursion (λ n. number < n) ns

abbrev pub AreNumbersRising : List ℕ → Type 0
AreNumbersRising [] = ⊤
AreNumbersRising (n ∷ ns) = AreNumbersAbove n ns × AreNumbersRising ns

abbrev pub is_listed : ℕ → List ℕ → Bool
is_listed number numbers = list_any (is_at (nat_cmp number)) numbers

-- the numbers rise, and the session of a subscription lists its number
pub record IsListed (t : TableState) : Type 0 where
  pub subscriptions : AreRising t.subscriptions
  pub sessions : AreRising t.sessions
  pub listed : (number : ℕ) (s : Subscription) (session : ℕ) → subscription_at number t.subscriptions ≡ Some s → s.session ≡ Some session →
      is_listed number (part_at session t.sessions).numbers ≡ true

-- and each number that a session lists is that of a live subscription of its own
abbrev pub ListsItsOwn : TableState → ℕ → Type 0
ListsItsOwn t session = (number : ℕ) → is_listed number (part_at session t.sessions).numbers ≡ true →
    (s : Subscription) × (subscription_at number t.subscriptions ≡ Some s) × (s.session ≡ Some session)

-- what sessions list: numbers that were given, and rise
pub record AreLists (made : ℕ) (t : TableState) : Type 0 where
  pub within : (number session : ℕ) → is_listed number (part_at session t.sessions).numbers ≡ true → number ≤ made
  pub rising : (session : ℕ) → AreNumbersRising (part_at session t.sessions).numbers

-- ---- steady subscriptions

-- how a subscription stands after these rows
abbrev pub standing_at : TableState → ItemsState → List Fired → ℕ → Subscription → Standing
standing_at t items rows number s = standing (vars_of s (part_of s.session t.sessions) items number) s (counts_at number rows)

-- each live subscription is steady, which is also that it doesn't wait beside a request of its session
abbrev pub AreSteady : TableState → ItemsState → List Fired → Type 0
AreSteady t items rows = (number : ℕ) (s : Subscription) → subscription_at number t.subscriptions ≡ Some s → IsSteady (standing_at t items rows number s)

-- the life counter of each was last set to its lifetime count
abbrev pub LivesAreSet : TableState → List Fired → Type 0
LivesAreSet t rows = (number : ℕ) (s : Subscription) → subscription_at number t.subscriptions ≡ Some s → life_at number rows ≡ s.lifetime_count

-- a session with a subscription that waits has no queued request
abbrev pub NoneWaitsBesideARequest : TableState → Type 0
NoneWaitsBesideARequest t = (number session : ℕ) (s : Subscription) → subscription_at number t.subscriptions ≡ Some s → s.session ≡ Some session →
    is_waiting s ≡ true → (part_at session t.sessions).requests ≡ []

-- the life counter of each subscription was last set to its lifetime count, and lacks of it one for each timer since
abbrev pub LivesCountTimers : List Fired → TableState → Type 0
LivesCountTimers rows t = (number : ℕ) (s : Subscription) → subscription_at number t.subscriptions ≡ Some s →
    (life_at number rows ≡ s.lifetime_count) × (s.lifetime + (counts_at number rows).started ≡ s.lifetime_count)

-- the timers of each subscription that found a request, since it sent a message, or one of them found none, or its counts
-- were set, are fewer than its keep-alive count
abbrev pub NoKeepAliveIsSkipped : List Fired → TableState → Type 0
NoKeepAliveIsSkipped rows t = (number : ℕ) (s : Subscription) → subscription_at number t.subscriptions ≡ Some s →
    (counts_at number rows).answerable < s.keep_alive_count

-- items that some calls of theirs left
pub record AreReached (items : ItemsState) : Type 0 where
  pub config : Configuration
  pub moves : List Move
  pub left : items ≡ (run config moves).state

-- what every row keeps, where these rows have fired so far
pub record IsCalm (rows : List Fired) (t : TableState) (items : ItemsState) : Type 0 where
  pub listed : IsListed t
  pub steady : AreSteady t items rows
  pub lives : LivesAreSet t rows
  pub lawful : AreLawful rows
  pub reached : AreReached items
