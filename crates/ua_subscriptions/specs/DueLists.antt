-- When the timers of subscriptions are due, in their order.
use Rattle.std.specs.Prelude.{◌≡◌, ℕ, ◌&&◌, Bool, true, false, int_le, List, [], ◌∷◌, fold, Option, Some, None, if◌then◌else◌}
use Rattle.std.specs.List.{list_any}
use Rattle.std.specs.BTreeMap.{is_at}
use Rattle.std.specs.Ordering.{nat_cmp, int_eq}
use Rattle.std.specs.declared.cmp.Ordering.{Ordering}
use Rattle.ua_types.specs.declared.moment.Moment.{Moment}
use Rattle.ua_subscriptions.specs.contracts.due_list.DueOrd.TheImpl as order
use Rattle.ua_subscriptions.specs.declared.due_list.Due.{Due}
use Rattle.ua_subscriptions.specs.declared.ranks.Rank.{Rank}
use Rattle.ua_subscriptions.specs.declared.subscription.Subscription.{Subscription}
use Rattle.ua_subscriptions.specs.Ranks.{rank_of, with_rank, is_due_at}
use Rattle.ua_subscriptions.specs.Tables.{subscription_at}

abbrev pub due_at : Moment → ℕ → Due
due_at moment number = record { moment = moment; number = number }

-- by the moment, then by the number
abbrev pub due_cmp : Due → Due → Ordering
due_cmp = order.ghosts.cmp

-- a timer stands there with this moment
abbrev pub has_due : List Due → Due → Bool
has_due dues q = list_any (is_at (due_cmp q)) dues

-- another moment stands there for a timer
abbrev pub has_moved : ℕ → Moment → Moment → Due → Bool → Bool
has_moved number before after q was = if is_at (due_cmp (due_at after number)) q then true else if is_at (due_cmp (due_at before number)) q then false else was

-- ---- those whose moment has come

abbrev pub is_past : Moment → Due → Bool
is_past clock due = int_le due.moment.0 clock.0

abbrev pub any_past : Moment → List Due → Bool
any_past clock dues = list_any (is_past clock) dues

-- the timer of this number is due
abbrev pub past_at : Moment → List Due → ℕ → Bool
past_at clock dues n = list_any (λ due. is_past clock due && is_at (nat_cmp due.number) n) dues

-- ---- the subscriptions whose timers they are

abbrev pub is_moment : Moment → Option Subscription → Bool
is_moment moment None = false
is_moment moment (Some s) = int_eq s.due.0 moment.0

-- the list has the moment of each subscription's timer, and nothing else
abbrev pub AreListed : List (ℕ × Subscription) → List Due → Type 0
AreListed subscriptions dues = (q : Due) → has_due dues q ≡ is_moment q.moment (subscription_at q.number subscriptions)

-- the numbers of those whose timer is due, rising
abbrev pub rising_due : Moment → List (ℕ × Subscription) → List ℕ
rising_due clock [] = []
rising_due clock (e ∷ es) = if is_due_at clock e then e.0 ∷ rising_due clock es else rising_due clock es

unfoldable pub rank_by : ℕ → Option Subscription → Option Rank
rank_by number None = None
rank_by number (Some s) = Some (rank_of number s)

abbrev pub with_rank_at : List (ℕ × Subscription) → List Rank → ℕ → List Rank
with_rank_at subscriptions ranks number = with_rank ranks (rank_by number (subscription_at number subscriptions))

-- those of some numbers, in the order of their ranks
abbrev pub ranks_at : List (ℕ × Subscription) → List ℕ → List Rank
ranks_at subscriptions numbers = fold (with_rank_at subscriptions) [] numbers
