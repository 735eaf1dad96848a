-- Which subscription comes first (IEC 62541-4, 5.13: the priority of a subscription).
use Rattle.std.specs.Prelude.{ℕ, ◌&&◌, Bool, int_le, List, [], map, fold, Option, Some, None, if◌then◌else◌}
use Rattle.std.specs.BTreeSet.{insert_key}
use Rattle.std.specs.List.{list_any}
use Rattle.std.specs.declared.cmp.Ordering.{Ordering}
use Rattle.ua_state_table.specs.Steady.{waits_in}
use Rattle.ua_types.specs.declared.moment.Moment.{Moment}
use Rattle.ua_subscriptions.specs.contracts.ranks.RankOrd.TheImpl as order
use Rattle.ua_subscriptions.specs.declared.ranks.Rank.{Rank}
use Rattle.ua_subscriptions.specs.declared.subscription.Subscription.{Subscription}
use Rattle.ua_subscriptions.specs.Tables.{subscription_at}

abbrev pub rank_of : ℕ → Subscription → Rank
rank_of number s = record { priority = record { 0 = s.priority }; message_count = s.message_count; number = number }

-- by the highest priority, then by the least recent message, then by the least number
abbrev pub rank_cmp : Rank → Rank → Ordering
rank_cmp = order.ghosts.cmp

abbrev pub number_of : Rank → ℕ
number_of rank = rank.number

-- one rank more, at its place
unfoldable pub with_rank : List Rank → Option Rank → List Rank
with_rank ranks None = ranks
with_rank ranks (Some rank) = insert_key rank_cmp ranks rank

-- ---- those that wait

-- a subscription waits for a request: it is late, or values are left over and wanted
abbrev pub is_waiting : Subscription → Bool
is_waiting s = waits_in s.state (s.enabled && s.more)

unfoldable pub waiting_by : ℕ → Option Subscription → Option Rank
waiting_by number None = None
waiting_by number (Some s) = if is_waiting s then Some (rank_of number s) else None

abbrev pub with_waiting : List (ℕ × Subscription) → List Rank → ℕ → List Rank
with_waiting subscriptions ranks number = with_rank ranks (waiting_by number (subscription_at number subscriptions))

-- those of some subscriptions that wait, in their order
abbrev pub waiting_of : List (ℕ × Subscription) → List ℕ → List Rank
waiting_of subscriptions numbers = fold (with_waiting subscriptions) [] numbers

-- ---- those that are due

abbrev pub is_due : Moment → Subscription → Bool
is_due clock s = int_le s.due.0 clock.0

abbrev pub is_due_at : Moment → ℕ × Subscription → Bool
is_due_at clock e = is_due clock e.1

abbrev pub due_rank : Moment → ℕ × Subscription → Option Rank
due_rank clock e = if is_due clock e.1 then Some (rank_of e.0 e.1) else None

abbrev pub with_due : Moment → List Rank → ℕ × Subscription → List Rank
with_due clock ranks e = with_rank ranks (due_rank clock e)

-- those whose timer is due, in their order
abbrev pub due_of : Moment → List (ℕ × Subscription) → List Rank
due_of clock subscriptions = fold (with_due clock) [] subscriptions

abbrev pub is_any_due : Moment → List (ℕ × Subscription) → Bool
is_any_due clock subscriptions = list_any (is_due_at clock) subscriptions

-- the numbers of those whose timer is due, the best first
abbrev pub due_numbers : Moment → List (ℕ × Subscription) → List ℕ
due_numbers clock subscriptions = map number_of (due_of clock subscriptions)
