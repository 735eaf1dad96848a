-- Which rows queue a request, and which leave their session, by what comes.
use Rattle.std.proofs.Common.{◌≡◌, ◌≢◌, Bool, true, false, cond, ◌||◌, refl}
use Rattle.std.specs.Prelude.{not}
use Rattle.ua_state_table.specs.Chosen.{Answers, answers, timer_row, publish_row, chosen}
use Rattle.ua_state_table.specs.Doing.{enqueues}
use Rattle.ua_state_table.specs.Events.{fits}
use Rattle.ua_state_table.specs.declared.row.RowId.{RowId}
use Rattle.ua_state_table.specs.declared.row.RowId.TheVariants.{C1, K1, N1, N2, N3, N4, N5, N6, L1, L2, L3, K2, K3, K4, K5, G6}
use Rattle.ua_state_table.specs.declared.state.State.{State}
use Rattle.ua_state_table.specs.declared.state.State.TheVariants.{Closed, Normal, Late, KeepAlive}
use Rattle.ua_state_table.specs.declared.vars.Vars.{Vars}
use Rattle.ua_subscriptions.specs.declared.call.Call.{Call}
use Rattle.ua_subscriptions.specs.declared.call.Call.TheVariants.{Create, Publish, Timer, Republish, Items, SessionEnd}
use Rattle.ua_subscriptions.specs.Calls.{event_of}
use Rattle.ua_state_table.specs.Steady.{waits_in}
use Rattle.ua_subscriptions.proofs.Choosing.{either}
use Rattle.subscription_laws.proofs.Remains.{leaves}

-- a call that comes to live subscriptions, and is no Publish; its items weren't changed before
abbrev pub is_plain : Call → Bool
is_plain (Create full settings enabled) = false
is_plain Publish = false
is_plain (Items before) = false
is_plain call = true

abbrev pub is_create : Call → Bool
is_create (Create full settings enabled) = true
is_create call = false

abbrev pub is_end : Call → Bool
is_end (SessionEnd deleting) = true
is_end call = false

-- what holds of each row that a timer may fire
pub record OfTimers (P : RowId → Type 0) : Type 0 where
  pub n3 : P N3
  pub n4 : P N4
  pub n5 : P N5
  pub n6 : P N6
  pub l3 : P L3
  pub k2 : P K2
  pub k3 : P K3
  pub k4 : P K4
  pub k5 : P K5
  pub g6 : P G6

-- it holds of the row that one fires
of_timer : (P : RowId → Type 0) → OfTimers P → (s : State) (a : Answers) → P (timer_row s a)
of_timer P each Normal a = by a.queued a.enabled_available a.sent
  where
    by : (q ea se : Bool) → P (cond q (cond ea N3 (cond se N6 N4)) (cond (not se || ea) N5 N6))
    by true true se = each.n3
    by true false true = each.n6
    by true false false = each.n4
    by false true true = each.n5
    by false true false = each.n5
    by false false true = each.n6
    by false false false = each.n5
of_timer P each Late a = each.l3
of_timer P each KeepAlive a = by a.queued a.enabled_available a.last_keep
  where
    by : (q ea k1 : Bool) → P (cond q (cond ea K2 (cond k1 K3 K4)) (cond (k1 || ea) K5 K4))
    by true true k1 = each.k2
    by true false true = each.k3
    by true false false = each.k4
    by false true true = each.k5
    by false true false = each.k5
    by false false true = each.k5
    by false false false = each.k4
of_timer P each Closed a = each.g6

-- a test that is false of each of them is false of the row that comes of a timer
pub timer_is_none : (test : RowId → Bool) → OfTimers (λ r. test r ≡ false) → (v : Vars) → test (chosen v (event_of Timer)) ≡ false
timer_is_none test each v =
    either (λ (r : RowId). test r ≡ false) (answers v).last_life G6 (timer_row v.state (answers v)) each.g6 (of_timer (λ r. test r ≡ false) each v.state (answers v))

-- and one that is false of the six rows of a Publish request
pub publish_is_none : (test : RowId → Bool) → test N1 ≡ false → test N2 ≡ false → test L1 ≡ false → test L2 ≡ false → test K1 ≡ false → test C1 ≡ false → (s : State) (a : Answers) → test (publish_row s a) ≡ false
publish_is_none test n1 n2 l1 l2 k1 c1 Normal a = either (λ (r : RowId). test r ≡ false) a.enabled_more N2 N1 n2 n1
publish_is_none test n1 n2 l1 l2 k1 c1 Late a = either (λ (r : RowId). test r ≡ false) a.enabled_available L1 L2 l1 l2
publish_is_none test n1 n2 l1 l2 k1 c1 KeepAlive a = k1
publish_is_none test n1 n2 l1 l2 k1 c1 Closed a = c1

-- no other call but Publish queues a request
pub plain_none : (v : Vars) (call : Call) → is_plain call ≡ true → enqueues (chosen v (event_of call)) ≡ false
plain_none v (Create full settings enabled) e = absurd (cc)
plain_none v Publish e = absurd (cc)
plain_none v (Items before) e = absurd (cc)
plain_none v Timer e = timer_is_none enqueues (record { n3 = refl; n4 = refl; n5 = refl; n6 = refl; l3 = refl; k2 = refl; k3 = refl; k4 = refl; k5 = refl; g6 = refl }) v
plain_none v (Republish true) e = refl
plain_none v (Republish false) e = refl
plain_none v (SessionEnd true) e = refl
plain_none v (SessionEnd false) e = refl
plain_none v call e = refl

-- no other call but the end of its session makes it leave that
pub plain_stays : (v : Vars) (call : Call) → is_plain call ≡ true → is_end call ≡ false → leaves (chosen v (event_of call)) ≡ false
plain_stays v (Create full settings enabled) e f = absurd (cc)
plain_stays v Publish e f = absurd (cc)
plain_stays v (Items before) e f = absurd (cc)
plain_stays v Timer e f = timer_is_none leaves (record { n3 = refl; n4 = refl; n5 = refl; n6 = refl; l3 = refl; k2 = refl; k3 = refl; k4 = refl; k5 = refl; g6 = refl }) v
plain_stays v (Republish true) e f = refl
plain_stays v (Republish false) e f = refl
plain_stays v (SessionEnd deleting) e f = absurd (cc)
plain_stays v call e f = refl

pub publish_stays : (s : State) (a : Answers) → leaves (publish_row s a) ≡ false
publish_stays = publish_is_none leaves refl refl refl refl refl refl

-- one that waits answers a request at once
pub waiting_none : (s : State) (a : Answers) → waits_in s a.enabled_more ≡ true → enqueues (publish_row s a) ≡ false
waiting_none Normal a e = rw e refl
waiting_none Late a e = either (λ (r : RowId). enqueues r ≡ false) a.enabled_available L1 L2 refl refl
waiting_none KeepAlive a e = absurd (cc)
waiting_none Closed a e = absurd (cc)

pub live_fits : (s : State) (call : Call) → is_create call ≡ false → s ≢ Closed → fits s (event_of call) ≡ true
live_fits Closed call e live = absurd (live refl)
live_fits Normal (Create full settings enabled) e live = absurd (cc)
live_fits Late (Create full settings enabled) e live = absurd (cc)
live_fits KeepAlive (Create full settings enabled) e live = absurd (cc)
live_fits Normal call e live = refl
live_fits Late call e live = refl
live_fits KeepAlive call e live = refl

pub plain_creates : (call : Call) → is_plain call ≡ true → is_create call ≡ false
plain_creates (Create full settings enabled) e = absurd (cc)
plain_creates call e = refl
