-- Requests that name subscriptions of their session.
use Rattle.std.specs.Prelude.{◌≡◌, ⊤, ℕ, Bool, true, false, List, [], ◌∷◌, ◌++◌, map, fold, Option, Some, None, Result, Ok, Err, if◌then◌else◌}
use Rattle.std.specs.BTreeMap.{is_at}
use Rattle.std.specs.Map.{set_value}
use Rattle.std.specs.Ordering.{nat_cmp}
use Rattle.ua_types.specs.declared.status.Status.{Status}
use Rattle.ua_types.specs.declared.status.TheConstants.Status as status
use Rattle.server_messages.specs.declared.halt.Halt.{Halt}
use Rattle.server_messages.specs.declared.halt.Halt.TheVariants.{Memory, Exhausted}
use Rattle.server_messages.specs.declared.reply.Reply.{Reply}
use Rattle.ua_subscriptions.specs.declared.call.Call.{Call}
use Rattle.ua_subscriptions.specs.declared.call.Call.TheVariants.{Delete}
use Rattle.ua_subscriptions.specs.declared.session_part.SessionSubscriptions.{SessionSubscriptions}
use Rattle.ua_subscriptions.specs.declared.subscription.Subscription.{Subscription}
use Rattle.ua_subscriptions.specs.declared.round.Round.{Round}
use Rattle.ua_subscriptions.specs.Answers.{refused_of}
use Rattle.ua_subscriptions.specs.Scenes.{is_overspent}
use Rattle.ua_subscriptions.specs.Subscriptions.{is_of}
use Rattle.ua_subscriptions.specs.Tables.{TableState, Stage, met, part_at, subscription_at}

-- what a call answers, and the stage that it leaves
pub record Outcome (A : Type 0) : Type 0 where
  pub answer : A
  pub stage : Stage

abbrev pub outcome : {A : Type 0} → A → Stage → Outcome A
outcome x w = record { answer = x; stage = w }

-- a call comes to what is said of it, unless memory ran out, or messages can't be counted any more
abbrev pub Comes : {A : Type 0} → Result A Halt → Stage → Outcome A → Type 0
Comes (Ok x) new said = outcome x new ≡ said
Comes (Err Memory) new said = ⊤
Comes (Err Exhausted) new said = is_overspent said.stage.round ≡ true

-- ---- subscriptions that are named

abbrev pub is_own_in : ℕ → Option Subscription → Bool
is_own_in session None = false
is_own_in session (Some s) = is_of s.session session

-- a number is that of a live subscription of a session
abbrev pub is_own : TableState → ℕ → ℕ → Bool
is_own table session number = is_own_in session (subscription_at number table.subscriptions)

-- it comes to the subscription that is named, if it is the session's
unfoldable pub own_met : ℕ → Call → Stage → ℕ → Outcome Status
own_met session call w number =
    if is_own w.table session number then outcome status.GOOD (met w number call) else outcome status.BAD_SUBSCRIPTION_ID_INVALID w

abbrev pub named_one : ℕ → Call → Outcome (List Status) → ℕ → Outcome (List Status)
named_one session call before number =
    let one = own_met session call before.stage number in
    outcome (before.answer ++ one.answer ∷ []) one.stage

-- it comes to each that is named, one after the other
abbrev pub named_all : ℕ → Call → Stage → List ℕ → Outcome (List Status)
named_all session call w numbers = fold (named_one session call) (outcome [] w) numbers

-- ---- requests that wait in vain

abbrev pub with_replies : Round → List Reply → Round
with_replies round replies = record round { replies = round.replies ++ replies }

abbrev pub requests_refused : ℕ → Status → Round → List (ℕ × SessionSubscriptions) → Round
requests_refused session code round sessions = with_replies round (map (refused_of round.clock code) (part_at session sessions).requests)

abbrev pub without_requests : SessionSubscriptions → SessionSubscriptions
without_requests part = record part { requests = [] }

abbrev pub sessions_without_requests : ℕ → List (ℕ × SessionSubscriptions) → List (ℕ × SessionSubscriptions)
sessions_without_requests session sessions = set_value (is_at (nat_cmp session)) sessions (without_requests (part_at session sessions))

-- all requests of a session that wait are answered with a fault
unfoldable pub all_refused : ℕ → Status → Stage → Stage
all_refused session code w =
    let table : TableState = w.table in
    record w {
      round = requests_refused session code w.round table.sessions;
      table = record table { sessions = sessions_without_requests session table.sessions };
    }

-- ---- DeleteSubscriptions

abbrev pub is_none : List ℕ → Bool
is_none [] = true
is_none (number ∷ numbers) = false

abbrev pub has_none : ℕ → TableState → Bool
has_none session table = is_none (part_at session table.sessions).numbers

abbrev pub if_none_left : ℕ → Stage → Stage
if_none_left session w = if has_none session w.table then all_refused session status.BAD_NO_SUBSCRIPTION w else w

-- those that are named go; where the session has none left, the requests that wait are answered
unfoldable pub deleted : ℕ → Stage → List ℕ → Outcome (List Status)
deleted session w numbers =
    let named = named_all session Delete w numbers in
    outcome named.answer (if_none_left session named.stage)
