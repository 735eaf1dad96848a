-- The subscriptions of a server, and what each call leaves.
use Rattle.std.specs.Prelude.{◌≡◌, ⊤, ℕ, ◌+◌, ◌-◌, ◌^◌, ◌||◌, Bool, true, false, nat_le, [], length, Option, Some, None, Result, Ok, Err, if◌then◌else◌}
use Rattle.ua_types.specs.Configuration.{Configuration}
use Rattle.ua_types.specs.declared.moment.Moment.{Moment}
use Rattle.ua_types.specs.declared.status.Status.{Status}
use Rattle.ua_types.specs.declared.status.TheConstants.Status as status
use Rattle.server_messages.specs.declared.halt.Halt.{Halt}
use Rattle.server_messages.specs.declared.halt.Halt.TheVariants.{Memory, Exhausted}
use Rattle.ua_monitored_items.specs.Items.{ItemsState}
use Rattle.ua_subscriptions.specs.declared.answered.Answered.{Answered}
use Rattle.ua_subscriptions.specs.declared.call.Call.TheVariants.{Timer}
use Rattle.ua_subscriptions.specs.declared.settings.Bounds.{Bounds}
use Rattle.ua_subscriptions.specs.declared.settings.Settings.{Settings}
use Rattle.ua_subscriptions.specs.declared.subscriptions.Created.{Created}
use Rattle.ua_subscriptions.specs.declared.round.Round.{Round}
use Rattle.ua_subscriptions.specs.Making.{revised_of, refused_one, added}
use Rattle.ua_subscriptions.specs.Named.{Outcome, outcome}
use Rattle.ua_subscriptions.specs.Scenes.{is_overspent}
use Rattle.ua_subscriptions.specs.Settings.{bounds_of}
use Rattle.ua_subscriptions.specs.Tables.{TableState, Stage, stage, no_table, part_at}

-- what the server allows; what ended the subscriptions, if anything; the number of the last one that was made; how many
-- messages were sent; the live subscriptions, and what their sessions have of them
pub record SubscriptionsState : Type 0 where
  pub bounds : Bounds
  pub halted : Option Halt
  pub made : ℕ
  pub message_count : ℕ
  pub table : TableState

abbrev pub no_subscriptions : Configuration → SubscriptionsState
no_subscriptions config = record { bounds = bounds_of config; halted = None; made = 0; message_count = 0; table = no_table }

abbrev pub round_of : SubscriptionsState → Moment → Round
round_of s clock = record { bounds = s.bounds; clock = clock; own = 0; call = Timer; asked = None; message_count = s.message_count; replies = []; rows = [] }

-- where a call begins
abbrev pub stage_of : SubscriptionsState → ItemsState → Moment → Stage
stage_of s items clock = stage (round_of s clock) s.table items

-- ---- what a call leaves

-- what is said of a call: its outcome, and what is kept after it
pub record Said (A : Type 0) : Type 0 where
  pub outcome : Outcome A
  pub state : SubscriptionsState

abbrev pub left_by : SubscriptionsState → Stage → SubscriptionsState
left_by s w = record s { message_count = w.round.message_count; table = w.table }

abbrev pub said : {A : Type 0} → SubscriptionsState → Outcome A → Said A
said s o = record { outcome = o; state = left_by s o.stage }

-- a call without an answer of its own
abbrev pub without_answer : SubscriptionsState → Stage → Said Unit
without_answer s w = said s (outcome tt w)

abbrev pub answered_of : {A : Type 0} → Outcome A → Answered A
answered_of o = record { answer = o.answer; replies = o.stage.round.replies; rows = o.stage.round.rows }

-- why a call ends: as an earlier one did; or for want of memory, or since messages can't be counted any more
abbrev pub Halts : Option Halt → Halt → Round → Type 0
Halts (Some before) halt round = halt ≡ before
Halts None Memory round = ⊤
Halts None Exhausted round = is_overspent round ≡ true

-- a call gives and leaves what is said of it, and its messages were counted; or it ends for good
abbrev pub Serves : {A : Type 0} → Result (Answered A) Halt → SubscriptionsState → SubscriptionsState → ItemsState → Said A → Type 0
Serves (Ok x) old new items s = (old.halted ≡ None) × (x ≡ answered_of s.outcome) × (new ≡ s.state) × (items ≡ s.outcome.stage.items) × (is_overspent s.outcome.stage.round ≡ false)
Serves (Err halt) old new items s = (new.halted ≡ Some halt) × Halts old.halted halt s.outcome.stage.round

-- how the code ends a call
pub record Settled (A : Type 0) : Type 0 where
  pub result : Result (Answered A) Halt
  pub state : SubscriptionsState

abbrev pub settled : {A : Type 0} → SubscriptionsState → Round → Result A Halt → Settled A
settled s round (Ok x) = record { result = Ok (record { answer = x; replies = round.replies; rows = round.rows }); state = record s { message_count = round.message_count } }
settled s round (Err halt) = record { result = Err halt; state = record s { halted = Some halt } }

-- ---- CreateSubscription

-- the session has as many as it may have, or the server has, or no number is left
abbrev pub is_full : SubscriptionsState → ℕ → Bool
is_full s session = nat_le s.bounds.subscriptions (length (part_at session s.table.sessions).numbers) || (nat_le s.bounds.subscriptions_in_all (length s.table.subscriptions) || nat_le (2 ^ 32 - 1) s.made)

unfoldable pub refused : ℕ → Settings → Bool → SubscriptionsState → Stage → Said (Result Created Status)
refused session asked enabled s w = said s (outcome (Err status.BAD_TOO_MANY_SUBSCRIPTIONS) (refused_one session asked enabled w))

unfoldable pub created_one : ℕ → Settings → Bool → SubscriptionsState → Stage → Said (Result Created Status)
created_one session asked enabled s w =
    let after = added session (s.made + 1) asked enabled w in
    record { outcome = outcome (Ok (record { number = s.made + 1; revised = revised_of asked })) after; state = record (left_by s after) { made = s.made + 1 } }

unfoldable pub created : ℕ → Settings → Bool → SubscriptionsState → ItemsState → Moment → Said (Result Created Status)
created session asked enabled s items clock =
    if is_full s session then refused session asked enabled s (stage_of s items clock) else created_one session asked enabled s (stage_of s items clock)
