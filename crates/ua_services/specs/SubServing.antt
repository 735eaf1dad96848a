-- What the services of subscriptions share.
use Rattle.std.specs.Prelude.{ℕ, Bool, true, false, List, [], ◌∷◌, ◌++◌, fold, Option, Some, None, if◌then◌else◌}
use Rattle.ua_monitored_items.specs.Items.{ItemsState}
use Rattle.ua_subscriptions.specs.Ending.{session_ended}
use Rattle.ua_subscriptions.specs.Making.{timed}
use Rattle.ua_subscriptions.specs.Scenes.{is_overspent}
use Rattle.ua_subscriptions.specs.SubscriptionCalls.{SubscriptionsState, Said, without_answer, stage_of}
use Rattle.ua_subscriptions.specs.Tables.{Stage}
use Rattle.ua_subscriptions.specs.declared.round.Round.{Round}
use Rattle.server_messages.specs.declared.fired.Fired.{Fired}
use Rattle.server_messages.specs.declared.halt.Halt.{Halt}
use Rattle.server_messages.specs.declared.reply.Reply.{Reply}
use Rattle.server_messages.specs.declared.setting.Setting.{Setting}
use Rattle.ua_services.specs.ServicesState.{Services}
use Rattle.ua_services.specs.Serving.{Occurrence, Serving}
use Rattle.ua_services.specs.Serving.Occurrence.{Fire, Spent}

abbrev pub with_subscriptions : Services → SubscriptionsState → ItemsState → Services
with_subscriptions state subscriptions items = record state { items = items; subscriptions = subscriptions }

abbrev pub fires : List Fired → List Occurrence
fires [] = []
fires (fired ∷ rows) = Fire fired ∷ fires rows

-- messages can't be counted any more, or couldn't before
abbrev pub is_uncounted : Option Halt → Round → Bool
is_uncounted None round = is_overspent round
is_uncounted (Some halt) round = true

abbrev pub uncounted : Option Halt → Round → List Occurrence
uncounted halted round = if is_uncounted halted round then Spent ∷ [] else []

-- the rows that fired in a round
abbrev pub occurrences_of : Option Halt → Round → List Occurrence
occurrences_of halted round = fires round.rows ++ uncounted halted round

-- what a call of the subscriptions comes to: the reply to its own request, then those to Publish requests
abbrev pub called : {A : Type 0} → Services → (A → List Reply) → Said A → Serving
called state own said = record {
  state = with_subscriptions state said.state said.outcome.stage.items;
  replies = own said.outcome.answer ++ said.outcome.stage.round.replies;
  occurrences = occurrences_of state.subscriptions.halted said.outcome.stage.round;
  is_refused = false;
}

-- where a call of the subscriptions begins
abbrev pub stage_at : Setting → Services → Stage
stage_at setting state = stage_of state.subscriptions state.items setting.clock

abbrev pub no_reply : {A : Type 0} → A → List Reply
no_reply x = []

-- a call that answers Publish requests alone
unfoldable pub called_alone : Services → Stage → Serving
called_alone state w = called state no_reply (without_answer state.subscriptions w)

-- ---- one step of the services behind another

abbrev pub nothing_done : Services → Serving
nothing_done state = record { state = state; replies = []; occurrences = []; is_refused = false }

abbrev pub both : Serving → Serving → Serving
both s t = record { state = t.state; replies = s.replies ++ t.replies; occurrences = s.occurrences ++ t.occurrences; is_refused = false }

abbrev pub and_then : Serving → (Services → Serving) → Serving
and_then s more = both s (more s.state)

-- ---- what is due

-- a session is over: its subscriptions are deleted with it, or left to their lifetime
abbrev pub session_over : Setting → Bool → ℕ → Services → Serving
session_over setting deleting number state = called_alone state (session_ended number deleting (stage_at setting state))

-- one more session has timed out, and its subscriptions are left to their lifetime
unfoldable pub timed_out : Setting → Serving → ℕ → Serving
timed_out setting s number = and_then s (session_over setting false number)

abbrev pub all_timed_out : Setting → Services → List ℕ → Serving
all_timed_out setting state numbers = fold (timed_out setting) (nothing_done state) numbers

-- the timers of the subscriptions that are due
abbrev pub timers_met : Setting → Services → Serving
timers_met setting state = called_alone state (timed (stage_at setting state))
