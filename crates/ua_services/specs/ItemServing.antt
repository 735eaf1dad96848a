-- What the services of monitored items share: each names a subscription of its session.
use Rattle.std.specs.Prelude.{◌≡◌, ℕ, Bool, true, false, List, [], ◌∷◌, Option, Some, None, if◌then◌else◌}
use Rattle.ua_types.specs.declared.refusal.Refusal.{Refusal}
use Rattle.ua_types.specs.declared.refusal.Refusal.TheVariants as refusals
use Rattle.ua_types.specs.declared.status.Status.{Status}
use Rattle.ua_types.specs.declared.status.TheConstants.Status as status
use Rattle.ua_messages.specs.Bodies.{body_encoding}
use Rattle.ua_messages.specs.Headers.{plain_header}
use Rattle.ua_messages.specs.ResultLists.{results_encoding, results_of}
use Rattle.ua_messages.specs.ServiceFaults.{fault_body}
use Rattle.server_messages.specs.declared.setting.Setting.{Setting}
use Rattle.ua_monitored_items.specs.Items.{ItemsState, Served}
use Rattle.ua_state_table.specs.declared.vars.Vars.{Vars}
use Rattle.ua_subscriptions.specs.Named.{is_own}
use Rattle.ua_subscriptions.specs.SubscriptionCalls.{without_answer}
use Rattle.ua_subscriptions.specs.Tables.{met, vars_found}
use Rattle.ua_subscriptions.specs.declared.call.Call.TheVariants.{Items}
use Rattle.ua_services.specs.ServicesState.{Services}
use Rattle.ua_services.specs.Serving.{Serving, reply_of, faulted}
use Rattle.ua_services.specs.SubServing.{called, stage_at}
use Rattle.ua_services.specs.declared.caller.Caller.{Caller}

abbrev pub with_items : Services → ItemsState → Services
with_items state items = record state { items = items }

-- ---- what is done with the items

-- what the items are after a request, its answer, and whether that is a fault
pub record Itemed : Type 0 where
  pub items : ItemsState
  pub body : List ℕ
  pub is_refused : Bool

-- a request that is refused leaves the items as they were
abbrev pub items_refused : Setting → Caller → Services → Status → Itemed
items_refused setting caller state code = record { items = state.items; body = fault_body caller.origin.handle code setting.clock; is_refused = true }

-- one result for each thing, in the order of the request
abbrev pub items_answered : {R : Type 0} → (R → List ℕ) → ℕ → Setting → Caller → Served R → Itemed
items_answered encoding type_id setting caller served = record {
  items = served.state;
  body = body_encoding (results_encoding encoding) type_id (results_of (plain_header caller.origin.handle (record { 0 = 0 }) setting.clock) served.results);
  is_refused = false;
}

-- a request is refused with the status that is said, and the items are as they were; want of memory is answered to good ones alone
abbrev pub Refuses : Setting → Caller → Refusal → Services → Services → Itemed → Type 0
Refuses setting caller (refusals.Service code) old new done = (done ≡ items_refused setting caller old code) × (new ≡ old)
Refuses setting caller refusals.Memory old new done = done.is_refused ≡ false
Refuses setting caller refusals.Exhausted old new done = ⊥

-- ---- and the row that its subscription fires

-- the variables of a subscription, if it is one of the session's
abbrev pub own_vars : ℕ → ℕ → Services → Option Vars
own_vars session number state = if is_own state.subscriptions.table session number then vars_found number state.items state.subscriptions.table else None

-- its subscription fires a row, whatever became of the request
abbrev pub fired_after : Setting → Caller → ℕ → Services → Vars → List ℕ → Serving
fired_after setting caller number state before body =
    called state (λ done. reply_of caller body ∷ []) (without_answer state.subscriptions (met (stage_at setting state) number (Items before)))

abbrev pub items_called_by : Setting → Caller → ℕ → Services → Itemed → Option Vars → Serving
items_called_by setting caller number state done None = faulted state caller status.BAD_SUBSCRIPTION_ID_INVALID setting.clock
items_called_by setting caller number state done (Some before) = fired_after setting caller number (with_items state done.items) before done.body

-- the subscription is looked up first of all
abbrev pub items_called : Setting → Caller → ℕ → ℕ → Services → Itemed → Serving
items_called setting caller session number state done = items_called_by setting caller number state done (own_vars session number state)
