-- What a request comes to, and what all services share.
use Rattle.std.specs.Prelude.{◌≡◌, ⊤, ℕ, Bool, true, false, List, [], ◌∷◌, ◌++◌, Result, Ok, Err}
use Rattle.std.specs.List.{list_any}
use Rattle.ua_types.specs.declared.moment.Moment.{Moment}
use Rattle.ua_types.specs.declared.node_id.NodeId.{NodeId}
use Rattle.ua_types.specs.declared.refusal.Refusal.{Refusal}
use Rattle.ua_types.specs.declared.refusal.Refusal.TheVariants as refusals
use Rattle.ua_types.specs.declared.status.Status.{Status}
use Rattle.ua_types.specs.declared.status.TheConstants.Status as status
use Rattle.ua_binary.specs.declared.fault.TakeFault.{TakeFault}
use Rattle.ua_messages.specs.ServiceFaults.{fault_body}
use Rattle.server_messages.specs.declared.fired.Fired.{Fired}
use Rattle.server_messages.specs.Halts.{refusal_of}
use Rattle.server_messages.specs.declared.halt.Halt.{Halt}
use Rattle.server_messages.specs.declared.halt.Halt.TheVariants.{Memory, Exhausted}
use Rattle.server_messages.specs.declared.reply.Reply.{Reply}
use Rattle.server_messages.specs.declared.served.Served.{Served}
use Rattle.server_messages.specs.declared.setting.Setting.{Setting}
use Rattle.server_messages.specs.declared.stored.Stored.{Stored}
use Rattle.ua_services.specs.ServicesState.{Services}
use Rattle.ua_services.specs.declared.caller.Caller.{Caller}

-- What is said of a service beside its replies: a row of the subscriptions' state table fired, a store has to keep a value, or a
-- serial of 64 bits has passed its last value
pub data Occurrence : Type 0 where
  Fire : Fired → Occurrence
  Store : Stored → Occurrence
  Spent : Occurrence

-- what is kept after it, the replies, what occurred, and whether the one reply is a fault, and nothing else was done
pub record Serving : Type 0 where
  pub state : Services
  pub replies : List Reply
  pub occurrences : List Occurrence
  pub is_refused : Bool

abbrev pub reply_of : Caller → List ℕ → Reply
reply_of caller body = record { origin = caller.origin; body = body }

-- a request that is answered at once, and changes nothing
abbrev pub answered_at_once : Services → Caller → List ℕ → Serving
answered_at_once state caller body = record { state = state; replies = reply_of caller body ∷ []; occurrences = []; is_refused = false }

abbrev pub faulted : Services → Caller → Status → Moment → Serving
faulted state caller code clock = record (answered_at_once state caller (fault_body caller.origin.handle code clock)) { is_refused = true }

-- every service, which is told the token in its request's header: a request whose fields can't be read is answered by a fault
abbrev pub served_by : {A : Type 0} → (Setting → Caller → NodeId → A → Services → Serving) → Setting → Caller → NodeId → Services → Result A TakeFault → Serving
served_by meaning setting caller token state (Ok request) = meaning setting caller token request state
served_by meaning setting caller token state (Err fault) = faulted state caller status.BAD_DECODING_ERROR setting.clock

-- the refusal that a status tells, or for which the server halts
abbrev pub refusal_by : Result Status Halt → Refusal
refusal_by (Ok code) = refusals.Service code
refusal_by (Err halt) = refusal_of halt

-- ---- what the code gives of it

abbrev pub rows_of : List Occurrence → List Fired
rows_of [] = []
rows_of (Fire fired ∷ occurrences) = fired ∷ rows_of occurrences
rows_of (Store stored ∷ occurrences) = rows_of occurrences
rows_of (Spent ∷ occurrences) = rows_of occurrences

abbrev pub stored_of : List Occurrence → List Stored
stored_of [] = []
stored_of (Fire fired ∷ occurrences) = stored_of occurrences
stored_of (Store stored ∷ occurrences) = stored ∷ stored_of occurrences
stored_of (Spent ∷ occurrences) = stored_of occurrences

abbrev pub is_spent : Occurrence → Bool
is_spent (Fire fired) = false
is_spent (Store stored) = false
is_spent Spent = true

-- replies and rows, and nothing for a store
abbrev pub served : List Reply → List Fired → Served
served replies rows = record { replies = replies; rows = rows; stored = [] }

-- one reply, and no rows
abbrev pub replied : Reply → Served
replied reply = served (reply ∷ []) []

-- one reply, before what else was served
abbrev pub reply_before : Reply → Served → Served
reply_before reply others = record others { replies = reply ∷ others.replies }

-- what was served before, and then more
abbrev pub joined : Served → Served → Served
joined before more = record { replies = before.replies ++ more.replies; rows = before.rows ++ more.rows; stored = before.stored ++ more.stored }

-- what is kept, what is given, and whether a serial has passed its last value
pub record Given : Type 0 where
  pub state : Services
  pub served : Served
  pub spends : Bool

-- what the code gives has spent none
abbrev pub given : Services → Served → Given
given state served = record { state = state; served = served; spends = false }

abbrev pub given_of : Serving → Given
given_of s = record {
  state = s.state;
  served = record { replies = s.replies; rows = rows_of s.occurrences; stored = stored_of s.occurrences };
  spends = list_any is_spent s.occurrences;
}

-- A call does what is said of it, and no serial is said to be spent; unless memory ran out, or one is
abbrev pub Serves : Result Served Halt → Services → Serving → Type 0
Serves (Ok served) new said = given new served ≡ given_of said
Serves (Err Memory) new said = ⊤
Serves (Err Exhausted) new said = list_any is_spent said.occurrences ≡ true

-- A service does what is said of it, or its request is refused with the status that is said, and nothing else was done. Want of
-- memory is answered to requests that aren't refused, and to no other
abbrev pub Judges : Setting → Caller → Result Served Refusal → Services → Serving → Type 0
Judges setting caller (Ok served) new said = given new served ≡ given_of said
Judges setting caller (Err (refusals.Service code)) new said = said ≡ faulted new caller code setting.clock
Judges setting caller (Err refusals.Memory) new said = said.is_refused ≡ false
Judges setting caller (Err refusals.Exhausted) new said = list_any is_spent said.occurrences ≡ true
