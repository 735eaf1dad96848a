-- A request of one session, and what is of others.
use Rattle.std.specs.Prelude.{◌≡◌, ◌≢◌, ◌⊎◌, ◌<◌, ℕ, Bool, true, false, List, [], Option, Some, Result, Ok, Err, IfOk, IfSome}
use Rattle.std.specs.FinMap.{get}
use Rattle.ua_types.specs.declared.status.Status.{Status}
use Rattle.ua_binary.specs.declared.fault.TakeFault.{TakeFault}
use Rattle.ua_messages.specs.Bodies.{message_id_of}
use Rattle.ua_messages.specs.Requests.{Headed, headed_of, fields_of}
use Rattle.ua_messages.specs.declared.headers.RequestHeader.{RequestHeader}
use Rattle.ua_service_messages.specs.Writing.{write_request_reading}
use Rattle.ua_service_messages.specs.declared.writing.WriteRequest.{WriteRequest}
use Rattle.ua_service_messages.specs.declared.writing.WriteValue.{WriteValue}
use Rattle.ua_read_write.specs.Writing.{write_of}
use Rattle.ua_read_write.specs.declared.writing.Change.{Change}
use Rattle.server_messages.specs.declared.request.Request.{Request}
use Rattle.server_messages.specs.declared.setting.Setting.{Setting}
use Rattle.ua_session.specs.Sessions.{SessionsState, Named, named, find_of}
use Rattle.ua_session.specs.declared.session.Session.{Session}
use Rattle.subscription_laws.specs.Apartness.{OthersStay}
use Rattle.ua_services.specs.Operations.{operations_of}
use Rattle.ua_services.specs.Services.{Service, service_of, serving_of}
use Rattle.ua_services.specs.Write.{sampled}
use Rattle.ua_services.specs.declared.services.Services.{Services}

-- the token in a request's header names this session, or none
abbrev pub NamesOnly : ℕ → Services → Request → Type 0
NamesOnly session state request =
    IfOk (headed_of request.body) (λ (headed : Headed). IfSome (named state.sessions headed.header.authentication_token) (λ (n : Named). n.number ≡ session))

-- each other session that is there stays as it was: the secret of its token, its connection, whether it is activated, its
-- deadline, and its continuation points; and none appears but with a number that wasn't given yet
pub record SessionsStay (session : ℕ) (before after : SessionsState) : Type 0 where
  pub sessions : (other : ℕ) (s : Session) → other ≢ session → get before.sessions other ≡ Some s → get after.sessions other ≡ Some s
  pub points : (other : ℕ) (s : Session) → other ≢ session → get before.sessions other ≡ Some s → get after.points other ≡ get before.points other
  pub none_comes : (other : ℕ) (s : Session) → other ≢ session → get after.sessions other ≡ Some s → (get before.sessions other ≡ Some s) ⊎ (before.made < other)

-- beside that, so do their queued Publish requests and notes of time-outs, and the subscriptions that are of other sessions or
-- of none, with all counters, messages and numbers, and the items of those; and none appears there
pub record LeavesOthers (session : ℕ) (before after : Services) : Type 0 where
  pub sessions : SessionsStay session before.sessions after.sessions
  pub rest : OthersStay session before.subscriptions.table before.items after.subscriptions.table after.items

-- the values that a Write accepts, with their nodes, in the order of its list
abbrev pub accepted_listed : Setting → Services → Result (List WriteValue) Status → List Change
accepted_listed setting state (Ok values) = (write_of setting.clock state.space.nodes values).changed
accepted_listed setting state (Err code) = []

-- none where its session isn't found
abbrev pub accepted_found : Setting → Services → WriteRequest → Result ℕ Status → List Change
accepted_found setting state write (Ok session) = accepted_listed setting state (operations_of setting.config write.nodes_to_write)
accepted_found setting state write (Err code) = []

-- nor where its fields can't be read
abbrev pub accepted_read : Setting → Request → Services → RequestHeader → Result WriteRequest TakeFault → List Change
accepted_read setting request state header (Ok write) = accepted_found setting state write (find_of state.sessions header.authentication_token request.conn).answer
accepted_read setting request state header (Err fault) = []

-- nor where its header can't
abbrev pub accepted_by : Setting → Request → Services → Result Headed TakeFault → List Change
accepted_by setting request state (Ok headed) = accepted_read setting request state headed.header (fields_of write_request_reading headed.fields)
accepted_by setting request state (Err fault) = []

-- the values that a request accepts, taken as a Write
abbrev pub accepted : Setting → Request → Services → List Change
accepted setting request state = accepted_by setting request state (headed_of request.body)

-- a Write leaves all subscriptions, notes and queued requests as they were, and other sessions; the items see the values that
-- it accepts, and nothing else of them changes
pub record SamplesItems (session : ℕ) (changed : List Change) (before after : Services) : Type 0 where
  pub sessions : SessionsStay session before.sessions after.sessions
  pub subscriptions : after.subscriptions ≡ before.subscriptions
  pub items : after.items ≡ sampled before.items changed

abbrev pub is_write_service : Option Service → Bool
is_write_service (Some Service.Write) = true
is_write_service service = false

abbrev pub is_write_id : Result ℕ TakeFault → Bool
is_write_id (Ok id) = is_write_service (service_of id)
is_write_id (Err fault) = false

abbrev pub is_write : Request → Bool
is_write request = is_write_id (message_id_of request.body)

-- what a request leaves of other sessions, whether it is served or refused
pub record KeepsApart (setting : Setting) (request : Request) (state : Services) : Type 0 where
  pub others : (session : ℕ) → NamesOnly session state request → is_write request ≡ false → LeavesOthers session state (serving_of setting request state).state
  pub written : (session : ℕ) → NamesOnly session state request → is_write request ≡ true → SamplesItems session (accepted setting request state) state (serving_of setting request state).state
