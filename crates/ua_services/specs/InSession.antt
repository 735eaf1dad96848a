-- What every service of a session begins with.
use Rattle.std.specs.Prelude.{ℕ, Result, Ok, Err}
use Rattle.ua_types.specs.declared.node_id.NodeId.{NodeId}
use Rattle.ua_types.specs.declared.status.Status.{Status}
use Rattle.ua_binary.specs.declared.fault.TakeFault.{TakeFault}
use Rattle.ua_session.specs.Sessions.{SessionsState, find_of}
use Rattle.server_messages.specs.declared.setting.Setting.{Setting}
use Rattle.ua_services.specs.ServicesState.{Services}
use Rattle.ua_services.specs.Serving.{Serving, faulted, served_by}
use Rattle.ua_services.specs.SessionServing.{with_sessions}
use Rattle.ua_services.specs.declared.caller.Caller.{Caller}

-- a session that was found is used, and its request served; or the request is refused
abbrev pub if_found : (ℕ → Services → Serving) → Setting → Caller → Services → Result ℕ Status → SessionsState → Serving
if_found serve setting caller state (Ok number) sessions = serve number (with_sessions state sessions)
if_found serve setting caller state (Err code) sessions = faulted (with_sessions state sessions) caller code setting.clock

-- the session that the token in the request's header names, and then the service, which is told the session's number
abbrev pub in_session : {A : Type 0} → (Setting → Caller → ℕ → A → Services → Serving) → Setting → Caller → NodeId → A → Services → Serving
in_session meaning setting caller token request state =
    let found = find_of state.sessions token caller.origin.conn in
    if_found (λ number. meaning setting caller number request) setting caller state found.answer found.state

-- every service of a session: the request's fields, then its session
abbrev pub served_in_session : {A : Type 0} → (Setting → Caller → ℕ → A → Services → Serving) → Setting → Caller → NodeId → Services → Result A TakeFault → Serving
served_in_session meaning = served_by (in_session meaning)
