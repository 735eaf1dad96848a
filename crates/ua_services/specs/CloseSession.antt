-- The service CloseSession.
use Rattle.std.specs.Prelude.{ℕ, Bool, List, Result, Ok, Err}
use Rattle.ua_types.specs.Answers.{Step}
use Rattle.ua_types.specs.declared.node_id.NodeId.{NodeId}
use Rattle.ua_types.specs.declared.status.Status.{Status}
use Rattle.ua_messages.specs.Bodies.{body_encoding}
use Rattle.ua_messages.specs.Headers.{plain_header}
use Rattle.ua_messages.specs.declared.type_ids.TheConstants.{CLOSE_SESSION_RESPONSE}
use Rattle.ua_service_messages.specs.Sessions.{close_session_response_encoding}
use Rattle.ua_service_messages.specs.declared.sessions.CloseSessionRequest.{CloseSessionRequest}
use Rattle.ua_session.specs.Sessions.{SessionsState, close_of}
use Rattle.server_messages.specs.declared.setting.Setting.{Setting}
use Rattle.ua_services.specs.ServicesState.{Services}
use Rattle.ua_services.specs.Serving.{Serving, answered_at_once, faulted}
use Rattle.ua_services.specs.SessionServing.{with_sessions}
use Rattle.ua_services.specs.SubServing.{and_then, session_over}
use Rattle.ua_services.specs.declared.caller.Caller.{Caller}

abbrev pub close_session_body : Setting → Caller → List ℕ
close_session_body setting caller =
    body_encoding close_session_response_encoding CLOSE_SESSION_RESPONSE (record { response_header = plain_header caller.origin.handle (record { 0 = 0 }) setting.clock })

-- the Publish requests that wait are answered before the close itself
abbrev pub closed_by : Setting → Caller → Bool → Services → Result ℕ Status → SessionsState → Serving
closed_by setting caller deleting state (Ok number) sessions =
    and_then (session_over setting deleting number (with_sessions state sessions)) (λ (after : Services). answered_at_once after caller (close_session_body setting caller))
closed_by setting caller deleting state (Err code) sessions = faulted (with_sessions state sessions) caller code setting.clock

abbrev pub closed : Setting → Caller → Bool → Services → Step ℕ Status SessionsState → Serving
closed setting caller deleting state step = closed_by setting caller deleting state step.answer step.state

-- the session that the token in the request's header names is no more; its subscriptions are deleted, or left to their lifetime
abbrev pub close_session_meaning : Setting → Caller → NodeId → CloseSessionRequest → Services → Serving
close_session_meaning setting caller token request state =
    closed setting caller request.delete_subscriptions state (close_of state.sessions token caller.origin.conn)
