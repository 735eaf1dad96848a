-- The service CreateSession.
use Rattle.std.specs.Prelude.{ℕ, List, [], ◌∷◌, Some, None}
use Rattle.ua_types.specs.Configuration.{Configuration}
use Rattle.ua_types.specs.declared.moment.Moment.{Moment}
use Rattle.ua_types.specs.declared.node_id.NodeId.{NodeId}
use Rattle.ua_messages.specs.Bodies.{body_encoding}
use Rattle.ua_messages.specs.Headers.{plain_header}
use Rattle.ua_messages.specs.declared.type_ids.TheConstants.{CREATE_SESSION_RESPONSE}
use Rattle.ua_service_messages.specs.Sessions.{create_session_response_encoding}
use Rattle.ua_service_messages.specs.declared.sessions.CreateSessionRequest.{CreateSessionRequest}
use Rattle.ua_service_messages.specs.declared.sessions.CreateSessionResponse.{CreateSessionResponse}
use Rattle.ua_session.specs.Sessions.{create_of}
use Rattle.ua_session.specs.Tokens.{session_id_of}
use Rattle.ua_session.specs.declared.sessions.Created.{Created}
use Rattle.server_messages.specs.declared.setting.Setting.{Setting}
use Rattle.ua_services.specs.EndpointList.{endpoint_of}
use Rattle.ua_services.specs.ServicesState.{Services}
use Rattle.ua_services.specs.Serving.{Serving}
use Rattle.ua_services.specs.SessionServing.{spent_by, stepped}
use Rattle.ua_services.specs.declared.caller.Caller.{Caller}

-- what a client is told of its new session. Nothing is certified or signed
abbrev pub create_session_response : Configuration → Moment → ℕ → Created → CreateSessionResponse
create_session_response config clock handle session = record {
  response_header = plain_header handle (record { 0 = 0 }) clock;
  session_id = session_id_of session.number;
  authentication_token = session.token;
  revised_session_timeout = config.session_duration;
  server_nonce = Some session.nonce;
  server_certificate = None;
  server_endpoints = Some (endpoint_of config ∷ []);
  server_software_certificates = None;
  server_signature = record { algorithm = None; signature = None };
  max_request_message_size = config.max_message;
}

abbrev pub create_session_body : Setting → Caller → Created → List ℕ
create_session_body setting caller session =
    body_encoding create_session_response_encoding CREATE_SESSION_RESPONSE (create_session_response setting.config setting.clock caller.origin.handle session)

-- a session for the client of the connection that the request came by
abbrev pub create_session_meaning : Setting → Caller → NodeId → CreateSessionRequest → Services → Serving
create_session_meaning setting caller token request state =
    stepped state caller setting.clock (spent_by state.sessions) (create_session_body setting caller) (create_of state.sessions caller.origin.conn caller.key)
