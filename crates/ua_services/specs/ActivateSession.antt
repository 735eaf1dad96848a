-- The service ActivateSession.
use Rattle.std.specs.Prelude.{ℕ, Bool, true, false, List, [], Some, Result, Ok, Err}
use Rattle.ua_types.specs.declared.extension_object.ExtensionObject.{ExtensionObject}
use Rattle.ua_types.specs.declared.extension_object.ExtensionObjectBody.{ExtensionObjectBody}
use Rattle.ua_types.specs.declared.extension_object.ExtensionObjectBody.TheVariants.{Absent}
use Rattle.ua_types.specs.declared.moment.Moment.{Moment}
use Rattle.ua_types.specs.declared.node_id.NodeId.{NodeId}
use Rattle.ua_messages.specs.Bodies.{body_encoding}
use Rattle.ua_messages.specs.Headers.{plain_header}
use Rattle.ua_messages.specs.Structures.{structure_of}
use Rattle.ua_messages.specs.declared.structures.StructureFault.{StructureFault}
use Rattle.ua_messages.specs.declared.type_ids.TheConstants.{ACTIVATE_SESSION_RESPONSE, ANONYMOUS_IDENTITY_TOKEN}
use Rattle.ua_service_messages.specs.Sessions.{activate_session_response_encoding, anonymous_identity_token_reading}
use Rattle.ua_service_messages.specs.declared.sessions.ActivateSessionRequest.{ActivateSessionRequest}
use Rattle.ua_service_messages.specs.declared.sessions.ActivateSessionResponse.{ActivateSessionResponse}
use Rattle.ua_service_messages.specs.declared.sessions.AnonymousIdentityToken.{AnonymousIdentityToken}
use Rattle.ua_session.specs.Sessions.{activate_of}
use Rattle.server_messages.specs.declared.setting.Setting.{Setting}
use Rattle.ua_services.specs.ServicesState.{Services}
use Rattle.ua_services.specs.Serving.{Serving}
use Rattle.ua_services.specs.SessionServing.{spent_by, stepped}
use Rattle.ua_services.specs.declared.caller.Caller.{Caller}

-- an identity without a body, or else one that can be read as an AnonymousIdentityToken
abbrev pub is_anonymous_by : ExtensionObjectBody → Result AnonymousIdentityToken StructureFault → Bool
is_anonymous_by Absent read = true
is_anonymous_by body (Ok token) = true
is_anonymous_by body (Err fault) = false

-- whether the user stays unnamed
abbrev pub is_anonymous : ExtensionObject → Bool
is_anonymous identity = is_anonymous_by identity.body (structure_of anonymous_identity_token_reading ANONYMOUS_IDENTITY_TOKEN identity)

abbrev pub activate_session_response : Moment → ℕ → List ℕ → ActivateSessionResponse
activate_session_response clock handle nonce = record {
  response_header = plain_header handle (record { 0 = 0 }) clock;
  server_nonce = Some nonce;
  results = Some [];
  diagnostic_infos = record {};
}

abbrev pub activate_session_body : Setting → Caller → List ℕ → List ℕ
activate_session_body setting caller nonce =
    body_encoding activate_session_response_encoding ACTIVATE_SESSION_RESPONSE (activate_session_response setting.clock caller.origin.handle nonce)

-- the session that the token in the request's header names belongs to the connection that the request came by
abbrev pub activate_session_meaning : Setting → Caller → NodeId → ActivateSessionRequest → Services → Serving
activate_session_meaning setting caller token request state =
    stepped state caller setting.clock (spent_by state.sessions) (activate_session_body setting caller)
    (activate_of state.sessions token caller.origin.conn caller.key (is_anonymous request.user_identity_token))
