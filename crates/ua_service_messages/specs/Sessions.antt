-- The services CreateSession, ActivateSession and CloseSession (IEC 62541-4, section 5, Session
-- Service Set), and what proves who a client or a user is (section 7).
use Rattle.std.specs.Prelude.{ℕ, List, ◌++◌}
use Rattle.std.specs.Int.{w32}
use Rattle.ua_service_messages.specs.declared.sessions.SignatureData.{SignatureData}
use Rattle.ua_service_messages.specs.declared.sessions.SignedSoftwareCertificate.{SignedSoftwareCertificate}
use Rattle.ua_service_messages.specs.declared.sessions.AnonymousIdentityToken.{AnonymousIdentityToken}
use Rattle.ua_service_messages.specs.declared.sessions.CreateSessionRequest.{CreateSessionRequest}
use Rattle.ua_service_messages.specs.declared.sessions.CreateSessionResponse.{CreateSessionResponse}
use Rattle.ua_service_messages.specs.declared.sessions.ActivateSessionRequest.{ActivateSessionRequest}
use Rattle.ua_service_messages.specs.declared.sessions.ActivateSessionResponse.{ActivateSessionResponse}
use Rattle.ua_service_messages.specs.declared.sessions.CloseSessionRequest.{CloseSessionRequest}
use Rattle.ua_service_messages.specs.declared.sessions.CloseSessionResponse.{CloseSessionResponse}
use Rattle.ua_binary.specs.Reading.{Reading, ◌>>=◌, done}
use Rattle.ua_binary.specs.Numbers.{number_reading, number_encoding, boolean_reading, boolean_encoding}
use Rattle.ua_binary.specs.Scalars.{duration_reading, duration_encoding, status_reading, status_encoding}
use Rattle.ua_binary.specs.Texts.{text_reading, text_encoding, byte_string_reading, byte_string_encoding}
use Rattle.ua_binary.specs.Arrays.{array_reading, array_encoding}
use Rattle.ua_binary.specs.NodeIds.{node_id_reading, node_id_encoding}
use Rattle.ua_binary.specs.ExtensionObjects.{extension_object_reading, extension_object_encoding}
use Rattle.ua_messages.specs.Descriptions.{application_description_reading, application_description_encoding, endpoint_description_reading, endpoint_description_encoding}
use Rattle.ua_messages.specs.Diagnostics.{diagnostic_infos_reading, diagnostic_infos_encoding}
use Rattle.ua_messages.specs.Headers.{response_header_reading, response_header_encoding}

unfoldable pub signature_data_reading : Reading SignatureData
signature_data_reading = do
  algorithm ← text_reading
  signature ← byte_string_reading
  done (record { algorithm = algorithm; signature = signature })

unfoldable pub signature_data_encoding : SignatureData → List ℕ
signature_data_encoding v =
    text_encoding v.algorithm
    ++ byte_string_encoding v.signature

unfoldable pub signed_software_certificate_reading : Reading SignedSoftwareCertificate
signed_software_certificate_reading = do
  certificate_data ← byte_string_reading
  signature ← byte_string_reading
  done (record { certificate_data = certificate_data; signature = signature })

unfoldable pub signed_software_certificate_encoding : SignedSoftwareCertificate → List ℕ
signed_software_certificate_encoding v =
    byte_string_encoding v.certificate_data
    ++ byte_string_encoding v.signature

unfoldable pub anonymous_identity_token_reading : Reading AnonymousIdentityToken
anonymous_identity_token_reading = do
  policy_id ← text_reading
  done (record { policy_id = policy_id })

unfoldable pub anonymous_identity_token_encoding : AnonymousIdentityToken → List ℕ
anonymous_identity_token_encoding v = text_encoding v.policy_id

unfoldable pub create_session_request_reading : Reading CreateSessionRequest
create_session_request_reading = do
  client_description ← application_description_reading
  server_uri ← text_reading
  endpoint_url ← text_reading
  session_name ← text_reading
  client_nonce ← byte_string_reading
  client_certificate ← byte_string_reading
  requested_session_timeout ← duration_reading
  max_response_message_size ← number_reading w32
  done (record {
    client_description = client_description;
    server_uri = server_uri;
    endpoint_url = endpoint_url;
    session_name = session_name;
    client_nonce = client_nonce;
    client_certificate = client_certificate;
    requested_session_timeout = requested_session_timeout;
    max_response_message_size = max_response_message_size;
  })

unfoldable pub create_session_request_encoding : CreateSessionRequest → List ℕ
create_session_request_encoding v =
    application_description_encoding v.client_description
    ++ text_encoding v.server_uri
    ++ text_encoding v.endpoint_url
    ++ text_encoding v.session_name
    ++ byte_string_encoding v.client_nonce
    ++ byte_string_encoding v.client_certificate
    ++ duration_encoding v.requested_session_timeout
    ++ number_encoding w32 v.max_response_message_size

unfoldable pub create_session_response_reading : Reading CreateSessionResponse
create_session_response_reading = do
  response_header ← response_header_reading
  session_id ← node_id_reading
  authentication_token ← node_id_reading
  revised_session_timeout ← duration_reading
  server_nonce ← byte_string_reading
  server_certificate ← byte_string_reading
  server_endpoints ← array_reading endpoint_description_reading
  server_software_certificates ← array_reading signed_software_certificate_reading
  server_signature ← signature_data_reading
  max_request_message_size ← number_reading w32
  done (record {
    response_header = response_header;
    session_id = session_id;
    authentication_token = authentication_token;
    revised_session_timeout = revised_session_timeout;
    server_nonce = server_nonce;
    server_certificate = server_certificate;
    server_endpoints = server_endpoints;
    server_software_certificates = server_software_certificates;
    server_signature = server_signature;
    max_request_message_size = max_request_message_size;
  })

unfoldable pub create_session_response_encoding : CreateSessionResponse → List ℕ
create_session_response_encoding v =
    response_header_encoding v.response_header
    ++ node_id_encoding v.session_id
    ++ node_id_encoding v.authentication_token
    ++ duration_encoding v.revised_session_timeout
    ++ byte_string_encoding v.server_nonce
    ++ byte_string_encoding v.server_certificate
    ++ array_encoding endpoint_description_encoding v.server_endpoints
    ++ array_encoding signed_software_certificate_encoding v.server_software_certificates
    ++ signature_data_encoding v.server_signature
    ++ number_encoding w32 v.max_request_message_size

unfoldable pub activate_session_request_reading : Reading ActivateSessionRequest
activate_session_request_reading = do
  client_signature ← signature_data_reading
  client_software_certificates ← array_reading signed_software_certificate_reading
  locale_ids ← array_reading text_reading
  user_identity_token ← extension_object_reading
  user_token_signature ← signature_data_reading
  done (record {
    client_signature = client_signature;
    client_software_certificates = client_software_certificates;
    locale_ids = locale_ids;
    user_identity_token = user_identity_token;
    user_token_signature = user_token_signature;
  })

unfoldable pub activate_session_request_encoding : ActivateSessionRequest → List ℕ
activate_session_request_encoding v =
    signature_data_encoding v.client_signature
    ++ array_encoding signed_software_certificate_encoding v.client_software_certificates
    ++ array_encoding text_encoding v.locale_ids
    ++ extension_object_encoding v.user_identity_token
    ++ signature_data_encoding v.user_token_signature

unfoldable pub activate_session_response_reading : Reading ActivateSessionResponse
activate_session_response_reading = do
  response_header ← response_header_reading
  server_nonce ← byte_string_reading
  results ← array_reading status_reading
  diagnostic_infos ← diagnostic_infos_reading
  done (record {
    response_header = response_header;
    server_nonce = server_nonce;
    results = results;
    diagnostic_infos = diagnostic_infos;
  })

unfoldable pub activate_session_response_encoding : ActivateSessionResponse → List ℕ
activate_session_response_encoding v =
    response_header_encoding v.response_header
    ++ byte_string_encoding v.server_nonce
    ++ array_encoding status_encoding v.results
    ++ diagnostic_infos_encoding v.diagnostic_infos

unfoldable pub close_session_request_reading : Reading CloseSessionRequest
close_session_request_reading = do
  delete_subscriptions ← boolean_reading
  done (record { delete_subscriptions = delete_subscriptions })

unfoldable pub close_session_request_encoding : CloseSessionRequest → List ℕ
close_session_request_encoding v = boolean_encoding v.delete_subscriptions

unfoldable pub close_session_response_reading : Reading CloseSessionResponse
close_session_response_reading = do
  response_header ← response_header_reading
  done (record { response_header = response_header })

unfoldable pub close_session_response_encoding : CloseSessionResponse → List ℕ
close_session_response_encoding v = response_header_encoding v.response_header
