-- What a server says of itself (IEC 62541-4, section 7).
use Rattle.std.specs.Prelude.{ℕ, List, ◌++◌}
use Rattle.ua_messages.specs.declared.descriptions.ApplicationDescription.{ApplicationDescription}
use Rattle.ua_messages.specs.declared.descriptions.UserTokenPolicy.{UserTokenPolicy}
use Rattle.ua_messages.specs.declared.descriptions.EndpointDescription.{EndpointDescription}
use Rattle.ua_binary.specs.Reading.{Reading, ◌>>=◌, done}
use Rattle.ua_binary.specs.Numbers.{byte_reading, byte_encoding}
use Rattle.ua_binary.specs.Texts.{byte_string_reading, text_reading, byte_string_encoding, text_encoding}
use Rattle.ua_binary.specs.Arrays.{array_reading, array_encoding}
use Rattle.ua_binary.specs.LocalizedTexts.{localized_text_reading, localized_text_encoding}
use Rattle.ua_messages.specs.Enumerations.{application_type_reading, message_security_mode_reading, user_token_type_reading, application_type_encoding, message_security_mode_encoding, user_token_type_encoding}

unfoldable pub application_description_reading : Reading ApplicationDescription
application_description_reading = do
  application_uri ← text_reading
  product_uri ← text_reading
  application_name ← localized_text_reading
  application_type ← application_type_reading
  gateway_server_uri ← text_reading
  discovery_profile_uri ← text_reading
  discovery_urls ← array_reading text_reading
  done (record {
    application_uri = application_uri;
    product_uri = product_uri;
    application_name = application_name;
    application_type = application_type;
    gateway_server_uri = gateway_server_uri;
    discovery_profile_uri = discovery_profile_uri;
    discovery_urls = discovery_urls;
  })

unfoldable pub application_description_encoding : ApplicationDescription → List ℕ
application_description_encoding v =
    text_encoding v.application_uri
    ++ text_encoding v.product_uri
    ++ localized_text_encoding v.application_name
    ++ application_type_encoding v.application_type
    ++ text_encoding v.gateway_server_uri
    ++ text_encoding v.discovery_profile_uri
    ++ array_encoding text_encoding v.discovery_urls

unfoldable pub user_token_policy_reading : Reading UserTokenPolicy
user_token_policy_reading = do
  policy_id ← text_reading
  token_type ← user_token_type_reading
  issued_token_type ← text_reading
  issuer_endpoint_url ← text_reading
  security_policy_uri ← text_reading
  done (record {
    policy_id = policy_id;
    token_type = token_type;
    issued_token_type = issued_token_type;
    issuer_endpoint_url = issuer_endpoint_url;
    security_policy_uri = security_policy_uri;
  })

unfoldable pub user_token_policy_encoding : UserTokenPolicy → List ℕ
user_token_policy_encoding v =
    text_encoding v.policy_id
    ++ user_token_type_encoding v.token_type
    ++ text_encoding v.issued_token_type
    ++ text_encoding v.issuer_endpoint_url
    ++ text_encoding v.security_policy_uri

unfoldable pub endpoint_description_reading : Reading EndpointDescription
endpoint_description_reading = do
  endpoint_url ← text_reading
  server ← application_description_reading
  server_certificate ← byte_string_reading
  security_mode ← message_security_mode_reading
  security_policy_uri ← text_reading
  user_identity_tokens ← array_reading user_token_policy_reading
  transport_profile_uri ← text_reading
  security_level ← byte_reading
  done (record {
    endpoint_url = endpoint_url;
    server = server;
    server_certificate = server_certificate;
    security_mode = security_mode;
    security_policy_uri = security_policy_uri;
    user_identity_tokens = user_identity_tokens;
    transport_profile_uri = transport_profile_uri;
    security_level = security_level;
  })

unfoldable pub endpoint_description_encoding : EndpointDescription → List ℕ
endpoint_description_encoding v =
    text_encoding v.endpoint_url
    ++ application_description_encoding v.server
    ++ byte_string_encoding v.server_certificate
    ++ message_security_mode_encoding v.security_mode
    ++ text_encoding v.security_policy_uri
    ++ array_encoding user_token_policy_encoding v.user_identity_tokens
    ++ text_encoding v.transport_profile_uri
    ++ byte_encoding v.security_level
