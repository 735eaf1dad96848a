-- The services OpenSecureChannel and CloseSecureChannel (IEC 62541-4, section 5, SecureChannel
-- Service Set; their fields are in IEC 62541-6, 6.7.4).
use Rattle.std.specs.Prelude.{ℕ, List, ◌++◌}
use Rattle.std.specs.Int.{w32}
use Rattle.ua_messages.specs.declared.secure_channels.OpenSecureChannelRequest.{OpenSecureChannelRequest}
use Rattle.ua_messages.specs.declared.secure_channels.OpenSecureChannelResponse.{OpenSecureChannelResponse}
use Rattle.ua_messages.specs.declared.secure_channels.CloseSecureChannelRequest.{CloseSecureChannelRequest}
use Rattle.ua_binary.specs.Reading.{Reading, ◌>>=◌, done}
use Rattle.ua_binary.specs.Numbers.{number_reading, number_encoding}
use Rattle.ua_binary.specs.Texts.{byte_string_reading, byte_string_encoding}
use Rattle.ua_binary.specs.Scalars.{moment_reading, moment_encoding}
use Rattle.ua_messages.specs.Enumerations.{message_security_mode_reading, security_token_request_type_reading, message_security_mode_encoding, security_token_request_type_encoding}
use Rattle.ua_messages.specs.Headers.{request_header_reading, response_header_reading, request_header_encoding, response_header_encoding}

unfoldable pub open_secure_channel_request_reading : Reading OpenSecureChannelRequest
open_secure_channel_request_reading = do
  request_header ← request_header_reading
  client_protocol_version ← number_reading w32
  request_type ← security_token_request_type_reading
  security_mode ← message_security_mode_reading
  client_nonce ← byte_string_reading
  requested_lifetime ← number_reading w32
  done (record {
    request_header = request_header;
    client_protocol_version = client_protocol_version;
    request_type = request_type;
    security_mode = security_mode;
    client_nonce = client_nonce;
    requested_lifetime = requested_lifetime;
  })

unfoldable pub open_secure_channel_request_encoding : OpenSecureChannelRequest → List ℕ
open_secure_channel_request_encoding v =
    request_header_encoding v.request_header
    ++ number_encoding w32 v.client_protocol_version
    ++ security_token_request_type_encoding v.request_type
    ++ message_security_mode_encoding v.security_mode
    ++ byte_string_encoding v.client_nonce
    ++ number_encoding w32 v.requested_lifetime

unfoldable pub open_secure_channel_response_reading : Reading OpenSecureChannelResponse
open_secure_channel_response_reading = do
  response_header ← response_header_reading
  server_protocol_version ← number_reading w32
  channel_id ← number_reading w32
  token_id ← number_reading w32
  created_at ← moment_reading
  revised_lifetime ← number_reading w32
  server_nonce ← byte_string_reading
  done (record {
    response_header = response_header;
    server_protocol_version = server_protocol_version;
    channel_id = channel_id;
    token_id = token_id;
    created_at = created_at;
    revised_lifetime = revised_lifetime;
    server_nonce = server_nonce;
  })

unfoldable pub open_secure_channel_response_encoding : OpenSecureChannelResponse → List ℕ
open_secure_channel_response_encoding v =
    response_header_encoding v.response_header
    ++ number_encoding w32 v.server_protocol_version
    ++ number_encoding w32 v.channel_id
    ++ number_encoding w32 v.token_id
    ++ moment_encoding v.created_at
    ++ number_encoding w32 v.revised_lifetime
    ++ byte_string_encoding v.server_nonce

unfoldable pub close_secure_channel_request_reading : Reading CloseSecureChannelRequest
close_secure_channel_request_reading = do
  request_header ← request_header_reading
  done (record { request_header = request_header })

unfoldable pub close_secure_channel_request_encoding : CloseSecureChannelRequest → List ℕ
close_secure_channel_request_encoding v = request_header_encoding v.request_header
