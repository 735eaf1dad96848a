-- Enumerations (IEC 62541-6, 5.2.4): an Int32, of which any value is read.
use Rattle.std.specs.Prelude.{ℕ, List}
use Rattle.ua_messages.specs.declared.enumerations.ApplicationType.{ApplicationType}
use Rattle.ua_messages.specs.declared.enumerations.MessageSecurityMode.{MessageSecurityMode}
use Rattle.ua_messages.specs.declared.enumerations.UserTokenType.{UserTokenType}
use Rattle.ua_messages.specs.declared.enumerations.SecurityTokenRequestType.{SecurityTokenRequestType}
use Rattle.ua_messages.specs.declared.enumerations.TimestampsToReturn.{TimestampsToReturn}
use Rattle.ua_binary.specs.Reading.{Reading}
use Rattle.ua_binary.specs.Enumerations.{enumeration_reading, enumeration_encoding}

abbrev pub application_type_reading : Reading ApplicationType
application_type_reading = enumeration_reading (λ n. record { 0 = n })

abbrev pub application_type_encoding : ApplicationType → List ℕ
application_type_encoding = enumeration_encoding (λ v. v.0)

abbrev pub message_security_mode_reading : Reading MessageSecurityMode
message_security_mode_reading = enumeration_reading (λ n. record { 0 = n })

abbrev pub message_security_mode_encoding : MessageSecurityMode → List ℕ
message_security_mode_encoding = enumeration_encoding (λ v. v.0)

abbrev pub user_token_type_reading : Reading UserTokenType
user_token_type_reading = enumeration_reading (λ n. record { 0 = n })

abbrev pub user_token_type_encoding : UserTokenType → List ℕ
user_token_type_encoding = enumeration_encoding (λ v. v.0)

abbrev pub security_token_request_type_reading : Reading SecurityTokenRequestType
security_token_request_type_reading = enumeration_reading (λ n. record { 0 = n })

abbrev pub security_token_request_type_encoding : SecurityTokenRequestType → List ℕ
security_token_request_type_encoding = enumeration_encoding (λ v. v.0)

abbrev pub timestamps_to_return_reading : Reading TimestampsToReturn
timestamps_to_return_reading = enumeration_reading (λ n. record { 0 = n })

abbrev pub timestamps_to_return_encoding : TimestampsToReturn → List ℕ
timestamps_to_return_encoding = enumeration_encoding (λ v. v.0)
