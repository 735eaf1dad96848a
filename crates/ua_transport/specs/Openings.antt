-- Requests to open a channel or to renew its token (IEC 62541-4, "OpenSecureChannel").
use Rattle.std.specs.Prelude.{ℕ, pos, ◌==◌, Bool, true, false, not, ◌||◌, List, Option, Some, None, Result, Ok, Err, if◌then◌else◌}
use Rattle.std.specs.Ordering.{int_eq}
use Rattle.std.specs.Str.{bytes_eq}
use Rattle.ua_types.specs.declared.status.Status.{Status}
use Rattle.ua_types.specs.declared.status.TheConstants.Status as status
use Rattle.ua_binary.specs.declared.fault.TakeFault.{TakeFault}
use Rattle.ua_messages.specs.Bodies.{message_id_of, message_of}
use Rattle.ua_messages.specs.SecurityPolicies.{security_policy_none}
use Rattle.ua_messages.specs.SecureChannels.{open_secure_channel_request_reading}
use Rattle.ua_messages.specs.declared.secure_channels.OpenSecureChannelRequest.{OpenSecureChannelRequest}
use Rattle.ua_messages.specs.declared.headers.RequestHeader.{RequestHeader}
use Rattle.ua_transport.specs.declared.headers.OpeningHeader.{OpeningHeader}
use Rattle.ua_transport.specs.declared.openings.JudgedHeader.{JudgedHeader}
use Rattle.ua_transport.specs.declared.openings.OpeningRequest.{OpeningRequest}
use Rattle.ua_transport.specs.ChannelStates.{is_channel}

abbrev pub is_policy_none : Option (List ℕ) → Bool
is_policy_none None = false
is_policy_none (Some uri) = bytes_eq uri security_policy_none

-- what of the header of an OPN the channel needs
abbrev pub judged_in : OpeningHeader → JudgedHeader
judged_in header = record {
  channel_id = header.channel_id;
  is_policy_none = is_policy_none header.security_policy_uri;
  sequence_number = header.sequence_number;
  request_id = header.request_id;
}

abbrev pub handle_in : RequestHeader → ℕ
handle_in header = header.request_handle

-- what of the request the channel needs
abbrev pub asked_in : OpenSecureChannelRequest → OpeningRequest
asked_in request = record {
  handle = request.request_header.request_handle;
  request_type = request.request_type;
  security_mode = request.security_mode;
}

-- 446 is the id of an OpenSecureChannelRequest
abbrev pub opening_request_by : Result ℕ TakeFault → Result OpenSecureChannelRequest TakeFault → Result OpeningRequest Status
opening_request_by (Ok id) (Ok request) = if id == 446 then Ok (asked_in request) else Err status.BAD_DECODING_ERROR
opening_request_by id request = Err status.BAD_DECODING_ERROR

-- the request that an OPN's body is
abbrev pub opening_request_of : List ℕ → Result OpeningRequest Status
opening_request_of body = opening_request_by (message_id_of body) (message_of open_secure_channel_request_reading body)

abbrev pub is_open : Option ℕ → Bool
is_open None = false
is_open (Some channel_id) = true

-- The request types are 0, Issue, and 1, Renew; the mode 1 is None.
abbrev pub is_issue : OpeningRequest → Bool
is_issue request = int_eq request.request_type.0 (pos 0)

abbrev pub is_renew : OpeningRequest → Bool
is_renew request = int_eq request.request_type.0 (pos 1)

abbrev pub is_mode_none : OpeningRequest → Bool
is_mode_none request = int_eq request.security_mode.0 (pos 1)

-- whether the request, which came with this channel number, renews the token: the refusals in order
abbrev pub renewal_of : Option ℕ → ℕ → OpeningRequest → Result Bool Status
renewal_of channel_id number request =
    if not (is_issue request || is_renew request) then Err status.BAD_DECODING_ERROR
    else if not (is_mode_none request) then Err status.BAD_SECURITY_MODE_REJECTED
    else if is_issue request then (if is_open channel_id then Err status.BAD_SECURE_CHANNEL_ID_INVALID else Ok false)
    else if not (is_channel channel_id number) then Err status.BAD_TCP_SECURE_CHANNEL_UNKNOWN
    else Ok true
