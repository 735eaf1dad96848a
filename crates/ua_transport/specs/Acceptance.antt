-- Which frames a channel accepts, and what they give: the refusals in their order.
use Rattle.std.specs.Prelude.{ℕ, ◌+◌, Bool, true, false, not, List, length, Option, Some, None, Result, Ok, Err, nat_lt, if◌then◌else◌}
use Rattle.ua_types.specs.Answers.{Step, step}
use Rattle.ua_types.specs.declared.status.Status.{Status}
use Rattle.ua_types.specs.declared.status.TheConstants.Status as status
use Rattle.ua_binary.specs.declared.fault.TakeFault.{TakeFault}
use Rattle.ua_transport.specs.declared.frame.Frame.{Frame}
use Rattle.ua_transport.specs.declared.frame.MessageType.{MessageType}
use Rattle.ua_transport.specs.declared.frame.MessageType.TheVariants as message
use Rattle.ua_transport.specs.declared.frame.ChunkType.{ChunkType}
use Rattle.ua_transport.specs.declared.frame.ChunkType.TheVariants.{Final}
use Rattle.ua_transport.specs.declared.headers.ChunkHeader.{ChunkHeader}
use Rattle.ua_transport.specs.declared.headers.OpeningHeader.{OpeningHeader}
use Rattle.ua_transport.specs.declared.openings.OpeningRequest.{OpeningRequest}
use Rattle.ua_transport.specs.declared.taken.Taken.{Taken}
use Rattle.ua_transport.specs.declared.taken.Taken.TheVariants as taken
use Rattle.ua_transport.specs.Headers.{chunk_header_reading, opening_header_reading, part_of}
use Rattle.ua_transport.specs.SequenceNumbers.{may_follow}
use Rattle.ua_transport.specs.Messages.{UnfinishedMessage, joining_of}
use Rattle.ua_transport.specs.ChannelStates.{ChannelState, is_channel, is_token}
use Rattle.ua_transport.specs.Openings.{is_policy_none, opening_request_of, renewal_of}

-- a frame is refused, and nothing changes
abbrev pub refuse : Status → ChannelState → Step Taken Status ChannelState
refuse code s = step (Err code) s

-- ---- MSG and CLO

-- the refusals of a header, in order
abbrev pub admission_by : ChannelState → Result (ChunkHeader × List ℕ) TakeFault → Result ChunkHeader Status
admission_by s (Err fault) = Err status.BAD_DECODING_ERROR
admission_by s (Ok read) =
    if not (is_channel s.channel_id read.0.channel_id) then Err status.BAD_TCP_SECURE_CHANNEL_UNKNOWN
    else if not (is_token s read.0.token_id) then Err status.BAD_SECURE_CHANNEL_TOKEN_UNKNOWN
    else if not (may_follow s.received read.0.sequence_number) then Err status.BAD_SEQUENCE_NUMBER_INVALID
    else Ok read.0

-- the header of a MSG or a CLO
unfoldable pub admission_of : ChannelState → List ℕ → Result ChunkHeader Status
admission_of s body = admission_by s (chunk_header_reading body)

-- the channel after a chunk with this header: its token is used
abbrev pub after_header : ChannelState → ChunkHeader → ChannelState
after_header s header = record s { used_token = header.token_id; received = Some header.sequence_number }

abbrev pub with_unfinished : ChannelState → ChunkHeader → Step Taken Status (Option UnfinishedMessage) → Result Taken Status → Step Taken Status ChannelState
with_unfinished s header joining (Ok taken) = step (Ok taken) (record (after_header s header) { unfinished = joining.state })
with_unfinished s header joining (Err code) = step (Err code) s

abbrev pub message_taken : ChannelState → Frame → Result ChunkHeader Status → Step Taken Status ChannelState
message_taken s frame (Err code) = step (Err code) s
message_taken s frame (Ok header) =
    let joining = joining_of s.agreed.limits s.unfinished header.request_id frame.chunk_type (part_of frame) in
    with_unfinished s header joining joining.answer

abbrev pub close_taken : ChannelState → Result ChunkHeader Status → Step Taken Status ChannelState
close_taken s (Err code) = step (Err code) s
close_taken s (Ok header) = step (Ok taken.Closed) (after_header s header)

-- ---- OPN

abbrev pub renewal_taken : ChannelState → OpeningHeader → OpeningRequest → Result Bool Status → Step Taken Status ChannelState
renewal_taken s header request (Err code) = step (Err code) s
renewal_taken s header request (Ok renew) =
    step (Ok (taken.Opening header.request_id request.handle renew)) (record s { received = Some header.sequence_number })

abbrev pub request_taken : ChannelState → OpeningHeader → Result OpeningRequest Status → Step Taken Status ChannelState
request_taken s header (Err code) = step (Err code) s
request_taken s header (Ok request) = renewal_taken s header request (renewal_of s.channel_id header.channel_id request)

-- the refusals in order
abbrev pub opening_by : ChannelState → Result (OpeningHeader × List ℕ) TakeFault → Step Taken Status ChannelState
opening_by s (Err fault) = refuse status.BAD_DECODING_ERROR s
opening_by s (Ok read) =
    if not (is_policy_none read.0.security_policy_uri) then refuse status.BAD_SECURITY_POLICY_REJECTED s
    else if not (may_follow s.received read.0.sequence_number) then refuse status.BAD_SEQUENCE_NUMBER_INVALID s
    else request_taken s read.0 (opening_request_of read.1)

unfoldable pub opening_taken : ChannelState → List ℕ → Step Taken Status ChannelState
opening_taken s body = opening_by s (opening_header_reading body)

-- ---- every frame

-- MSG comes in chunks of any type, OPN and CLO in one, and the others don't come by a channel
abbrev pub comes_by_channel : MessageType → ChunkType → Bool
comes_by_channel message.Message chunk_type = true
comes_by_channel message.OpenSecureChannel Final = true
comes_by_channel message.CloseSecureChannel Final = true
comes_by_channel message_type chunk_type = false

-- the rest of the judgement goes by the type, of which three are left
abbrev pub taken_by_type : ChannelState → Frame → MessageType → Step Taken Status ChannelState
taken_by_type s frame message.OpenSecureChannel = opening_taken s frame.body
taken_by_type s frame message.CloseSecureChannel = close_taken s (admission_of s frame.body)
taken_by_type s frame message_type = message_taken s frame (admission_of s frame.body)

-- an ERR closes the channel, and isn't judged
abbrev pub is_error : MessageType → Bool
is_error message.Error = true
is_error message_type = false

abbrev pub acceptance_of : ChannelState → Frame → Step Taken Status ChannelState
acceptance_of s frame =
    if is_error frame.message_type then step (Ok taken.Closed) s
    else if not (comes_by_channel frame.message_type frame.chunk_type) then refuse status.BAD_TCP_MESSAGE_TYPE_INVALID s
    else if nat_lt s.agreed.receive_size (8 + length frame.body) then refuse status.BAD_TCP_MESSAGE_TOO_LARGE s
    else taken_by_type s frame frame.message_type

-- ---- a channel that has refused a frame

-- the status of a refusal is kept
abbrev pub kept_refusal : Result Taken Status → ChannelState → ChannelState
kept_refusal (Err code) s = record s { refused = Some code }
kept_refusal (Ok taken) s = s

abbrev pub unless_refused : ChannelState → Option Status → Step Taken Status ChannelState → Step Taken Status ChannelState
unless_refused s (Some code) taking = refuse code s
unless_refused s None taking = step taking.answer (kept_refusal taking.answer taking.state)

-- what a frame gives, and the channel after it: once a frame was refused, the same refusal
abbrev pub take_of : ChannelState → Frame → Step Taken Status ChannelState
take_of s frame = unless_refused s s.refused (acceptance_of s frame)
