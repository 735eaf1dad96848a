-- Messages cut into chunks.
use Rattle.std.specs.Prelude.{ℕ, zero, suc, ◌+◌, ◌-◌, ◌==◌, ◌/◌, Bool, ◌&&◌, ◌||◌, not, nat_lt, List, [], ◌∷◌, ◌++◌, length, take, drop, Option, Some, None, Ok, Err, if◌then◌else◌}
use Rattle.ua_types.specs.Answers.{Step, step}
use Rattle.ua_transport.specs.Agreements.{Agreement}
use Rattle.ua_transport.specs.Encoding.{frame_encoding}
use Rattle.ua_transport.specs.declared.frame.Frame.{Frame}
use Rattle.ua_transport.specs.declared.frame.MessageType.TheVariants.{Message, OpenSecureChannel}
use Rattle.ua_transport.specs.declared.frame.ChunkType.{ChunkType}
use Rattle.ua_transport.specs.declared.frame.ChunkType.TheVariants.{Intermediate, Final}
use Rattle.ua_transport.specs.declared.headers.ChunkHeader.{ChunkHeader}
use Rattle.ua_transport.specs.declared.headers.OpeningHeader.{OpeningHeader}
use Rattle.ua_transport.specs.declared.send_fault.SendFault.{SendFault}
use Rattle.ua_transport.specs.declared.send_fault.SendFault.TheVariants.{TooLarge}
use Rattle.ua_transport.specs.Headers.{chunk_header_encoding, opening_header_encoding}
use Rattle.ua_transport.specs.SequenceNumbers.{sequence_number_after}
use Rattle.ua_transport.specs.ChannelStates.{ChannelState}
use Rattle.ua_messages.specs.SecurityPolicies.{security_policy_none}

-- a MSG of this type, with a part of the body
abbrev pub chunk_frame : ChunkHeader → ChunkType → List ℕ → Frame
chunk_frame header chunk_type part =
    record { message_type = Message; chunk_type = chunk_type; body = chunk_header_encoding header ++ part }

abbrev pub chunk_encoding : ChunkHeader → ChunkType → List ℕ → List ℕ
chunk_encoding header chunk_type part = frame_encoding (chunk_frame header chunk_type part)

-- the next chunk of the same message
abbrev pub next_header : ChunkHeader → ChunkHeader
next_header header = record header { sequence_number = sequence_number_after header.sequence_number }

-- chunks, and the sequence number of the last of them
pub record Cut : Type 0 where
  pub chunks : List (List ℕ)
  pub sent : ℕ

abbrev pub cut_after : List (List ℕ) → Cut → Cut
cut_after front rest = record { chunks = front ++ rest.chunks; sent = rest.sent }

abbrev pub last_cut : ChunkType → ChunkHeader → List ℕ → Cut
last_cut last header body = record { chunks = chunk_encoding header last body ∷ []; sent = header.sequence_number }

-- at most so many chunks before the last
unfoldable pub cut_within : ℕ → ChunkType → ChunkHeader → ℕ → List ℕ → Cut
cut_within zero last header room body = last_cut last header body
cut_within (suc n) last header room body =
    if nat_lt room (length body)
    then cut_after (chunk_encoding header Intermediate (take room body) ∷ []) (cut_within n last (next_header header) room (drop room body))
    else last_cut last header body

-- The chunks of a body, of which each holds so many bytes: all are full but the last, which has this type.
-- An empty body has one.
unfoldable pub cut_of : ChunkType → ChunkHeader → ℕ → List ℕ → Cut
cut_of last header room body = cut_within (length body) last header room body

-- what of a frame is left for a part of the body
abbrev pub room_of : Agreement → ℕ
room_of agreed = agreed.send_size - 24

-- a limit of 0 is none
abbrev pub exceeds : ℕ → ℕ → Bool
exceeds limit n = not (limit == 0) && nat_lt limit n

abbrev pub chunk_count_of : ℕ → ℕ → ℕ
chunk_count_of room len = (len - 1) / room + 1

-- whether the client doesn't take a body of this length
abbrev pub is_too_large : Agreement → ℕ → Bool
is_too_large agreed len =
    exceeds agreed.max_message_size len || exceeds agreed.max_chunk_count (chunk_count_of (room_of agreed) len)

-- before the channel is open, 0 stands for its number
abbrev pub written_id : Option ℕ → ℕ
written_id None = 0
written_id (Some channel_id) = channel_id

-- the header of the next chunk that is sent
abbrev pub header_of : ChannelState → ℕ → ChunkHeader
header_of s request_id = record {
  channel_id = written_id s.channel_id;
  token_id = s.used_token;
  sequence_number = sequence_number_after s.sent;
  request_id = request_id;
}

-- the chunks of an answer, and the channel after them
abbrev pub sent_by : ChannelState → Cut → Step (List (List ℕ)) SendFault ChannelState
sent_by s cut = step (Ok cut.chunks) (record s { sent = cut.sent })

abbrev pub send_of : ChannelState → ℕ → List ℕ → Step (List (List ℕ)) SendFault ChannelState
send_of s request_id body =
    if is_too_large s.agreed (length body) then step (Err TooLarge) s
    else sent_by s (cut_of Final (header_of s request_id) (room_of s.agreed) body)

-- ---- the answer to an OPN

-- the header of an OPN whose messages are neither signed nor encrypted
abbrev pub opening_header_by : ℕ → ℕ → ℕ → OpeningHeader
opening_header_by channel_id sequence_number request_id = record {
  channel_id = channel_id;
  security_policy_uri = Some security_policy_none;
  sender_certificate = None;
  receiver_certificate_thumbprint = None;
  sequence_number = sequence_number;
  request_id = request_id;
}

abbrev pub opening_header_of : ChannelState → ℕ → OpeningHeader
opening_header_of s request_id = opening_header_by (written_id s.channel_id) (sequence_number_after s.sent) request_id

-- an OPN in one chunk
abbrev pub opening_frame : OpeningHeader → List ℕ → Frame
opening_frame header body =
    record { message_type = OpenSecureChannel; chunk_type = Final; body = opening_header_encoding header ++ body }

-- whether the client doesn't take it, or the agreed send size doesn't hold it
abbrev pub is_opening_too_large : Agreement → Frame → ℕ → Bool
is_opening_too_large agreed frame len =
    exceeds agreed.max_message_size len || nat_lt agreed.send_size (8 + length frame.body)

abbrev pub opening_sent_as : ChannelState → Frame → ℕ → Step (List (List ℕ)) SendFault ChannelState
opening_sent_as s frame len =
    if is_opening_too_large s.agreed frame len then step (Err TooLarge) s
    else step (Ok (frame_encoding frame ∷ [])) (record s { sent = sequence_number_after s.sent })

abbrev pub send_opening_of : ChannelState → ℕ → List ℕ → Step (List (List ℕ)) SendFault ChannelState
send_opening_of s request_id body = opening_sent_as s (opening_frame (opening_header_of s request_id) body) (length body)
