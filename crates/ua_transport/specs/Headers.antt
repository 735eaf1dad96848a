-- What stands before a chunk's part of the message (IEC 62541-6, "OPC UA Secure Conversation", "MessageChunk structure").
use Rattle.std.specs.Prelude.{ℕ, ◌<◌, ◌≤◌, ◌^◌, List, ◌++◌, drop}
use Rattle.std.specs.Int.{w32}
use Rattle.ua_binary.specs.Reading.{Reading, ◌>>=◌, done}
use Rattle.ua_binary.specs.Numbers.{number_reading, number_encoding}
use Rattle.ua_binary.specs.Texts.{text_reading, text_encoding, byte_string_reading, byte_string_encoding}
use Rattle.ua_transport.specs.declared.frame.Frame.{Frame}
use Rattle.ua_transport.specs.declared.headers.ChunkHeader.{ChunkHeader}
use Rattle.ua_transport.specs.declared.headers.OpeningHeader.{OpeningHeader}

-- of a MSG or a CLO
unfoldable pub chunk_header_reading : Reading ChunkHeader
chunk_header_reading = do
  channel_id ← number_reading w32
  token_id ← number_reading w32
  sequence_number ← number_reading w32
  request_id ← number_reading w32
  done (record { channel_id = channel_id; token_id = token_id; sequence_number = sequence_number; request_id = request_id })

unfoldable pub chunk_header_encoding : ChunkHeader → List ℕ
chunk_header_encoding h =
    number_encoding w32 h.channel_id ++ number_encoding w32 h.token_id ++ number_encoding w32 h.sequence_number
    ++ number_encoding w32 h.request_id

-- the part of a message that a MSG carries: what stands behind the 16 bytes of the header
abbrev pub part_of : Frame → List ℕ
part_of frame = drop 16 frame.body

-- a header of which each number has room, and the sequence number is one that is sent
pub record IsWritable (h : ChunkHeader) : Type 0 where
  pub channel_id : h.channel_id < 2 ^ 32
  pub token_id : h.token_id < 2 ^ 32
  pub sequence_number : h.sequence_number ≤ 4294966272
  pub request_id : h.request_id < 2 ^ 32

-- of an OPN
unfoldable pub opening_header_reading : Reading OpeningHeader
opening_header_reading = do
  channel_id ← number_reading w32
  security_policy_uri ← text_reading
  sender_certificate ← byte_string_reading
  receiver_certificate_thumbprint ← byte_string_reading
  sequence_number ← number_reading w32
  request_id ← number_reading w32
  done (record {
    channel_id = channel_id;
    security_policy_uri = security_policy_uri;
    sender_certificate = sender_certificate;
    receiver_certificate_thumbprint = receiver_certificate_thumbprint;
    sequence_number = sequence_number;
    request_id = request_id;
  })

unfoldable pub opening_header_encoding : OpeningHeader → List ℕ
opening_header_encoding h =
    number_encoding w32 h.channel_id ++ text_encoding h.security_policy_uri ++ byte_string_encoding h.sender_certificate
    ++ byte_string_encoding h.receiver_certificate_thumbprint ++ number_encoding w32 h.sequence_number
    ++ number_encoding w32 h.request_id
