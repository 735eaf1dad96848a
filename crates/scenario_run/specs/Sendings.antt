-- What a client sends for a statement.
use Rattle.std.specs.Prelude.{ℕ, ◌==◌, Bool, nat_lt, min, List, ◌++◌, length, replicate, Option, Result, Ok, Err, if◌then◌else◌}
use Rattle.ua_types.specs.Answers.{◌>>=◌}
use Rattle.ua_types.specs.NodeIds.{numeric_id}
use Rattle.ua_transport.specs.Encoding.{frame_encoding}
use Rattle.ua_transport.specs.Hellos.{hello_encoding}
use Rattle.ua_transport.specs.declared.frame.ChunkType.TheVariants.{Final}
use Rattle.ua_transport.specs.declared.frame.MessageType.TheVariants.{Hello, CloseSecureChannel}
use Rattle.ua_transport.specs.Cutting.{opening_frame, opening_header_by}
use Rattle.ua_transport.specs.Headers.{chunk_header_encoding}
use Rattle.ua_transport.specs.SequenceNumbers.{sequence_number_after}
use Rattle.ua_transport.specs.declared.headers.ChunkHeader.{ChunkHeader}
use Rattle.scenario_text.specs.declared.choices.ChannelRequest.{ChannelRequest}
use Rattle.scenario_text.specs.declared.choices.ChannelRequest.TheVariants.{Issue, Renew}
use Rattle.scenario_text.specs.declared.fault.Cause.{Cause}
use Rattle.scenario_text.specs.declared.fault.Cause.TheVariants.{Limit}
use Rattle.scenario_text.specs.Messages.{opening_body, closing_body}
use Rattle.scenario_text.specs.Structures.{plain_request}
use Rattle.scenario_run.specs.RequestRuns.{Run, request_run}
use Rattle.scenario_run.specs.declared.clients.Client.{Client}

-- the longest body
abbrev pub body_limit : ℕ
body_limit = 1048576

abbrev pub limited : List ℕ → Result (List ℕ) Cause
limited body = if nat_lt body_limit (length body) then Err Limit else Ok body

-- the bytes, and the client after them
abbrev pub Sending : Type 0
Sending = List ℕ × Client

abbrev pub new_client : List ℕ → Client
new_client key = record { key = key; channel_id = 0; token_id = 0; sequence_number = 1; request_id = 1 }

abbrev pub no_client : Client
no_client = new_client (replicate 32 0)

-- the header of the next chunk
abbrev pub header_of : Client → ChunkHeader
header_of client = record {
  channel_id = client.channel_id;
  token_id = client.token_id;
  sequence_number = client.sequence_number;
  request_id = client.request_id;
}

-- after a request, whose next chunk would have this sequence number
abbrev pub after_request : Client → ℕ → Client
after_request client sequence_number = record client { sequence_number = sequence_number; request_id = sequence_number_after client.request_id }

-- ---- hello

unfoldable pub hello_of : Client → Option (List ℕ) → Result Sending Cause
hello_of client url = do
  body ← limited (hello_encoding (record {
    protocol_version = 0;
    receive_size = 65536;
    send_size = 65536;
    max_message_size = 0;
    max_chunk_count = 0;
    endpoint_url = url;
  }))
  Ok (frame_encoding (record { message_type = Hello; chunk_type = Final; body = body }), client)

-- ---- opening and closing of channels

-- a channel that is asked for has no number yet
abbrev pub named_channel : Client → ChannelRequest → ℕ
named_channel client Issue = 0
named_channel client Renew = client.channel_id

-- a new channel has this number and the token 1, and each renewal brings the next token
abbrev pub opened : ℕ → ChannelRequest → Client → Client
opened number Issue client = record client { channel_id = number; token_id = 1 }
opened number Renew client = record client { token_id = sequence_number_after client.token_id }

unfoldable pub opening_of : Client → ℕ → ChannelRequest → Result Sending Cause
opening_of client number request = do
  body ← limited (opening_body (plain_request (numeric_id 0 0) client.request_id) request)
  Ok (
    frame_encoding (opening_frame (opening_header_by (named_channel client request) client.sequence_number client.request_id) body),
    opened number request (after_request client (sequence_number_after client.sequence_number)),
  )

unfoldable pub closing_of : Client → Result Sending Cause
closing_of client = do
  body ← limited (closing_body (plain_request (numeric_id 0 0) client.request_id))
  Ok (
    frame_encoding (record { message_type = CloseSecureChannel; chunk_type = Final; body = chunk_header_encoding (header_of client) ++ body }),
    after_request client (sequence_number_after client.sequence_number),
  )

-- ---- services

-- how many bytes of a body a chunk holds: so many, and where it is 0 the longest body
abbrev pub room_of : ℕ → ℕ
room_of chunk = if chunk == 0 then body_limit else min chunk body_limit

abbrev pub run_sent : Client → Run → Sending
run_sent client run = (run.bytes, after_request client run.next.sequence_number)

unfoldable pub service_of : Bool → ℕ → Client → List ℕ → Result Sending Cause
service_of aborted chunk client body = do
  within ← limited body
  Ok (run_sent client (request_run aborted (header_of client) (room_of chunk) within))
