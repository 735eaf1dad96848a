-- That what is cut is whole again, and that what a client sends is read again.
use Rattle.std.specs.Prelude.{◌≡◌, ℕ, ◌+◌, ◌<◌, ◌≤◌, ◌^◌, Bool, true, false, List, [], ◌∷◌, Option, Some, None, Result, Ok, Err}
use Rattle.ua_types.specs.NodeIds.{numeric_id}
use Rattle.ua_binary.specs.Reading.{Reading}
use Rattle.ua_transport.specs.Frames.{frames, Rest}
use Rattle.ua_transport.specs.declared.frame.ChunkType.TheVariants.{Final}
use Rattle.ua_transport.specs.declared.frame.MessageType.{MessageType}
use Rattle.ua_transport.specs.declared.hello_message.Hello.{Hello}
use Rattle.ua_transport.specs.Cutting.{opening_header_by}
use Rattle.ua_transport.specs.Chunks.{Messages, joins}
use Rattle.ua_transport.specs.Headers.{IsWritable}
use Rattle.ua_transport.specs.declared.headers.ChunkHeader.{ChunkHeader}
use Rattle.ua_transport.specs.declared.headers.OpeningHeader.{OpeningHeader}
use Rattle.scenario_text.specs.declared.choices.ChannelRequest.{ChannelRequest}
use Rattle.scenario_text.specs.declared.fault.Cause.{Cause}
use Rattle.scenario_text.specs.Messages.{opening_body, closing_body}
use Rattle.scenario_text.specs.Structures.{plain_request}
use Rattle.scenario_run.specs.Members.{Assembled, client_of}
use Rattle.scenario_run.specs.RequestRuns.{request_run}
use Rattle.scenario_run.specs.Sendings.{body_limit, header_of, named_channel}
use Rattle.scenario_run.specs.declared.assembler.Assembler.{Assembler}
use Rattle.scenario_run.specs.declared.assembler.Member.TheVariants.{Stream}
use Rattle.scenario_run.specs.declared.clients.Client.{Client}

-- a request that isn't given up is one message, and one that is given up is none
abbrev pub messages_of : Bool → ℕ → List ℕ → Messages
messages_of false id body = Some ((id, body) ∷ [])
messages_of true id body = Some []

-- the stream of a request is whole frames, which join to its messages
abbrev pub IsReadAgain : Bool → ℕ → ChunkHeader → ℕ → List ℕ → Type 0
IsReadAgain aborted limit header room body =
    let read = frames limit (request_run aborted header room body).bytes in
    (read.end ≡ Rest []) × (joins None read.frames ≡ messages_of aborted header.request_id body)

-- ---- a Hello, the opening of a channel and its end

-- a limit that lets every frame of a client through
pub record IsAmple (limit : ℕ) : Type 0 where
  pub large : body_limit + 128 ≤ limit
  pub small : limit < 2 ^ 32

-- What a line comes to: bytes of this connection that are one frame, in one chunk and with nothing behind it,
-- whose body is read as this, and then these bytes.
pub record SendsFrame {A : Type 0} (limit connection : ℕ) (message_type : MessageType) (reading : Reading A) (said : A × List ℕ) (assembled : Assembled) : Type 0 where
  pub bytes : List ℕ
  pub body : List ℕ
  pub sent : assembled.0 ≡ Stream connection bytes
  pub framed : frames limit bytes
      ≡ record { frames = record { message_type = message_type; chunk_type = Final; body = body } ∷ []; end = Rest [] }
  pub read : reading body ≡ Ok said

-- version 0, frames of 65536 bytes, and no limit of an answer
abbrev pub hello_said : Option (List ℕ) → Hello × List ℕ
hello_said url = (
  record {
    protocol_version = 0;
    receive_size = 65536;
    send_size = 65536;
    max_message_size = 0;
    max_chunk_count = 0;
    endpoint_url = url;
  },
  [],
)

-- the client's numbers, and the request for a channel or a token
abbrev pub opening_said : Client → ChannelRequest → OpeningHeader × List ℕ
opening_said client request = (
  opening_header_by (named_channel client request) client.sequence_number client.request_id,
  opening_body (plain_request (numeric_id 0 0) client.request_id) request,
)

-- the client's numbers, and the request to close its channel
abbrev pub closing_said : Client → ChunkHeader × List ℕ
closing_said client = (header_of client, closing_body (plain_request (numeric_id 0 0) client.request_id))

-- ---- the numbers of what is sent

-- the next chunk of a client has a header that can be written
abbrev pub IsCounted : Client → Type 0
IsCounted client = IsWritable (header_of client)

pub record AllCounted (a : Assembler) : Type 0 where
  pub clients : (connection : ℕ) → IsCounted (client_of a connection)
  pub channels : a.channels < 2 ^ 32

-- so it is after a line
abbrev pub AfterCounted : Result Assembled Cause → Type 0
AfterCounted (Ok assembled) = AllCounted assembled.1
AfterCounted (Err cause) = Unit {0}
