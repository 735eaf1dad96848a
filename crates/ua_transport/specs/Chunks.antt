-- The messages that chunks join to, and what a channel answers to frames in order.
use Rattle.std.specs.Prelude.{◌≡◌, ℕ, ◌==◌, Bool, true, false, ◌&&◌, List, [], ◌∷◌, ◌++◌, Option, Some, None, option_map, Result, Ok, Err, IsOk, if◌then◌else◌}
use Rattle.std.specs.List.{AllByRecursion}
use Rattle.ua_types.specs.declared.status.Status.{Status}
use Rattle.ua_binary.specs.declared.fault.TakeFault.{TakeFault}
use Rattle.ua_transport.specs.declared.frame.Frame.{Frame}
use Rattle.ua_transport.specs.declared.frame.MessageType.{MessageType}
use Rattle.ua_transport.specs.declared.frame.MessageType.TheVariants as message
use Rattle.ua_transport.specs.declared.frame.ChunkType.{ChunkType}
use Rattle.ua_transport.specs.declared.frame.ChunkType.TheVariants.{Intermediate, Final, Aborted}
use Rattle.ua_transport.specs.declared.headers.ChunkHeader.{ChunkHeader}
use Rattle.ua_transport.specs.declared.taken.Taken.{Taken}
use Rattle.ua_transport.specs.declared.taken.Taken.TheVariants as taken
use Rattle.ua_transport.specs.Headers.{chunk_header_reading, part_of}
use Rattle.ua_transport.specs.Messages.{UnfinishedMessage}
use Rattle.ua_transport.specs.ChannelStates.{ChannelState}
use Rattle.ua_transport.specs.Acceptance.{take_of}

-- The parts of a message that have come, with the number of its request. None where the next chunk begins one
abbrev pub Begun : Type 0
Begun = Option (ℕ × List ℕ)

abbrev pub parts_of : Begun → List ℕ
parts_of None = []
parts_of (Some begun) = begun.1

-- a chunk of this request goes on with what has begun, or begins a message
abbrev pub is_of : Begun → ℕ → Bool
is_of None request_id = true
is_of (Some begun) request_id = begun.0 == request_id

abbrev pub is_message : MessageType → Bool
is_message message.Message = true
is_message message_type = false

-- messages, each with the number of its request; none where a chunk fits no message
abbrev pub Messages : Type 0
Messages = Option (List (ℕ × List ℕ))

-- a final chunk ends its message, and an aborted one drops it
abbrev pub joined_on : ChunkType → ℕ → List ℕ → (Begun → Messages) → Messages
joined_on Intermediate request_id body more = more (Some (request_id, body))
joined_on Final request_id body more = option_map (λ messages. (request_id, body) ∷ messages) (more None)
joined_on Aborted request_id body more = more None

-- the chunks of a message are MSG frames of one request
abbrev pub joined_to : Begun → MessageType → ChunkType → ℕ → List ℕ → (Begun → Messages) → Messages
joined_to begun message_type chunk_type request_id part more =
    if is_message message_type && is_of begun request_id then joined_on chunk_type request_id (parts_of begun ++ part) more
    else None

-- a frame whose header can't be read is no chunk
abbrev pub joined_by : Begun → Frame → Result (ChunkHeader × List ℕ) TakeFault → (Begun → Messages) → Messages
joined_by begun frame (Ok read) more = joined_to begun frame.message_type frame.chunk_type read.0.request_id (part_of frame) more
joined_by begun frame (Err fault) more = None

-- The messages of chunks, after the parts that have come before: runs of MSG chunks of one request, each ended by a final
-- chunk, which gives its message, or by an aborted one, which gives nothing. Where a chunk of another request or another kind
-- comes within a run, there are none
abbrev pub joins : Begun → List Frame → Messages
joins begun [] = Some []
joins begun (frame ∷ frames) = joined_by begun frame (chunk_header_reading frame.body) (λ b. joins b frames)

-- what a channel answers to frames in order
abbrev pub answers : ChannelState → List Frame → List (Result Taken Status)
answers s [] = []
answers s (frame ∷ frames) = (take_of s frame).answer ∷ answers (take_of s frame).state frames

-- the requests among the answers
abbrev pub with_request : Result Taken Status → List (ℕ × List ℕ) → List (ℕ × List ℕ)
with_request (Ok (taken.Request id body)) rest = (id, body) ∷ rest
with_request answer rest = rest

abbrev pub requests : List (Result Taken Status) → List (ℕ × List ℕ)
requests [] = []
requests (answer ∷ rest) = with_request answer (requests rest)

-- what has come of a message
abbrev pub come : Option UnfinishedMessage → Begun
come None = None
come (Some message) = Some (message.request_id, message.body)

-- MSG frames, of which the channel refuses none
pub record AreAccepted (s : ChannelState) (frames : List Frame) : Type 0 where
  pub not_refused : s.refused ≡ None
  pub messages : AllByRecursion (λ (frame : Frame). frame.message_type ≡ message.Message) frames
  pub accepted : AllByRecursion (λ (answer : Result Taken Status). IsOk answer) (answers s frames)
