-- That events are what happens in a scenario: a group for each happening, in their order, whose bytes read as it.
use Rattle.std.specs.Prelude.{◌≡◌, ℕ, zero, suc, ◌≤◌, ◌-◌, Bool, true, false, List, [], ◌∷◌, ◌++◌, length, map, replicate, slice_get, unwrap_or, Option, Some, None, Ok}
use Rattle.std.specs.List.{concat}
use Rattle.std.specs.Ordering.{nat_cmp}
use Rattle.std.specs.FinMap.{FinMap, get, insert, remove, empty}
use Rattle.ua_types.specs.NodeIds.{numeric_id}
use Rattle.ua_types.specs.declared.node_id.NodeId.{NodeId}
use Rattle.ua_binary.specs.Reading.{Reading}
use Rattle.ua_messages.specs.declared.headers.RequestHeader.{RequestHeader}
use Rattle.ua_transport.specs.Frames.{frames, Rest}
use Rattle.ua_transport.specs.Hellos.{hello_reading}
use Rattle.ua_transport.specs.declared.frame.ChunkType.{ChunkType}
use Rattle.ua_transport.specs.declared.frame.ChunkType.TheVariants.{Intermediate, Final, Aborted}
use Rattle.ua_transport.specs.declared.frame.Frame.{Frame}
use Rattle.ua_transport.specs.declared.frame.MessageType.{MessageType}
use Rattle.ua_transport.specs.declared.frame.MessageType.TheVariants as message
use Rattle.ua_transport.specs.declared.hello_message.Hello.{Hello}
use Rattle.ua_transport.specs.Chunks.{joins}
use Rattle.ua_transport.specs.Cutting.{opening_header_by, next_header}
use Rattle.ua_transport.specs.Headers.{chunk_header_reading, opening_header_reading}
use Rattle.ua_transport.specs.SequenceNumbers.{sequence_number_after}
use Rattle.ua_transport.specs.declared.headers.ChunkHeader.{ChunkHeader}
use Rattle.ua_session.specs.Tokens.{secret_of, token_of}
use Rattle.server_core.specs.declared.event.Event.{Event}
use Rattle.server_core.specs.declared.event.Event.TheVariants as events
use Rattle.scenario_text.specs.declared.choices.ChannelRequest.{ChannelRequest}
use Rattle.scenario_text.specs.declared.choices.ChannelRequest.TheVariants.{Issue, Renew}
use Rattle.scenario_text.specs.Messages.{IsServiceBody, IsEndpointsBody, IsSessionBody, IsOpeningBody, IsClosingBody}
use Rattle.scenario_text.specs.Structures.{plain_request}
use Rattle.scenario_run.specs.Meaning.{Asking, Endpoints, NewSession, Service, Kind, Opening, Closing, Passing, Ending, Greeting, ChannelOpening, ChannelEnd, Asked, Unread, Happening}
use Rattle.scenario_run.specs.Reading.{messages_of}
use Rattle.scenario_run.specs.declared.assembler.Session.{Session}
use Rattle.scenario_run.specs.declared.clients.Client.{Client}

-- ---- the numbers

-- what was counted and given so far
pub record Counts : Type 0 where
  pub clients : FinMap nat_cmp Client
  pub channels : ℕ
  pub sessions : List Session

abbrev pub nothing_counted : Counts
nothing_counted = record { clients = empty; channels = 0; sessions = [] }

-- no channel and no token yet, and chunks and requests counted from 1
abbrev pub first_numbers : List ℕ → Client
first_numbers key = record { key = key; channel_id = 0; token_id = 0; sequence_number = 1; request_id = 1 }

abbrev pub numbers_on : Counts → ℕ → Client
numbers_on c connection = unwrap_or (get c.clients connection) (first_numbers (replicate 32 0))

abbrev pub with_numbers : Counts → ℕ → Client → Counts
with_numbers c connection n = record c { clients = insert c.clients connection n }

-- so many chunks later
unfoldable pub chunks_later : ℕ → ℕ → ℕ
chunks_later zero sequence_number = sequence_number
chunks_later (suc n) sequence_number = chunks_later n (sequence_number_after sequence_number)

-- after a request in so many chunks
abbrev pub after_chunks : ℕ → Client → Client
after_chunks count n = record n { sequence_number = chunks_later count n.sequence_number; request_id = sequence_number_after n.request_id }

-- the newest channel and the newest token
abbrev pub first_header : Client → ChunkHeader
first_header n = record { channel_id = n.channel_id; token_id = n.token_id; sequence_number = n.sequence_number; request_id = n.request_id }

-- the token that the server gives a session
abbrev pub given_token : Option Session → NodeId
given_token None = numeric_id 0 0
given_token (Some s) = token_of (secret_of s.key) s.number

abbrev pub session_header : Counts → ℕ → ℕ → RequestHeader
session_header c session handle = plain_request (given_token (slice_get c.sessions (session - 1))) handle

abbrev pub null_header : ℕ → RequestHeader
null_header handle = plain_request (numeric_id 0 0) handle

-- ---- sizes

-- Pieces of which all but the last have this size, and the last no more. Only where it is alone it may have nothing.
abbrev pub AreFull : ℕ → ℕ → List (List ℕ) → Type 0
AreFull least size [] = ⊥
AreFull least size (p ∷ []) = (least ≤ length p) × (length p ≤ size)
AreFull least size (p ∷ (q ∷ qs)) = (length p ≡ size) × AreFull 1 size (q ∷ qs)

-- where the size is 0, one piece
abbrev pub AreSized : ℕ → List (List ℕ) → Type 0
AreSized zero pieces = length pieces ≡ 1
AreSized (suc n) pieces = AreFull 0 (suc n) pieces

-- the events bring these bytes on this connection
pub record ComesIn (cut connection : ℕ) (bytes : List ℕ) (group : List Event) : Type 0 where
  pub pieces : List (List ℕ)
  pub brought : group ≡ map (λ piece. events.Bytes connection piece) pieces
  pub whole : concat pieces ≡ bytes
  pub sizes : AreSized cut pieces

-- ---- frames

-- frames are read with no limit but that of their size's four bytes
abbrev pub no_limit : ℕ
no_limit = 4294967295

abbrev pub AreFrames : List ℕ → List Frame → Type 0
AreFrames bytes fs = frames no_limit bytes ≡ record { frames = fs; end = Rest [] }

-- one frame, in one chunk, which is read as this value and then bytes of this kind
pub record IsOneFrame {A : Type 0} (message_type : MessageType) (reading : Reading A) (value : A) (IsBehind : List ℕ → Type 0) (bytes : List ℕ) : Type 0 where
  pub body : List ℕ
  pub behind : List ℕ
  pub framed : AreFrames bytes (record { message_type = message_type; chunk_type = Final; body = body } ∷ [])
  pub read : reading body ≡ Ok (value, behind)
  pub rest : IsBehind behind

-- the last chunk has this type
abbrev pub type_of : ChunkType → List (List ℕ) → ChunkType
type_of last [] = last
type_of last (part ∷ parts) = Intermediate

-- chunks of these parts: the header of the first is this one, and those of the others are counted on from it
abbrev pub Hold : ChunkType → ChunkHeader → List (List ℕ) → List Frame → Type 0
Hold last header [] [] = Unit {0}
Hold last header [] (f ∷ fs) = ⊥
Hold last header (part ∷ parts) [] = ⊥
Hold last header (part ∷ parts) (f ∷ fs) =
    (f.message_type ≡ message.Message) × (f.chunk_type ≡ type_of last parts) × (chunk_header_reading f.body ≡ Ok (header, part)) × Hold last (next_header header) parts fs

-- a request that is given up has all its parts, and then a chunk that says why: a status of 0 and a reason that is null
abbrev pub HoldRequest : Bool → ChunkHeader → List (List ℕ) → List Frame → Type 0
HoldRequest false header parts fs = Hold Final header parts fs
HoldRequest true header parts fs = Hold Aborted header (parts ++ (0 ∷ 0 ∷ 0 ∷ 0 ∷ 255 ∷ 255 ∷ 255 ∷ 255 ∷ []) ∷ []) fs

-- so many chunks, which hold a body of this kind in parts of this size
pub record IsRequest (aborted : Bool) (chunk : ℕ) (header : ChunkHeader) (IsBody : List ℕ → Type 0) (count : ℕ) (bytes : List ℕ) : Type 0 where
  pub chunks : List Frame
  pub parts : List (List ℕ)
  pub framed : AreFrames bytes chunks
  pub held : HoldRequest aborted header parts chunks
  pub counted : length chunks ≡ count
  pub sizes : AreSized chunk parts
  pub body : IsBody (concat parts)
  pub joined : joins None chunks ≡ messages_of aborted header.request_id (concat parts)

-- the events bring bytes of this kind
pub record Bring (cut connection : ℕ) (IsBytes : List ℕ → Type 0) (group : List Event) : Type 0 where
  pub bytes : List ℕ
  pub comes : ComesIn cut connection bytes group
  pub said : IsBytes bytes

-- ---- what happens

abbrev pub greeting : Option (List ℕ) → Hello
greeting url = record {
  protocol_version = 0;
  receive_size = 65536;
  send_size = 65536;
  max_message_size = 0;
  max_chunk_count = 0;
  endpoint_url = url;
}

abbrev pub IsNothing : List ℕ → Type 0
IsNothing bytes = bytes ≡ []

-- a new channel is asked for as the number 0
abbrev pub asked_channel : Client → ChannelRequest → ℕ
asked_channel n Issue = 0
asked_channel n Renew = n.channel_id

-- a new channel has the next number and the token 1, and a renewal brings the next token
abbrev pub with_token : Counts → ℕ → ChannelRequest → Client → Counts
with_token c connection Issue n = record c {
  clients = insert c.clients connection (record n { channel_id = sequence_number_after c.channels; token_id = 1 });
  channels = sequence_number_after c.channels;
}
with_token c connection Renew n = with_numbers c connection (record n { token_id = sequence_number_after n.token_id })

abbrev pub IsAskingBody : Counts → ℕ → Asking → List ℕ → Type 0
IsAskingBody c handle Endpoints body = IsEndpointsBody (null_header handle) body
IsAskingBody c handle NewSession body = IsSessionBody (null_header handle) body
IsAskingBody c handle (Service session request) body = IsServiceBody (session_header c session handle) request body

-- a session is made on this connection
abbrev pub with_asking : Counts → ℕ → Asking → Counts
with_asking c connection Endpoints = c
with_asking c connection NewSession =
    record c { sessions = c.sessions ++ record { key = (numbers_on c connection).key; number = sequence_number_after (length c.sessions) } ∷ [] }
with_asking c connection (Service session request) = c

-- a group of events is what happens, and this is counted after it
abbrev pub IsGroup : Counts → ℕ → ℕ → Kind → List Event → Counts → Type 0
IsGroup c cut chunk (Opening connection key) group after = (group ≡ events.Opened connection key ∷ []) × (after ≡ with_numbers c connection (first_numbers key))
IsGroup c cut chunk (Closing connection) group after = (group ≡ events.Gone connection ∷ []) × (after ≡ record c { clients = remove c.clients connection })
IsGroup c cut chunk (Passing now) group after = (group ≡ events.Tick now ∷ []) × (after ≡ c)
IsGroup c cut chunk Ending group after = (group ≡ events.Shutdown ∷ []) × (after ≡ c)
IsGroup c cut chunk (Unread connection bytes) group after = ComesIn cut connection bytes group × (after ≡ c)
IsGroup c cut chunk (Greeting connection url) group after = Bring cut connection (IsOneFrame message.Hello hello_reading (greeting url) IsNothing) group × (after ≡ with_numbers c connection (numbers_on c connection))
IsGroup c cut chunk (ChannelOpening connection request) group after =
    let n = numbers_on c connection in
    Bring cut connection
    (IsOneFrame message.OpenSecureChannel opening_header_reading (opening_header_by (asked_channel n request) n.sequence_number n.request_id)
    (IsOpeningBody (null_header n.request_id) request)) group
    × (after ≡ with_token c connection request (after_chunks 1 n))
IsGroup c cut chunk (ChannelEnd connection) group after =
    let n = numbers_on c connection in
    Bring cut connection
    (IsOneFrame message.CloseSecureChannel chunk_header_reading (first_header n)
    (IsClosingBody (null_header n.request_id))) group
    × (after ≡ with_numbers c connection (after_chunks 1 n))
IsGroup c cut chunk (Asked connection aborted asking) group after =
    let n = numbers_on c connection in
    (count : ℕ) × Bring cut connection (IsRequest aborted chunk (first_header n) (IsAskingBody c n.request_id asking) count) group
    × (after ≡ with_numbers (with_asking c connection asking) connection (after_chunks count n))

-- the events fall into a group for each happening, in their order
unfoldable pub AreGroups : Counts → List Happening → List Event → Type 0
AreGroups c [] es = es ≡ []
AreGroups c (h ∷ hs) es =
    (group : List Event) × (others : List Event) × (after : Counts) × (es ≡ group ++ others) × IsGroup c h.cut h.chunk h.kind group after × AreGroups after hs others
