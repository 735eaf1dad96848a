-- What the first eight bytes of a frame say: three letters, a chunk letter and the size of the whole frame.
use Rattle.std.specs.Prelude.{ℕ, ◌==◌, Bool, true, false, List, length, take, drop, slice_index, if◌then◌else◌, Option, Some, None, Result, Ok, Err, nat_lt, ◌||◌, codes}
use Rattle.std.specs.Str.{bytes_eq}
use Rattle.std.specs.Int.{w32, from_le_bytes}
use Rattle.ua_transport.specs.declared.frame.MessageType.{MessageType}
use Rattle.ua_transport.specs.declared.frame.MessageType.TheVariants.{Hello, Acknowledge, Error, OpenSecureChannel, Message, CloseSecureChannel}
use Rattle.ua_transport.specs.declared.frame.ChunkType.{ChunkType}
use Rattle.ua_transport.specs.declared.frame.ChunkType.TheVariants.{Intermediate, Final, Aborted}
use Rattle.ua_transport.specs.declared.frame.FrameFault.{FrameFault}
use Rattle.ua_transport.specs.declared.frame.FrameFault.TheVariants.{Letters, Size}
use Rattle.ua_transport.specs.declared.frame.Header.{Header}
use Rattle.ua_transport.specs.declared.frame.Judgement.{Judgement}
use Rattle.ua_transport.specs.declared.frame.Judgement.TheVariants.{Incomplete, Faulty, Whole}

abbrev pub message_type_of : List ℕ → Option MessageType
message_type_of letters =
    if bytes_eq letters (codes "HEL") then Some Hello
    else if bytes_eq letters (codes "ACK") then Some Acknowledge
    else if bytes_eq letters (codes "ERR") then Some Error
    else if bytes_eq letters (codes "OPN") then Some OpenSecureChannel
    else if bytes_eq letters (codes "MSG") then Some Message
    else if bytes_eq letters (codes "CLO") then Some CloseSecureChannel
    else None

-- the letters C, F and A
abbrev pub chunk_type_of : ℕ → Option ChunkType
chunk_type_of letter =
    if letter == 67 then Some Intermediate
    else if letter == 70 then Some Final
    else if letter == 65 then Some Aborted
    else None

-- HEL, ACK and ERR come in one piece
abbrev pub may_come_in : MessageType → ChunkType → Bool
may_come_in OpenSecureChannel chunk_type = true
may_come_in Message chunk_type = true
may_come_in CloseSecureChannel chunk_type = true
may_come_in message_type Final = true
may_come_in message_type chunk_type = false

-- first the letters are judged, then the size
abbrev pub header_from : ℕ → ℕ → Option MessageType → Option ChunkType → Result Header FrameFault
header_from limit size (Some message_type) (Some chunk_type) =
    if may_come_in message_type chunk_type
    then (if nat_lt size 8 || nat_lt limit size then Err Size
    else Ok (record { message_type = message_type; chunk_type = chunk_type; size = size }))
    else Err Letters
header_from limit size message_type chunk_type = Err Letters

-- what these eight bytes say
unfoldable pub header_of : ℕ → List ℕ → Result Header FrameFault
header_of limit bytes =
    header_from limit (from_le_bytes w32 (take 4 (drop 4 bytes))) (message_type_of (take 3 bytes)) (chunk_type_of (slice_index bytes 3))

-- what is to be said of a frame where so many bytes of it have come
abbrev pub judgement_at : ℕ → Result Header FrameFault → Judgement
judgement_at len (Err fault) = Faulty fault
judgement_at len (Ok header) = if nat_lt len header.size then Incomplete else Whole header

-- what is to be said of the frame that these bytes begin: nothing before eight of them are there
unfoldable pub judgement_of : ℕ → List ℕ → Judgement
judgement_of limit bytes =
    if nat_lt (length bytes) 8 then Incomplete else judgement_at (length bytes) (header_of limit (take 8 bytes))
