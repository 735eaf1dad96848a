-- Frames as they stand on a stream.
use Rattle.std.specs.Prelude.{◌≡◌, ℕ, ◌+◌, ◌≤◌, true, List, ◌∷◌, ◌++◌, length, codes}
use Rattle.std.specs.List.{flat_map, AllByRecursion}
use Rattle.std.specs.Int.{w32, to_le_bytes}
use Rattle.ua_transport.specs.Frames.{End, Rest, Broken}
use Rattle.ua_transport.specs.Header.{may_come_in, judgement_of}
use Rattle.ua_transport.specs.declared.frame.Frame.{Frame}
use Rattle.ua_transport.specs.declared.frame.Judgement.TheVariants.{Incomplete, Faulty}
use Rattle.ua_transport.specs.declared.frame.MessageType.{MessageType}
use Rattle.ua_transport.specs.declared.frame.MessageType.TheVariants.{Hello, Acknowledge, Error, OpenSecureChannel, Message, CloseSecureChannel}
use Rattle.ua_transport.specs.declared.frame.ChunkType.{ChunkType}
use Rattle.ua_transport.specs.declared.frame.ChunkType.TheVariants.{Intermediate, Final, Aborted}

abbrev pub letters_of : MessageType → List ℕ
letters_of Hello = codes "HEL"
letters_of Acknowledge = codes "ACK"
letters_of Error = codes "ERR"
letters_of OpenSecureChannel = codes "OPN"
letters_of Message = codes "MSG"
letters_of CloseSecureChannel = codes "CLO"

-- C, F and A
abbrev pub letter_of : ChunkType → ℕ
letter_of Intermediate = 67
letter_of Final = 70
letter_of Aborted = 65

-- three letters, one letter, the size of it all, and the body
abbrev pub frame_encoding : Frame → List ℕ
frame_encoding f = letters_of f.message_type ++ (letter_of f.chunk_type ∷ (to_le_bytes w32 (8 + length f.body) ++ f.body))

-- a frame that the limit lets through
pub record IsFrame (limit : ℕ) (f : Frame) : Type 0 where
  pub chunk_type : may_come_in f.message_type f.chunk_type ≡ true
  pub size : 8 + length f.body ≤ limit

-- the end of a stream behind its last whole frame: less than a frame, or eight bytes that begin none
abbrev pub IsEnd : ℕ → List ℕ → End → Type 0
IsEnd limit tail (Rest bytes) = (bytes ≡ tail) × (judgement_of limit tail ≡ Incomplete)
IsEnd limit tail (Broken fault) = judgement_of limit tail ≡ Faulty fault

-- the stream is these frames in order, and then this end
pub record Splits (limit : ℕ) (stream : List ℕ) (fs : List Frame) (tail : List ℕ) (end : End) : Type 0 where
  pub whole : stream ≡ flat_map frame_encoding fs ++ tail
  pub each : AllByRecursion (IsFrame limit) fs
  pub ends : IsEnd limit tail end
