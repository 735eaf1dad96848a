-- Messages out of the chunks that they come in.
use Rattle.std.specs.Prelude.{ℕ, ◌+◌, ◌==◌, Bool, true, false, not, ◌||◌, nat_lt, List, ◌++◌, length, ◌≤◌, Option, Some, None, Result, Ok, Err, if◌then◌else◌, IfSome}
use Rattle.ua_types.specs.Answers.{Step, step}
use Rattle.ua_types.specs.declared.status.Status.{Status}
use Rattle.ua_types.specs.declared.status.TheConstants.Status as status
use Rattle.ua_transport.specs.Agreements.{Limitation}
use Rattle.ua_transport.specs.declared.frame.ChunkType.{ChunkType}
use Rattle.ua_transport.specs.declared.frame.ChunkType.TheVariants.{Intermediate, Final, Aborted}
use Rattle.ua_transport.specs.declared.taken.Taken.{Taken}
use Rattle.ua_transport.specs.declared.taken.Taken.TheVariants as taken

-- what has come of a message: the request that it is of, and its chunks, counted and joined
pub record UnfinishedMessage : Type 0 where
  pub request_id : ℕ
  pub chunk_count : ℕ
  pub body : List ℕ

-- a chunk may come that belongs to the unfinished message, or begins one
abbrev pub may_join : Option UnfinishedMessage → ℕ → Bool
may_join None request_id = true
may_join (Some message) request_id = message.request_id == request_id

-- the message with one more chunk
abbrev pub extended : Option UnfinishedMessage → ℕ → List ℕ → UnfinishedMessage
extended None request_id part = record { request_id = request_id; chunk_count = 1; body = part }
extended (Some message) request_id part =
    record { request_id = message.request_id; chunk_count = message.chunk_count + 1; body = message.body ++ part }

abbrev pub exceeds_limits : Limitation → UnfinishedMessage → Bool
exceeds_limits limits message =
    nat_lt limits.max_message (length message.body) || nat_lt limits.max_chunks message.chunk_count

-- what a message's chunk of this type gives, and what of the message is left unfinished
abbrev pub joined_as : ChunkType → UnfinishedMessage → Step Taken Status (Option UnfinishedMessage)
joined_as Intermediate message = step (Ok taken.Nothing) (Some message)
joined_as Final message = step (Ok (taken.Request message.request_id message.body)) None
joined_as Aborted message = step (Ok (taken.Aborted message.request_id)) None

-- whether what was taken brings a part of a message, which is stored: nothing else takes memory
abbrev pub brings_part : Result Taken Status → Bool
brings_part (Ok taken.Nothing) = true
brings_part (Ok (taken.Request id body)) = true
brings_part _ = false

-- A chunk is joined to what has come of its message. Refused are a chunk of another request, and one
-- with which the message is too large.
unfoldable pub joining_of : Limitation → Option UnfinishedMessage → ℕ → ChunkType → List ℕ → Step Taken Status (Option UnfinishedMessage)
joining_of limits unfinished request_id chunk_type part =
    if not (may_join unfinished request_id) then step (Err status.BAD_DECODING_ERROR) unfinished
    else if exceeds_limits limits (extended unfinished request_id part) then step (Err status.BAD_TCP_MESSAGE_TOO_LARGE) unfinished
    else joined_as chunk_type (extended unfinished request_id part)

pub record IsWithinLimits (limits : Limitation) (message : UnfinishedMessage) : Type 0 where
  pub body : length message.body ≤ limits.max_message
  pub chunk_count : message.chunk_count ≤ limits.max_chunks

abbrev pub AreWithinLimits : Limitation → Option UnfinishedMessage → Type 0
AreWithinLimits limits unfinished = IfSome unfinished (λ message. IsWithinLimits limits message)
