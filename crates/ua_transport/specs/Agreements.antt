-- What a client's Hello and the server's limits come to (IEC 62541-6, "Hello Message", "Acknowledge
-- Message" and "Error Message").
use Rattle.std.specs.Prelude.{ℕ, ◌<◌, ◌≤◌, Bool, true, false, ◌||◌, ◌&&◌, nat_lt, min, List, ◌++◌, length, Option, Some, None, Result, Ok, Err, if◌then◌else◌}
use Rattle.std.specs.Int.{w32, to_le_bytes}
use Rattle.ua_types.specs.Configuration.{Configuration, IsWithin}
use Rattle.ua_types.specs.declared.status.Status.{Status}
use Rattle.ua_types.specs.declared.status.TheConstants.Status as status
use Rattle.ua_binary.specs.declared.fault.TakeFault.{TakeFault}
use Rattle.ua_transport.specs.Encoding.{frame_encoding}
use Rattle.ua_transport.specs.Hellos.{hello_reading}
use Rattle.ua_transport.specs.declared.frame.Frame.{Frame}
use Rattle.ua_transport.specs.declared.frame.ChunkType.TheVariants.{Final}
use Rattle.ua_transport.specs.declared.frame.MessageType.{MessageType}
use Rattle.ua_transport.specs.declared.frame.MessageType.TheVariants.{Hello as HelloType, Acknowledge, Error}
use Rattle.ua_transport.specs.declared.hello_message.Hello.{Hello}

-- the server's limits, as its configuration has them
pub record Limitation : Type 0 where
  pub receive_size : ℕ
  pub send_size : ℕ
  pub max_message : ℕ
  pub max_chunks : ℕ

pub record AreInRange (limits : Limitation) : Type 0 where
  pub receive_size : IsWithin 1024 1048576 limits.receive_size
  pub send_size : IsWithin 1024 1048576 limits.send_size
  pub max_message : IsWithin 1024 16777216 limits.max_message
  pub max_chunks : IsWithin 1 65535 limits.max_chunks

abbrev pub limits_of : Configuration → Limitation
limits_of c = record {
  receive_size = c.receive_size;
  send_size = c.send_size;
  max_message = c.max_message;
  max_chunks = c.max_chunks;
}

-- the largest frames of both directions, the client's limits of an answer, and the server's limits
pub record Agreement : Type 0 where
  pub receive_size : ℕ
  pub send_size : ℕ
  pub max_message_size : ℕ
  pub max_chunk_count : ℕ
  pub limits : Limitation

-- what holds of every agreement. 0 in the largest message means no limit, and no smaller limit than 1024 is agreed on
pub record IsAgreement (agreed : Agreement) : Type 0 where
  pub receive_size : IsWithin 1024 1048576 agreed.receive_size
  pub send_size : IsWithin 1024 1048576 agreed.send_size
  pub max_message_size : 0 < agreed.max_message_size → 1024 ≤ agreed.max_message_size

-- in each direction the lesser of what the sender says and what the receiver says
abbrev pub agreement_of : Limitation → Hello → Agreement
agreement_of limits hello = record {
  receive_size = min hello.send_size limits.receive_size;
  send_size = min hello.receive_size limits.send_size;
  max_message_size = hello.max_message_size;
  max_chunk_count = hello.max_chunk_count;
  limits = limits;
}

-- the client is told this status
abbrev pub refused : Status → Result Agreement Status
refused code = Err code

abbrev pub is_hello : MessageType → Bool
is_hello HelloType = true
is_hello other = false

abbrev pub is_longer_than : ℕ → Option (List ℕ) → Bool
is_longer_than most None = false
is_longer_than most (Some text) = nat_lt most (length text)

-- 0 in the largest message means no limit
abbrev pub is_too_small : Hello → Bool
is_too_small hello =
    nat_lt hello.receive_size 1024 || nat_lt hello.send_size 1024
    || (nat_lt 0 hello.max_message_size && nat_lt hello.max_message_size 1024)

-- the first refusal, or what is agreed
abbrev pub outcome_of : Limitation → Hello → Result Agreement Status
outcome_of limits hello =
    if is_longer_than 4096 hello.endpoint_url then refused status.BAD_TCP_ENDPOINT_URL_INVALID
    else if is_too_small hello then refused status.BAD_TCP_NOT_ENOUGH_RESOURCES
    else Ok (agreement_of limits hello)

-- what follows the last field is ignored
abbrev pub outcome_of_reading : Limitation → Result (Hello × List ℕ) TakeFault → Result Agreement Status
outcome_of_reading limits (Ok read) = outcome_of limits read.0
outcome_of_reading limits (Err fault) = refused status.BAD_DECODING_ERROR

abbrev pub outcome_of_frame : Limitation → Frame → Result Agreement Status
outcome_of_frame limits frame =
    if is_hello frame.message_type then outcome_of_reading limits (hello_reading frame.body) else refused status.BAD_TCP_MESSAGE_TYPE_INVALID

-- version 0, and then the two sizes and the two limits of the server
abbrev pub acknowledge_encoding : Agreement → List ℕ
acknowledge_encoding agreement = frame_encoding (record {
  message_type = Acknowledge;
  chunk_type = Final;
  body = to_le_bytes w32 0 ++ to_le_bytes w32 agreement.receive_size ++ to_le_bytes w32 agreement.send_size
      ++ to_le_bytes w32 agreement.limits.max_message ++ to_le_bytes w32 agreement.limits.max_chunks;
})

-- a status, and the null text as the reason
abbrev pub error_encoding : Status → List ℕ
error_encoding code = frame_encoding (record {
  message_type = Error;
  chunk_type = Final;
  body = to_le_bytes w32 code.0 ++ to_le_bytes w32 0xffff_ffff;
})
