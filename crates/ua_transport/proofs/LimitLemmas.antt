-- An unfinished message stays within the limits.
use Rattle.std.proofs.Common.{◌≡◌, ℕ, ◌+◌, Bool, true, false, cond, List, length, Option, Some, None, Result, Ok, Err, refl, arith, rules}
use Rattle.std.specs.Prelude.{nat_lt, not}
use Rattle.std.proofs.lemmas.Bool.Decides.{nat_tests}
use Rattle.ua_types.specs.Answers.{Step, step}
use Rattle.ua_types.specs.declared.status.Status.{Status}
use Rattle.ua_types.specs.declared.status.TheConstants.Status as status
use Rattle.ua_binary.specs.declared.fault.TakeFault.{TakeFault}
use Rattle.ua_transport.specs.Agreements.{Limitation}
use Rattle.ua_transport.specs.declared.frame.Frame.{Frame}
use Rattle.ua_transport.specs.declared.frame.MessageType.{MessageType}
use Rattle.ua_transport.specs.declared.frame.MessageType.TheVariants.{Hello, Acknowledge, Error, OpenSecureChannel, Message, CloseSecureChannel}
use Rattle.ua_transport.specs.declared.frame.ChunkType.{ChunkType}
use Rattle.ua_transport.specs.declared.frame.ChunkType.TheVariants.{Intermediate, Final, Aborted}
use Rattle.ua_transport.specs.declared.headers.ChunkHeader.{ChunkHeader}
use Rattle.ua_transport.specs.declared.headers.OpeningHeader.{OpeningHeader}
use Rattle.ua_transport.specs.declared.openings.OpeningRequest.{OpeningRequest}
use Rattle.ua_transport.specs.declared.taken.Taken.{Taken}
use Rattle.ua_transport.specs.Headers.{opening_header_reading, part_of}
use Rattle.ua_transport.specs.SequenceNumbers.{may_follow}
use Rattle.ua_transport.specs.Messages.{UnfinishedMessage, may_join, extended, exceeds_limits, joined_as, joining_of, IsWithinLimits, AreWithinLimits}
use Rattle.ua_transport.specs.ChannelStates.{ChannelState}
use Rattle.ua_transport.specs.Openings.{is_policy_none, opening_request_of, renewal_of}
use Rattle.ua_transport.specs.Acceptance.{admission_of, with_unfinished, message_taken, close_taken, renewal_taken, request_taken, opening_by, opening_taken, taken_by_type, is_error, comes_by_channel, acceptance_of, kept_refusal, unless_refused, take_of}

-- a step after which the message is within the limits of the state before it
abbrev IsKept : ChannelState → Step Taken Status ChannelState → Type 0
IsKept s t = AreWithinLimits s.agreed.limits t.state.unfinished

either : (s : ChannelState) (b : Bool) (x y : Step Taken Status ChannelState) → IsKept s x → IsKept s y → IsKept s (cond b x y)
either s true x y p q = p
either s false x y p q = q

within : (limits : Limitation) (m : UnfinishedMessage) → exceeds_limits limits m ≡ false → IsWithinLimits limits m
within limits m e = record { body = grind (arith, nat_tests); chunk_count = grind (arith, nat_tests) }

joined_within : (limits : Limitation) (c : ChunkType) (m : UnfinishedMessage) → IsWithinLimits limits m → AreWithinLimits limits (joined_as c m).state
joined_within limits Intermediate m p = p
joined_within limits Final m p = search rules
joined_within limits Aborted m p = search rules

tested : (limits : Limitation) (other large : Bool) (a b : Status) (u : Option UnfinishedMessage) (c : ChunkType) (m : UnfinishedMessage) → exceeds_limits limits m ≡ large → AreWithinLimits limits u →
    AreWithinLimits limits (cond other (step (Err a) u) (cond large (step (Err b) u) (joined_as c m))).state
tested limits true large a b u c m e p = p
tested limits false true a b u c m e p = p
tested limits false false a b u c m e p = joined_within limits c m (within limits m e)

joining_kept : (limits : Limitation) (u : Option UnfinishedMessage) (id : ℕ) (c : ChunkType) (part : List ℕ) → AreWithinLimits limits u → AreWithinLimits limits (joining_of limits u id c part).state
unfolding joining_of
joining_kept limits u id c part p =
    tested limits (not (may_join u id)) (exceeds_limits limits (extended u id part)) status.BAD_DECODING_ERROR status.BAD_TCP_MESSAGE_TOO_LARGE u c (extended u id part) refl p

with_kept : (s : ChannelState) (h : ChunkHeader) (j : Step Taken Status (Option UnfinishedMessage)) (a : Result Taken Status) →
    AreWithinLimits s.agreed.limits s.unfinished → AreWithinLimits s.agreed.limits j.state → IsKept s (with_unfinished s h j a)
with_kept s h j (Ok t) p q = q
with_kept s h j (Err e) p q = p

message_kept : (s : ChannelState) (f : Frame) (a : Result ChunkHeader Status) → AreWithinLimits s.agreed.limits s.unfinished → IsKept s (message_taken s f a)
message_kept s f (Err e) p = p
message_kept s f (Ok h) p =
    let j = joining_of s.agreed.limits s.unfinished h.request_id f.chunk_type (part_of f) in
    with_kept s h j j.answer p (joining_kept s.agreed.limits s.unfinished h.request_id f.chunk_type (part_of f) p)

close_kept : (s : ChannelState) (a : Result ChunkHeader Status) → AreWithinLimits s.agreed.limits s.unfinished → IsKept s (close_taken s a)
close_kept s (Err e) p = p
close_kept s (Ok h) p = p

renewal_kept : (s : ChannelState) (h : OpeningHeader) (r : OpeningRequest) (a : Result Bool Status) → AreWithinLimits s.agreed.limits s.unfinished → IsKept s (renewal_taken s h r a)
renewal_kept s h r (Err e) p = p
renewal_kept s h r (Ok b) p = p

request_kept : (s : ChannelState) (h : OpeningHeader) (a : Result OpeningRequest Status) → AreWithinLimits s.agreed.limits s.unfinished → IsKept s (request_taken s h a)
request_kept s h (Err e) p = p
request_kept s h (Ok r) p = renewal_kept s h r (renewal_of s.channel_id h.channel_id r) p

opening_kept_by : (s : ChannelState) (read : Result (OpeningHeader × List ℕ) TakeFault) → AreWithinLimits s.agreed.limits s.unfinished → IsKept s (opening_by s read)
opening_kept_by s (Err e) p = p
opening_kept_by s (Ok read) p =
    either s (not (is_policy_none read.0.security_policy_uri)) _ _ p
    (either s (not (may_follow s.received read.0.sequence_number)) _ _ p (request_kept s read.0 (opening_request_of read.1) p))

opening_kept : (s : ChannelState) (body : List ℕ) → AreWithinLimits s.agreed.limits s.unfinished → IsKept s (opening_taken s body)
unfolding opening_taken
opening_kept s body p = opening_kept_by s (opening_header_reading body) p

type_kept : (s : ChannelState) (f : Frame) (t : MessageType) → AreWithinLimits s.agreed.limits s.unfinished → IsKept s (taken_by_type s f t)
type_kept s f OpenSecureChannel p = opening_kept s f.body p
type_kept s f CloseSecureChannel p = close_kept s (admission_of s f.body) p
type_kept s f Message p = message_kept s f (admission_of s f.body) p
type_kept s f Hello p = message_kept s f (admission_of s f.body) p
type_kept s f Acknowledge p = message_kept s f (admission_of s f.body) p
type_kept s f Error p = message_kept s f (admission_of s f.body) p

accepted_kept : (s : ChannelState) (f : Frame) → AreWithinLimits s.agreed.limits s.unfinished → IsKept s (acceptance_of s f)
accepted_kept s f p =
    either s (is_error f.message_type) _ _ p
    (either s (not (comes_by_channel f.message_type f.chunk_type)) _ _ p
    (either s (nat_lt s.agreed.receive_size (8 + length f.body)) _ _ p (type_kept s f f.message_type p)))

refusal_kept : (limits : Limitation) (a : Result Taken Status) (t : ChannelState) → AreWithinLimits limits t.unfinished → AreWithinLimits limits (kept_refusal a t).unfinished
refusal_kept limits (Ok x) t p = p
refusal_kept limits (Err e) t p = p

kept_by : (s : ChannelState) (o : Option Status) (t : Step Taken Status ChannelState) → AreWithinLimits s.agreed.limits s.unfinished → IsKept s t → IsKept s (unless_refused s o t)
kept_by s (Some x) t p q = p
kept_by s None t p q = refusal_kept s.agreed.limits t.answer t.state q

pub kept_within : (s : ChannelState) (f : Frame) → AreWithinLimits s.agreed.limits s.unfinished → AreWithinLimits s.agreed.limits (take_of s f).state.unfinished
kept_within s f p = kept_by s s.refused (acceptance_of s f) p (accepted_kept s f p)
