-- What was agreed stays so.
use Rattle.std.proofs.Common.{sym, ◌∙◌, ap, subst, ◌≡◌, ℕ, ◌+◌, Bool, true, false, cond, List, length, Option, Some, None, Result, Ok, Err, refl, arith}
use Rattle.std.specs.Prelude.{nat_lt, not, min, ⊤}
use Rattle.std.proofs.lemmas.Bool.Decides.{nat_tests}
use Rattle.ua_types.specs.Answers.{Step}
use Rattle.ua_types.specs.declared.status.Status.{Status}
use Rattle.ua_types.specs.declared.status.TheConstants.Status as status
use Rattle.ua_binary.specs.declared.fault.TakeFault.{TakeFault}
use Rattle.ua_types.specs.Configuration.{Configuration, IsWithin}
use Rattle.ua_types.specs.declared.moment.Moment.{Moment}
use Rattle.ua_messages.specs.ServiceFaults.{fault_body}
use Rattle.ua_transport.specs.Agreements.{Limitation, AreInRange, Agreement, IsAgreement, agreement_of, is_longer_than, is_too_small, is_hello, outcome_of, outcome_of_reading, outcome_of_frame}
use Rattle.ua_transport.specs.Hellos.{hello_reading}
use Rattle.ua_transport.specs.declared.hello_message.Hello.{Hello}
use Rattle.ua_transport.specs.declared.frame.Frame.{Frame}
use Rattle.ua_transport.specs.declared.frame.MessageType.{MessageType}
use Rattle.ua_transport.specs.declared.frame.MessageType.TheVariants.{Hello as HelloType, Acknowledge, Error, OpenSecureChannel, Message, CloseSecureChannel}
use Rattle.ua_transport.specs.declared.headers.ChunkHeader.{ChunkHeader}
use Rattle.ua_transport.specs.declared.headers.OpeningHeader.{OpeningHeader}
use Rattle.ua_transport.specs.declared.openings.OpeningRequest.{OpeningRequest}
use Rattle.ua_transport.specs.declared.taken.Taken.{Taken}
use Rattle.ua_transport.specs.Headers.{opening_header_reading, part_of}
use Rattle.ua_transport.specs.SequenceNumbers.{may_follow}
use Rattle.ua_transport.specs.Messages.{UnfinishedMessage, joining_of, AreWithinLimits}
use Rattle.ua_transport.specs.ChannelStates.{ChannelState, granted_by, granted_of, token_after}
use Rattle.ua_transport.specs.Cutting.{send_of, send_opening_of}
use Rattle.ua_transport.specs.declared.send_fault.SendFault.{SendFault}
use Rattle.ua_transport.proofs.LimitLemmas.{kept_within}
use Rattle.server_messages.specs.declared.origin.Origin.{Origin}
use Rattle.server_messages.specs.declared.reply.Reply.{Reply}
use Rattle.server_messages.specs.declared.setting.Setting.{Setting}
use Rattle.server_connections.specs.Coherent.{IsAgreed}
use Rattle.server_connections.specs.Delivering.{too_large_sent, reply_sent}
use Rattle.server_connections.specs.Reactions.{Sent, sent_nothing, sent_or, opening_body, opening_sent, granted}
use Rattle.ua_transport.specs.Openings.{is_policy_none, opening_request_of, renewal_of}
use Rattle.ua_transport.specs.Acceptance.{admission_of, with_unfinished, message_taken, close_taken, renewal_taken, request_taken, opening_by, opening_taken, taken_by_type, is_error, comes_by_channel, acceptance_of, kept_refusal, unless_refused, take_of}

-- what was agreed, and the channel's number
abbrev fixed : ChannelState → Agreement × Option ℕ
fixed s = (s.agreed, s.channel_id)

-- a step after which they are the same
abbrev Same : ChannelState → Step Taken Status ChannelState → Type 0
Same s t = fixed t.state ≡ fixed s

either : (s : ChannelState) (b : Bool) (x y : Step Taken Status ChannelState) → Same s x → Same s y → Same s (cond b x y)
either s true x y p q = p
either s false x y p q = q

with_same : (s : ChannelState) (h : ChunkHeader) (j : Step Taken Status (Option UnfinishedMessage)) (a : Result Taken Status) → Same s (with_unfinished s h j a)
with_same s h j (Ok t) = refl
with_same s h j (Err e) = refl

message_same : (s : ChannelState) (f : Frame) (a : Result ChunkHeader Status) → Same s (message_taken s f a)
message_same s f (Err e) = refl
message_same s f (Ok h) =
    let j = joining_of s.agreed.limits s.unfinished h.request_id f.chunk_type (part_of f) in
    with_same s h j j.answer

close_same : (s : ChannelState) (a : Result ChunkHeader Status) → Same s (close_taken s a)
close_same s (Err e) = refl
close_same s (Ok h) = refl

renewal_same : (s : ChannelState) (h : OpeningHeader) (r : OpeningRequest) (a : Result Bool Status) → Same s (renewal_taken s h r a)
renewal_same s h r (Err e) = refl
renewal_same s h r (Ok b) = refl

request_same : (s : ChannelState) (h : OpeningHeader) (a : Result OpeningRequest Status) → Same s (request_taken s h a)
request_same s h (Err e) = refl
request_same s h (Ok r) = renewal_same s h r (renewal_of s.channel_id h.channel_id r)

opening_same_by : (s : ChannelState) (read : Result (OpeningHeader × List ℕ) TakeFault) → Same s (opening_by s read)
opening_same_by s (Err e) = refl
opening_same_by s (Ok read) =
    either s (not (is_policy_none read.0.security_policy_uri)) _ _ refl
    (either s (not (may_follow s.received read.0.sequence_number)) _ _ refl (request_same s read.0 (opening_request_of read.1)))

opening_same : (s : ChannelState) (body : List ℕ) → Same s (opening_taken s body)
unfolding opening_taken
opening_same s body = opening_same_by s (opening_header_reading body)

type_same : (s : ChannelState) (f : Frame) (t : MessageType) → Same s (taken_by_type s f t)
type_same s f OpenSecureChannel = opening_same s f.body
type_same s f CloseSecureChannel = close_same s (admission_of s f.body)
type_same s f Message = message_same s f (admission_of s f.body)
type_same s f HelloType = message_same s f (admission_of s f.body)
type_same s f Acknowledge = message_same s f (admission_of s f.body)
type_same s f Error = message_same s f (admission_of s f.body)

accepted_same : (s : ChannelState) (f : Frame) → Same s (acceptance_of s f)
accepted_same s f =
    either s (is_error f.message_type) _ _ refl
    (either s (not (comes_by_channel f.message_type f.chunk_type)) _ _ refl
    (either s (nat_lt s.agreed.receive_size (8 + length f.body)) _ _ refl (type_same s f f.message_type)))

refusal_same : (a : Result Taken Status) (t : ChannelState) → fixed (kept_refusal a t) ≡ fixed t
refusal_same (Ok x) t = refl
refusal_same (Err e) t = refl

same_by : (s : ChannelState) (o : Option Status) (t : Step Taken Status ChannelState) → Same s t → Same s (unless_refused s o t)
same_by s (Some x) t q = refl
same_by s None t q = refusal_same t.answer t.state ∙ q

take_fixed : (s : ChannelState) (f : Frame) → fixed (take_of s f).state ≡ fixed s
take_fixed s f = same_by s s.refused (acceptance_of s f) (accepted_same s f)

pub take_agreed : (s : ChannelState) (f : Frame) → (take_of s f).state.agreed ≡ s.agreed
take_agreed s f = ap (λ (p : Agreement × Option ℕ). p.0) (take_fixed s f)

pub take_number : (s : ChannelState) (f : Frame) → (take_of s f).state.channel_id ≡ s.channel_id
take_number s f = ap (λ (p : Agreement × Option ℕ). p.1) (take_fixed s f)

-- ---- what is sent changes neither what is agreed nor the unfinished message

pub record Unchanged (s t : ChannelState) : Type 0 where
  pub agreed : t.agreed ≡ s.agreed
  pub unfinished : t.unfinished ≡ s.unfinished

unchanged : (s : ChannelState) → Unchanged s s
unchanged s = record { agreed = refl; unfinished = refl }

unchanged_if : {A : Type 0} {E : Type 0} (s : ChannelState) (b : Bool) (x y : Step A E ChannelState) → Unchanged s x.state → Unchanged s y.state → Unchanged s (cond b x y).state
unchanged_if s true x y p q = p
unchanged_if s false x y p q = q

send_unchanged : (s : ChannelState) (id : ℕ) (body : List ℕ) → Unchanged s (send_of s id body).state
send_unchanged s id body = unchanged_if s _ _ _ (unchanged s) (record { agreed = refl; unfinished = refl })

opening_unchanged : (s : ChannelState) (id : ℕ) (body : List ℕ) → Unchanged s (send_opening_of s id body).state
opening_unchanged s id body = unchanged_if s _ _ _ (unchanged s) (record { agreed = refl; unfinished = refl })

then_unchanged : (s t u : ChannelState) → Unchanged s t → Unchanged t u → Unchanged s u
then_unchanged s t u p q = record { agreed = q.agreed ∙ p.agreed; unfinished = q.unfinished ∙ p.unfinished }

or_unchanged : (s t : ChannelState) (r : Result (List (List ℕ)) SendFault) (otherwise : Sent) → Unchanged s t → Unchanged s otherwise.channel → Unchanged s (sent_or r t otherwise).channel
or_unchanged s t (Ok frames) otherwise p q = p
or_unchanged s t (Err fault) otherwise p q = q

too_large_unchanged : (s : ChannelState) (origin : Origin) (clock : Moment) → Unchanged s (too_large_sent s origin clock).channel
unfolding too_large_sent
too_large_unchanged s origin clock =
    let step = send_of s origin.id (fault_body origin.handle status.BAD_RESPONSE_TOO_LARGE clock) in
    let p = send_unchanged s origin.id (fault_body origin.handle status.BAD_RESPONSE_TOO_LARGE clock) in
    or_unchanged s step.state step.answer (sent_nothing step.state) p p

pub reply_unchanged : (s : ChannelState) (reply : Reply) (clock : Moment) → Unchanged s (reply_sent s reply clock).channel
unfolding reply_sent
reply_unchanged s reply clock =
    let step = send_of s reply.origin.id reply.body in
    let p = send_unchanged s reply.origin.id reply.body in
    or_unchanged s step.state step.answer (too_large_sent step.state reply.origin clock) p
    (then_unchanged s step.state _ p (too_large_unchanged step.state reply.origin clock))

granted_by_unchanged : (o : Option ℕ) (number : ℕ) (s : ChannelState) → Unchanged s (granted_by o number s)
granted_by_unchanged None number s = record { agreed = refl; unfinished = refl }
granted_by_unchanged (Some x) number s = record { agreed = refl; unfinished = refl }

pub granted_unchanged : (setting : Setting) (s : ChannelState) (origin : Origin) (number : ℕ) → Unchanged s (granted setting s origin number).channel
unfolding granted opening_sent
granted_unchanged setting s origin number =
    let at = granted_of s number in
    let body = opening_body setting origin.handle number (token_after s.newest_token) in
    let step = send_opening_of at origin.id body in
    let p = then_unchanged s at step.state (granted_by_unchanged s.channel_id number s) (opening_unchanged at origin.id body) in
    or_unchanged s step.state step.answer (sent_nothing step.state) p p

-- ---- what is agreed is good

pub of_unchanged : (config : Configuration) (s t : ChannelState) → Unchanged s t → IsAgreed config s → IsAgreed config t
of_unchanged config s t u p = record {
  agreement = subst (λ (a : Agreement). IsAgreement a) (sym u.agreed) p.agreement;
  limits = ap (λ (a : Agreement). a.limits) u.agreed ∙ p.limits;
  unfinished = subst (λ (a : Agreement). AreWithinLimits a.limits t.unfinished) (sym u.agreed)
      (subst (λ (m : Option UnfinishedMessage). AreWithinLimits s.agreed.limits m) (sym u.unfinished) p.unfinished);
}

pub of_taken : (config : Configuration) (s : ChannelState) (f : Frame) → IsAgreed config s → IsAgreed config (take_of s f).state
of_taken config s f p = record {
  agreement = subst (λ (a : Agreement). IsAgreement a) (sym (take_agreed s f)) p.agreement;
  limits = ap (λ (a : Agreement). a.limits) (take_agreed s f) ∙ p.limits;
  unfinished = subst (λ (a : Agreement). AreWithinLimits a.limits (take_of s f).state.unfinished) (sym (take_agreed s f)) (kept_within s f p.unfinished);
}

-- ---- a Hello

abbrev pub IsGood : Limitation → Result Agreement Status → Type 0
IsGood limits (Ok agreed) = IsAgreement agreed × (agreed.limits ≡ limits)
IsGood limits (Err refusal) = ⊤

good_if : (limits : Limitation) (b : Bool) (x y : Result Agreement Status) → (b ≡ true → IsGood limits x) → (b ≡ false → IsGood limits y) → IsGood limits (cond b x y)
good_if limits true x y p q = p refl
good_if limits false x y p q = q refl

least : (a b : ℕ) → IsWithin 1024 1048576 b → nat_lt a 1024 ≡ false → IsWithin 1024 1048576 (min a b)
least a b p e = grind (arith, nat_tests)

good_hello : (limits : Limitation) (hello : Hello) → AreInRange limits → is_too_small hello ≡ false → IsAgreement (agreement_of limits hello)
good_hello limits hello r e = record {
  receive_size = least hello.send_size limits.receive_size r.receive_size (grind (arith, nat_tests));
  send_size = least hello.receive_size limits.send_size r.send_size (grind (arith, nat_tests));
  max_message_size = grind (arith, nat_tests);
}

good_outcome : (limits : Limitation) (hello : Hello) → AreInRange limits → IsGood limits (outcome_of limits hello)
good_outcome limits hello r =
    good_if limits (is_longer_than 4096 hello.endpoint_url) _ _ (λ e. tt)
    (λ e. good_if limits (is_too_small hello) _ _ (λ e. tt) (λ e. (good_hello limits hello r e, refl)))

good_reading : (limits : Limitation) (r : Result (Hello × List ℕ) TakeFault) → AreInRange limits → IsGood limits (outcome_of_reading limits r)
good_reading limits (Ok read) p = good_outcome limits read.0 p
good_reading limits (Err fault) p = tt

pub good_frame : (limits : Limitation) (frame : Frame) → AreInRange limits → IsGood limits (outcome_of_frame limits frame)
good_frame limits frame p = good_if limits (is_hello frame.message_type) _ _ (λ e. good_reading limits (hello_reading frame.body) p) (λ e. tt)
