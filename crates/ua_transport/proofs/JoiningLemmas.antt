-- What a channel gives are the messages that the chunks join to.
use Rattle.std.proofs.Common.{◌≡◌, ℕ, ◌+◌, Bool, true, false, cond, List, [], ◌∷◌, ◌++◌, length, Option, Some, None, Result, Ok, Err, refl, sym, ◌∙◌, ap, subst, arith}
use Rattle.std.specs.Prelude.{nat_lt, not, ◌&&◌, IsOk, option_map, if◌then◌else◌}
use Rattle.std.proofs.lemmas.Bool.Decides.{nat_tests}
use Rattle.ua_types.specs.Answers.{Step, step}
use Rattle.ua_types.specs.declared.status.Status.{Status}
use Rattle.ua_types.specs.declared.status.TheConstants.Status as status
use Rattle.ua_binary.specs.declared.fault.TakeFault.{TakeFault}
use Rattle.ua_transport.specs.Agreements.{Limitation}
use Rattle.ua_transport.specs.declared.frame.Frame.{Frame}
use Rattle.ua_transport.specs.declared.frame.MessageType.{MessageType}
use Rattle.ua_transport.specs.declared.frame.MessageType.TheVariants as message
use Rattle.ua_transport.specs.declared.frame.ChunkType.{ChunkType}
use Rattle.ua_transport.specs.declared.frame.ChunkType.TheVariants.{Intermediate, Final, Aborted}
use Rattle.ua_transport.specs.declared.headers.ChunkHeader.{ChunkHeader}
use Rattle.ua_transport.specs.declared.taken.Taken.{Taken}
use Rattle.ua_transport.specs.declared.taken.Taken.TheVariants as taken
use Rattle.ua_transport.specs.Headers.{chunk_header_reading, part_of}
use Rattle.ua_transport.specs.SequenceNumbers.{may_follow}
use Rattle.ua_transport.specs.Messages.{UnfinishedMessage, may_join, extended, exceeds_limits, joined_as, joining_of}
use Rattle.ua_transport.specs.ChannelStates.{ChannelState, is_channel, is_token}
use Rattle.ua_transport.specs.Acceptance.{admission_by, admission_of, with_unfinished, message_taken, taken_by_type, is_error, comes_by_channel, acceptance_of, refuse, kept_refusal, unless_refused, take_of}
use Rattle.ua_transport.specs.Chunks.{Begun, Messages, parts_of, is_of, joined_on, joined_to, joined_by, joins, answers, with_request, requests, come, AreAccepted}

un_not : (b : Bool) → not b ≡ false → b ≡ true
un_not true e = refl
un_not false e = sym e

-- both tests were passed
passed : (other large : Bool) (a b : Status) (u : Option UnfinishedMessage) (joined : Step Taken Status (Option UnfinishedMessage)) →
    IsOk (cond other (step (Err a) u) (cond large (step (Err b) u) joined)).answer →
    (other ≡ false) × (cond other (step (Err a) u) (cond large (step (Err b) u) joined) ≡ joined)
passed true large a b u joined ok = absurd cc
passed false true a b u joined ok = absurd cc
passed false false a b u joined ok = (refl, refl)

-- a chunk that isn't refused joins the message
joined_ok : (limits : Limitation) (u : Option UnfinishedMessage) (id : ℕ) (c : ChunkType) (part : List ℕ) → IsOk (joining_of limits u id c part).answer →
    (may_join u id ≡ true) × (joining_of limits u id c part ≡ joined_as c (extended u id part))
unfolding joining_of
joined_ok limits u id c part ok =
    let p : (not (may_join u id) ≡ false) × (joining_of limits u id c part ≡ joined_as c (extended u id part)) =
    passed (not (may_join u id)) (exceeds_limits limits (extended u id part)) status.BAD_DECODING_ERROR status.BAD_TCP_MESSAGE_TOO_LARGE u (joined_as c (extended u id part)) ok in
    (un_not (may_join u id) p.0, p.1)

extended_request : (u : Option UnfinishedMessage) (id : ℕ) (part : List ℕ) → may_join u id ≡ true → (extended u id part).request_id ≡ id
extended_request None id part e = refl
extended_request (Some u) id part e = grind (arith, nat_tests)

extended_body : (u : Option UnfinishedMessage) (id : ℕ) (part : List ℕ) → (extended u id part).body ≡ parts_of (come u) ++ part
extended_body None id part = refl
extended_body (Some u) id part = refl

begun_request : (u : Option UnfinishedMessage) (id : ℕ) → is_of (come u) id ≡ may_join u id
begun_request None id = refl
begun_request (Some u) id = refl

-- all three tests were passed
let_through : (a b c : Bool) (x y z : Status) (read header : ChunkHeader) →
    cond a (Err x) (cond b (Err y) (cond c (Err z) (Ok read))) ≡ Ok header → read ≡ header
let_through true b c x y z read header e = absurd cc
let_through false true c x y z read header e = absurd cc
let_through false false true x y z read header e = absurd cc
let_through false false false x y z read header e = cc

-- a header that was admitted was read
record WasRead (reading : Result (ChunkHeader × List ℕ) TakeFault) (header : ChunkHeader) : Type 0 where
  rest : List ℕ
  read : reading ≡ Ok (header, rest)

admitted_by : (s : ChannelState) (reading : Result (ChunkHeader × List ℕ) TakeFault) (header : ChunkHeader) → admission_by s reading ≡ Ok header → WasRead reading header
admitted_by s (Err fault) header e = absurd cc
admitted_by s (Ok read) header e =
    let same : read.0 ≡ header =
    let_through (not (is_channel s.channel_id read.0.channel_id)) (not (is_token s read.0.token_id)) (not (may_follow s.received read.0.sequence_number))
    _ _ _ read.0 header e in
    record { rest = read.1; read = ap (λ (h : ChunkHeader). Ok (h, read.1)) same }

admitted : (s : ChannelState) (body : List ℕ) (header : ChunkHeader) → admission_of s body ≡ Ok header → WasRead (chunk_header_reading body) header
unfolding admission_of
admitted s body header e = admitted_by s (chunk_header_reading body) header e

-- what a frame that isn't refused does
record NextStep (s : ChannelState) (f : Frame) (t : Step Taken Status ChannelState) : Type 0 where
  header : ChunkHeader
  was_read : WasRead (chunk_header_reading f.body) header
  message : UnfinishedMessage
  request_id : message.request_id ≡ header.request_id
  body : message.body ≡ parts_of (come s.unfinished) ++ part_of f
  joins : is_of (come s.unfinished) header.request_id ≡ true
  answer : t.answer ≡ (joined_as f.chunk_type message).answer
  unfinished : t.state.unfinished ≡ (joined_as f.chunk_type message).state
  not_refused : t.state.refused ≡ s.refused

record Joined (s : ChannelState) (joining : Step Taken Status (Option UnfinishedMessage)) (t : Step Taken Status ChannelState) : Type 0 where
  ok : IsOk joining.answer
  answer : t.answer ≡ joining.answer
  unfinished : t.state.unfinished ≡ joining.state
  not_refused : t.state.refused ≡ s.refused

joined_with : (s : ChannelState) (header : ChunkHeader) (joining : Step Taken Status (Option UnfinishedMessage)) (a : Result Taken Status) →
    joining.answer ≡ a → IsOk (with_unfinished s header joining a).answer → Joined s joining (with_unfinished s header joining a)
joined_with s header joining (Ok t) e ok = record { ok = subst (λ (a : Result Taken Status). IsOk a) (sym e) ok; answer = sym e; unfinished = refl; not_refused = refl }
joined_with s header joining (Err refusal) e ok = absurd cc

step_admitted : (s : ChannelState) (f : Frame) (a : Result ChunkHeader Status) → admission_of s f.body ≡ a → IsOk (message_taken s f a).answer → NextStep s f (message_taken s f a)
step_admitted s f (Err refusal) k ok = absurd cc
step_admitted s f (Ok header) k ok =
    let id = header.request_id in
    let u = s.unfinished in
    let joining = joining_of s.agreed.limits u id f.chunk_type (part_of f) in
    let message = extended u id (part_of f) in
    let joined : Joined s joining (message_taken s f (Ok header)) = joined_with s header joining joining.answer refl ok in
    let is : (may_join u id ≡ true) × (joining ≡ joined_as f.chunk_type message) = joined_ok s.agreed.limits u id f.chunk_type (part_of f) joined.ok in
    record {
      header = header;
      was_read = admitted s f.body header k;
      message = message;
      request_id = extended_request u id (part_of f) is.0;
      body = extended_body u id (part_of f);
      joins = begun_request u id ∙ is.0;
      answer = joined.answer ∙ ap (λ (j : Step Taken Status (Option UnfinishedMessage)). j.answer) is.1;
      unfinished = joined.unfinished ∙ ap (λ (j : Step Taken Status (Option UnfinishedMessage)). j.state) is.1;
      not_refused = joined.not_refused;
    }

-- a frame of this type
accepted_at : ChannelState → Frame → MessageType → Step Taken Status ChannelState
accepted_at s f message_type =
    if is_error message_type then step (Ok taken.Closed) s
    else if not (comes_by_channel message_type f.chunk_type) then refuse status.BAD_TCP_MESSAGE_TYPE_INVALID s
    else if nat_lt s.agreed.receive_size (8 + length f.body) then refuse status.BAD_TCP_MESSAGE_TOO_LARGE s
    else taken_by_type s f message_type

short_enough : (long : Bool) (s : ChannelState) (a : Status) (t : Step Taken Status ChannelState) → IsOk (cond long (refuse a s) t).answer → cond long (refuse a s) t ≡ t
short_enough true s a t ok = absurd cc
short_enough false s a t ok = refl

accepted_message : (s : ChannelState) (f : Frame) → f.message_type ≡ message.Message → IsOk (acceptance_of s f).answer → acceptance_of s f ≡ message_taken s f (admission_of s f.body)
unfolding accepted_at
accepted_message s f m ok =
    let at_message : acceptance_of s f ≡ accepted_at s f message.Message = ap (accepted_at s f) m in
    let ok' : IsOk (accepted_at s f message.Message).answer = subst (λ (t : Step Taken Status ChannelState). IsOk t.answer) at_message ok in
    at_message ∙ short_enough (nat_lt s.agreed.receive_size (8 + length f.body)) s status.BAD_TCP_MESSAGE_TOO_LARGE (message_taken s f (admission_of s f.body)) ok'

kept : (answer : Result Taken Status) (state : ChannelState) → IsOk answer → kept_refusal answer state ≡ state
kept (Ok t) state ok = refl
kept (Err refusal) state ok = absurd cc

step_of : (s : ChannelState) (f : Frame) (o : Option Status) → o ≡ None → f.message_type ≡ message.Message → IsOk (unless_refused s o (acceptance_of s f)).answer → NextStep s f (unless_refused s o (acceptance_of s f))
step_of s f (Some code) e m ok = absurd cc
step_of s f None e m ok =
    let t = acceptance_of s f in
    let is : t ≡ message_taken s f (admission_of s f.body) = accepted_message s f m ok in
    let ok' : IsOk (message_taken s f (admission_of s f.body)).answer = subst (λ (x : Step Taken Status ChannelState). IsOk x.answer) is ok in
    let next : NextStep s f t = subst (NextStep s f) (sym is) (step_admitted s f (admission_of s f.body) refl ok') in
    let same : step t.answer (kept_refusal t.answer t.state) ≡ t = ap (step t.answer) (kept t.answer t.state ok) in
    subst (NextStep s f) (sym same) next

finished : (c : ChunkType) (m : UnfinishedMessage) (fs : List Frame) (rest : List (ℕ × List ℕ)) → joins (come (joined_as c m).state) fs ≡ Some rest →
    joined_on c m.request_id m.body (λ b. joins b fs) ≡ Some (with_request (joined_as c m).answer rest)
finished Intermediate m fs rest e = e
finished Final m fs rest e = ap (option_map (λ (ms : List (ℕ × List ℕ)). (m.request_id, m.body) ∷ ms)) e
finished Aborted m fs rest e = e

-- an MSG chunk of the request that has begun
joined_read : (f : Frame) (header : ChunkHeader) (begun : Begun) (fs : List Frame) → WasRead (chunk_header_reading f.body) header → f.message_type ≡ message.Message → is_of begun header.request_id ≡ true →
    joins begun (f ∷ fs) ≡ joined_on f.chunk_type header.request_id (parts_of begun ++ part_of f) (λ b. joins b fs)
joined_read f header begun fs was m e =
    let more : Begun → Messages = λ b. joins b fs in
    let whole : Messages = joined_on f.chunk_type header.request_id (parts_of begun ++ part_of f) more in
    ap (λ (r : Result (ChunkHeader × List ℕ) TakeFault). joined_by begun f r more) was.read
    ∙ ap (λ (t : MessageType). joined_to begun t f.chunk_type header.request_id (part_of f) more) m
    ∙ ap (λ (b : Bool). cond (true && b) whole None) e

pub joined_all : (s : ChannelState) (fs : List Frame) → AreAccepted s fs → joins (come s.unfinished) fs ≡ Some (requests (answers s fs))
joined_all s [] is = refl
joined_all s (f ∷ fs) is =
    let t = take_of s f in
    let next : NextStep s f t = step_of s f s.refused is.not_refused is.messages.0 is.accepted.0 in
    let rest : joins (come t.state.unfinished) fs ≡ Some (requests (answers t.state fs)) =
    joined_all t.state fs (record { not_refused = next.not_refused ∙ is.not_refused; messages = is.messages.1; accepted = is.accepted.1 }) in
    let more : Begun → Messages = λ b. joins b fs in
    joined_read f next.header (come s.unfinished) fs next.was_read is.messages.0 next.joins
    ∙ ap (λ (b : List ℕ). joined_on f.chunk_type next.header.request_id b more) (sym next.body)
    ∙ ap (λ (id : ℕ). joined_on f.chunk_type id next.message.body more) (sym next.request_id)
    ∙ finished f.chunk_type next.message fs (requests (answers t.state fs)) (ap (λ (u : Option UnfinishedMessage). joins (come u) fs) (sym next.unfinished) ∙ rest)
    ∙ ap (λ (a : Result Taken Status). Some (with_request a (requests (answers t.state fs)))) (sym next.answer)
