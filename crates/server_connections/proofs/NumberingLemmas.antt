-- Every channel has a number of its own.
use Rattle.std.proofs.Common.{◌≡◌, ℕ, ◌+◌, ◌<◌, ◌≤◌, ◌==◌, Bool, true, false, cond, List, Option, Some, None, is_some, Result, Ok, Err, refl, sym, ◌∙◌, ap, subst, inl, inr, ◌⊎◌, arith}
use Rattle.std.specs.Prelude.{⊤, not, ◌||◌, nat_lt, length}
use Rattle.std.proofs.lemmas.Bool.{false≢true}
use Rattle.std.specs.FinMap.{get}
use Rattle.ua_types.specs.Answers.{Step}
use Rattle.ua_types.specs.declared.status.Status.{Status}
use Rattle.ua_types.specs.declared.status.TheConstants.Status as status
use Rattle.ua_binary.specs.declared.fault.TakeFault.{TakeFault}
use Rattle.ua_transport.specs.Agreements.{Agreement, Limitation, limits_of, outcome_of_frame}
use Rattle.ua_transport.specs.declared.frame.ChunkType.{ChunkType}
use Rattle.ua_transport.specs.declared.frame.ChunkType.TheVariants.{Intermediate, Final, Aborted}
use Rattle.ua_transport.specs.declared.frame.Frame.{Frame}
use Rattle.ua_transport.specs.declared.frame.FrameFault.{FrameFault}
use Rattle.ua_transport.specs.declared.frame.FrameFault.TheVariants.{Letters, Size, Failed}
use Rattle.ua_transport.specs.declared.frame.MessageType.{MessageType}
use Rattle.ua_transport.specs.declared.frame.MessageType.TheVariants.{Hello as HelloType, Acknowledge, Error, OpenSecureChannel, Message, CloseSecureChannel}
use Rattle.ua_transport.specs.declared.headers.ChunkHeader.{ChunkHeader}
use Rattle.ua_transport.specs.declared.headers.OpeningHeader.{OpeningHeader}
use Rattle.ua_transport.specs.declared.openings.OpeningRequest.{OpeningRequest}
use Rattle.ua_transport.specs.declared.send_fault.SendFault.{SendFault}
use Rattle.ua_transport.specs.declared.taken.Taken.{Taken}
use Rattle.ua_transport.specs.declared.taken.Taken.TheVariants as taken
use Rattle.ua_transport.specs.Headers.{opening_header_reading, part_of}
use Rattle.ua_transport.specs.SequenceNumbers.{may_follow}
use Rattle.ua_transport.specs.Messages.{UnfinishedMessage, may_join, extended, exceeds_limits, joined_as, joining_of}
use Rattle.ua_transport.specs.ChannelStates.{ChannelState, is_channel, granted_by, granted_of, token_after}
use Rattle.ua_transport.specs.Cutting.{written_id, send_opening_of}
use Rattle.ua_transport.specs.Openings.{is_open as is_opened, is_issue, is_renew, is_mode_none, is_policy_none, opening_request_of, renewal_of}
use Rattle.ua_transport.specs.Acceptance.{admission_of, with_unfinished, message_taken, close_taken, renewal_taken, request_taken, opening_by, opening_taken, taken_by_type, is_error, comes_by_channel, acceptance_of, unless_refused, take_of}
use Rattle.server_messages.specs.declared.origin.Origin.{Origin}
use Rattle.server_messages.specs.declared.setting.Setting.{Setting}
use Rattle.server_connections.specs.Apart.{unsent_phase, unsent}
use Rattle.server_connections.specs.Coherent.{number_in, number_at, AreNumbered}
use Rattle.server_connections.specs.Connecting.{Connections, known_as, gone, reacted, taking_by, taking_of, break_by, break_of}
use Rattle.server_connections.specs.Reactions.{Reaction, Counted, counted, Sent, sent_nothing, sent_or, greeted, first_reaction, opening_body, opening_sent, granted, opening_reaction, taken_reaction, later_reaction, reaction_of, fault_reaction}
use Rattle.server_connections.specs.declared.connection.Connection.{Connection}
use Rattle.server_connections.specs.declared.connection.Phase.{Phase}
use Rattle.server_connections.specs.declared.connection.Phase.TheVariants.{Greeting, Talking, Closed}
use Rattle.server_connections.proofs.AgreedLemmas.{take_number}
use Rattle.server_connections.proofs.ApartLemmas.{SendsAlone}
use Rattle.server_connections.proofs.CoherentLemmas.{at_insert_at, at_removed}

-- ---- only an open channel is renewed

-- an answer that renews comes only of a channel that is open
abbrev Renews : Option ℕ → Result Taken Status → Type 0
Renews number (Ok (taken.Opening id handle true)) = is_opened number ≡ true
Renews number answer = ⊤

renews_if : (number : Option ℕ) (b : Bool) (x y : Step Taken Status ChannelState) → Renews number x.answer → Renews number y.answer → Renews number (cond b x y).answer
renews_if number true x y p q = p
renews_if number false x y p q = q

joined_renews : (number : Option ℕ) (c : ChunkType) (m : UnfinishedMessage) → Renews number (joined_as c m).answer
joined_renews number Intermediate m = tt
joined_renews number Final m = tt
joined_renews number Aborted m = tt

joining_if : (number : Option ℕ) (a b : Bool) (x y z : Step Taken Status (Option UnfinishedMessage)) → Renews number x.answer → Renews number y.answer → Renews number z.answer → Renews number (cond a x (cond b y z)).answer
joining_if number true b x y z p q r = p
joining_if number false true x y z p q r = q
joining_if number false false x y z p q r = r

joining_renews : (number : Option ℕ) (limits : Limitation) (u : Option UnfinishedMessage) (id : ℕ) (c : ChunkType) (part : List ℕ) → Renews number (joining_of limits u id c part).answer
unfolding joining_of
joining_renews number limits u id c part =
    joining_if number (not (may_join u id)) (exceeds_limits limits (extended u id part)) _ _ (joined_as c (extended u id part)) tt tt (joined_renews number c (extended u id part))

with_renews : (s : ChannelState) (h : ChunkHeader) (j : Step Taken Status (Option UnfinishedMessage)) (a : Result Taken Status) → Renews s.channel_id a → Renews s.channel_id (with_unfinished s h j a).answer
with_renews s h j (Ok t) p = p
with_renews s h j (Err e) p = tt

message_renews : (s : ChannelState) (f : Frame) (a : Result ChunkHeader Status) → Renews s.channel_id (message_taken s f a).answer
message_renews s f (Err e) = tt
message_renews s f (Ok h) =
    let j = joining_of s.agreed.limits s.unfinished h.request_id f.chunk_type (part_of f) in
    with_renews s h j j.answer (joining_renews s.channel_id s.agreed.limits s.unfinished h.request_id f.chunk_type (part_of f))

close_renews : (s : ChannelState) (a : Result ChunkHeader Status) → Renews s.channel_id (close_taken s a).answer
close_renews s (Err e) = tt
close_renews s (Ok h) = tt

-- a Renew of no channel is refused
abbrev IsOpenIf : Option ℕ → Result Bool Status → Type 0
IsOpenIf number (Ok true) = is_opened number ≡ true
IsOpenIf number answer = ⊤

open_if : (number : Option ℕ) (b : Bool) (x y : Result Bool Status) → IsOpenIf number x → IsOpenIf number y → IsOpenIf number (cond b x y)
open_if number true x y p q = p
open_if number false x y p q = q

open_channel : (number : Option ℕ) (asked : ℕ) → IsOpenIf number (cond (not (is_channel number asked)) (Err status.BAD_TCP_SECURE_CHANNEL_UNKNOWN) (Ok true))
open_channel None asked = tt
open_channel (Some n) asked = open_if (Some n) (not (n == asked)) _ _ tt refl

renewal_open : (number : Option ℕ) (asked : ℕ) (r : OpeningRequest) → IsOpenIf number (renewal_of number asked r)
renewal_open number asked r =
    open_if number (not (is_issue r || is_renew r)) _ _ tt
    (open_if number (not (is_mode_none r)) _ _ tt
    (open_if number (is_issue r) _ _ (open_if number (is_opened number) _ _ tt tt) (open_channel number asked)))

renewal_renews : (s : ChannelState) (h : OpeningHeader) (r : OpeningRequest) (a : Result Bool Status) → IsOpenIf s.channel_id a → Renews s.channel_id (renewal_taken s h r a).answer
renewal_renews s h r (Err e) p = tt
renewal_renews s h r (Ok true) p = p
renewal_renews s h r (Ok false) p = tt

request_renews : (s : ChannelState) (h : OpeningHeader) (a : Result OpeningRequest Status) → Renews s.channel_id (request_taken s h a).answer
request_renews s h (Err e) = tt
request_renews s h (Ok r) = renewal_renews s h r (renewal_of s.channel_id h.channel_id r) (renewal_open s.channel_id h.channel_id r)

opening_renews_by : (s : ChannelState) (read : Result (OpeningHeader × List ℕ) TakeFault) → Renews s.channel_id (opening_by s read).answer
opening_renews_by s (Err e) = tt
opening_renews_by s (Ok read) =
    renews_if s.channel_id (not (is_policy_none read.0.security_policy_uri)) _ _ tt
    (renews_if s.channel_id (not (may_follow s.received read.0.sequence_number)) _ _ tt (request_renews s read.0 (opening_request_of read.1)))

opening_renews : (s : ChannelState) (body : List ℕ) → Renews s.channel_id (opening_taken s body).answer
unfolding opening_taken
opening_renews s body = opening_renews_by s (opening_header_reading body)

type_renews : (s : ChannelState) (f : Frame) (t : MessageType) → Renews s.channel_id (taken_by_type s f t).answer
type_renews s f OpenSecureChannel = opening_renews s f.body
type_renews s f CloseSecureChannel = close_renews s (admission_of s f.body)
type_renews s f Message = message_renews s f (admission_of s f.body)
type_renews s f HelloType = message_renews s f (admission_of s f.body)
type_renews s f Acknowledge = message_renews s f (admission_of s f.body)
type_renews s f Error = message_renews s f (admission_of s f.body)

accepted_renews : (s : ChannelState) (f : Frame) → Renews s.channel_id (acceptance_of s f).answer
accepted_renews s f =
    renews_if s.channel_id (is_error f.message_type) _ _ tt
    (renews_if s.channel_id (not (comes_by_channel f.message_type f.chunk_type)) _ _ tt
    (renews_if s.channel_id (nat_lt s.agreed.receive_size (8 + length f.body)) _ _ tt (type_renews s f f.message_type)))

renews_by : (s : ChannelState) (o : Option Status) (t : Step Taken Status ChannelState) → Renews s.channel_id t.answer → Renews s.channel_id (unless_refused s o t).answer
renews_by s (Some code) t p = tt
renews_by s None t p = p

take_renews : (s : ChannelState) (f : Frame) → Renews s.channel_id (take_of s f).answer
take_renews s f = renews_by s s.refused (acceptance_of s f) (accepted_renews s f)

-- ---- the number that a reaction leaves

-- no fewer channels were opened, and the connection's channel has its number or a new one
record Numbers (channels : ℕ) (old : Option ℕ) (c : Counted) : Type 0 where
  rises : channels ≤ c.channels
  number : (n : ℕ) → number_in c.reaction.phase ≡ Some n → (old ≡ Some n) ⊎ ((channels < n) × (n ≤ c.channels))

none_some : (n : ℕ) → None ≡ Some n → ⊥
none_some n e = false≢true (ap is_some e)

numbers_none : (channels : ℕ) (old : Option ℕ) (t : Reaction) → number_in t.phase ≡ None → Numbers channels old (counted channels t)
numbers_none channels old t e = record { rises = omega arith; number = λ n f. absurd (none_some n (sym e ∙ f)) }

numbers_kept : (channels : ℕ) (old : Option ℕ) (t : Reaction) → number_in t.phase ≡ old → Numbers channels old (counted channels t)
numbers_kept channels old t e = record { rises = omega arith; number = λ n f. inl (sym e ∙ f) }

numbers_if : (channels : ℕ) (old : Option ℕ) (b : Bool) (x y : Counted) → (b ≡ true → Numbers channels old x) → Numbers channels old y → Numbers channels old (cond b x y)
numbers_if channels old true x y p q = p refl
numbers_if channels old false x y p q = q

-- the number of a channel that was granted a token
abbrev or_number : Option ℕ → ℕ → Option ℕ
or_number None number = Some number
or_number (Some n) number = Some n

granted_by_number : (s : ChannelState) (number : ℕ) (o : Option ℕ) → s.channel_id ≡ o → (granted_by o number s).channel_id ≡ or_number o number
granted_by_number s number None e = refl
granted_by_number s number (Some n) e = e

sent_number_if : {A E : Type 0} (s : ChannelState) (b : Bool) (x y : Step A E ChannelState) → x.state.channel_id ≡ s.channel_id → y.state.channel_id ≡ s.channel_id → (cond b x y).state.channel_id ≡ s.channel_id
sent_number_if s true x y p q = p
sent_number_if s false x y p q = q

opened_number : (s : ChannelState) (id : ℕ) (body : List ℕ) → (send_opening_of s id body).state.channel_id ≡ s.channel_id
opened_number s id body = sent_number_if s _ _ _ refl refl

or_sent_number : (s t : ChannelState) (r : Result (List (List ℕ)) SendFault) (otherwise : Sent) → t.channel_id ≡ s.channel_id → otherwise.channel.channel_id ≡ s.channel_id → (sent_or r t otherwise).channel.channel_id ≡ s.channel_id
or_sent_number s t (Ok frames) otherwise p q = p
or_sent_number s t (Err fault) otherwise p q = q

granted_number : (setting : Setting) (s : ChannelState) (origin : Origin) (number : ℕ) → (granted setting s origin number).channel.channel_id ≡ or_number s.channel_id number
unfolding granted opening_sent
granted_number setting s origin number =
    let at = granted_of s number in
    let body = opening_body setting origin.handle number (token_after s.newest_token) in
    let step = send_opening_of at origin.id body in
    or_sent_number at step.state step.answer (sent_nothing step.state) (opened_number at origin.id body) (opened_number at origin.id body)
    ∙ granted_by_number s number s.channel_id refl

or_same : (o : Option ℕ) (number : ℕ) → is_opened o ≡ true → or_number o number ≡ o
or_same None number e = absurd (false≢true e)
or_same (Some n) number e = refl

or_new : (o : Option ℕ) (number n : ℕ) → or_number o number ≡ Some n → (o ≡ Some n) ⊎ (n ≡ number)
or_new None number n e = inr (sym (ap (λ (x : Option ℕ). unwrap x) e))
  where
    unwrap : Option ℕ → ℕ
    unwrap None = 0
    unwrap (Some k) = k
or_new (Some k) number n e = inl e

module _ (setting : Setting) (conn : ℕ) where
  opening_numbers : (channels : ℕ) (s : ChannelState) (origin : Origin) (renew : Bool) → (renew ≡ true → is_opened s.channel_id ≡ true) → Numbers channels s.channel_id (opening_reaction setting channels s origin renew)
  unfolding opening_reaction
  opening_numbers channels s origin renew f =
      numbers_if channels s.channel_id renew _ _
      (λ r. numbers_kept channels s.channel_id _ (granted_number setting s origin (written_id s.channel_id) ∙ or_same s.channel_id (written_id s.channel_id) (f r)))
      (numbers_if channels s.channel_id (channels == 4294967295) _ _ (λ e. numbers_none channels s.channel_id _ refl)
      (record {
        rises = omega arith;
        number = λ n e. new channels s n (or_new s.channel_id (channels + 1) n (sym (granted_number setting s origin (channels + 1)) ∙ e));
      }))
    where
      new : (channels : ℕ) (s : ChannelState) (n : ℕ) → (s.channel_id ≡ Some n) ⊎ (n ≡ channels + 1) → (s.channel_id ≡ Some n) ⊎ ((channels < n) × (n ≤ channels + 1))
      new channels s n (inl e) = inl e
      new channels s n (inr e) = inr (omega (arith, e), omega (arith, e))

  taken_numbers : (channels : ℕ) (key : List ℕ) (old : Option ℕ) (s : ChannelState) (a : Result Taken Status) → s.channel_id ≡ old → Renews old a → Numbers channels old (taken_reaction setting channels conn key s a)
  taken_numbers channels key old s (Ok taken.Nothing) e r = numbers_kept channels old _ e
  taken_numbers channels key old s (Ok (taken.Aborted id)) e r = numbers_kept channels old _ e
  taken_numbers channels key old s (Ok taken.Closed) e r = numbers_none channels old _ refl
  taken_numbers channels key old s (Ok (taken.Opening id handle true)) e r =
      subst (λ (o : Option ℕ). Numbers channels o (opening_reaction setting channels s (record { conn = conn; id = id; handle = handle }) true)) e
      (opening_numbers channels s (record { conn = conn; id = id; handle = handle }) true (λ t. subst (λ (o : Option ℕ). is_opened o ≡ true) (sym e) r))
  taken_numbers channels key old s (Ok (taken.Opening id handle false)) e r =
      subst (λ (o : Option ℕ). Numbers channels o (opening_reaction setting channels s (record { conn = conn; id = id; handle = handle }) false)) e
      (opening_numbers channels s (record { conn = conn; id = id; handle = handle }) false (λ t. absurd (false≢true t)))
  taken_numbers channels key old s (Ok (taken.Request id body)) e r = numbers_kept channels old _ e
  taken_numbers channels key old s (Err code) e r = numbers_none channels old _ refl

  greeted_numbers : (channels : ℕ) (old : Option ℕ) (r : Result Agreement Status) → Numbers channels old (counted channels (greeted conn r))
  greeted_numbers channels old (Ok agreed) = numbers_none channels old _ refl
  greeted_numbers channels old (Err code) = numbers_none channels old _ refl

  first_if : (channels : ℕ) (old : Option ℕ) (b : Bool) (x y : Reaction) → Numbers channels old (counted channels x) → Numbers channels old (counted channels y) → Numbers channels old (counted channels (cond b x y))
  first_if channels old true x y p q = p
  first_if channels old false x y p q = q

  first_numbers : (channels : ℕ) (old : Option ℕ) (frame : Frame) → Numbers channels old (counted channels (first_reaction setting conn frame))
  unfolding first_reaction
  first_numbers channels old frame =
      first_if channels old (is_error frame.message_type) _ _ (numbers_none channels old _ refl) (greeted_numbers channels old (outcome_of_frame (limits_of setting.config) frame))

  reaction_numbers : (channels : ℕ) (key : List ℕ) (frame : Frame) (phase : Phase) → Numbers channels (number_in phase) (reaction_of setting channels conn key frame phase)
  unfolding later_reaction
  reaction_numbers channels key frame Greeting = first_numbers channels None frame
  reaction_numbers channels key frame (Talking s) =
      taken_numbers channels key s.channel_id (take_of s frame).state (take_of s frame).answer (take_number s frame) (take_renews s frame)
  reaction_numbers channels key frame Closed = numbers_none channels None _ refl

fault_numbers : (channels conn : ℕ) (old : Option ℕ) (fault : FrameFault) → Numbers channels old (counted channels (fault_reaction conn fault))
fault_numbers channels conn old Letters = numbers_none channels old _ refl
fault_numbers channels conn old Size = numbers_none channels old _ refl
fault_numbers channels conn old Failed = numbers_none channels old _ refl

-- ---- all connections

abbrev numbered : Connections → ℕ → Option ℕ
numbered connections conn = number_at (get connections.known conn)

-- what a connection has was there before, or is a new number of this one
abbrev Was : ℕ → Connections → ℕ → ℕ → ℕ → Type 0
Was conn connections channels q n = (numbered connections q ≡ Some n) ⊎ ((q ≡ conn) × (connections.channels < n) × (n ≤ channels))

reacted_numbers : (conn : ℕ) (connections : Connections) (connection : Connection) (c : Counted) → get connections.known conn ≡ Some connection → Numbers connections.channels (number_in connection.phase) c → AreNumbered connections →
    AreNumbered (reacted connections conn connection c).connections
reacted_numbers conn connections connection c found m p = record { counted = counts; distinct = differ }
  where
    was : (q n : ℕ) → numbered (reacted connections conn connection c).connections q ≡ Some n → Was conn connections c.channels q n
    was q n = at_insert_at (λ (o : Option Connection). number_at o ≡ Some n → Was conn connections c.channels q n) connections.known conn (record connection { phase = c.reaction.phase }) q
        (λ same e. here same (m.number n e)) (λ e. inl e)
      where
        here : q ≡ conn → (number_in connection.phase ≡ Some n) ⊎ ((connections.channels < n) × (n ≤ c.channels)) → Was conn connections c.channels q n
        here same (inl e) = inl (ap (numbered connections) same ∙ ap number_at found ∙ e)
        here same (inr e) = inr (same, e.0, e.1)

    counts : (q n : ℕ) → numbered (reacted connections conn connection c).connections q ≡ Some n → n ≤ c.channels
    counts q n e = by (was q n e)
      where
        by : Was conn connections c.channels q n → n ≤ c.channels
        by (inl f) = omega (arith, p.counted q n f, m.rises)
        by (inr f) = f.2

    differ : (q r n : ℕ) → numbered (reacted connections conn connection c).connections q ≡ Some n → numbered (reacted connections conn connection c).connections r ≡ Some n → q ≡ r
    differ q r n e f = by (was q n e) (was r n f)
      where
        by : Was conn connections c.channels q n → Was conn connections c.channels r n → q ≡ r
        by (inl a) (inl b) = p.distinct q r n a b
        by (inl a) (inr b) = absurd (omega (arith, p.counted q n a, b.1))
        by (inr a) (inl b) = absurd (omega (arith, p.counted r n b, a.1))
        by (inr a) (inr b) = a.0 ∙ sym b.0

taking_numbers_by : (setting : Setting) (conn : ℕ) (connections : Connections) (frame : Frame) (found : Option Connection) → get connections.known conn ≡ found → AreNumbered connections →
    AreNumbered (taking_by setting conn connections frame found).connections
taking_numbers_by setting conn connections frame None e p = p
taking_numbers_by setting conn connections frame (Some connection) e p =
    reacted_numbers conn connections connection _ e (reaction_numbers setting conn connections.channels connection.key frame connection.phase) p

pub taking_numbers : (setting : Setting) (conn : ℕ) (connections : Connections) (frame : Frame) → AreNumbered connections → AreNumbered (taking_of setting conn connections frame).connections
unfolding taking_of
taking_numbers setting conn connections frame p = taking_numbers_by setting conn connections frame (get connections.known conn) refl p

break_numbers_by : (conn : ℕ) (connections : Connections) (fault : FrameFault) (found : Option Connection) → get connections.known conn ≡ found → AreNumbered connections → AreNumbered (break_by conn connections fault found).connections
break_numbers_by conn connections fault None e p = p
break_numbers_by conn connections fault (Some connection) e p =
    reacted_numbers conn connections connection (counted connections.channels (fault_reaction conn fault)) e (fault_numbers connections.channels conn (number_in connection.phase) fault) p

pub break_numbers : (conn : ℕ) (connections : Connections) (fault : FrameFault) → AreNumbered connections → AreNumbered (break_of conn connections fault).connections
unfolding break_of
break_numbers conn connections fault p = break_numbers_by conn connections fault (get connections.known conn) refl p

-- replies change no number
number_but_sent : (o : Option Connection) → number_at (unsent o) ≡ number_at o
number_but_sent None = refl
number_but_sent (Some connection) = by connection.phase
  where
    by : (phase : Phase) → number_in (unsent_phase phase) ≡ number_in phase
    by Greeting = refl
    by (Talking s) = refl
    by Closed = refl

pub sent_numbers : (old new : Connections) → SendsAlone old new → AreNumbered old → AreNumbered new
sent_numbers old new a p = record {
  counted = λ conn n e. subst (λ (k : ℕ). n ≤ k) (sym a.channels) (p.counted conn n (same conn ∙ e));
  distinct = λ conn other n e f. p.distinct conn other n (same conn ∙ e) (same other ∙ f);
}
  where
    same : (conn : ℕ) → numbered old conn ≡ numbered new conn
    same conn = sym (number_but_sent (get old.known conn)) ∙ ap number_at (sym (a.all conn)) ∙ number_but_sent (get new.known conn)

-- a connection that is opened or gone has no channel
pub opened_numbers : (connections : Connections) (conn : ℕ) (key : List ℕ) (phase : Phase) → number_in phase ≡ None → AreNumbered connections → AreNumbered (known_as connections conn key phase)
opened_numbers connections conn key phase none p = record {
  counted = λ q n e. p.counted q n (was q n e);
  distinct = λ q r n e f. p.distinct q r n (was q n e) (was r n f);
}
  where
    was : (q n : ℕ) → numbered (known_as connections conn key phase) q ≡ Some n → numbered connections q ≡ Some n
    was q n = at_insert_at (λ (o : Option Connection). number_at o ≡ Some n → numbered connections q ≡ Some n) connections.known conn (record { key = key; phase = phase }) q
        (λ same e. absurd (none_some n (sym none ∙ e))) (λ e. e)

pub gone_numbers : (connections : Connections) (conn : ℕ) → AreNumbered connections → AreNumbered (gone connections conn)
gone_numbers connections conn p = record {
  counted = λ q n e. p.counted q n (was q n e);
  distinct = λ q r n e f. p.distinct q r n (was q n e) (was r n f);
}
  where
    was : (q n : ℕ) → numbered (gone connections conn) q ≡ Some n → numbered connections q ≡ Some n
    was q n = at_removed (λ (o : Option Connection). number_at o ≡ Some n → numbered connections q ≡ Some n) connections.known conn q
        (λ e. absurd (none_some n e)) (λ e. e)
