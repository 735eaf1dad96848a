-- Frames of one connection, and replies, leave the others as they were.
use Rattle.std.proofs.Common.{◌≡◌, ℕ, Bool, true, false, cond, List, [], ◌∷◌, Option, Some, None, is_some, Result, Ok, Err, refl, sym, ◌∙◌, ap}
use Rattle.std.specs.FinMap.{get}
use Rattle.ua_types.specs.Answers.{Step}
use Rattle.ua_types.specs.declared.moment.Moment.{Moment}
use Rattle.ua_types.specs.declared.status.TheConstants.Status as status
use Rattle.ua_messages.specs.ServiceFaults.{fault_body}
use Rattle.ua_transport.specs.declared.frame.Frame.{Frame}
use Rattle.ua_transport.specs.declared.frame.FrameFault.{FrameFault}
use Rattle.ua_transport.specs.ChannelStates.{ChannelState}
use Rattle.ua_transport.specs.Cutting.{send_of}
use Rattle.ua_transport.specs.declared.send_fault.SendFault.{SendFault}
use Rattle.server_messages.specs.declared.origin.Origin.{Origin}
use Rattle.server_messages.specs.declared.reply.Reply.{Reply}
use Rattle.server_messages.specs.declared.setting.Setting.{Setting}
use Rattle.server_connections.specs.declared.connection.Connection.{Connection}
use Rattle.server_connections.specs.declared.connection.Phase.{Phase}
use Rattle.server_connections.specs.declared.connection.Phase.TheVariants.{Greeting, Talking, Closed}
use Rattle.server_connections.specs.Reactions.{Counted, Sent, sent_nothing, sent_or, fault_reaction, reaction_of}
use Rattle.server_connections.specs.Connecting.{Connections, reacted, taking_by, taking_of, break_by, break_of}
use Rattle.server_connections.specs.Delivering.{said_by, too_large_sent, reply_sent, delivered_to, delivered, delivery_of}
use Rattle.server_connections.specs.Apart.{unsent_channel, unsent_phase, unsent, with_known, KeepsOthers}
use Rattle.server_connections.proofs.CoherentLemmas.{at_insert_at}
use Rattle.collections.proofs.NumberMaps.{get_inserted_elsewhere}
use Rattle.collections.proofs.NumberMaps.{get_inserted}

-- ---- frames

reacted_apart : (conn : ℕ) (connections : Connections) (connection : Connection) (c : Counted) → get connections.known conn ≡ Some connection → KeepsOthers conn connections (reacted connections conn connection c).connections
reacted_apart conn connections connection c e = record {
  rest = refl;
  known = ap is_some (get_inserted connections.known conn (record connection { phase = c.reaction.phase })) ∙ sym (ap is_some e);
  others = λ other apart. ap unsent (get_inserted_elsewhere connections.known conn (record connection { phase = c.reaction.phase }) other apart);
}

same_apart : (conn : ℕ) (connections : Connections) → KeepsOthers conn connections connections
same_apart conn connections = record { rest = refl; known = refl; others = λ other apart. refl }

taking_by_apart : (setting : Setting) (conn : ℕ) (connections : Connections) (frame : Frame) (found : Option Connection) → get connections.known conn ≡ found → KeepsOthers conn connections (taking_by setting conn connections frame found).connections
taking_by_apart setting conn connections frame None e = same_apart conn connections
taking_by_apart setting conn connections frame (Some connection) e =
    reacted_apart conn connections connection (reaction_of setting connections.channels conn connection.key frame connection.phase) e

pub taking_apart : (setting : Setting) (conn : ℕ) (connections : Connections) (frame : Frame) → KeepsOthers conn connections (taking_of setting conn connections frame).connections
unfolding taking_of
taking_apart setting conn connections frame = taking_by_apart setting conn connections frame (get connections.known conn) refl

break_by_apart : (conn : ℕ) (connections : Connections) (fault : FrameFault) (found : Option Connection) → get connections.known conn ≡ found → KeepsOthers conn connections (break_by conn connections fault found).connections
break_by_apart conn connections fault None e = same_apart conn connections
break_by_apart conn connections fault (Some connection) e = reacted_apart conn connections connection (record { reaction = fault_reaction conn fault; channels = connections.channels }) e

pub break_apart : (conn : ℕ) (connections : Connections) (fault : FrameFault) → KeepsOthers conn connections (break_of conn connections fault).connections
unfolding break_of
break_apart conn connections fault = break_by_apart conn connections fault (get connections.known conn) refl

-- ---- replies

unsent_if : {A E : Type 0} (s : ChannelState) (b : Bool) (x y : Step A E ChannelState) → unsent_channel x.state ≡ unsent_channel s → unsent_channel y.state ≡ unsent_channel s → unsent_channel (cond b x y).state ≡ unsent_channel s
unsent_if s true x y p q = p
unsent_if s false x y p q = q

send_unsent : (s : ChannelState) (id : ℕ) (body : List ℕ) → unsent_channel (send_of s id body).state ≡ unsent_channel s
send_unsent s id body = unsent_if s _ _ _ refl refl

or_unsent : (s t : ChannelState) (r : Result (List (List ℕ)) SendFault) (otherwise : Sent) → unsent_channel t ≡ unsent_channel s → unsent_channel otherwise.channel ≡ unsent_channel s → unsent_channel (sent_or r t otherwise).channel ≡ unsent_channel s
or_unsent s t (Ok frames) otherwise p q = p
or_unsent s t (Err fault) otherwise p q = q

too_large_unsent : (s : ChannelState) (origin : Origin) (clock : Moment) → unsent_channel (too_large_sent s origin clock).channel ≡ unsent_channel s
unfolding too_large_sent
too_large_unsent s origin clock =
    let body = fault_body origin.handle status.BAD_RESPONSE_TOO_LARGE clock in
    let step = send_of s origin.id body in
    or_unsent s step.state step.answer (sent_nothing step.state) (send_unsent s origin.id body) (send_unsent s origin.id body)

reply_unsent : (s : ChannelState) (reply : Reply) (clock : Moment) → unsent_channel (reply_sent s reply clock).channel ≡ unsent_channel s
unfolding reply_sent
reply_unsent s reply clock =
    let step = send_of s reply.origin.id reply.body in
    or_unsent s step.state step.answer (too_large_sent step.state reply.origin clock) (send_unsent s reply.origin.id reply.body)
    (too_large_unsent step.state reply.origin clock ∙ send_unsent s reply.origin.id reply.body)

said_unsent : (setting : Setting) (reply : Reply) (phase : Phase) → unsent_phase (said_by setting reply phase).phase ≡ unsent_phase phase
said_unsent setting reply Greeting = refl
said_unsent setting reply Closed = refl
said_unsent setting reply (Talking s) = ap Talking (reply_unsent s reply setting.clock)

-- replies change nothing but what was sent
pub record SendsAlone (old new : Connections) : Type 0 where
  pub rest : new ≡ with_known old new
  pub channels : new.channels ≡ old.channels
  pub all : (conn : ℕ) → unsent (get new.known conn) ≡ unsent (get old.known conn)

delivered_to_apart : (setting : Setting) (connections : Connections) (reply : Reply) (found : Option Connection) → get connections.known reply.origin.conn ≡ found →
    SendsAlone connections (delivered_to setting connections reply found).connections
delivered_to_apart setting connections reply None e = record { rest = refl; channels = refl; all = λ conn. refl }
delivered_to_apart setting connections reply (Some connection) e =
    let said = said_by setting reply connection.phase in
    let new : Connection = record connection { phase = said.phase } in
    let with_phase : Phase → Option Connection = λ phase. Some (record connection { phase = phase }) in
    record {
      rest = refl;
      channels = refl;
      all = λ q. at_insert_at (λ (o : Option Connection). unsent o ≡ unsent (get connections.known q)) connections.known reply.origin.conn new q
          (λ same. ap with_phase (said_unsent setting reply connection.phase) ∙ ap unsent (sym e) ∙ ap (λ (c : ℕ). unsent (get connections.known c)) (sym same)) refl;
    }

pub delivery_apart : (setting : Setting) (connections : Connections) (replies : List Reply) → SendsAlone connections (delivery_of setting connections replies).connections
unfolding delivered
delivery_apart setting connections [] = record { rest = refl; channels = refl; all = λ conn. refl }
delivery_apart setting connections (reply ∷ replies) =
    let first = delivered setting connections reply in
    let one = delivered_to_apart setting connections reply (get connections.known reply.origin.conn) refl in
    let rest = delivery_apart setting first.connections replies in
    record {
      rest = rest.rest ∙ ap (λ (c : Connections). with_known c (delivery_of setting first.connections replies).connections) one.rest;
      channels = rest.channels ∙ one.channels;
      all = λ conn. rest.all conn ∙ one.all conn;
    }

known_but_sent : (o : Option Connection) → is_some (unsent o) ≡ is_some o
known_but_sent None = refl
known_but_sent (Some connection) = refl

still_known : (o p : Option Connection) → unsent o ≡ unsent p → is_some o ≡ is_some p
still_known o p e = sym (known_but_sent o) ∙ ap is_some e ∙ known_but_sent p

pub then_sent : (conn : ℕ) (a b c : Connections) → KeepsOthers conn a b → SendsAlone b c → KeepsOthers conn a c
then_sent conn a b c p q = record {
  rest = q.rest ∙ ap (λ (x : Connections). with_known x c) p.rest;
  known = still_known (get c.known conn) (get b.known conn) (q.all conn) ∙ p.known;
  others = λ other apart. q.all other ∙ p.others other apart;
}
