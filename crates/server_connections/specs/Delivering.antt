-- How replies are sent, each on the connection that its request came by.
use Rattle.std.specs.Prelude.{List, [], ◌∷◌, ◌++◌, Option, Some, None}
use Rattle.std.specs.FinMap.{get}
use Rattle.ua_types.specs.declared.moment.Moment.{Moment}
use Rattle.ua_types.specs.declared.status.TheConstants.Status as status
use Rattle.ua_messages.specs.ServiceFaults.{fault_body}
use Rattle.ua_transport.specs.ChannelStates.{ChannelState}
use Rattle.ua_transport.specs.Cutting.{send_of}
use Rattle.server_messages.specs.declared.origin.Origin.{Origin}
use Rattle.server_messages.specs.declared.reply.Reply.{Reply}
use Rattle.server_messages.specs.declared.setting.Setting.{Setting}
use Rattle.server_connections.specs.declared.connection.Connection.{Connection}
use Rattle.server_connections.specs.declared.connection.Phase.{Phase}
use Rattle.server_connections.specs.declared.connection.Phase.TheVariants.{Talking}
use Rattle.server_messages.specs.declared.out.Out.{Out}
use Rattle.server_connections.specs.Reactions.{Sent, sent_nothing, sent_or, sends}
use Rattle.server_connections.specs.Connecting.{Connections, with_phase}

-- a fault in the place of a reply that is too large for the client
unfoldable pub too_large_sent : ChannelState → Origin → Moment → Sent
too_large_sent s origin clock =
    let step = send_of s origin.id (fault_body origin.handle status.BAD_RESPONSE_TOO_LARGE clock) in
    sent_or step.answer step.state (sent_nothing step.state)

unfoldable pub reply_sent : ChannelState → Reply → Moment → Sent
reply_sent s reply clock =
    let step = send_of s reply.origin.id reply.body in
    sent_or step.answer step.state (too_large_sent step.state reply.origin clock)

-- the connections after replies were sent, what goes out, and the replies that had no channel to go by
pub record Delivery : Type 0 where
  pub connections : Connections
  pub outs : List Out
  pub lost : List Reply

-- what a reply comes to on a connection: its phase after it, what goes out, and the reply itself where it was lost
pub record Saying : Type 0 where
  pub phase : Phase
  pub outs : List Out
  pub lost : List Reply

-- only a connection that talks has a channel
abbrev pub said_by : Setting → Reply → Phase → Saying
said_by setting reply (Talking s) =
    let sent = reply_sent s reply setting.clock in
    record { phase = Talking sent.channel; outs = sends reply.origin.conn sent.frames; lost = [] }
said_by setting reply phase = record { phase = phase; outs = []; lost = reply ∷ [] }

abbrev pub delivered_on : Connections → Reply → Connection → Saying → Delivery
delivered_on connections reply connection said =
    record { connections = with_phase connections reply.origin.conn connection said.phase; outs = said.outs; lost = said.lost }

abbrev pub delivered_to : Setting → Connections → Reply → Option Connection → Delivery
delivered_to setting connections reply None = record { connections = connections; outs = []; lost = reply ∷ [] }
delivered_to setting connections reply (Some connection) =
    delivered_on connections reply connection (said_by setting reply connection.phase)

unfoldable pub delivered : Setting → Connections → Reply → Delivery
delivered setting connections reply = delivered_to setting connections reply (get connections.known reply.origin.conn)

abbrev pub and_delivery : Delivery → (Connections → Delivery) → Delivery
and_delivery first more =
    let rest = more first.connections in
    record { connections = rest.connections; outs = first.outs ++ rest.outs; lost = first.lost ++ rest.lost }

-- one reply after the other
abbrev pub delivery_of : Setting → Connections → List Reply → Delivery
delivery_of setting connections [] = record { connections = connections; outs = []; lost = [] }
delivery_of setting connections (reply ∷ replies) =
    and_delivery (delivered setting connections reply) (λ c. delivery_of setting c replies)

-- what goes out, behind what went out before
pub record Sending : Type 0 where
  pub connections : Connections
  pub outs : List Out

abbrev pub sending : Connections → List Out → Sending
sending connections outs = record { connections = connections; outs = outs }

abbrev pub sending_after : List Out → Delivery → Sending
sending_after outs d = sending d.connections (outs ++ d.outs)

pub record Said : Type 0 where
  pub phase : Phase
  pub outs : List Out

abbrev pub said : Phase → List Out → Said
said phase outs = record { phase = phase; outs = outs }

abbrev pub said_after : List Out → Saying → Said
said_after outs s = said s.phase (outs ++ s.outs)
