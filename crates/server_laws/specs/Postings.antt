-- What goes out for each reply of a run.
use Rattle.std.specs.Prelude.{◌≡◌, ⊤, ◌⊎◌, ℕ, List, [], ◌∷◌, ◌++◌, map, Option, Some, None, Ok, Err}
use Rattle.std.specs.FinMap.{get}
use Rattle.std.specs.List.{flat_map, AllByRecursion}
use Rattle.ua_types.specs.Configuration.{Configuration}
use Rattle.ua_types.specs.declared.moment.Moment.{Moment}
use Rattle.ua_types.specs.declared.status.TheConstants.Status as status
use Rattle.ua_space.specs.Nodes.{SpaceState}
use Rattle.ua_messages.specs.ServiceFaults.{fault_body}
use Rattle.ua_transport.specs.ChannelStates.{ChannelState}
use Rattle.ua_transport.specs.Cutting.{send_of}
use Rattle.ua_transport.specs.declared.send_fault.SendFault.TheVariants.{TooLarge}
use Rattle.server_messages.specs.declared.out.Out.{Out}
use Rattle.server_messages.specs.declared.reply.Reply.{Reply}
use Rattle.server_messages.specs.declared.setting.Setting.{Setting}
use Rattle.server_connections.specs.Delivering.{delivered}
use Rattle.server_connections.specs.Reactions.{sends}
use Rattle.server_connections.specs.declared.connection.Connection.{Connection}
use Rattle.server_connections.specs.declared.connection.Phase.{Phase}
use Rattle.server_connections.specs.declared.connection.Phase.TheVariants.{Talking}
use Rattle.server_connections.specs.Connecting.{Connections}
use Rattle.ua_services.specs.Services.{serving_of, ticking_of, shutting_of}
use Rattle.subscription_laws.specs.Tellings.{answer_of}
use Rattle.server_core.specs.Coherent.{reached}
use Rattle.server_core.specs.Effects.{outs_of}
use Rattle.server_core.specs.Running.{Running, joined_effects}
use Rattle.server_core.specs.declared.event.Event.{Event}
use Rattle.server_core.specs.declared.parts.Core.{Core}
use Rattle.server_laws.specs.Dealings.{Asked, Serves, Ticks, Forgets, Ends, Dealing, dealings_of}
use Rattle.server_laws.specs.Moving.{StandIn}
use Rattle.server_laws.specs.Tellings.{told_by}

-- only a connection that talks has a channel
abbrev pub channel_in : Phase → Option ChannelState
channel_in (Talking s) = Some s
channel_in phase = None

abbrev pub channel_of : Option Connection → Option ChannelState
channel_of None = None
channel_of (Some connection) = channel_in connection.phase

-- a reply, the channel of its connection and the server's time when it goes out, and what goes out for it
pub record Posting : Type 0 where
  pub reply : Reply
  pub channel : Option ChannelState
  pub clock : Moment
  pub outs : List Out

abbrev pub reply_posted : Posting → Reply
reply_posted p = p.reply

-- Replies go out one after the other, each as `delivered` says: in its chunks, on the connection that its request came by; or, where
-- it is too large for the client there, as the fault BAD_RESPONSE_TOO_LARGE
abbrev pub postings : Setting → Connections → List Reply → List Posting
postings setting connections [] = []
postings setting connections (reply ∷ replies) =
    let d = delivered setting connections reply in
    record { reply = reply; channel = channel_of (get connections.known reply.origin.conn); clock = setting.clock; outs = d.outs } ∷
    postings setting d.connections replies

-- ---- of a run

-- what is replied to what is asked of the services
abbrev pub replies_to : Core → Asked → List Reply
replies_to core (Serves request) = (serving_of core.setting request core.services).replies
replies_to core Ticks = (ticking_of core.setting core.services).replies
replies_to core (Forgets conn) = []
-- the server's end answers all that waits
replies_to core Ends = (shutting_of core.setting core.services).replies

abbrev pub posted_at : Dealing → List Posting
posted_at d = let core : Core = d.core in postings core.setting core.connections (replies_to core d.asked)

-- all of a run, in the order in which they go out
abbrev pub posted : Configuration → SpaceState → List Event → List Posting
posted config space events = flat_map posted_at (dealings_of config space events)

-- ---- what is said of them

-- they go out among these, one behind the other
abbrev pub GoOut : List Posting → List Out → Type 0
GoOut [] outs = ⊤
GoOut (p ∷ ps) outs = (front : List Out) × (back : List Out) × (outs ≡ front ++ (p.outs ++ back)) × GoOut ps back

-- all that a run sends and closes
abbrev pub outs_of_run : Running → List Out
outs_of_run r = outs_of (joined_effects r.steps)

-- Each answer to a Publish request is posted, in the order in which they are given; and what is posted goes out, in order
pub record AnswersGoOut (config : Configuration) (space : SpaceState) (events : List Event) : Type 0 where
  pub are_posted : StandIn (map answer_of (told_by config space events)) (map reply_posted (posted config space events))
  pub go_out : GoOut (posted config space events) (outs_of_run (reached config space events))

-- a body goes out by a channel, in one chunk or more
pub record GoesBy (s : ChannelState) (p : Posting) (body : List ℕ) : Type 0 where
  pub first : List ℕ
  pub more : List (List ℕ)
  pub chunks : (send_of s p.reply.origin.id body).answer ≡ Ok (first ∷ more)
  pub sent : p.outs ≡ sends p.reply.origin.conn (first ∷ more)

abbrev pub IsSentBy : Posting → Option ChannelState → Type 0
IsSentBy p None = ⊥
IsSentBy p (Some s) =
    GoesBy s p p.reply.body
    ⊎ (((send_of s p.reply.origin.id p.reply.body).answer ≡ Err TooLarge) × GoesBy s p (fault_body p.reply.origin.handle status.BAD_RESPONSE_TOO_LARGE p.clock))

-- an answer goes out by its channel; or, where it is too large for that one, the fault BAD_RESPONSE_TOO_LARGE does, in its place
abbrev pub IsSent : Posting → Type 0
IsSent p = IsSentBy p p.channel

-- so it is with all that is posted: none goes out as nothing
abbrev pub AnswersAreSent : Configuration → SpaceState → List Event → Type 0
AnswersAreSent config space events = AllByRecursion IsSent (posted config space events)
