-- What the bytes of one connection leave of the others.
use Rattle.std.specs.Prelude.{◌≡◌, ◌≢◌, ◌==◌, ℕ, Bool, Option, Some, None}
use Rattle.std.specs.FinMap.{get}
use Rattle.ua_transport.specs.ChannelStates.{ChannelState}
use Rattle.server_messages.specs.declared.reply.Reply.{Reply}
use Rattle.server_connections.specs.declared.connection.Connection.{Connection}
use Rattle.server_connections.specs.declared.connection.Phase.{Phase}
use Rattle.server_connections.specs.declared.connection.Phase.TheVariants.{Talking}
use Rattle.server_messages.specs.declared.out.Out.{Out}
use Rattle.server_messages.specs.declared.out.Out.TheVariants.{Send, Close}
use Rattle.server_connections.specs.Connecting.{Connections, is_known}

-- a channel but for what was sent by it: the number of the last chunk
abbrev pub unsent_channel : ChannelState → ChannelState
unsent_channel s = record s { sent = 0 }

abbrev pub unsent_phase : Phase → Phase
unsent_phase (Talking s) = Talking (unsent_channel s)
unsent_phase phase = phase

-- a connection but for what was sent on it
abbrev pub unsent : Option Connection → Option Connection
unsent None = None
unsent (Some connection) = Some (record connection { phase = unsent_phase connection.phase })

-- the old connections, but with the connections themselves and the number of channels of the new ones
abbrev pub with_known : Connections → Connections → Connections
with_known old new = record old { known = new.known; channels = new.channels }

-- All others are as they were but for what was sent on them, this one is known where it was, and nothing else is another
pub record KeepsOthers (conn : ℕ) (old new : Connections) : Type 0 where
  pub rest : new ≡ with_known old new
  pub known : is_known new conn ≡ is_known old conn
  pub others : (other : ℕ) → other ≢ conn → unsent (get new.known other) ≡ unsent (get old.known other)

-- the same is seen of this connection, and the same number of channels
pub record SeesAlike (conn : ℕ) (a b : Connections) : Type 0 where
  pub known : get a.known conn ≡ get b.known conn
  pub channels : a.channels ≡ b.channels

-- what goes out, goes out on this connection
abbrev pub is_on : ℕ → Out → Bool
is_on conn (Send other bytes) = other == conn
is_on conn (Close other) = other == conn

-- a reply is for this connection
abbrev pub is_for : ℕ → Reply → Bool
is_for conn reply = reply.origin.conn == conn
