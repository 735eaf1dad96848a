-- What holds of the connections of every server.
use Rattle.std.specs.Prelude.{◌≡◌, ◌≤◌, ⊤, ℕ, Bool, true, false, Option, Some, None, IsOk}
use Rattle.std.specs.FinMap.{get}
use Rattle.ua_types.specs.Configuration.{Configuration}
use Rattle.ua_types.specs.declared.moment.Moment.{Moment}
use Rattle.ua_types.specs.declared.status.Status.{Status}
use Rattle.ua_messages.specs.ServiceFaults.{fault_body}
use Rattle.ua_transport.specs.Agreements.{IsAgreement, limits_of}
use Rattle.ua_transport.specs.Cutting.{send_of, send_opening_of}
use Rattle.server_messages.specs.declared.setting.Setting.{Setting}
use Rattle.server_connections.specs.Reactions.{opening_body}
use Rattle.ua_transport.specs.ChannelStates.{ChannelState}
use Rattle.ua_transport.specs.Messages.{AreWithinLimits}
use Rattle.server_connections.specs.declared.connection.Connection.{Connection}
use Rattle.server_connections.specs.declared.connection.Phase.{Phase}
use Rattle.server_connections.specs.declared.connection.Phase.TheVariants.{Talking, Closed}
use Rattle.server_connections.specs.Connecting.{Connections, is_known, is_new}

-- a channel is agreed on under the server's limits, and what came of a message is within them
pub record IsAgreed (config : Configuration) (s : ChannelState) : Type 0 where
  pub agreement : IsAgreement s.agreed
  pub limits : s.agreed.limits ≡ limits_of config
  pub unfinished : AreWithinLimits s.agreed.limits s.unfinished

abbrev pub IsAgreedIn : Configuration → Phase → Type 0
IsAgreedIn config (Talking s) = IsAgreed config s
IsAgreedIn config phase = ⊤

abbrev pub IsAgreedAt : Configuration → Option Connection → Type 0
IsAgreedAt config None = ⊤
IsAgreedAt config (Some connection) = IsAgreedIn config connection.phase

abbrev pub AreAgreed : Configuration → Connections → Type 0
AreAgreed config connections = (conn : ℕ) → IsAgreedAt config (get connections.known conn)

-- a connection with a channel, by which replies can be sent
abbrev pub is_talking : Phase → Bool
is_talking (Talking s) = true
is_talking phase = false

abbrev pub has_channel : Option Connection → Bool
has_channel None = false
has_channel (Some connection) = is_talking connection.phase

abbrev pub Talks : Connections → ℕ → Type 0
Talks connections conn = has_channel (get connections.known conn) ≡ true

-- numbers above all are not known
abbrev pub IsFresh : Connections → Type 0
IsFresh connections = (conn : ℕ) → is_new connections conn ≡ true → is_known connections conn ≡ false

-- an open connection, whose frames are awaited
abbrev pub is_going_on : Phase → Bool
is_going_on Closed = false
is_going_on phase = true

abbrev pub is_open_at : Option Connection → Bool
is_open_at None = false
is_open_at (Some connection) = is_going_on connection.phase

abbrev pub is_open : Connections → ℕ → Bool
is_open connections conn = is_open_at (get connections.known conn)

-- none is open: what is known was closed
abbrev pub AreAllClosed : Connections → Type 0
AreAllClosed connections = (conn : ℕ) → is_open connections conn ≡ false

-- ---- the numbers of channels

-- the number of a connection's channel, once it is open
abbrev pub number_in : Phase → Option ℕ
number_in (Talking s) = s.channel_id
number_in phase = None

abbrev pub number_at : Option Connection → Option ℕ
number_at None = None
number_at (Some connection) = number_in connection.phase

-- channels have numbers up to the last one that was given, and no two have the same
pub record AreNumbered (connections : Connections) : Type 0 where
  pub counted : (conn number : ℕ) → number_at (get connections.known conn) ≡ Some number → number ≤ connections.channels
  pub distinct : (conn other number : ℕ) → number_at (get connections.known conn) ≡ Some number → number_at (get connections.known other) ≡ Some number → conn ≡ other

-- ---- what always fits

-- a fault, and the answer that opens the channel or renews its token, are never too large for the client
pub record AlwaysFit (s : ChannelState) : Type 0 where
  pub faults : (id handle : ℕ) (code : Status) (clock : Moment) → IsOk (send_of s id (fault_body handle code clock)).answer
  pub openings : (id : ℕ) (setting : Setting) (handle channel_id token_id : ℕ) → IsOk (send_opening_of s id (opening_body setting handle channel_id token_id)).answer

abbrev pub AlwaysFitIn : Phase → Type 0
AlwaysFitIn (Talking s) = AlwaysFit s
AlwaysFitIn phase = ⊤

abbrev pub AlwaysFitAt : Option Connection → Type 0
AlwaysFitAt None = ⊤
AlwaysFitAt (Some connection) = AlwaysFitIn connection.phase
