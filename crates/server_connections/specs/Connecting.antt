-- What frames and closings do to the connections.
use Rattle.std.specs.Prelude.{ℕ, Bool, true, nat_lt, List, [], ◌++◌, Option, Some, None, is_some, refl}
use Rattle.std.specs.Coded.{Coded, code_by, coded×, coded_ℕ, coded_option}
use Rattle.std.specs.FinMap.{FinMap, get, insert, remove, empty, code}
use Rattle.std.specs.Ordering.{nat_cmp}
use Rattle.ua_types.specs.declared.status.Status.{Status}
use Rattle.ua_transport.specs.declared.frame.Frame.{Frame}
use Rattle.ua_transport.specs.declared.frame.FrameFault.{FrameFault}
use Rattle.server_messages.specs.declared.setting.Setting.{Setting}
use Rattle.server_connections.specs.declared.frame_outcome.FrameOutcome.{FrameOutcome}
use Rattle.server_connections.specs.declared.frame_outcome.FrameOutcome.TheVariants as outcome
use Rattle.server_connections.specs.declared.connection.Connection.{Connection}
use Rattle.server_connections.specs.declared.connection.Phase.{Phase}
use Rattle.server_connections.specs.declared.connection.Phase.TheVariants.{Greeting, Closed}
use Rattle.server_messages.specs.declared.out.Out.{Out}
use Rattle.server_connections.specs.Reactions.{Counted, counted, refusal, reaction_of, fault_reaction}

-- the connections that aren't gone, under their numbers; the greatest number of one that was opened so far; and the number of the
-- channel that was opened last, 0 before the first
pub record Connections : Type 0 where
  pub known : FinMap nat_cmp Connection
  pub greatest : Option ℕ
  pub channels : ℕ

-- how they are stored, given how one is
abbrev pub connections_code : Coded Connection → Coded Connections
connections_code connection =
    code_by (FinMap nat_cmp Connection × (Option ℕ × ℕ))
    (coded× (code coded_ℕ connection) (coded× (coded_option coded_ℕ) coded_ℕ))
    (λ c. (c.known, (c.greatest, c.channels)))
    (λ p. record { known = p.0; greatest = p.1.0; channels = p.1.1 })
    (λ _. refl)

abbrev pub no_connections : Connections
no_connections = record { known = empty; greatest = None; channels = 0 }

-- a connection is known from when it is opened until it is gone, closed or not
abbrev pub is_known : Connections → ℕ → Bool
is_known connections conn = is_some (get connections.known conn)

-- whether the number is above those of all connections before
abbrev pub is_above_all : ℕ → Option ℕ → Bool
is_above_all conn None = true
is_above_all conn (Some greatest) = nat_lt greatest conn

abbrev pub is_new : Connections → ℕ → Bool
is_new connections conn = is_above_all conn connections.greatest

abbrev pub with_phase : Connections → ℕ → Connection → Phase → Connections
with_phase connections conn connection phase =
    record connections { known = insert connections.known conn (record connection { phase = phase }) }

-- ---- openings and ends

abbrev pub known_as : Connections → ℕ → List ℕ → Phase → Connections
known_as connections conn key phase =
    record connections { known = insert connections.known conn (record { key = key; phase = phase }); greatest = Some conn }

abbrev pub welcomed : Connections → ℕ → List ℕ → Connections
welcomed connections conn key = known_as connections conn key Greeting

-- what goes out, and the connections after it
pub record Refusing : Type 0 where
  pub connections : Connections
  pub outs : List Out

abbrev pub refusing : Connections → List Out → Refusing
refusing connections outs = record { connections = connections; outs = outs }

-- a connection that may not go on is told why, and is closed from the beginning
abbrev pub turned_away : Connections → ℕ → List ℕ → Status → Refusing
turned_away connections conn key code = refusing (known_as connections conn key Closed) (refusal conn code)

abbrev pub gone : Connections → ℕ → Connections
gone connections conn = record connections { known = remove connections.known conn }

-- ---- frames

-- what a frame comes to: the connections after it, what goes out, and what is left to do
pub record Taking : Type 0 where
  pub connections : Connections
  pub outs : List Out
  pub asked : FrameOutcome

abbrev pub taking : Connections → List Out → FrameOutcome → Taking
taking connections outs asked = record { connections = connections; outs = outs; asked = asked }

abbrev pub taking_after : List Out → Taking → Taking
taking_after outs t = taking t.connections (outs ++ t.outs) t.asked

abbrev pub reacted : Connections → ℕ → Connection → Counted → Taking
reacted connections conn connection c =
    taking (with_phase (record connections { channels = c.channels }) conn connection c.reaction.phase) c.reaction.outs c.reaction.asked

abbrev pub taking_by : Setting → ℕ → Connections → Frame → Option Connection → Taking
taking_by setting conn connections frame None = taking connections [] outcome.Closed
taking_by setting conn connections frame (Some connection) =
    reacted connections conn connection (reaction_of setting connections.channels conn connection.key frame connection.phase)

-- what a frame does on a connection
unfoldable pub taking_of : Setting → ℕ → Connections → Frame → Taking
taking_of setting conn connections frame = taking_by setting conn connections frame (get connections.known conn)

abbrev pub break_by : ℕ → Connections → FrameFault → Option Connection → Taking
break_by conn connections fault None = taking connections [] outcome.Closed
break_by conn connections fault (Some connection) = reacted connections conn connection (counted connections.channels (fault_reaction conn fault))

-- what is no frame ends the connection
unfoldable pub break_of : ℕ → Connections → FrameFault → Taking
break_of conn connections fault = break_by conn connections fault (get connections.known conn)
