-- What a shutdown does to the connections.
use Rattle.std.specs.Prelude.{ℕ, List, [], ◌∷◌, ◌++◌, Option, Some, None}
use Rattle.std.specs.FinMap.{get, entries}
use Rattle.std.specs.Map.{keys_of}
use Rattle.ua_types.specs.declared.status.TheConstants.Status as status
use Rattle.server_connections.specs.Connecting.{Connections, with_phase, Refusing, refusing}
use Rattle.server_connections.specs.Delivering.{Said, said}
use Rattle.server_connections.specs.Reactions.{refusal}
use Rattle.server_connections.specs.declared.connection.Connection.{Connection}
use Rattle.server_connections.specs.declared.connection.Phase.{Phase}
use Rattle.server_connections.specs.declared.connection.Phase.TheVariants.{Closed}
use Rattle.server_messages.specs.declared.out.Out.{Out}

-- an open connection is told that the server shuts down, and is closed; one that is closed is left as it is
abbrev pub shut_by : ℕ → Phase → Said
shut_by conn Closed = said Closed []
shut_by conn phase = said Closed (refusal conn status.BAD_SHUTDOWN)

abbrev pub shut_on : Connections → ℕ → Connection → Said → Refusing
shut_on connections conn connection s = refusing (with_phase connections conn connection s.phase) s.outs

abbrev pub shut_at : Connections → ℕ → Option Connection → Refusing
shut_at connections conn None = refusing connections []
shut_at connections conn (Some connection) = shut_on connections conn connection (shut_by conn connection.phase)

unfoldable pub shut_one : Connections → ℕ → Refusing
shut_one connections conn = shut_at connections conn (get connections.known conn)

abbrev pub and_refusing : Refusing → (Connections → Refusing) → Refusing
and_refusing first more =
    let rest = more first.connections in
    refusing rest.connections (first.outs ++ rest.outs)

abbrev pub all_shut : Connections → List ℕ → Refusing
all_shut connections [] = refusing connections []
all_shut connections (conn ∷ conns) = and_refusing (shut_one connections conn) (λ c. all_shut c conns)

-- all that are open, by rising number
abbrev pub shut : Connections → Refusing
shut connections = all_shut connections (keys_of (entries connections.known))

abbrev pub refusing_after : List Out → Refusing → Refusing
refusing_after outs r = refusing r.connections (outs ++ r.outs)

abbrev pub said_behind : List Out → Said → Said
said_behind outs s = said s.phase (outs ++ s.outs)

-- ---- what the laws say

-- a connection that is known still is, with its key, and is closed
abbrev pub with_end : Connection → Connection
with_end connection = record connection { phase = Closed }

abbrev pub ended : Option Connection → Option Connection
ended None = None
ended (Some connection) = Some (with_end connection)
