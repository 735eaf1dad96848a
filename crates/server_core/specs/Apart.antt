-- What the bytes of one connection leave as it was.
use Rattle.std.specs.Prelude.{◌≡◌, ◌≢◌, ◌&&◌, ℕ, Bool, true, false, List, [], ◌∷◌, filter, Option, Some, None, Result, Ok}
use Rattle.std.specs.FinMap.{get}
use Rattle.server_connections.specs.Apart.{unsent, with_known, SeesAlike, is_on, is_for}
use Rattle.server_connections.specs.Connecting.{is_known}
use Rattle.ua_types.specs.declared.status.Status.{Status}
use Rattle.ua_transport.specs.Feeding.{Framing, framed_of}
use Rattle.ua_transport.specs.Frames.{End, Rest, Broken}
use Rattle.ua_transport.specs.declared.frame.Frame.{Frame}
use Rattle.ua_transport.specs.declared.taken.Taken.{Taken}
use Rattle.ua_transport.specs.declared.taken.Taken.TheVariants as taken
use Rattle.ua_transport.specs.Acceptance.{take_of}
use Rattle.server_connections.specs.declared.connection.Connection.{Connection}
use Rattle.server_connections.specs.declared.connection.Phase.{Phase}
use Rattle.server_connections.specs.declared.connection.Phase.TheVariants.{Talking}
use Rattle.server_core.specs.Effects.{Effect, Do, Occurred, Lost}
use Rattle.server_core.specs.Handling.{handled}
use Rattle.server_core.specs.World.{World, Core}

-- the old server, but with the connections, the number of channels and the services of the new one
abbrev pub with_parts : Core → Core → Core
with_parts old new = record old { connections = with_known old.connections new.connections; services = new.services }

-- Other connections are as they were but for what was sent on them, this one is known where it was, and beside these parts
-- nothing is another
pub record KeepsOthers (conn : ℕ) (old new : World) : Type 0 where
  pub rest : new ≡ record old { framers = new.framers; core = with_parts old.core new.core }
  pub known : is_known new.core.connections conn ≡ is_known old.core.connections conn
  pub framers : (other : ℕ) → other ≢ conn → get new.framers other ≡ get old.framers other
  pub connections : (other : ℕ) → other ≢ conn → unsent (get new.core.connections.known other) ≡ unsent (get old.core.connections.known other)

-- ---- bytes that are only a part of a message

-- the frame is a chunk that its message doesn't end with, or one that drops it
abbrev pub is_part_taken : Result Taken Status → Bool
is_part_taken (Ok taken.Nothing) = true
is_part_taken (Ok (taken.Aborted id)) = true
is_part_taken answer = false

abbrev pub is_part_in : Phase → Frame → Bool
is_part_in (Talking s) frame = is_part_taken (take_of s frame).answer
is_part_in phase frame = false

abbrev pub is_part_of : Option Connection → Frame → Bool
is_part_of None frame = false
is_part_of (Some connection) frame = is_part_in connection.phase frame

-- no frame of these completes a message or is refused
abbrev pub are_parts : ℕ → Core → List Frame → Bool
are_parts conn core [] = true
are_parts conn core (frame ∷ frames) =
    is_part_of (get core.connections.known conn) frame && are_parts conn (handled conn core frame).state frames

abbrev pub is_rest : End → Bool
is_rest (Rest bytes) = true
is_rest (Broken fault) = false

-- the bytes held and the piece complete no message and meet no refusal
abbrev pub completes_none_in : World → ℕ → List ℕ → Option Framing → Bool
completes_none_in world conn piece None = true
completes_none_in world conn piece (Some framing) =
    let framed = framed_of framing.limit framing.held piece in
    is_rest framed.end && are_parts conn world.core framed.frames

abbrev pub completes_none : World → ℕ → List ℕ → Bool
completes_none world conn piece = completes_none_in world conn piece (get world.framers conn)

-- the old server, but with the connections of the new one
abbrev pub with_connections_of : Core → Core → Core
with_connections_of old new = record old { connections = record old.connections { known = new.connections.known } }

-- the connection's own part alone may be another one: its framer, and what has come of its message
pub record KeepsAllElse (conn : ℕ) (old new : World) : Type 0 where
  pub rest : new ≡ record old { framers = new.framers; core = with_connections_of old.core new.core }
  pub framers : (other : ℕ) → other ≢ conn → get new.framers other ≡ get old.framers other
  pub connections : (other : ℕ) → other ≢ conn → get new.core.connections.known other ≡ get old.core.connections.known other

-- ---- one connection's own stream

-- two cores are alike to a connection: the same setting and services, and the same of its own
pub record IsAlike (conn : ℕ) (a b : Core) : Type 0 where
  pub setting : a.setting ≡ b.setting
  pub sees : SeesAlike conn a.connections b.connections
  pub services : a.services ≡ b.services

-- what of some effects is sent on a connection, and what else was done
abbrev pub is_heard : ℕ → Effect → Bool
is_heard conn (Do out) = is_on conn out
is_heard conn (Occurred occurrence) = true
is_heard conn (Lost reply) = is_for conn reply

abbrev pub heard : ℕ → List Effect → List Effect
heard conn effects = filter (is_heard conn) effects

-- two worlds are: its framer is the same too
pub record IsAlikeTo (conn : ℕ) (a b : World) : Type 0 where
  pub framer : get a.framers conn ≡ get b.framers conn
  pub core : IsAlike conn a.core b.core
