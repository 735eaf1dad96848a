-- What holds of every world that a server reaches.
use Rattle.std.specs.Prelude.{◌≡◌, ◌≤◌, ⊤, ℕ, true, false, List, [], ◌∷◌, Option, Some, None, is_some}
use Rattle.std.specs.FinMap.{get, len}
use Rattle.ua_types.specs.Configuration.{Configuration}
use Rattle.ua_transport.specs.Agreements.{AreInRange, limits_of}
use Rattle.server_messages.specs.declared.reply.Reply.{Reply}
use Rattle.ua_space.specs.Nodes.{SpaceState}
use Rattle.server_connections.specs.Coherent.{AreAgreed, Talks, IsFresh, AreNumbered, is_open, AlwaysFitAt}
use Rattle.ua_services.specs.Owing.{OwesOnly}
use Rattle.server_core.specs.declared.event.Event.{Event}
use Rattle.server_core.specs.Effects.{Effect, Do, Occurred, Lost}
use Rattle.server_core.specs.Running.{Running, run_of}
use Rattle.server_core.specs.World.{World, Core, opening}

-- The configuration's limits are in their ranges. Every channel is agreed on under them. Every request that waits came
-- by a connection that still has a channel to answer it by. Numbers above all are not known. No two channels have one number
pub record IsSound (core : Core) : Type 0 where
  pub ranges : AreInRange (limits_of core.setting.config)
  pub agreed : AreAgreed core.setting.config core.connections
  pub owed : OwesOnly (Talks core.connections) core.services
  pub fresh : IsFresh core.connections
  pub numbered : AreNumbered core.connections

-- Beside that, there is a framer exactly where a connection is open, no more are open at once than there may be, and none is once
-- the server was shut down
pub record IsCoherent (world : World) : Type 0 where
  pub sound : IsSound world.core
  pub framers : (conn : ℕ) → is_some (get world.framers conn) ≡ is_open world.core.connections conn
  pub room : len world.framers ≤ world.core.setting.config.connections
  pub shut : world.core.is_shut ≡ true → (conn : ℕ) → is_open world.core.connections conn ≡ false

-- the answers that a server may have to send in any case fit on every channel
abbrev pub AnswersFit : World → Type 0
AnswersFit world = (conn : ℕ) → AlwaysFitAt (get world.core.connections.known conn)

-- the replies that had no channel to go by
abbrev pub lost_of : List Effect → List Reply
lost_of [] = []
lost_of (Do out ∷ effects) = lost_of effects
lost_of (Occurred occurrence ∷ effects) = lost_of effects
lost_of (Lost reply ∷ effects) = reply ∷ lost_of effects

abbrev pub LosesNone : List Effect → Type 0
LosesNone effects = lost_of effects ≡ []

-- a server that was opened, after these events
abbrev pub reached : Configuration → SpaceState → List Event → Running
reached config space events = run_of (Some (opening config space)) events

-- if the server isn't halted
abbrev pub IfRuns : (World → Type 0) → Option World → Type 0
IfRuns P None = ⊤
IfRuns P (Some world) = P world
