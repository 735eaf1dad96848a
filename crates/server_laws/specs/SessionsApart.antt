-- A request of one session, and what a server keeps of others.
use Rattle.std.specs.Prelude.{◌≡◌, ℕ, List}
use Rattle.ua_types.specs.Configuration.{Configuration}
use Rattle.ua_space.specs.Nodes.{SpaceState}
use Rattle.ua_transport.specs.declared.frame.Frame.{Frame}
use Rattle.server_messages.specs.declared.request.Request.{Request}
use Rattle.server_connections.specs.Connecting.{taking_of}
use Rattle.server_connections.specs.declared.frame_outcome.FrameOutcome.TheVariants as outcome
use Rattle.server_laws.specs.Apart.{KeepsApart}
use Rattle.ua_services.specs.Services.{serving_of}
use Rattle.server_core.specs.Coherent.{reached, IfRuns}
use Rattle.server_core.specs.Handling.{handled}
use Rattle.server_core.specs.declared.world.World.{World}
use Rattle.server_core.specs.declared.parts.Core.{Core}
use Rattle.server_core.specs.declared.event.Event.{Event}

-- whatever request comes next, it leaves what is of other sessions
abbrev pub KeepsSessionsApart : World → Type 0
KeepsSessionsApart world = let core : Core = world.core in (request : Request) → KeepsApart core.setting request core.services

-- a frame that completes a request leaves the services that serving it leaves
abbrev pub ServesByFrames : Core → Type 0
ServesByFrames core = (conn : ℕ) (frame : Frame) (request : Request) → (taking_of core.setting conn core.connections frame).asked ≡ outcome.Request request →
    (handled conn core frame).state.services ≡ (serving_of core.setting request core.services).state

-- so it is after these events, with each request that a frame completes
pub record SessionsStayApart (config : Configuration) (space : SpaceState) (events : List Event) : Type 0 where
  pub requests : IfRuns KeepsSessionsApart (reached config space events).server
  pub frames : (core : Core) → ServesByFrames core
