-- What a server sends of the messages that its subscriptions make.
use Rattle.std.specs.Prelude.{◌≡◌, ℕ, List, ◌++◌}
use Rattle.ua_types.specs.declared.moment.Moment.{Moment}
use Rattle.ua_transport.specs.declared.frame.Frame.{Frame}
use Rattle.server_messages.specs.declared.request.Request.{Request}
use Rattle.server_connections.specs.Connecting.{taking_of}
use Rattle.server_connections.specs.Delivering.{delivery_of}
use Rattle.server_connections.specs.declared.frame_outcome.FrameOutcome.TheVariants as outcome
use Rattle.subscription_laws.specs.Answering.{AreBrought}
use Rattle.subscription_laws.specs.Messaging.{run_made}
use Rattle.subscription_laws.specs.Runs.{Move, Ran}
use Rattle.server_laws.specs.EventMoves.{serving_moves, ticking_moves}
use Rattle.server_laws.specs.Moving.{WentOn}
use Rattle.ua_services.specs.Serving.{Serving, rows_of}
use Rattle.ua_services.specs.Services.{serving_of, ticking_of}
use Rattle.ua_services.specs.declared.services.Services.{Services}
use Rattle.server_core.specs.Effects.{effects_of, doing}
use Rattle.server_core.specs.Handling.{setting_at, handled, ticked_core}
use Rattle.server_core.specs.declared.world.World.{World}
use Rattle.server_core.specs.declared.parts.Core.{Core}

-- a serving goes on by these calls, from where earlier ones led, and each message that they make is brought by a reply of its own
pub record BringsItsMessages (from : Ran) (moves : List Move) (s : Serving) : Type 0 where
  pub went : let state : Services = s.state in WentOn from moves state.subscriptions state.items (rows_of s.occurrences) s.replies
  pub brought : AreBrought s.replies (run_made from moves)

-- so it is with the next request, whatever it asks, and with the next tick, whenever it comes
pub record BringsMessages (from : Ran) (world : World) : Type 0 where
  pub requests : (request : Request) → let core : Core = world.core in BringsItsMessages from (serving_moves core.setting request core.services) (serving_of core.setting request core.services)
  pub ticks : (clock : Moment) → let core : Core = world.core in BringsItsMessages from (ticking_moves (setting_at core clock) core.services) (ticking_of (setting_at core clock) core.services)

-- what is replied to a request that a frame completes, or at a tick, is what is sent then
pub record SendsReplies (core : Core) : Type 0 where
  pub frames : (conn : ℕ) (frame : Frame) (request : Request) → let t = taking_of core.setting conn core.connections frame in t.asked ≡ outcome.Request request →
      let s = serving_of core.setting request core.services in
      (handled conn core frame).outs ≡ doing t.outs ++ effects_of s.occurrences (delivery_of core.setting t.connections s.replies)
  pub ticks : (clock : Moment) → let s = ticking_of (setting_at core clock) core.services in
      (ticked_core core clock).outs ≡ effects_of s.occurrences (delivery_of (setting_at core clock) core.connections s.replies)
