use Rattle.std.proofs.Common.{drop}
use Rattle.server_core.specs.World.{world_of}
use Rattle.server_core.proofs.RunLemmas.{Begun}
use Rattle.server_core.proofs.server.Server.run.Given as goal

-- the events before this one have passed, and were answered
abbrev pub invariant-loop-event : goal.invariant-loop-event
invariant-loop-event l = Begun (world_of l.fn.self) l.fn.events (drop l.event-index l.events) l.steps (world_of l.self)
