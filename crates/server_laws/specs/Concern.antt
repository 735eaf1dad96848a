-- Which subscriptions an event of a server concerns (IEC 62541-4, 5.13: the events of the state table).
use Rattle.std.specs.Prelude.{⊤, List, [], Result, Ok, Err}
use Rattle.subscription_laws.specs.Concern.{Concern, AreTheRowsFor}
use Rattle.subscription_laws.specs.Concern as calls
use Rattle.subscription_laws.specs.Runs.{of_run}
use Rattle.server_laws.specs.EventMoves.{event_moves}
use Rattle.server_laws.specs.Moving.{ran_at}
use Rattle.server_core.specs.Effects.{fired_of}
use Rattle.server_core.specs.Stepping.{WorldStep, step_of}
use Rattle.server_core.specs.declared.world.World.{World}
use Rattle.server_core.specs.declared.event.Event.{Event}
use Rattle.server_core.specs.declared.out.StepFault.{StepFault}

-- Those that the calls of an event concern, each met by the world that those before it left: of one that a request made, the
-- number that it gets; of one that a request names, if it is the session's; of a Publish, the best that waits, or else all of
-- the session's; of the end of a session, all of its own; of a tick, those of the sessions that end, and then those that are due; of
-- a shutdown, all that live
abbrev pub concerned : World → Event → List Concern
concerned world event = of_run calls.concerned (ran_at world.core.services [] []) (event_moves world event)

-- one row fires for each of these, in their order, and no other; a refused event fires none
abbrev pub FiresFor : List Concern → Result WorldStep StepFault → Type 0
FiresFor concerns (Ok s) = AreTheRowsFor concerns (fired_of s.effects)
FiresFor concerns (Err fault) = ⊤

-- so it is with the next event, whatever it is
abbrev pub FiresForEach : World → Type 0
FiresForEach world = (event : Event) → FiresFor (concerned world event) (step_of world event)
