-- What a server answered to Publish requests in a run.
use Rattle.std.specs.Prelude.{List}
use Rattle.ua_types.specs.Configuration.{Configuration}
use Rattle.ua_space.specs.Nodes.{SpaceState}
use Rattle.subscription_laws.specs.Runs.{start}
use Rattle.subscription_laws.specs.Tellings.{Telling, run_told}
use Rattle.server_core.specs.declared.event.Event.{Event}
use Rattle.server_laws.specs.EventMoves.{moves_of}

-- each answer, with what it tells, in the order in which they were given
abbrev pub told_by : Configuration → SpaceState → List Event → List Telling
told_by config space events = run_told (start config) (moves_of config space events)
