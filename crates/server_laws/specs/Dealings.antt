-- What is asked of the services, one thing after the other: the calls that a run comes to, and what goes out, are maps of this list.
use Rattle.std.specs.Prelude.{ℕ, Bool, List, [], ◌∷◌, ◌++◌, Option, Some, None, Result, Ok, Err, if◌then◌else◌}
use Rattle.std.specs.FinMap.{get}
use Rattle.ua_types.specs.Configuration.{Configuration}
use Rattle.ua_types.specs.Moments.{later}
use Rattle.ua_types.specs.declared.moment.Moment.{Moment}
use Rattle.ua_space.specs.Nodes.{SpaceState}
use Rattle.ua_transport.specs.Feeding.{Framing, framed_of}
use Rattle.ua_transport.specs.Frames.{End, Rest, Broken}
use Rattle.ua_transport.specs.Pieces.{all_handled}
use Rattle.ua_transport.specs.declared.frame.Frame.{Frame}
use Rattle.server_messages.specs.declared.request.Request.{Request}
use Rattle.server_connections.specs.Connecting.{Connections, taking_of, break_of, gone}
use Rattle.server_connections.specs.declared.frame_outcome.FrameOutcome.{FrameOutcome}
use Rattle.server_connections.specs.declared.frame_outcome.FrameOutcome.TheVariants as outcome
use Rattle.server_core.specs.Handling.{setting_at, handled}
use Rattle.server_core.specs.Stepping.{WorldStep, step_of}
use Rattle.server_core.specs.World.{opening}
use Rattle.server_core.specs.declared.event.Event.{Event}
use Rattle.server_core.specs.declared.event.Event.TheVariants.{Opened, Bytes, Gone, Tick, Shutdown}
use Rattle.server_core.specs.declared.out.StepFault.{StepFault}
use Rattle.server_core.specs.declared.parts.Core.{Core}
use Rattle.server_core.specs.declared.world.World.{World}

pub data Asked : Type 0 where
  -- a request is served, or refused
  Serves : Request → Asked
  -- time has passed
  Ticks : Asked
  -- a connection is no more
  Forgets : (conn : ℕ) → Asked
  -- the server ends
  Ends : Asked

-- what is asked, and the server as it stands then
pub record Dealing : Type 0 where
  pub core : Core
  pub asked : Asked

abbrev pub dealing : Core → Asked → Dealing
dealing core asked = record { core = core; asked = asked }

abbrev pub with_connections : Core → Connections → Core
with_connections core connections = record core { connections = connections }

abbrev pub with_clock : Core → Moment → Core
with_clock core clock = record core { setting = setting_at core clock }

-- ---- of a frame, and of a piece

-- a frame completes a request, ends its connection, or neither
abbrev pub asked_dealings : ℕ → Core → FrameOutcome → List Dealing
asked_dealings conn core outcome.Nothing = []
asked_dealings conn core outcome.Closed = dealing core (Forgets conn) ∷ []
asked_dealings conn core (outcome.Request request) = dealing core (Serves request) ∷ []

abbrev pub frame_dealings : ℕ → Core → Frame → List Dealing
frame_dealings conn core frame =
    let t = taking_of core.setting conn core.connections frame in
    asked_dealings conn (with_connections core t.connections) t.asked

-- frames in order, up to the one that closes the connection
abbrev pub frames_dealings : ℕ → Core → List Frame → List Dealing
frames_dealings conn core [] = []
frames_dealings conn core (frame ∷ frames) =
    let d = handled conn core frame in
    frame_dealings conn core frame ++ (if d.goes_on then frames_dealings conn d.state frames else [])

-- what is no frame ends a connection that is open still
abbrev pub end_dealings : ℕ → Core → End → Bool → List Dealing
end_dealings conn core (Rest bytes) goes_on = []
end_dealings conn core (Broken fault) goes_on =
    if goes_on then dealing (with_connections core (break_of conn core.connections fault).connections) (Forgets conn) ∷ [] else []

abbrev pub piece_dealings : World → ℕ → List ℕ → Option Framing → List Dealing
piece_dealings world conn piece None = []
piece_dealings world conn piece (Some framing) =
    let framed = framed_of framing.limit framing.held piece in
    let d = all_handled (handled conn) world.core framed.frames in
    frames_dealings conn world.core framed.frames ++ end_dealings conn d.state framed.end d.goes_on

-- ---- of an event, and of a run

-- of an event that isn't refused
abbrev pub event_dealings : World → Event → List Dealing
event_dealings world (Opened conn key) = []
event_dealings world (Bytes conn bytes) = piece_dealings world conn bytes (get world.framers conn)
event_dealings world (Gone conn) = let core : Core = world.core in dealing (with_connections core (gone core.connections conn)) (Forgets conn) ∷ []
event_dealings world (Tick now) = let core : Core = world.core in dealing (with_clock core (later core.setting.clock now)) Ticks ∷ []
event_dealings world Shutdown = let core : Core = world.core in if core.is_shut then [] else dealing core Ends ∷ []

abbrev pub dealings_then : World → Event → Result WorldStep StepFault → (World → List Dealing) → List Dealing
dealings_then world event (Ok s) more = event_dealings world event ++ more s.world
dealings_then world event (Err fault) more = []

-- event after event, each by the world that those before it left, up to the first that is refused
abbrev pub dealings_from : World → List Event → List Dealing
dealings_from world [] = []
dealings_from world (event ∷ events) = dealings_then world event (step_of world event) (λ next. dealings_from next events)

-- what a run of a server comes to: a function of its configuration, its nodes and the events
abbrev pub dealings_of : Configuration → SpaceState → List Event → List Dealing
dealings_of config space events = dealings_from (opening config space) events
