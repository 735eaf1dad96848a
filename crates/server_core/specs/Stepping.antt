-- One event.
use Rattle.std.specs.Prelude.{◌≡◌, ⊤, ℕ, Bool, true, false, not, nat_lt, List, [], ◌++◌, Option, Some, None, Result, Ok, Err, is_some, if◌then◌else◌}
use Rattle.std.specs.Ordering.{nat_cmp}
use Rattle.std.specs.FinMap.{FinMap, get, insert, remove, empty, len}
use Rattle.ua_types.specs.Answers as answers
use Rattle.ua_types.specs.Moments.{later}
use Rattle.ua_types.specs.declared.moment.Moment.{Moment}
use Rattle.ua_types.specs.declared.status.Status.{Status}
use Rattle.ua_types.specs.declared.status.TheConstants.Status as status
use Rattle.ua_transport.specs.Feeding.{Framing, unfed, framed_of}
use Rattle.ua_transport.specs.Pieces.{Stepped, at_end, all_handled}
use Rattle.server_connections.specs.Connecting.{is_known, is_new, welcomed, turned_away}
use Rattle.ua_services.specs.Services.{is_idle}
use Rattle.server_core.specs.declared.event.Event.{Event}
use Rattle.server_core.specs.declared.event.Event.TheVariants.{Opened, Bytes, Gone, Tick, Shutdown}
use Rattle.server_core.specs.declared.out.Step.{Step}
use Rattle.server_core.specs.declared.out.StepFault.{StepFault}
use Rattle.server_core.specs.declared.out.StepFault.TheVariants.{KnownConnection, UnknownConnection, Memory, Halted, Exhausted}
use Rattle.server_core.specs.Effects.{Effect, doing, are_spent, shown}
use Rattle.server_core.specs.Handling.{setting_at, handled, broken, gone_from, ticked_core, shut_core}
use Rattle.server_core.specs.World.{World, Core}

-- the world after an event, and its effects
pub record WorldStep : Type 0 where
  pub world : World
  pub effects : List Effect

abbrev pub world_step : World → List Effect → WorldStep
world_step world effects = record { world = world; effects = effects }

-- ---- Opened

-- so many connections are open at once
abbrev pub has_room : World → Bool
has_room world = nat_lt (len world.framers) world.core.setting.config.connections

-- a new connection's first frame is awaited
abbrev pub greeted : World → ℕ → List ℕ → World
greeted world conn key = record {
  framers = insert world.framers conn (unfed world.core.setting.config.receive_size);
  core = record world.core { connections = welcomed world.core.connections conn key };
}

-- one that may not go on is closed at once
abbrev pub refused : World → ℕ → List ℕ → Status → WorldStep
refused world conn key code =
    let r = turned_away world.core.connections conn key code in
    world_step (record world { core = record world.core { connections = r.connections } }) (doing r.outs)

-- why a new connection may not go on: the server was shut down, or there are too many
abbrev pub refusal_of : World → Option Status
refusal_of world =
    if world.core.is_shut then Some status.BAD_SHUTDOWN
    else if has_room world then None
    else Some status.BAD_TCP_NOT_ENOUGH_RESOURCES

abbrev pub opened_by : World → ℕ → List ℕ → Option Status → WorldStep
opened_by world conn key None = world_step (greeted world conn key) []
opened_by world conn key (Some code) = refused world conn key code

abbrev pub opened : World → ℕ → List ℕ → Result WorldStep StepFault
opened world conn key =
    if not (is_new world.core.connections conn) then Err KnownConnection
    else Ok (opened_by world conn key (refusal_of world))

-- ---- Bytes

-- a connection that goes on holds these bytes; another one has no framer
abbrev pub with_held : ℕ → ℕ → Option (List ℕ) → FinMap nat_cmp Framing → FinMap nat_cmp Framing
with_held conn limit None framers = framers
with_held conn limit (Some held) framers = insert framers conn (record { limit = limit; held = Some held })

abbrev pub placed : World → ℕ → ℕ → Stepped Core Effect → WorldStep
placed world conn limit step =
    world_step (record { framers = with_held conn limit step.stream.held (remove world.framers conn); core = step.stream.state }) step.outs

-- Nothing is done for a connection that is closed. For another the frames of the bytes held and the
-- piece are handled in order, up to one that closes it, and then what is no frame
abbrev pub fed_to : World → ℕ → List ℕ → Option Framing → WorldStep
fed_to world conn piece None = world_step world []
fed_to world conn piece (Some framing) =
    let framed = framed_of framing.limit framing.held piece in
    placed world conn framing.limit (at_end (broken conn) framed.end (all_handled (handled conn) world.core framed.frames))

unfoldable pub fed : World → ℕ → List ℕ → WorldStep
fed world conn piece = fed_to world conn piece (get world.framers conn)

-- one piece after the other
abbrev pub fed_twice : World → ℕ → List ℕ → List ℕ → WorldStep
fed_twice world conn a b =
    let first = fed world conn a in
    let second = fed first.world conn b in
    world_step second.world (first.effects ++ second.effects)

-- ---- Gone and Tick

abbrev pub forgotten : World → ℕ → World
forgotten world conn = record { framers = remove world.framers conn; core = gone_from world.core conn }

abbrev pub ticked : World → Moment → WorldStep
ticked world now =
    let d = ticked_core world.core (later world.core.setting.clock now) in
    world_step (record world { core = d.state }) d.outs

-- ---- Shutdown

abbrev pub ended : World → WorldStep
ended world =
    let d = shut_core world.core in
    world_step (record world { framers = empty; core = d.state }) d.outs

-- all that is open ends, unless it did before
unfoldable pub shut_down : World → WorldStep
shut_down world = if world.core.is_shut then world_step world [] else ended world

-- ---- any event

-- only of a connection that is known
abbrev pub if_known : World → ℕ → WorldStep → Result WorldStep StepFault
if_known world conn then_served = if is_known world.core.connections conn then Ok then_served else Err UnknownConnection

-- what an event does, or why it has no answer, while the server isn't halted
abbrev pub step_of : World → Event → Result WorldStep StepFault
step_of world (Opened conn key) = opened world conn key
step_of world (Bytes conn bytes) = if_known world conn (fed world conn bytes)
step_of world (Gone conn) = if_known world conn (world_step (forgotten world conn) [])
step_of world (Tick now) = Ok (ticked world now)
step_of world Shutdown = Ok (shut_down world)

-- whether an event is answered without memory: it is refused, or it sends nothing and stores nothing
abbrev pub takes_no_memory : World → Event → Bool
takes_no_memory world (Opened conn key) = not (is_new world.core.connections conn)
takes_no_memory world (Bytes conn bytes) = not (is_some (get world.framers conn))
takes_no_memory world (Gone conn) = true
takes_no_memory world (Tick now) = is_idle (setting_at world.core (later world.core.setting.clock now)) world.core.services
takes_no_memory world Shutdown = world.core.is_shut

-- ---- what the code gives of it

abbrev pub IsSpent : Result WorldStep StepFault → Type 0
IsSpent (Ok s) = are_spent s.effects ≡ true
IsSpent (Err fault) = ⊥

abbrev pub IsUnspent : Result WorldStep StepFault → Type 0
IsUnspent (Ok s) = are_spent s.effects ≡ false
IsUnspent (Err fault) = ⊤

-- ---- a server, which is its world, or none once it is halted

abbrev pub step_on : Option World → Event → Result WorldStep StepFault
step_on None event = Err Halted
step_on (Some world) event = step_of world event

abbrev pub server_by : Option World → Result WorldStep StepFault → Option World
server_by server (Ok s) = Some s.world
server_by server (Err fault) = server

abbrev pub answer_by : Result WorldStep StepFault → Result Step StepFault
answer_by (Ok s) = Ok (shown s.effects)
answer_by (Err fault) = Err fault

-- what is left of a world: none where memory ran out, or a serial
abbrev pub left_by : Result Step StepFault → World → Option World
left_by (Err Memory) world = None
left_by (Err Exhausted) world = None
left_by answer world = Some world

-- A call takes the step that is said of it. Where memory ran out, or a serial that is said to be spent, the server is halted
abbrev pub StepsTo : Result Step StepFault → Option World → Option World → Result WorldStep StepFault → Type 0
StepsTo (Err Memory) old new said = new ≡ None
StepsTo (Err Exhausted) old new said = (new ≡ None) × IsSpent said
StepsTo answer old new said = answers.step answer new ≡ answers.step (answer_by said) (server_by old said)

-- a halted server takes no memory to say so
abbrev pub takes_no_memory_on : Option World → Event → Bool
takes_no_memory_on None event = true
takes_no_memory_on (Some world) event = takes_no_memory world event
