-- A run of events, one after the other.
use Rattle.std.specs.Prelude.{◌≡◌, ℕ, ◌==◌, Bool, false, List, [], ◌∷◌, ◌++◌, map, Option, Some, None, Result, Ok, Err, if◌then◌else◌}
use Rattle.std.specs.List.{list_any, flat_map}
use Rattle.server_messages.specs.declared.out.Out.{Out}
use Rattle.server_messages.specs.declared.out.Out.TheVariants.{Send, Close}
use Rattle.server_core.specs.declared.event.Event.{Event}
use Rattle.server_core.specs.declared.event.Event.TheVariants.{Bytes}
use Rattle.server_core.specs.declared.out.Step.{Step}
use Rattle.server_core.specs.declared.out.StepFault.{StepFault}
use Rattle.server_core.specs.declared.out.StepFault.TheVariants.{Memory, Exhausted}
use Rattle.server_core.specs.Effects.{Effect, are_spent, shown}
use Rattle.server_core.specs.Stepping.{WorldStep, step_on, IsSpent}
use Rattle.server_core.specs.World.{World}

-- the effects of each event, the fault that ended the run, and the server after it
pub record Running : Type 0 where
  pub steps : List (List Effect)
  pub fault : Option StepFault
  pub server : Option World

abbrev pub running : List (List Effect) → Option StepFault → Option World → Running
running steps fault server = record { steps = steps; fault = fault; server = server }

-- these steps, and then those of another run
abbrev pub run_after : List (List Effect) → Running → Running
run_after steps r = running (steps ++ r.steps) r.fault r.server

abbrev pub then_run : Option World → Result WorldStep StepFault → (Option World → Running) → Running
then_run server (Ok s) more = run_after (s.effects ∷ []) (more (Some s.world))
then_run server (Err fault) more = running [] (Some fault) server

-- event after event, up to the first fault
abbrev pub run_of : Option World → List Event → Running
run_of server [] = running [] None server
run_of server (event ∷ events) = then_run server (step_on server event) (λ s. run_of s events)

-- ---- what the code gives of it

-- the steps, the fault, the server after them, and whether one of the steps has spent a serial
pub record Shown : Type 0 where
  pub steps : List Step
  pub fault : Option StepFault
  pub server : Option World
  pub spends : Bool

-- what the code gives has spent none
abbrev pub shown_as : List Step → Option StepFault → Option World → Shown
shown_as steps fault server = record { steps = steps; fault = fault; server = server; spends = false }

abbrev pub shown_run : Running → Shown
shown_run r = record { steps = map shown r.steps; fault = r.fault; server = r.server; spends = list_any are_spent r.steps }

-- The run broke off at an event that is left: all before it were answered thus, and the server is halted
pub record BreaksOff (old : Option World) (events : List Event) (given : List Step) (new : Option World) : Type 0 where
  pub halted : new ≡ None
  pub passed : List Event
  pub event : Event
  pub left : List Event
  pub split : events ≡ passed ++ event ∷ left
  pub no_fault : (run_of old passed).fault ≡ None
  pub shown : map shown (run_of old passed).steps ≡ given

-- beside that, the event would have spent a serial
pub record Spends (old : Option World) (events : List Event) (given : List Step) (new : Option World) : Type 0 where
  pub breaks : BreaksOff old events given new
  pub spent : IsSpent (step_on (run_of old breaks.passed).server breaks.event)

-- A call runs as is said of it, and no step is said to spend a serial; unless memory ran out at an event, or the next one is said to
-- spend one
abbrev pub Runs : Option StepFault → List Step → Option World → List Event → Option World → Type 0
Runs (Some Memory) steps old events new = BreaksOff old events steps new
Runs (Some Exhausted) steps old events new = Spends old events steps new
Runs fault steps old events new = shown_as steps fault new ≡ shown_run (run_of old events)

-- ---- recutting

-- a run whose effects are joined
pub record Joined : Type 0 where
  pub effects : List Effect
  pub fault : Option StepFault
  pub server : Option World

abbrev pub joined_as : List Effect → Option StepFault → Option World → Joined
joined_as effects fault server = record { effects = effects; fault = fault; server = server }

abbrev pub joined_effects : List (List Effect) → List Effect
joined_effects [] = []
joined_effects (effects ∷ steps) = effects ++ joined_effects steps

abbrev pub joined_run : Running → Joined
joined_run r = joined_as (joined_effects r.steps) r.fault r.server

-- bytes that come right before more of the same connection are joined to them
abbrev pub joined_front : Event → List Event → List Event
joined_front (Bytes conn front) (Bytes other back ∷ events) =
    if conn == other then Bytes conn (front ++ back) ∷ events else Bytes conn front ∷ Bytes other back ∷ events
joined_front event events = event ∷ events

-- the events, where no bytes of a connection are cut that come right one after the other
abbrev pub uncut : List Event → List Event
uncut [] = []
uncut (event ∷ events) = joined_front event (uncut events)

-- the event that these bytes come by on a connection, if there are any
abbrev pub heard : ℕ → List ℕ → List Event
heard conn [] = []
heard conn (byte ∷ bytes) = Bytes conn (byte ∷ bytes) ∷ []

-- what these bytes of a connection come to, however they are cut
abbrev pub heard_run : Option World → ℕ → List ℕ → Joined
heard_run server conn bytes = joined_run (run_of server (heard conn bytes))

-- ---- what is sent

abbrev pub sent_bytes : Out → List ℕ
sent_bytes (Send conn bytes) = bytes
sent_bytes (Close conn) = []

-- the bytes of the sends, one after the other
abbrev pub joined : List Out → List ℕ
joined outs = flat_map sent_bytes outs

abbrev pub is_close : ℕ → Out → Bool
is_close conn (Send number bytes) = false
is_close conn (Close number) = number == conn

-- whether the connection is closed among these
abbrev pub closes : ℕ → List Out → Bool
closes conn outs = list_any (is_close conn) outs
