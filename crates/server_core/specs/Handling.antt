-- What the server does about a frame.
use Rattle.std.specs.Prelude.{◌≡◌, ⊤, ℕ, Bool, true, false, List, [], ◌++◌, Result, Ok, Err}
use Rattle.ua_types.specs.declared.moment.Moment.{Moment}
use Rattle.ua_transport.specs.Pieces.{Done}
use Rattle.ua_transport.specs.declared.frame.Frame.{Frame}
use Rattle.ua_transport.specs.declared.frame.FrameFault.{FrameFault}
use Rattle.server_messages.specs.declared.setting.Setting.{Setting}
use Rattle.server_messages.specs.declared.halt.Halt.{Halt}
use Rattle.server_messages.specs.declared.halt.Halt.TheVariants.{Memory, Exhausted}
use Rattle.server_connections.specs.Connecting.{Taking, taking_of, break_of, gone}
use Rattle.server_connections.specs.Delivering.{delivery_of}
use Rattle.server_connections.specs.Shutting.{shut}
use Rattle.server_connections.specs.declared.frame_outcome.FrameOutcome.{FrameOutcome}
use Rattle.server_connections.specs.declared.frame_outcome.FrameOutcome.TheVariants as outcome
use Rattle.server_messages.specs.declared.out.Out.{Out}
use Rattle.ua_services.specs.Serving.{Serving}
use Rattle.ua_services.specs.Services.{serving_of, ticking_of, shutting_of, forgotten}
use Rattle.server_core.specs.declared.out.Step.{Step}
use Rattle.server_core.specs.Effects.{Effect, doing, effects_of, are_spent, no_step, after_step}
use Rattle.server_core.specs.World.{Core}

abbrev pub done : Core → List Effect → Bool → Done Core Effect
done core effects b = record { state = core; outs = effects; goes_on = b }

-- nothing waits on a connection that is closed
abbrev pub closed_on : ℕ → Core → Core
closed_on conn core = record core { services = forgotten core.services conn }

-- what was served, and the replies are sent
abbrev pub replies_sent : Core → List Out → Serving → Done Core Effect
replies_sent core outs s =
    let d = delivery_of core.setting core.connections s.replies in
    done (record core { connections = d.connections; services = s.state }) (doing outs ++ effects_of s.occurrences d) true

-- what is left to do about a frame, after these outs
abbrev pub asked_for : ℕ → Core → List Out → FrameOutcome → Done Core Effect
asked_for conn core outs outcome.Nothing = done core (doing outs) true
asked_for conn core outs outcome.Closed = done (closed_on conn core) (doing outs) false
asked_for conn core outs (outcome.Request request) = replies_sent core outs (serving_of core.setting request core.services)

abbrev pub handled_by : ℕ → Core → Taking → Done Core Effect
handled_by conn core t = asked_for conn (record core { connections = t.connections }) t.outs t.asked

-- what a frame does on a connection
unfoldable pub handled : ℕ → Core → Frame → Done Core Effect
handled conn core frame = handled_by conn core (taking_of core.setting conn core.connections frame)

abbrev pub broken_by : ℕ → Core → Taking → Done Core Effect
broken_by conn core t = done (closed_on conn (record core { connections = t.connections })) (doing t.outs) false

-- what is no frame ends the connection
unfoldable pub broken : ℕ → Core → FrameFault → Done Core Effect
broken conn core fault = broken_by conn core (break_of conn core.connections fault)

-- a connection that is no more
abbrev pub gone_from : Core → ℕ → Core
gone_from core conn = record core { connections = gone core.connections conn; services = forgotten core.services conn }

abbrev pub setting_at : Core → Moment → Setting
setting_at core clock = record core.setting { clock = clock }

-- what is due as time has passed
abbrev pub ticked_core : Core → Moment → Done Core Effect
ticked_core core clock =
    let setting : Setting = setting_at core clock in
    let at : Core = record core { setting = setting } in
    replies_sent at [] (ticking_of setting core.services)

-- The server ends: its services do, and what they answer is sent; then the connections that are open are closed
abbrev pub shut_core : Core → Done Core Effect
shut_core core =
    let s = shutting_of core.setting core.services in
    let d = delivery_of core.setting core.connections s.replies in
    let r = shut d.connections in
    done (record core { connections = r.connections; services = s.state; is_shut = true }) (effects_of s.occurrences d ++ doing r.outs) false

-- ---- what the code gives of it

-- the state after it, what is given, whether the connection goes on, and whether a serial has passed its last value
pub record Doing : Type 0 where
  pub core : Core
  pub step : Step
  pub goes_on : Bool
  pub spends : Bool

-- what the code does has spent none
abbrev pub doing_so : Core → Step → Bool → Doing
doing_so core step b = record { core = core; step = step; goes_on = b; spends = false }

abbrev pub doing_after : Step → Done Core Effect → Doing
doing_after before d = record { core = d.state; step = after_step before d.outs; goes_on = d.goes_on; spends = are_spent d.outs }

abbrev pub Shows : Core → Step → Step → Bool → Done Core Effect → Type 0
Shows new before after b said = doing_so new after b ≡ doing_after before said

-- a call does what is said of it, and no serial is said to be spent; unless memory ran out, or one is
abbrev pub Handles : Result Bool Halt → Core → Step → Step → Done Core Effect → Type 0
Handles (Ok b) new before after said = Shows new before after b said
Handles (Err Memory) new before after said = ⊤
Handles (Err Exhausted) new before after said = are_spent said.outs ≡ true

abbrev pub Ends : Result Step Halt → Core → Done Core Effect → Type 0
Ends (Ok given) new said = Shows new no_step given false said
Ends (Err Memory) new said = ⊤
Ends (Err Exhausted) new said = are_spent said.outs ≡ true

abbrev pub TicksTo : Result Step Halt → Core → Done Core Effect → Type 0
TicksTo (Ok given) new said = Shows new no_step given true said
TicksTo (Err Memory) new said = ⊤
TicksTo (Err Exhausted) new said = are_spent said.outs ≡ true
