-- What holds of a run, by what it asks of the services: a relation between two cores, what was asked between them, and the effects.
use Rattle.std.proofs.Common.{◌≡◌, ℕ, Bool, true, false, not, cond, List, [], ◌∷◌, ◌++◌, append-nil, Option, Some, None, Result, Ok, Err, refl, sym, subst}
use Rattle.std.specs.Prelude.{⊤}
use Rattle.std.specs.FinMap.{get}
use Rattle.ua_types.specs.Configuration.{Configuration}
use Rattle.ua_types.specs.Moments.{later}
use Rattle.ua_types.specs.declared.moment.Moment.{Moment}
use Rattle.ua_types.specs.declared.status.Status.{Status}
use Rattle.ua_space.specs.Nodes.{SpaceState}
use Rattle.ua_transport.specs.Agreements.{AreInRange, limits_of}
use Rattle.ua_transport.specs.Feeding.{Framing, framed_of}
use Rattle.ua_transport.specs.Frames.{End, Rest, Broken}
use Rattle.ua_transport.specs.Pieces.{Done, and_then, all_handled, at_end}
use Rattle.ua_transport.specs.declared.frame.Frame.{Frame}
use Rattle.ua_transport.specs.declared.frame.FrameFault.{FrameFault}
use Rattle.server_messages.specs.declared.out.Out.{Out}
use Rattle.server_messages.specs.declared.request.Request.{Request}
use Rattle.server_connections.specs.Coherent.{AreAgreed}
use Rattle.server_connections.specs.Connecting.{Connections, is_known, is_new, known_as, turned_away, taking_of, break_of, gone}
use Rattle.server_connections.specs.Delivering.{delivery_of}
use Rattle.server_connections.specs.Shutting.{shut}
use Rattle.server_connections.specs.declared.connection.Phase.TheVariants.{Greeting, Closed}
use Rattle.server_connections.specs.declared.frame_outcome.FrameOutcome.{FrameOutcome}
use Rattle.server_connections.specs.declared.frame_outcome.FrameOutcome.TheVariants as outcome
use Rattle.server_connections.proofs.CoherentLemmas.{taken_right, broken_right, opened_agreed, gone_agreed}
use Rattle.server_connections.proofs.ShuttingLemmas.{shut_agreed}
use Rattle.ua_services.specs.Services.{serving_of, ticking_of, shutting_of}
use Rattle.ua_services.specs.Serving.{Serving}
use Rattle.server_core.specs.Coherent.{reached, IfRuns}
use Rattle.server_core.specs.Effects.{Effect, doing, effects_of}
use Rattle.server_core.specs.Handling.{closed_on, asked_for, handled, broken, shut_core}
use Rattle.server_core.specs.Running.{Running, joined_effects, then_run, run_of}
use Rattle.server_core.specs.Stepping as stepping
use Rattle.server_core.specs.Stepping.{WorldStep, world_step, fed_to, fed, step_of}
use Rattle.server_core.specs.World.{opening}
use Rattle.server_core.specs.declared.event.Event.{Event}
use Rattle.server_core.specs.declared.event.Event.TheVariants.{Opened, Bytes, Gone, Tick, Shutdown}
use Rattle.server_core.specs.declared.out.StepFault.{StepFault}
use Rattle.server_core.specs.declared.out.StepFault.TheVariants.{KnownConnection, UnknownConnection}
use Rattle.server_core.specs.declared.parts.Core.{Core}
use Rattle.server_core.specs.declared.world.World.{World}
use Rattle.server_laws.specs.Dealings.{Serves, Ticks, Forgets, Ends, Dealing, dealing, with_connections, with_clock, asked_dealings, frame_dealings, frames_dealings, end_dealings, piece_dealings, event_dealings, dealings_then, dealings_from, dealings_of}

-- what was served, and is answered
abbrev pub core_served : Core → Serving → Core
core_served core s = record core { connections = (delivery_of core.setting core.connections s.replies).connections; services = s.state }

abbrev pub effects_served : Core → Serving → List Effect
effects_served core s = effects_of s.occurrences (delivery_of core.setting core.connections s.replies)

-- what an event does besides: connections come, change and go, and stay agreed on; nothing of the services changes
pub record Aside (before after : Core) : Type 0 where
  pub setting : after.setting ≡ before.setting
  pub services : after.services ≡ before.services
  pub agreed : AreInRange (limits_of before.setting.config) → AreAgreed before.setting.config before.connections → AreAgreed before.setting.config after.connections

pub record Follows (R : Core → List Dealing → List Effect → Core → Type 0) : Type 0 where
  pub none : (core : Core) → R core [] [] core
  pub next : (a b c : Core) (ds es : List Dealing) (xs ys : List Effect) → R a ds xs b → R b es ys c → R a (ds ++ es) (xs ++ ys) c
  pub aside : (a b : Core) (outs : List Out) → Aside a b → R a [] (doing outs) b
  pub serves : (core : Core) (request : Request) → let s = serving_of core.setting request core.services in
      R core (dealing core (Serves request) ∷ []) (effects_served core s) (core_served core s)
  pub ticks : (core : Core) (brought : Moment) → let at = with_clock core (later core.setting.clock brought) in let s = ticking_of at.setting at.services in
      R core (dealing at Ticks ∷ []) (effects_served at s) (core_served at s)
  pub forgets : (core : Core) (conn : ℕ) → R core (dealing core (Forgets conn) ∷ []) [] (closed_on conn core)
  pub ends : (core : Core) → let s = shutting_of core.setting core.services in R core (dealing core Ends ∷ []) (effects_served core s) (core_served core s)

-- a server that some events left, and what they asked
pub record HasGone (R : Core → List Dealing → List Effect → Core → Type 0) (before : Core) (ds : List Dealing) (r : Running) : Type 0 where
  pub world : World
  pub there : r.server ≡ Some world
  pub goes : R before ds (joined_effects r.steps) world.core

-- what holds of the world that it is at, holds of the server
pub seen : {R : Core → List Dealing → List Effect → Core → Type 0} {before : Core} {ds : List Dealing} {r : Running} → (gone : HasGone R before ds r) (P : World → Type 0) → P gone.world → IfRuns P r.server
seen gone P p = subst (λ (server : Option World). IfRuns P server) (sym gone.there) p

module _ (R : Core → List Dealing → List Effect → Core → Type 0) (f : Follows R) where
  -- ---- frames

  -- other connections, and what is sent of that
  onto : (core : Core) (connections : Connections) (outs : List Out) → (AreInRange (limits_of core.setting.config) → AreAgreed core.setting.config core.connections → AreAgreed core.setting.config connections) →
      R core [] (doing outs) (with_connections core connections)
  onto core connections outs agreed = f.aside core (with_connections core connections) outs (record { setting = refl; services = refl; agreed = agreed })

  forgotten : (conn : ℕ) (core : Core) (connections : Connections) (outs : List Out) → R core [] (doing outs) (with_connections core connections) →
      let at = with_connections core connections in R core (dealing at (Forgets conn) ∷ []) (doing outs) (closed_on conn at)
  forgotten conn core connections outs h =
      let at = with_connections core connections in
      subst (λ (effects : List Effect). R core (dealing at (Forgets conn) ∷ []) effects (closed_on conn at)) (append-nil (doing outs))
      (f.next core at (closed_on conn at) [] (dealing at (Forgets conn) ∷ []) (doing outs) [] h (f.forgets at conn))

  asked : (conn : ℕ) (core : Core) (connections : Connections) (outs : List Out) (found : FrameOutcome) → R core [] (doing outs) (with_connections core connections) →
      (let at = with_connections core connections in let d = asked_for conn at outs found in R core (asked_dealings conn at found) d.outs d.state)
  asked conn core connections outs outcome.Nothing h = h
  asked conn core connections outs outcome.Closed h = forgotten conn core connections outs h
  asked conn core connections outs (outcome.Request request) h =
      let at = with_connections core connections in
      let s = serving_of at.setting request at.services in
      f.next core at (core_served at s) [] (dealing at (Serves request) ∷ []) (doing outs) (effects_served at s) h (f.serves at request)

  by_frame : (conn : ℕ) (core : Core) (frame : Frame) → (let d = handled conn core frame in R core (frame_dealings conn core frame) d.outs d.state)
  unfolding handled
  by_frame conn core frame =
      let t = taking_of core.setting conn core.connections frame in
      asked conn core t.connections t.outs t.asked (onto core t.connections t.outs (λ ranges agreed. (taken_right core.setting conn core.connections frame ranges agreed).agreed))

  by_fault : (conn : ℕ) (core : Core) (fault : FrameFault) →
      (let at = with_connections core (break_of conn core.connections fault).connections in let d = broken conn core fault in R core (dealing at (Forgets conn) ∷ []) d.outs d.state)
  unfolding broken
  by_fault conn core fault =
      let t = break_of conn core.connections fault in
      forgotten conn core t.connections t.outs (onto core t.connections t.outs (λ ranges agreed. (broken_right core.setting.config conn core.connections fault agreed).agreed))

  -- ---- pieces

  then_more : (core mid : Core) (effects : List Effect) (b : Bool) (more : Core → Done Core Effect) (ds es : List Dealing) → R core ds effects mid → R mid es (more mid).outs (more mid).state →
      (let d = and_then (record { state = mid; outs = effects; goes_on = b }) more in R core (ds ++ cond b es []) d.outs d.state)
  then_more core mid effects true more ds es h g = f.next core mid (more mid).state ds es effects (more mid).outs h g
  then_more core mid effects false more ds es h g = subst (λ (all : List Dealing). R core all effects mid) (sym (append-nil ds)) h

  by_frames : (conn : ℕ) (frames : List Frame) (core : Core) → (let d = all_handled (handled conn) core frames in R core (frames_dealings conn core frames) d.outs d.state)
  by_frames conn [] core = f.none core
  by_frames conn (frame ∷ frames) core =
      let d = handled conn core frame in
      then_more core d.state d.outs d.goes_on (λ s. all_handled (handled conn) s frames) (frame_dealings conn core frame) (frames_dealings conn d.state frames) (by_frame conn core frame) (by_frames conn frames d.state)

  by_end : (conn : ℕ) (core : Core) (end : End) (d : Done Core Effect) (ds : List Dealing) → R core ds d.outs d.state →
      (let s = at_end (broken conn) end d in R core (ds ++ end_dealings conn d.state end d.goes_on) s.outs s.stream.state)
  by_end conn core (Rest bytes) d ds h = subst (λ (all : List Dealing). R core all d.outs d.state) (sym (append-nil ds)) h
  by_end conn core (Broken fault) d ds h =
      then_more core d.state d.outs d.goes_on (λ s. broken conn s fault) ds (dealing (with_connections d.state (break_of conn d.state.connections fault).connections) (Forgets conn) ∷ []) h (by_fault conn d.state fault)

  by_piece : (world : World) (conn : ℕ) (piece : List ℕ) (found : Option Framing) → (let s = fed_to world conn piece found in R world.core (piece_dealings world conn piece found) s.effects s.world.core)
  by_piece world conn piece None = f.none world.core
  by_piece world conn piece (Some framing) =
      let framed = framed_of framing.limit framing.held piece in
      by_end conn world.core framed.end (all_handled (handled conn) world.core framed.frames) (frames_dealings conn world.core framed.frames) (by_frames conn framed.frames world.core)

  by_bytes : (world : World) (conn : ℕ) (piece : List ℕ) → (let s = fed world conn piece in R world.core (piece_dealings world conn piece (get world.framers conn)) s.effects s.world.core)
  unfolding fed
  by_bytes world conn piece = by_piece world conn piece (get world.framers conn)

  -- ---- events

  -- unless it is refused
  abbrev pub Answers : World → List Dealing → Result WorldStep StepFault → Type 0
  Answers world ds (Ok s) = R world.core ds s.effects s.world.core
  Answers world ds (Err fault) = ⊤

  either : (world : World) (ds : List Dealing) (b : Bool) (x y : Result WorldStep StepFault) → Answers world ds x → Answers world ds y → Answers world ds (cond b x y)
  either world ds true x y h g = h
  either world ds false x y h g = g

  by_opening : (world : World) (conn : ℕ) (key : List ℕ) (why : Option Status) → Answers world [] (Ok (stepping.opened_by world conn key why))
  by_opening world conn key None =
      let core : Core = world.core in
      onto core (known_as core.connections conn key Greeting) [] (λ ranges agreed. opened_agreed core.setting.config core.connections conn key Greeting tt agreed)
  by_opening world conn key (Some code) =
      let core : Core = world.core in
      onto core (known_as core.connections conn key Closed) (turned_away core.connections conn key code).outs (λ ranges agreed. opened_agreed core.setting.config core.connections conn key Closed tt agreed)

  by_gone : (world : World) (conn : ℕ) → Answers world (event_dealings world (Gone conn)) (Ok (world_step (stepping.forgotten world conn) []))
  by_gone world conn =
      let core : Core = world.core in
      forgotten conn core (gone core.connections conn) [] (onto core (gone core.connections conn) [] (λ ranges agreed. gone_agreed core.setting.config core.connections conn agreed))

  -- the server's end, and the connections that are closed then
  by_end_of_all : (core : Core) → (let d = shut_core core in R core (dealing core Ends ∷ []) d.outs d.state)
  by_end_of_all core =
      let s = shutting_of core.setting core.services in
      let at = core_served core s in
      let after = (shut_core core).state in
      let outs = (shut at.connections).outs in
      subst (λ (ds : List Dealing). R core ds (effects_served core s ++ doing outs) after) (append-nil (dealing core Ends ∷ []))
      (f.next core at after (dealing core Ends ∷ []) [] (effects_served core s) (doing outs) (f.ends core)
      (f.aside at after outs (record { setting = refl; services = refl; agreed = λ ranges agreed. shut_agreed core.setting.config at.connections })))

  by_shutdown : (world : World) → Answers world (event_dealings world Shutdown) (Ok (stepping.shut_down world))
  unfolding stepping.shut_down
  by_shutdown world = by world.core.is_shut
    where
      by : (b : Bool) → Answers world (cond b [] (dealing world.core Ends ∷ [])) (Ok (cond b (world_step world []) (stepping.ended world)))
      by true = f.none world.core
      by false = by_end_of_all world.core

  pub by_event : (world : World) (event : Event) → Answers world (event_dealings world event) (step_of world event)
  by_event world (Opened conn key) =
      either world [] (not (is_new world.core.connections conn)) (Err KnownConnection) (Ok (stepping.opened_by world conn key (stepping.refusal_of world))) tt (by_opening world conn key (stepping.refusal_of world))
  by_event world (Bytes conn bytes) =
      either world (event_dealings world (Bytes conn bytes)) (is_known world.core.connections conn) (Ok (fed world conn bytes)) (Err UnknownConnection) (by_bytes world conn bytes) tt
  by_event world (Gone conn) =
      either world (event_dealings world (Gone conn)) (is_known world.core.connections conn) (Ok (world_step (stepping.forgotten world conn) [])) (Err UnknownConnection) (by_gone world conn) tt
  by_event world (Tick now) = f.ticks world.core now
  by_event world Shutdown = by_shutdown world

  -- ---- runs

  then_events : (world : World) (event : Event) (r : Result WorldStep StepFault) (ds : World → List Dealing) (more : Option World → Running) → Answers world (event_dealings world event) r →
      ((next : World) → HasGone R next.core (ds next) (more (Some next))) → HasGone R world.core (dealings_then world event r ds) (then_run (Some world) r more)
  then_events world event (Ok s) ds more h g =
      let rest = g s.world in
      record {
        world = rest.world;
        there = rest.there;
        goes = f.next world.core s.world.core rest.world.core (event_dealings world event) (ds s.world) s.effects (joined_effects (more (Some s.world)).steps) h rest.goes;
      }
  then_events world event (Err fault) ds more h g = record { world = world; there = refl; goes = f.none world.core }

  by_events : (events : List Event) (world : World) → HasGone R world.core (dealings_from world events) (run_of (Some world) events)
  by_events [] world = record { world = world; there = refl; goes = f.none world.core }
  by_events (event ∷ events) world =
      then_events world event (step_of world event) (λ next. dealings_from next events) (λ s. run_of s events) (by_event world event) (λ next. by_events events next)

  pub walked : (config : Configuration) (space : SpaceState) (events : List Event) → HasGone R (opening config space).core (dealings_of config space events) (reached config space events)
  walked config space events = by_events events (opening config space)
