-- Parts of a message change their connection's own part alone.
use Rattle.std.proofs.Common.{◌≡◌, ◌≢◌, ℕ, Bool, true, false, List, [], ◌∷◌, ◌++◌, Option, Some, None, Result, Ok, Err, refl, sym, ◌∙◌, ap, subst}
use Rattle.std.specs.Ordering.{nat_cmp}
use Rattle.std.specs.FinMap.{FinMap, get}
use Rattle.std.proofs.lemmas.Bool.{and_parts, false≢true}
use Rattle.ua_types.specs.declared.status.Status.{Status}
use Rattle.ua_transport.specs.Feeding.{Framing, framed_of}
use Rattle.ua_transport.specs.Frames.{End, Rest, Broken}
use Rattle.ua_transport.specs.Pieces.{Done, and_then, all_handled, at_end}
use Rattle.ua_transport.specs.declared.frame.Frame.{Frame}
use Rattle.ua_transport.specs.declared.taken.Taken.{Taken}
use Rattle.ua_transport.specs.declared.taken.Taken.TheVariants as taken
use Rattle.ua_transport.specs.ChannelStates.{ChannelState}
use Rattle.ua_transport.specs.Acceptance.{take_of}
use Rattle.server_messages.specs.declared.setting.Setting.{Setting}
use Rattle.server_connections.specs.Connecting.{taking_by, taking_of, reacted}
use Rattle.server_connections.specs.Reactions.{Counted, counted, reaction, taken_reaction, later_reaction, reaction_of}
use Rattle.server_connections.specs.declared.frame_outcome.FrameOutcome.TheVariants as outcome
use Rattle.server_connections.specs.declared.connection.Connection.{Connection}
use Rattle.server_connections.specs.declared.connection.Phase.{Phase}
use Rattle.server_connections.specs.declared.connection.Phase.TheVariants.{Greeting, Talking, Closed}
use Rattle.collections.proofs.NumberMaps.{get_inserted_elsewhere}
use Rattle.server_core.specs.Apart.{is_part_taken, is_part_in, is_part_of, are_parts, is_rest, completes_none_in, completes_none, with_connections_of, KeepsAllElse}
use Rattle.server_core.specs.Effects.{Effect}
use Rattle.server_core.specs.Handling.{handled_by, handled, broken}
use Rattle.server_core.specs.Stepping.{fed_to, fed}
use Rattle.server_core.specs.World.{World, Core}
use Rattle.server_core.proofs.ApartLemmas.{fed_apart}

-- ---- a frame

-- a reaction that says nothing and asks for nothing, and leaves some channel
record IsQuiet (channels : ℕ) (c : Counted) : Type 0 where
  s : ChannelState
  is : c ≡ counted channels (reaction (Talking s) [] outcome.Nothing)

quiet_taken : (setting : Setting) (channels conn : ℕ) (key : List ℕ) (s : ChannelState) (answer : Result Taken Status) → is_part_taken answer ≡ true → IsQuiet channels (taken_reaction setting channels conn key s answer)
quiet_taken setting channels conn key s (Ok taken.Nothing) h = record { s = s; is = refl }
quiet_taken setting channels conn key s (Ok (taken.Aborted id)) h = record { s = s; is = refl }
quiet_taken setting channels conn key s (Ok taken.Closed) h = absurd (false≢true h)
quiet_taken setting channels conn key s (Ok (taken.Opening id handle renew)) h = absurd (false≢true h)
quiet_taken setting channels conn key s (Ok (taken.Request id body)) h = absurd (false≢true h)
quiet_taken setting channels conn key s (Err code) h = absurd (false≢true h)

quiet_reaction : (setting : Setting) (channels conn : ℕ) (key : List ℕ) (frame : Frame) (phase : Phase) → is_part_in phase frame ≡ true → IsQuiet channels (reaction_of setting channels conn key frame phase)
unfolding later_reaction
quiet_reaction setting channels conn key frame Greeting h = absurd (false≢true h)
quiet_reaction setting channels conn key frame (Talking s) h = quiet_taken setting channels conn key (take_of s frame).state (take_of s frame).answer h
quiet_reaction setting channels conn key frame Closed h = absurd (false≢true h)

-- nothing is done, and nothing but the connection is another
record Quiet (conn : ℕ) (old : Core) (d : Done Core Effect) : Type 0 where
  rest : d.state ≡ with_connections_of old d.state
  others : (other : ℕ) → other ≢ conn → get d.state.connections.known other ≡ get old.connections.known other
  effects : d.outs ≡ []

quiet_same : (conn : ℕ) (core : Core) → Quiet conn core (record { state = core; outs = []; goes_on = true })
quiet_same conn core = record { rest = refl; others = λ other apart. refl; effects = refl }

quiet_placed : (conn : ℕ) (core : Core) (connection : Connection) (c : Counted) → IsQuiet core.connections.channels c → Quiet conn core (handled_by conn core (reacted core.connections conn connection c))
quiet_placed conn core connection c q =
    let d : Counted → Done Core Effect = λ x. handled_by conn core (reacted core.connections conn connection x) in
    let quiet : Counted = counted core.connections.channels (reaction (Talking q.s) [] outcome.Nothing) in
    let p : Quiet conn core (d quiet) = record {
      rest = refl;
      others = λ other apart. get_inserted_elsewhere core.connections.known conn (record connection { phase = Talking q.s }) other apart;
      effects = refl;
    } in
    subst (λ (x : Counted). Quiet conn core (d x)) (sym q.is) p

quiet_found : (conn : ℕ) (core : Core) (frame : Frame) (found : Option Connection) → is_part_of found frame ≡ true → Quiet conn core (handled_by conn core (taking_by core.setting conn core.connections frame found))
quiet_found conn core frame None h = absurd (false≢true h)
quiet_found conn core frame (Some connection) h =
    quiet_placed conn core connection _ (quiet_reaction core.setting core.connections.channels conn connection.key frame connection.phase h)

quiet_handled : (conn : ℕ) (core : Core) (frame : Frame) → is_part_of (get core.connections.known conn) frame ≡ true → Quiet conn core (handled conn core frame)
unfolding handled taking_of
quiet_handled conn core frame h = quiet_found conn core frame (get core.connections.known conn) h

-- ---- frames

quiet_then_by : (conn : ℕ) (old : Core) (state : Core) (effects : List Effect) (b : Bool) (more : Core → Done Core Effect) → Quiet conn old (record { state = state; outs = effects; goes_on = b }) → Quiet conn state (more state) →
    Quiet conn old (and_then (record { state = state; outs = effects; goes_on = b }) more)
quiet_then_by conn old state effects true more p q = record {
  rest = q.rest ∙ ap (λ (x : Core). with_connections_of x (more state).state) p.rest;
  others = λ other apart. q.others other apart ∙ p.others other apart;
  effects = ap (λ (es : List Effect). es ++ (more state).outs) p.effects ∙ q.effects;
}
quiet_then_by conn old state effects false more p q = p

quiet_all : (conn : ℕ) (core : Core) (frames : List Frame) → are_parts conn core frames ≡ true → Quiet conn core (all_handled (handled conn) core frames)
quiet_all conn core [] h = quiet_same conn core
quiet_all conn core (frame ∷ frames) h =
    let d = handled conn core frame in
    let both = and_parts (is_part_of (get core.connections.known conn) frame) (are_parts conn d.state frames) h in
    quiet_then_by conn core d.state d.outs d.goes_on (λ s. all_handled (handled conn) s frames) (quiet_handled conn core frame both.0) (quiet_all conn d.state frames both.1)

-- ---- a piece

quiet_end : (conn limit : ℕ) (framers : FinMap nat_cmp Framing) (core : Core) (end : End) (d : Done Core Effect) → is_rest end ≡ true → Quiet conn core d →
    (let s = at_end (broken conn) end d in (s.stream.state ≡ with_connections_of core s.stream.state) × ((other : ℕ) → other ≢ conn → get s.stream.state.connections.known other ≡ get core.connections.known other) × (s.outs ≡ []))
quiet_end conn limit framers core (Rest bytes) d h q = (q.rest, q.others, q.effects)
quiet_end conn limit framers core (Broken fault) d h q = absurd (false≢true h)

parts_by : (world : World) (conn : ℕ) (piece : List ℕ) (found : Option Framing) → completes_none_in world conn piece found ≡ true →
    (let s = fed_to world conn piece found in
    (s.world.core ≡ with_connections_of world.core s.world.core) × ((other : ℕ) → other ≢ conn → get s.world.core.connections.known other ≡ get world.core.connections.known other) × (s.effects ≡ []))
parts_by world conn piece None h = (refl, λ other apart. refl, refl)
parts_by world conn piece (Some framing) h =
    let framed = framed_of framing.limit framing.held piece in
    let both = and_parts (is_rest framed.end) (are_parts conn world.core framed.frames) h in
    quiet_end conn framing.limit world.framers world.core framed.end (all_handled (handled conn) world.core framed.frames) both.0 (quiet_all conn world.core framed.frames both.1)

-- parts of a message leave all but the connection's own part as it was, and do nothing
pub parts_keep : (world : World) (conn : ℕ) (piece : List ℕ) → completes_none world conn piece ≡ true →
    KeepsAllElse conn world (fed world conn piece).world × ((fed world conn piece).effects ≡ [])
unfolding fed
parts_keep world conn piece h =
    let p = parts_by world conn piece (get world.framers conn) h in
    let s = fed_to world conn piece (get world.framers conn) in (
      record {
        rest = ap (λ (c : Core). let w : World = record { framers = s.world.framers; core = c } in w) p.0;
        framers = (fed_apart world conn piece).framers;
        connections = p.1;
      },
      p.2,
    )
