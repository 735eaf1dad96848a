-- The bytes of one connection leave the others as they were.
use Rattle.std.proofs.Common.{◌≡◌, ◌≢◌, ℕ, Bool, true, List, Option, Some, None, refl, ◌∙◌, ap}
use Rattle.std.specs.Prelude.{⊤}
use Rattle.std.specs.Ordering.{nat_cmp}
use Rattle.std.specs.FinMap.{FinMap, get, remove}
use Rattle.ua_transport.specs.Feeding.{Framing, framed_of}
use Rattle.ua_transport.specs.Pieces.{all_handled, at_end}
use Rattle.ua_transport.specs.declared.frame.Frame.{Frame}
use Rattle.ua_transport.specs.declared.frame.FrameFault.{FrameFault}
use Rattle.server_connections.specs.Apart as connections
use Rattle.server_connections.specs.Apart.{unsent, with_known}
use Rattle.server_connections.specs.Connecting.{Connections, is_known, taking_of, break_of}
use Rattle.server_connections.specs.declared.frame_outcome.FrameOutcome.{FrameOutcome}
use Rattle.server_connections.specs.declared.frame_outcome.FrameOutcome.TheVariants as outcome
use Rattle.server_messages.specs.declared.out.Out.{Out}
use Rattle.server_connections.proofs.ApartLemmas.{taking_apart, break_apart, delivery_apart, then_sent}
use Rattle.collections.proofs.NumberMaps.{get_inserted_elsewhere, get_removed_elsewhere}
use Rattle.ua_services.specs.declared.services.Services.{Services}
use Rattle.ua_services.specs.Services.{serving_of}
use Rattle.server_core.specs.Apart.{with_parts, KeepsOthers}
use Rattle.server_core.specs.Effects.{Effect}
use Rattle.server_core.specs.Handling.{asked_for, handled, broken}
use Rattle.server_core.specs.Stepping.{with_held, fed_to, fed}
use Rattle.server_core.specs.World.{World, Core}
use Rattle.server_core.proofs.Keeping.{frames_keep, end_keeps}

-- all but the framers
record IsApart (conn : ℕ) (old new : Core) : Type 0 where
  rest : new ≡ with_parts old new
  known : is_known new.connections conn ≡ is_known old.connections conn
  others : (other : ℕ) → other ≢ conn → unsent (get new.connections.known other) ≡ unsent (get old.connections.known other)

next_apart : (conn : ℕ) (old core : Core) (new : Connections) (state : Services) → IsApart conn old core → connections.KeepsOthers conn core.connections new →
    IsApart conn old (record core { connections = new; services = state })
next_apart conn old core new state p k =
    let set : Core → Connections → Core = λ x c. record x { connections = c; services = state } in
    record {
      rest = ap (set core) k.rest ∙ ap (λ (x : Core). set x (with_known x.connections new)) p.rest;
      known = k.known ∙ p.known;
      others = λ other apart. k.others other apart ∙ p.others other apart;
    }

asked_apart : (conn : ℕ) (old core : Core) (new : Connections) (outs : List Out) (found : FrameOutcome) → IsApart conn old core → connections.KeepsOthers conn core.connections new →
    IsApart conn old (asked_for conn (record core { connections = new }) outs found).state
asked_apart conn old core new outs outcome.Nothing p k = next_apart conn old core new _ p k
asked_apart conn old core new outs outcome.Closed p k = next_apart conn old core new _ p k
asked_apart conn old core new outs (outcome.Request request) p k =
    let s = serving_of core.setting request core.services in
    next_apart conn old core _ _ p (then_sent conn core.connections new _ k (delivery_apart core.setting new s.replies))

handled_apart : (conn : ℕ) (old core : Core) (frame : Frame) → IsApart conn old core → IsApart conn old (handled conn core frame).state × ⊤
unfolding handled
handled_apart conn old core frame p =
    let t = taking_of core.setting conn core.connections frame in
    (asked_apart conn old core t.connections t.outs t.asked p (taking_apart core.setting conn core.connections frame), tt)

broken_apart : (conn : ℕ) (old core : Core) (fault : FrameFault) → IsApart conn old core → IsApart conn old (broken conn core fault).state × ⊤
unfolding broken
broken_apart conn old core fault p = (next_apart conn old core (break_of conn core.connections fault).connections _ p (break_apart conn core.connections fault), tt)

links_apart : (conn limit : ℕ) (held : Option (List ℕ)) (framers : FinMap nat_cmp Framing) (other : ℕ) → other ≢ conn → get (with_held conn limit held (remove framers conn)) other ≡ get framers other
links_apart conn limit None framers other apart = get_removed_elsewhere framers conn other apart
links_apart conn limit (Some held) framers other apart =
    get_inserted_elsewhere (remove framers conn) conn (record { limit = limit; held = Some held }) other apart ∙ get_removed_elsewhere framers conn other apart

fed_apart_by : (world : World) (conn : ℕ) (piece : List ℕ) (found : Option Framing) → KeepsOthers conn world (fed_to world conn piece found).world
fed_apart_by world conn piece None = record { rest = refl; known = refl; framers = λ other apart. refl; connections = λ other apart. refl }
fed_apart_by world conn piece (Some framing) =
    let old = world.core in
    let framed = framed_of framing.limit framing.held piece in
    let d = all_handled (handled conn) old framed.frames in
    let P : Bool → Core → Type 0 = λ b. IsApart conn old in
    let Q : List Effect → Type 0 = λ effects. ⊤ in
    let start : P true old = record { rest = refl; known = refl; others = λ other apart. refl } in
    let k = frames_keep conn P Q tt (λ xs ys p q. tt) (handled_apart conn old) (broken_apart conn old) framed.frames old start in
    let e = end_keeps conn P Q tt (λ xs ys p q. tt) (handled_apart conn old) (broken_apart conn old) framed.end d k.0 tt in
    let step = at_end (broken conn) framed.end d in
    let framers = with_held conn framing.limit step.stream.held (remove world.framers conn) in
    record {
      rest = ap (λ (c : Core). let w : World = record { framers = framers; core = c } in w) e.0.rest;
      framers = links_apart conn framing.limit step.stream.held world.framers;
      known = e.0.known;
      connections = e.0.others;
    }

pub fed_apart : (world : World) (conn : ℕ) (piece : List ℕ) → KeepsOthers conn world (fed world conn piece).world
unfolding fed
fed_apart world conn piece = fed_apart_by world conn piece (get world.framers conn)

-- a connection that bytes come on stays known
pub fed_known : (world : World) (conn : ℕ) (piece : List ℕ) → is_known (fed world conn piece).world.core.connections conn ≡ is_known world.core.connections conn
fed_known world conn piece = (fed_apart world conn piece).known
