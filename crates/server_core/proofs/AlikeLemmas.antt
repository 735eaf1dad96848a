-- What the bytes of a connection do depends on nothing of the other connections.
use Rattle.std.proofs.Common.{◌≡◌, ℕ, Bool, true, false, cond, List, [], ◌∷◌, ◌++◌, filter, Option, Some, None, refl, sym, ◌∙◌, ap, subst}
use Rattle.std.specs.Ordering.{nat_cmp}
use Rattle.std.specs.FinMap.{FinMap, get, remove}
use Rattle.ua_transport.specs.Feeding.{Framing, framed_of}
use Rattle.ua_transport.specs.Frames.{End, Rest, Broken}
use Rattle.ua_transport.specs.Pieces.{Done, Stepped, and_then, all_handled, at_end}
use Rattle.ua_transport.specs.declared.frame.Frame.{Frame}
use Rattle.ua_transport.specs.declared.frame.FrameFault.{FrameFault}
use Rattle.collections.proofs.NumberMaps.{get_inserted, get_removed}
use Rattle.server_messages.specs.declared.reply.Reply.{Reply}
use Rattle.server_messages.specs.declared.setting.Setting.{Setting}
use Rattle.server_connections.specs.Apart.{SeesAlike, is_on, is_for}
use Rattle.server_connections.specs.Connecting.{Connections, Taking, taking_of}
use Rattle.server_connections.specs.Delivering.{delivery_of}
use Rattle.server_connections.specs.declared.frame_outcome.FrameOutcome.{FrameOutcome}
use Rattle.server_connections.specs.declared.frame_outcome.FrameOutcome.TheVariants as outcome
use Rattle.server_messages.specs.declared.out.Out.{Out}
use Rattle.server_connections.proofs.AlikeLemmas.{TakesAlike, taking_alike, break_alike, delivery_alike, both_filtered}
use Rattle.ua_services.specs.declared.services.Services.{Services}
use Rattle.ua_services.specs.Services.{serving_of}
use Rattle.server_core.specs.Apart.{IsAlike, IsAlikeTo, is_heard, heard}
use Rattle.server_core.specs.Effects.{Effect, Do, Lost, doing, losing, occurring}
use Rattle.server_core.specs.Handling.{asked_for, handled_by, handled, broken}
use Rattle.server_core.specs.Stepping.{with_held, fed_to, fed}
use Rattle.server_core.specs.World.{World, Core}

-- the same is done, but for what is sent on others, and the same is left of the connection
record DoesAlike (conn : ℕ) (d e : Done Core Effect) : Type 0 where
  state : IsAlike conn d.state e.state
  effects : heard conn d.outs ≡ heard conn e.outs
  goes_on : d.goes_on ≡ e.goes_on

abbrev core_of : Setting → Services → Bool → Connections → Core
core_of setting services is_shut connections = record { setting = setting; connections = connections; services = services; is_shut = is_shut }

-- ---- effects

heard_out : (conn : ℕ) (outs : List Out) → heard conn (doing outs) ≡ doing (filter (is_on conn) outs)
heard_out conn [] = refl
heard_out conn (out ∷ outs) = by (is_on conn out) (heard_out conn outs)
  where
    by : (b : Bool) → heard conn (doing outs) ≡ doing (filter (is_on conn) outs) → cond b (Do out ∷ heard conn (doing outs)) (heard conn (doing outs)) ≡ doing (cond b (out ∷ filter (is_on conn) outs) (filter (is_on conn) outs))
    by true e = ap (λ (es : List Effect). Do out ∷ es) e
    by false e = e

heard_lost : (conn : ℕ) (replies : List Reply) → heard conn (losing replies) ≡ losing (filter (is_for conn) replies)
heard_lost conn [] = refl
heard_lost conn (reply ∷ replies) = by (is_for conn reply) (heard_lost conn replies)
  where
    by : (b : Bool) → heard conn (losing replies) ≡ losing (filter (is_for conn) replies) → cond b (Lost reply ∷ heard conn (losing replies)) (heard conn (losing replies)) ≡ losing (cond b (reply ∷ filter (is_for conn) replies) (filter (is_for conn) replies))
    by true e = ap (λ (es : List Effect). Lost reply ∷ es) e
    by false e = e

-- ---- frames

-- either may be shut
module _ (conn : ℕ) (setting : Setting) (services : Services) (first second : Bool) where
  asked_alike : (a b : Connections) (outs : List Out) (found : FrameOutcome) → SeesAlike conn a b →
      DoesAlike conn (asked_for conn (core_of setting services first a) outs found) (asked_for conn (core_of setting services second b) outs found)
  asked_alike a b outs outcome.Nothing p = record { state = record { setting = refl; sees = p; services = refl }; effects = refl; goes_on = refl }
  asked_alike a b outs outcome.Closed p = record { state = record { setting = refl; sees = p; services = refl }; effects = refl; goes_on = refl }
  asked_alike a b outs (outcome.Request request) p =
      let s = serving_of setting request services in
      let da = delivery_of setting a s.replies in
      let db = delivery_of setting b s.replies in
      let d = delivery_alike setting conn a b s.replies p in
      record {
        state = record { setting = refl; sees = d.sees; services = refl };
        effects = both_filtered (is_heard conn) (doing outs) (doing outs) (occurring s.occurrences ++ (doing da.outs ++ losing da.lost)) (occurring s.occurrences ++ (doing db.outs ++ losing db.lost)) refl
            (both_filtered (is_heard conn) (occurring s.occurrences) (occurring s.occurrences) (doing da.outs ++ losing da.lost) (doing db.outs ++ losing db.lost) refl
            (both_filtered (is_heard conn) (doing da.outs) (doing db.outs) (losing da.lost) (losing db.lost)
            (heard_out conn da.outs ∙ ap doing d.outs ∙ sym (heard_out conn db.outs))
            (heard_lost conn da.lost ∙ ap losing d.lost ∙ sym (heard_lost conn db.lost))));
        goes_on = refl;
      }

  taken_alike : (a b : Connections) (s t : Taking) → TakesAlike conn s t →
      DoesAlike conn (handled_by conn (core_of setting services first a) s) (handled_by conn (core_of setting services second b) t)
  taken_alike a b s t p =
      subst (λ (os : List Out). DoesAlike conn (asked_for conn (core_of setting services first s.connections) s.outs s.asked) (asked_for conn (core_of setting services second t.connections) os t.asked)) p.outs
      (subst (λ (f : FrameOutcome). DoesAlike conn (asked_for conn (core_of setting services first s.connections) s.outs s.asked) (asked_for conn (core_of setting services second t.connections) s.outs f)) p.asked
      (asked_alike s.connections t.connections s.outs s.asked p.sees))

  handled_same : (a b : Connections) (frame : Frame) → SeesAlike conn a b → DoesAlike conn (handled conn (core_of setting services first a) frame) (handled conn (core_of setting services second b) frame)
  unfolding handled
  handled_same a b frame p = taken_alike a b (taking_of setting conn a frame) (taking_of setting conn b frame) (taking_alike setting conn a b frame p)

  broken_same : (a b : Connections) (fault : FrameFault) → SeesAlike conn a b → DoesAlike conn (broken conn (core_of setting services first a) fault) (broken conn (core_of setting services second b) fault)
  unfolding broken
  broken_same a b fault p =
      let k = break_alike conn a b fault p in
      record { state = record { setting = refl; sees = k.sees; services = refl }; effects = ap (λ (outs : List Out). heard conn (doing outs)) k.outs; goes_on = refl }

-- cores that are alike differ in their connections alone
same_core : (conn : ℕ) (a b : Core) → IsAlike conn a b → core_of a.setting a.services b.is_shut b.connections ≡ b
same_core conn a b p = ap (λ (s : Setting). core_of s a.services b.is_shut b.connections) p.setting ∙ ap (λ (k : Services). core_of b.setting k b.is_shut b.connections) p.services

handled_alike : (conn : ℕ) (a b : Core) (frame : Frame) → IsAlike conn a b → DoesAlike conn (handled conn a frame) (handled conn b frame)
handled_alike conn a b frame p =
    subst (λ (c : Core). DoesAlike conn (handled conn a frame) (handled conn c frame)) (same_core conn a b p) (handled_same conn a.setting a.services a.is_shut b.is_shut a.connections b.connections frame p.sees)

broken_alike : (conn : ℕ) (a b : Core) (fault : FrameFault) → IsAlike conn a b → DoesAlike conn (broken conn a fault) (broken conn b fault)
broken_alike conn a b fault p =
    subst (λ (c : Core). DoesAlike conn (broken conn a fault) (broken conn c fault)) (same_core conn a b p) (broken_same conn a.setting a.services a.is_shut b.is_shut a.connections b.connections fault p.sees)

-- ---- one after the other

then_by : (conn : ℕ) (s t : Core) (xs ys : List Effect) (b : Bool) (more other : Core → Done Core Effect) → IsAlike conn s t → heard conn xs ≡ heard conn ys → DoesAlike conn (more s) (other t) →
    DoesAlike conn (and_then (record { state = s; outs = xs; goes_on = b }) more) (and_then (record { state = t; outs = ys; goes_on = b }) other)
then_by conn s t xs ys true more other p e k = record {
  state = k.state;
  effects = both_filtered (is_heard conn) xs ys (more s).outs (other t).outs e k.effects;
  goes_on = k.goes_on;
}
then_by conn s t xs ys false more other p e k = record { state = p; effects = e; goes_on = refl }

then_alike : (conn : ℕ) (d e : Done Core Effect) (more other : Core → Done Core Effect) → DoesAlike conn d e → DoesAlike conn (more d.state) (other e.state) → DoesAlike conn (and_then d more) (and_then e other)
then_alike conn d e more other p k =
    subst (λ (b : Bool). DoesAlike conn (and_then d more) (and_then (record { state = e.state; outs = e.outs; goes_on = b }) other)) p.goes_on
    (then_by conn d.state e.state d.outs e.outs d.goes_on more other p.state p.effects k)

all_alike : (conn : ℕ) (a b : Core) (frames : List Frame) → IsAlike conn a b → DoesAlike conn (all_handled (handled conn) a frames) (all_handled (handled conn) b frames)
all_alike conn a b [] p = record { state = p; effects = refl; goes_on = refl }
all_alike conn a b (frame ∷ frames) p =
    let one = handled_alike conn a b frame p in
    then_alike conn (handled conn a frame) (handled conn b frame) (λ s. all_handled (handled conn) s frames) (λ s. all_handled (handled conn) s frames) one
    (all_alike conn (handled conn a frame).state (handled conn b frame).state frames one.state)

-- ---- a piece

record StepsAlike (conn : ℕ) (s t : Stepped Core Effect) : Type 0 where
  state : IsAlike conn s.stream.state t.stream.state
  held : s.stream.held ≡ t.stream.held
  effects : heard conn s.outs ≡ heard conn t.outs

end_alike : (conn : ℕ) (end : End) (d e : Done Core Effect) → DoesAlike conn d e → StepsAlike conn (at_end (broken conn) end d) (at_end (broken conn) end e)
end_alike conn (Rest bytes) d e p = record { state = p.state; held = ap (λ (b : Bool). cond b (Some bytes) None) p.goes_on; effects = p.effects }
end_alike conn (Broken fault) d e p =
    let k = then_alike conn d e (λ s. broken conn s fault) (λ s. broken conn s fault) p (broken_alike conn d.state e.state fault p.state) in
    record { state = k.state; held = refl; effects = k.effects }

-- the framer that is left
framer_left : (conn limit : ℕ) (held : Option (List ℕ)) (m n : FinMap nat_cmp Framing) → get (with_held conn limit held (remove m conn)) conn ≡ get (with_held conn limit held (remove n conn)) conn
framer_left conn limit None m n = get_removed m conn ∙ sym (get_removed n conn)
framer_left conn limit (Some held) m n =
    let framing : Framing = record { limit = limit; held = Some held } in
    get_inserted (remove m conn) conn framing ∙ sym (get_inserted (remove n conn) conn framing)

fed_to_alike : (a b : World) (conn : ℕ) (piece : List ℕ) (found : Option Framing) → IsAlikeTo conn a b →
    (let s = fed_to a conn piece found in let t = fed_to b conn piece found in IsAlikeTo conn s.world t.world × (heard conn s.effects ≡ heard conn t.effects))
fed_to_alike a b conn piece None p = (p, refl)
fed_to_alike a b conn piece (Some framing) p =
    let framed = framed_of framing.limit framing.held piece in
    let k = end_alike conn framed.end _ _ (all_alike conn a.core b.core framed.frames p.core) in
    let s = at_end (broken conn) framed.end (all_handled (handled conn) a.core framed.frames) in
    let t = at_end (broken conn) framed.end (all_handled (handled conn) b.core framed.frames) in (
      record {
        framer = framer_left conn framing.limit s.stream.held a.framers b.framers
            ∙ ap (λ (h : Option (List ℕ)). get (with_held conn framing.limit h (remove b.framers conn)) conn) k.held;
        core = k.state;
      },
      k.effects,
    )

-- bytes do the same in worlds that are alike to their connection
pub fed_alike : (a b : World) (conn : ℕ) (piece : List ℕ) → IsAlikeTo conn a b →
    (let s = fed a conn piece in let t = fed b conn piece in IsAlikeTo conn s.world t.world × (heard conn s.effects ≡ heard conn t.effects))
unfolding fed
fed_alike a b conn piece p =
    subst (λ (found : Option Framing). (let s = fed_to a conn piece (get a.framers conn) in let t = fed_to b conn piece found in IsAlikeTo conn s.world t.world × (heard conn s.effects ≡ heard conn t.effects))) p.framer
    (fed_to_alike a b conn piece (get a.framers conn) p)
