-- Every world that a server reaches is coherent, and no reply is lost.
use Rattle.std.proofs.Common.{◌≡◌, ◌≢◌, ℕ, ◌≤◌, Bool, true, false, cond, List, [], ◌∷◌, ◌++◌, Option, Some, None, is_some, Result, Ok, Err, refl, sym, ◌∙◌, ap, subst}
use Rattle.std.specs.Prelude.{not, ◌==◌}
use Rattle.std.proofs.Common.{eq-eqb}
use Rattle.std.proofs.lemmas.Bool.{eqb-true, false≢true}
use Rattle.std.specs.List.{AllByRecursion}
use Rattle.std.specs.FinMap.{FinMap, get, insert, remove, empty, get-empty, get-insert, get-remove, len}
use Rattle.std.specs.Ordering.{nat_cmp, eq_by_cmp}
use Rattle.std.specs.Cmp.{nat_cmp_total}
use Rattle.ua_types.specs.Configuration.{Configuration, IsConfigured}
use Rattle.ua_types.specs.declared.moment.Moment.{Moment}
use Rattle.ua_types.specs.declared.status.Status.{Status}
use Rattle.ua_types.specs.declared.status.TheConstants.Status as status
use Rattle.ua_transport.specs.Agreements.{AreInRange, limits_of}
use Rattle.ua_transport.specs.Feeding.{Framing, unfed, framed_of}
use Rattle.ua_transport.specs.Pieces.{all_handled, at_end}
use Rattle.ua_transport.specs.declared.frame.Frame.{Frame}
use Rattle.ua_transport.specs.declared.frame.FrameFault.{FrameFault}
use Rattle.server_messages.specs.declared.reply.Reply.{Reply}
use Rattle.server_messages.specs.declared.setting.Setting.{Setting}
use Rattle.server_connections.specs.Coherent.{IsAgreedIn, IsAgreedAt, AreAgreed, Talks, IsFresh, AreNumbered, number_in, number_at, is_open_at, is_open}
use Rattle.server_connections.specs.Connecting.{Connections, is_known, is_new, known_as, turned_away, taking_of, break_of, gone}
use Rattle.server_connections.specs.Delivering.{Delivery, delivery_of}
use Rattle.server_connections.specs.Shutting.{shut}
use Rattle.server_connections.specs.declared.frame_outcome.FrameOutcome.{FrameOutcome}
use Rattle.server_connections.specs.declared.frame_outcome.FrameOutcome.TheVariants as outcome
use Rattle.server_connections.specs.declared.connection.Connection.{Connection}
use Rattle.server_connections.specs.declared.connection.Phase.{Phase}
use Rattle.server_connections.specs.declared.connection.Phase.TheVariants.{Greeting, Closed}
use Rattle.server_messages.specs.declared.out.Out.{Out}
use Rattle.server_connections.proofs.CoherentLemmas.{FitsAt, IsDelivered, taken_right, broken_right, broken_closes, delivered_right, opened_agreed, opened_talks, opened_open, opened_fresh, gone_agreed, gone_talks, gone_open, gone_fresh, talks_open}
use Rattle.collections.proofs.NumberMaps.{same_number, numbers_same}
use Rattle.ua_services.specs.declared.services.Services.{Services}
use Rattle.ua_space.specs.Nodes.{SpaceState}
use Rattle.ua_services.specs.Owing.{OwesOnly, ServesOnly}
use Rattle.ua_services.specs.Serving.{Occurrence, Serving}
use Rattle.ua_services.specs.Services.{serving_of, ticking_of, shutting_of, forgotten}
use Rattle.ua_services.proofs.OwingLemmas.{serving_only, ticking_only, shutting_only, shutting_owes_none, forgotten_only, owes_more}
use Rattle.server_connections.proofs.ApartLemmas.{delivery_apart}
use Rattle.server_connections.proofs.FittingLemmas.{fits_at}
use Rattle.server_connections.proofs.ShuttingLemmas.{shut_agreed, shut_closed, shut_fresh, shut_numbered}
use Rattle.server_connections.proofs.NumberingLemmas.{taking_numbers, break_numbers, sent_numbers, opened_numbers, gone_numbers}
use Rattle.server_core.specs.Coherent.{IsSound, IsCoherent, AnswersFit, lost_of, LosesNone, reached, IfRuns}
use Rattle.server_core.specs.Effects.{Effect, Do, Occurred, Lost, doing, occurring, losing, effects_of}
use Rattle.server_core.specs.Handling.{replies_sent, asked_for, handled, broken, ticked_core}
use Rattle.server_core.specs.Stepping as stepping
use Rattle.server_core.specs.Stepping.{WorldStep, world_step, with_held, fed_to, fed, refusal_of, opened_by, step_of}
use Rattle.ua_types.specs.Moments.{later}
use Rattle.server_core.specs.World.{World, Core, opening}
use Rattle.server_core.specs.declared.event.Event.{Event}
use Rattle.server_core.specs.declared.event.Event.TheVariants.{Opened, Bytes, Gone, Tick, Shutdown}
use Rattle.server_core.specs.declared.out.StepFault.{StepFault}
use Rattle.server_core.specs.declared.out.StepFault.TheVariants.{KnownConnection, UnknownConnection}
use Rattle.server_core.proofs.ApartLemmas.{fed_apart}
use Rattle.server_core.proofs.Keeping.{frames_keep, end_keeps, Kept, lift}
use Rattle.server_core.proofs.RoomLemmas.{fed_room, greeted_room, forgotten_room, opening_room, none_within}

-- ---- no reply is lost

lost_of-append : (xs ys : List Effect) → lost_of (xs ++ ys) ≡ lost_of xs ++ lost_of ys
lost_of-append [] ys = refl
lost_of-append (Do out ∷ xs) ys = lost_of-append xs ys
lost_of-append (Occurred occurrence ∷ xs) ys = lost_of-append xs ys
lost_of-append (Lost reply ∷ xs) ys = ap (λ (rs : List Reply). reply ∷ rs) (lost_of-append xs ys)

loses_none_both : (xs ys : List Effect) → LosesNone xs → LosesNone ys → LosesNone (xs ++ ys)
loses_none_both xs ys p q = lost_of-append xs ys ∙ ap (λ (rs : List Reply). rs ++ lost_of ys) p ∙ q

doing_loses_none : (outs : List Out) → LosesNone (doing outs)
doing_loses_none [] = refl
doing_loses_none (out ∷ outs) = doing_loses_none outs

acting_loses_none : (occurrences : List Occurrence) → LosesNone (occurring occurrences)
acting_loses_none [] = refl
acting_loses_none (occurrence ∷ occurrences) = acting_loses_none occurrences

effects_lose_none : (occurrences : List Occurrence) (d : Delivery) → d.lost ≡ [] → LosesNone (effects_of occurrences d)
effects_lose_none occurrences d e =
    loses_none_both (occurring occurrences) (doing d.outs ++ losing d.lost) (acting_loses_none occurrences)
    (loses_none_both (doing d.outs) (losing d.lost) (doing_loses_none d.outs) (ap (λ (rs : List Reply). lost_of (losing rs)) e))

-- ---- requests, frames and ticks

-- what was served is answered
answered_right : (core : Core) (outs : List Out) (s : Serving) → AreInRange (limits_of core.setting.config) → AreAgreed core.setting.config core.connections → IsFresh core.connections → AreNumbered core.connections → ServesOnly (Talks core.connections) s →
    (let d = replies_sent core outs s in IsSound d.state × ((other : ℕ) → is_open d.state.connections other ≡ is_open core.connections other) × LosesNone d.outs)
answered_right core outs s ranges agreed fresh numbered only =
    let d = delivery_of core.setting core.connections s.replies in
    let right : IsDelivered core.setting.config core.connections d = delivered_right core.setting core.connections s.replies agreed only.replies in (
      record { ranges = ranges; agreed = right.agreed; owed = owes_more (Talks core.connections) (Talks d.connections) right.talks s.state only.state; fresh = right.fresh fresh; numbered = sent_numbers core.connections d.connections (delivery_apart core.setting core.connections s.replies) numbered },
      right.opened,
      loses_none_both (doing outs) (effects_of s.occurrences d) (doing_loses_none outs) (effects_lose_none s.occurrences d right.lost),
    )

-- a connection is forgotten, and all others talk as they did
forgotten_right : (conn : ℕ) (old new : Connections) (state : Services) → ((other : ℕ) → other ≢ conn → Talks old other → Talks new other) → OwesOnly (Talks old) state → OwesOnly (Talks new) (forgotten state conn)
forgotten_right conn old new state f p =
    owes_more (λ (other : ℕ). Talks old other × (other ≢ conn)) (Talks new) (λ other q. f other q.1 q.0) (forgotten state conn) (forgotten_only (Talks old) state conn p)

-- all that waited still talk, where this connection does
talks_on : (conn : ℕ) (old new : Connections) → ((other : ℕ) → other ≢ conn → Talks old other → Talks new other) → Talks new conn → (other : ℕ) → Talks old other → Talks new other
talks_on conn old new f here other talks = by (other == conn) refl
  where
    by : (b : Bool) → (other == conn) ≡ b → Talks new other
    by true e = subst (Talks new) (sym (eqb-true other conn e)) here
    by false e = f other (λ same. false≢true (sym e ∙ eq-eqb other conn same)) talks

-- what a frame leaves: the connection is open exactly where it goes on, and others are as open as they were
record IsLeft (conn : ℕ) (start : Connections) (b : Bool) (core : Core) : Type 0 where
  sound : IsSound core
  here : is_open core.connections conn ≡ b
  others : (other : ℕ) → other ≢ conn → is_open core.connections other ≡ is_open start other

asked_right : (conn : ℕ) (start : Connections) (core : Core) (connections : Connections) (outs : List Out) (found : FrameOutcome) → IsLeft conn start true core → AreAgreed core.setting.config connections → IsFresh connections → AreNumbered connections →
    ((other : ℕ) → other ≢ conn → Talks core.connections other → Talks connections other) → ((other : ℕ) → other ≢ conn → is_open connections other ≡ is_open core.connections other) → FitsAt conn connections found →
    (let d = asked_for conn (record core { connections = connections }) outs found in IsLeft conn start d.goes_on d.state × LosesNone d.outs)
asked_right conn start core connections outs outcome.Nothing l agreed fresh numbered others opened fits =
    let p = l.sound in (
      record {
        sound = record { ranges = p.ranges; agreed = agreed; owed = owes_more (Talks core.connections) (Talks connections) (talks_on conn core.connections connections others fits) core.services p.owed; fresh = fresh; numbered = numbered };
        here = talks_open connections conn fits;
        others = λ other apart. opened other apart ∙ l.others other apart;
      },
      doing_loses_none outs,
    )
asked_right conn start core connections outs outcome.Closed l agreed fresh numbered others opened fits =
    let p = l.sound in (
      record {
        sound = record { ranges = p.ranges; agreed = agreed; owed = forgotten_right conn core.connections connections core.services others p.owed; fresh = fresh; numbered = numbered };
        here = fits;
        others = λ other apart. opened other apart ∙ l.others other apart;
      },
      doing_loses_none outs,
    )
asked_right conn start core connections outs (outcome.Request request) l agreed fresh numbered others opened fits =
    let p = l.sound in
    let at : Core = record core { connections = connections } in
    let k = answered_right at outs (serving_of core.setting request core.services) p.ranges agreed fresh numbered
    (serving_only (Talks connections) core.setting request core.services
    (owes_more (Talks core.connections) (Talks connections) (talks_on conn core.connections connections others fits.1) core.services p.owed)
    (subst (Talks connections) (sym fits.0) fits.1)) in (
      record {
        sound = k.0;
        here = k.1 conn ∙ talks_open connections conn fits.1;
        others = λ other apart. k.1 other ∙ opened other apart ∙ l.others other apart;
      },
      k.2,
    )

handled_right : (conn : ℕ) (start : Connections) (core : Core) (frame : Frame) → IsLeft conn start true core → (let d = handled conn core frame in IsLeft conn start d.goes_on d.state × LosesNone d.outs)
unfolding handled
handled_right conn start core frame l =
    let p = l.sound in
    let t = taking_of core.setting conn core.connections frame in
    let right = taken_right core.setting conn core.connections frame p.ranges p.agreed in
    asked_right conn start core t.connections t.outs t.asked l right.agreed (right.fresh p.fresh) (taking_numbers core.setting conn core.connections frame p.numbered) right.others right.opened right.fits

broken_right_all : (conn : ℕ) (start : Connections) (core : Core) (fault : FrameFault) → IsLeft conn start true core → (let d = broken conn core fault in IsLeft conn start false d.state × LosesNone d.outs)
unfolding broken
broken_right_all conn start core fault l =
    let p = l.sound in
    let t = break_of conn core.connections fault in
    let right = broken_right core.setting.config conn core.connections fault p.agreed in (
      record {
        sound = record { ranges = p.ranges; agreed = right.agreed; owed = forgotten_right conn core.connections t.connections core.services right.others p.owed; fresh = right.fresh p.fresh; numbered = break_numbers conn core.connections fault p.numbered };
        here = broken_closes conn core.connections fault;
        others = λ other apart. right.opened other apart ∙ l.others other apart;
      },
      doing_loses_none t.outs,
    )

-- ---- bytes

set_at : (framers : FinMap nat_cmp Framing) (conn : ℕ) (framing : Framing) (q : ℕ) → is_some (get (insert framers conn framing) q) ≡ cond (eq_by_cmp nat_cmp q conn) true (is_some (get framers q))
set_at framers conn framing q = ap is_some (get-insert nat_cmp_total framers conn framing q) ∙ by (eq_by_cmp nat_cmp q conn)
  where
    by : (b : Bool) → is_some (cond b (Some framing) (get framers q)) ≡ cond b true (is_some (get framers q))
    by true = refl
    by false = refl

gone_at : (framers : FinMap nat_cmp Framing) (conn q : ℕ) → is_some (get (remove framers conn) q) ≡ cond (eq_by_cmp nat_cmp q conn) false (is_some (get framers q))
gone_at framers conn q = ap is_some (get-remove nat_cmp_total framers conn q) ∙ by (eq_by_cmp nat_cmp q conn)
  where
    by : (b : Bool) → is_some (cond b None (get framers q)) ≡ cond b false (is_some (get framers q))
    by true = refl
    by false = refl

twice : (b x y z : Bool) → cond b x (cond b y z) ≡ cond b x z
twice true x y z = refl
twice false x y z = refl

-- a connection that goes on has a framer, and one that doesn't has none
held_at : (framers : FinMap nat_cmp Framing) (conn limit : ℕ) (held : Option (List ℕ)) (q : ℕ) →
    is_some (get (with_held conn limit held (remove framers conn)) q) ≡ cond (eq_by_cmp nat_cmp q conn) (is_some held) (is_some (get framers q))
held_at framers conn limit None q = gone_at framers conn q
held_at framers conn limit (Some held) q =
    set_at (remove framers conn) conn (record { limit = limit; held = Some held }) q
    ∙ ap (λ (b : Bool). cond (eq_by_cmp nat_cmp q conn) true b) (gone_at framers conn q)
    ∙ twice (eq_by_cmp nat_cmp q conn) true false (is_some (get framers q))

-- what is true at the connection and elsewhere is true everywhere
everywhere : (conn : ℕ) (here : Bool) (framers opened : ℕ → Bool) → opened conn ≡ here → ((q : ℕ) → q ≢ conn → framers q ≡ opened q) → (q : ℕ) → cond (eq_by_cmp nat_cmp q conn) here (framers q) ≡ opened q
everywhere conn here framers opened e f q = by (eq_by_cmp nat_cmp q conn) refl
  where
    by : (b : Bool) → eq_by_cmp nat_cmp q conn ≡ b → cond b here (framers q) ≡ opened q
    by true s = sym e ∙ ap opened (sym (same_number q conn s))
    by false s = f q (λ same. false≢true (sym s ∙ numbers_same q conn same))

fed_right_by : (world : World) (conn : ℕ) (piece : List ℕ) (found : Option Framing) → get world.framers conn ≡ found → IsCoherent world →
    len (fed_to world conn piece found).world.framers ≤ (fed_to world conn piece found).world.core.setting.config.connections →
    (fed_to world conn piece found).world.core.is_shut ≡ world.core.is_shut →
    (let s = fed_to world conn piece found in IsCoherent s.world × LosesNone s.effects)
fed_right_by world conn piece None e p room same = (p, refl)
fed_right_by world conn piece (Some framing) e p room same =
    let start = world.core.connections in
    let P : Bool → Core → Type 0 = IsLeft conn start in
    let framed = framed_of framing.limit framing.held piece in
    let d = all_handled (handled conn) world.core framed.frames in
    let first : P true world.core = record { sound = p.sound; here = sym (p.framers conn) ∙ ap is_some e; others = λ other apart. refl } in
    let k = frames_keep conn P LosesNone refl loses_none_both (handled_right conn start) (broken_right_all conn start) framed.frames world.core first in
    let l = end_keeps conn P LosesNone refl loses_none_both (handled_right conn start) (broken_right_all conn start) framed.end d k.0 k.1 in
    let step = at_end (broken conn) framed.end d in (
      record {
        sound = l.0.sound;
        framers = λ q. held_at world.framers conn framing.limit step.stream.held q
            ∙ everywhere conn (is_some step.stream.held) (λ (n : ℕ). is_some (get world.framers n)) (is_open step.stream.state.connections) l.0.here
            (λ n apart. p.framers n ∙ sym (l.0.others n apart)) q;
        room = room;
        shut = λ is. absurd (false≢true (sym (p.shut (sym same ∙ is) conn) ∙ sym (p.framers conn) ∙ ap is_some e));
      },
      l.1,
    )

fed_right : (world : World) (conn : ℕ) (piece : List ℕ) → IsCoherent world → (let s = fed world conn piece in IsCoherent s.world × LosesNone s.effects)
unfolding fed
fed_right world conn piece p =
    fed_right_by world conn piece (get world.framers conn) refl p (fed_room world conn piece p.room) (ap (λ (w : World). w.core.is_shut) (fed_apart world conn piece).rest)

-- ---- openings and ends

-- a new connection waits for nothing yet, and takes no other's place
known_right : (core : Core) (conn : ℕ) (key : List ℕ) (phase : Phase) → IsAgreedIn core.setting.config phase → number_in phase ≡ None → is_new core.connections conn ≡ true → IsSound core →
    IsSound (record core { connections = known_as core.connections conn key phase })
known_right core conn key phase agreed none new p =
    let config = core.setting.config in
    let cs = core.connections in
    record {
      ranges = p.ranges;
      agreed = opened_agreed config cs conn key phase agreed p.agreed;
      owed = owes_more (Talks cs) (Talks (known_as cs conn key phase)) (opened_talks config cs conn key phase p.fresh new) core.services p.owed;
      fresh = opened_fresh config cs conn key phase p.fresh new;
      numbered = opened_numbers cs conn key phase none p.numbered;
    }

not_open : (o : Option Connection) → is_some o ≡ false → is_open_at o ≡ false
not_open None e = refl
not_open (Some connection) e = absurd (false≢true (sym e))

-- one that is turned away is not open, as it was not before
away_at : (config : Configuration) (connections : Connections) (conn : ℕ) (key : List ℕ) → IsFresh connections → is_new connections conn ≡ true → (q : ℕ) → is_open connections q ≡ is_open (known_as connections conn key Closed) q
away_at config connections conn key fresh new q = by (eq_by_cmp nat_cmp q conn) refl ∙ sym (opened_open config connections conn key Closed q)
  where
    by : (b : Bool) → eq_by_cmp nat_cmp q conn ≡ b → is_open connections q ≡ cond b false (is_open connections q)
    by true s = ap (is_open connections) (same_number q conn s) ∙ not_open (get connections.known conn) (fresh conn new)
    by false s = refl

abbrev Right : Result WorldStep StepFault → Type 0
Right r = Kept IsCoherent LosesNone r

-- a connection is welcome only where the server wasn't shut down, and there is room
welcome : (world : World) → refusal_of world ≡ None → (world.core.is_shut ≡ false) × (stepping.has_room world ≡ true)
welcome world = by world.core.is_shut (stepping.has_room world)
  where
    by : (b c : Bool) → cond b (Some status.BAD_SHUTDOWN) (cond c None (Some status.BAD_TCP_NOT_ENOUGH_RESOURCES)) ≡ None → (b ≡ false) × (c ≡ true)
    by true c e = absurd (false≢true (sym (ap is_some e)))
    by false true e = (refl, refl)
    by false false e = absurd (false≢true (sym (ap is_some e)))

opened_by_right : (world : World) (conn : ℕ) (key : List ℕ) (why : Option Status) → refusal_of world ≡ why → is_new world.core.connections conn ≡ true → IsCoherent world →
    Right (Ok (opened_by world conn key why))
opened_by_right world conn key None e new p = (
  record {
    sound = known_right world.core conn key Greeting tt refl new p.sound;
    framers = λ q. set_at world.framers conn (unfed world.core.setting.config.receive_size) q
        ∙ ap (λ (b : Bool). cond (eq_by_cmp nat_cmp q conn) true b) (p.framers q)
        ∙ sym (opened_open world.core.setting.config world.core.connections conn key Greeting q);
    room = greeted_room world conn key (welcome world e).1;
    shut = λ is. absurd (false≢true (sym (welcome world e).0 ∙ is));
  },
  refl,
)
opened_by_right world conn key (Some code) e new p = (
  let away = away_at world.core.setting.config world.core.connections conn key p.sound.fresh new in
      record {
        sound = known_right world.core conn key Closed tt refl new p.sound;
        framers = λ q. p.framers q ∙ away q;
        room = p.room;
        shut = λ is q. sym (away q) ∙ p.shut is q;
      },
  doing_loses_none (turned_away world.core.connections conn key code).outs,
)

opened_right : (world : World) (conn : ℕ) (key : List ℕ) (b : Bool) → is_new world.core.connections conn ≡ b → IsCoherent world →
    Right (cond (not b) (Err KnownConnection) (Ok (opened_by world conn key (refusal_of world))))
opened_right world conn key true new p = opened_by_right world conn key (refusal_of world) refl new p
opened_right world conn key false new p = tt

either_false : (b : Bool) → cond b false false ≡ false
either_false true = refl
either_false false = refl

gone_right : (world : World) (conn : ℕ) → IsCoherent world → IsCoherent (stepping.forgotten world conn)
gone_right world conn p =
    let config = world.core.setting.config in
    let cs = world.core.connections in
    record {
      sound = record {
        ranges = p.sound.ranges;
        agreed = gone_agreed config cs conn p.sound.agreed;
        owed = forgotten_right conn cs (gone cs conn) world.core.services (gone_talks config cs conn) p.sound.owed;
        fresh = gone_fresh config cs conn p.sound.fresh;
        numbered = gone_numbers cs conn p.sound.numbered;
      };
      framers = λ q. gone_at world.framers conn q ∙ ap (λ (b : Bool). cond (eq_by_cmp nat_cmp q conn) false b) (p.framers q) ∙ sym (gone_open config cs conn q);
      room = forgotten_room world conn p.room;
      shut = λ is q. gone_open config cs conn q ∙ ap (cond (eq_by_cmp nat_cmp q conn) false) (p.shut is q) ∙ either_false (eq_by_cmp nat_cmp q conn);
    }

ticked_right : (world : World) (clock : Moment) → IsCoherent world → (let d = ticked_core world.core clock in IsCoherent (record world { core = d.state }) × LosesNone d.outs)
ticked_right world clock p =
    let core = world.core in
    let setting : Setting = record core.setting { clock = clock } in
    let at : Core = record core { setting = setting } in
    let k = answered_right at [] (ticking_of setting core.services) p.sound.ranges p.sound.agreed p.sound.fresh p.sound.numbered (ticking_only (Talks core.connections) setting core.services p.sound.owed) in (
      record { sound = k.0; framers = λ q. p.framers q ∙ sym (k.1 q); room = p.room; shut = λ is q. k.1 q ∙ p.shut is q },
      k.2,
    )

-- ---- the server's end

-- all that waits is answered, and no connection is open then
ended_right : (world : World) → IsCoherent world → (let s = stepping.ended world in IsCoherent s.world × LosesNone s.effects)
ended_right world p =
    let core = world.core in
    let config = core.setting.config in
    let s = shutting_of core.setting core.services in
    let d = delivery_of core.setting core.connections s.replies in
    let after = (shut d.connections).connections in
    let only = shutting_only (Talks core.connections) core.setting core.services p.sound.owed in
    let k = answered_right core [] s p.sound.ranges p.sound.agreed p.sound.fresh p.sound.numbered only in (
      record {
        sound = record {
          ranges = p.sound.ranges;
          agreed = shut_agreed config d.connections;
          owed = shutting_owes_none (Talks core.connections) (Talks after) core.setting core.services only.state;
          fresh = shut_fresh d.connections k.0.fresh;
          numbered = shut_numbered d.connections;
        };
        framers = λ q. ap is_some (get-empty {X = Framing} nat_cmp q) ∙ sym (shut_closed d.connections q);
        room = none_within config.connections;
        shut = λ is q. shut_closed d.connections q;
      },
      loses_none_both (effects_of s.occurrences d) (doing (shut d.connections).outs) k.2 (doing_loses_none (shut d.connections).outs),
    )

shut_right : (world : World) → IsCoherent world → (let s = stepping.shut_down world in IsCoherent s.world × LosesNone s.effects)
unfolding stepping.shut_down
shut_right world p = by world.core.is_shut
  where
    by : (b : Bool) → (let s : WorldStep = cond b (world_step world []) (stepping.ended world) in IsCoherent s.world × LosesNone s.effects)
    by true = (p, refl)
    by false = ended_right world p

if_known_right : (b : Bool) (s : WorldStep) → IsCoherent s.world × LosesNone s.effects → Right (cond b (Ok s) (Err UnknownConnection))
if_known_right true s p = p
if_known_right false s p = tt

-- ---- any event, and any run

-- each event keeps a world coherent, and loses no reply
pub step_right : (world : World) (event : Event) → IsCoherent world → Right (step_of world event)
step_right world (Opened conn key) p = opened_right world conn key (is_new world.core.connections conn) refl p
step_right world (Bytes conn bytes) p = if_known_right (is_known world.core.connections conn) (fed world conn bytes) (fed_right world conn bytes p)
step_right world (Gone conn) p = if_known_right (is_known world.core.connections conn) (world_step (stepping.forgotten world conn) []) (gone_right world conn p, refl)
step_right world (Tick now) p = ticked_right world (later world.core.setting.clock now) p
step_right world Shutdown p = shut_right world p

nobody : (conn : ℕ) → get {X = Connection} {R = nat_cmp} empty conn ≡ None
nobody conn = get-empty nat_cmp conn

unnumbered : (conn n : ℕ) → number_at (get {X = Connection} {R = nat_cmp} empty conn) ≡ Some n → ⊥
unnumbered conn n e = false≢true (ap is_some (sym (ap number_at (nobody conn)) ∙ e))

pub opening_right : (config : Configuration) (space : SpaceState) → AreInRange (limits_of config) → IsCoherent (opening config space)
opening_right config space ranges = record {
  sound = record {
    ranges = ranges;
    agreed = λ conn. subst (IsAgreedAt config) (sym (nobody conn)) tt;
    owed = (tt, refl);
    fresh = λ conn e. ap is_some (nobody conn);
    numbered = record {
      counted = λ conn n e. absurd (unnumbered conn n e);
      distinct = λ conn other n e f. absurd (unnumbered conn n e);
    };
  };
  framers = λ conn. ap is_some (get-empty {X = Framing} nat_cmp conn) ∙ sym (ap is_open_at (nobody conn));
  room = opening_room config space;
  shut = λ is conn. ap is_open_at (nobody conn);
}

-- the limits of a configuration are in their ranges
in_range : (config : Configuration) → IsConfigured config → AreInRange (limits_of config)
in_range config c = record { receive_size = c.receive_size; send_size = c.send_size; max_message = c.max_message; max_chunks = c.max_chunks }

-- whatever happens, the world is coherent, and no event has lost a reply
pub reached_right : (config : Configuration) (space : SpaceState) (events : List Event) → IsConfigured config →
    (let r = reached config space events in IfRuns IsCoherent r.server × AllByRecursion LosesNone r.steps)
reached_right config space events c = lift IsCoherent LosesNone step_right events (opening config space) (opening_right config space (in_range config c))

fits_if : (server : Option World) → IfRuns IsCoherent server → IfRuns AnswersFit server
fits_if None p = tt
fits_if (Some world) p = λ conn. fits_at world.core.setting.config (get world.core.connections.known conn) (p.sound.agreed conn)

-- so the answers that may have to be sent in any case fit
pub reached_fits : (config : Configuration) (space : SpaceState) (events : List Event) → IsConfigured config → IfRuns AnswersFit (reached config space events).server
reached_fits config space events c = fits_if (reached config space events).server (reached_right config space events c).0
