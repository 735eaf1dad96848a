-- What the code does about a frame and a piece is what is said of it.
use Rattle.std.proofs.Common.{◌≡◌, ℕ, Bool, true, false, cond, if◌then◌else◌, List, ◌++◌, Option, Some, None, Ok, Err, refl, sym, subst, ◌∙◌, ap}
use Rattle.std.specs.Prelude.{⊤}
use Rattle.server_messages.specs.declared.halt.Halt.{Halt}
use Rattle.server_messages.specs.declared.halt.Halt.TheVariants.{Memory, Exhausted}
use Rattle.server_core.specs.Faults.{fault_of}
use Rattle.std.proofs.lemmas.Bool.{false≢true}
use Rattle.std.specs.Ordering.{nat_cmp}
use Rattle.std.specs.FinMap.{FinMap, get, insert, remove}
use Rattle.collections.proofs.NumberMaps.{insert_removed, remove_given}
use Rattle.ua_transport.specs.Feeding.{Feeding, Framing, feeding, feeding_of, framed_of}
use Rattle.ua_transport.specs.Frames.{End, Rest, Broken, held_at, fault_at}
use Rattle.ua_transport.specs.Pieces.{Done, Stepped, and_then, all_handled, refused_if, at_end}
use Rattle.ua_transport.specs.declared.frame.Frame.{Frame}
use Rattle.ua_transport.specs.declared.frame.FrameFault.{FrameFault}
use Rattle.ua_transport.specs.declared.framer.Fed.{Fed}
use Rattle.ua_transport.proofs.PiecesLemmas.{at_end_by_fault}
use Rattle.server_messages.specs.declared.reply.Reply.{Reply}
use Rattle.server_messages.specs.declared.request.Request.{Request}
use Rattle.server_messages.specs.declared.served.Served.{Served}
use Rattle.server_connections.specs.Connecting.{Connections, Taking, taking, taking_after, taking_of}
use Rattle.server_connections.specs.Delivering.{sending, sending_after, Sending, delivery_of}
use Rattle.server_connections.specs.declared.frame_outcome.FrameOutcome.{FrameOutcome}
use Rattle.server_connections.specs.declared.frame_outcome.FrameOutcome.TheVariants as outcome
use Rattle.server_messages.specs.declared.out.Out.{Out}
use Rattle.ua_services.specs.declared.services.Services.{Services}
use Rattle.ua_services.specs.Serving.{Serving, Given, given, given_of}
use Rattle.ua_services.specs.Services.{serving_of}
use Rattle.server_core.specs.declared.out.Step.{Step}
use Rattle.server_core.specs.Effects.{Effect, are_spent, step, no_step, shown}
use Rattle.server_core.specs.Handling.{Doing, doing_so, doing_after, Shows, Handles, asked_for, replies_sent, handled, broken}
use Rattle.server_core.specs.Stepping as stepping
use Rattle.server_core.specs.Stepping.{StepsTo, left_by, with_held, fed_to, fed}
use Rattle.ua_types.specs.Answers as answers
use Rattle.server_core.specs.World.{Core, World}
use Rattle.server_core.proofs.EffectLemmas.{after_answered, answered_spends_none}

-- ---- a request

shape : Core → Connections → Services → Step → Doing
shape core connections state given = doing_so (record core { connections = connections; services = state }) given true

-- replies that were sent after these outs
pub sent_shows : (core : Core) (before : Step) (between : List Out) (s : Serving) (state : Services) (served : Served) (replies : List Reply) (connections : Connections) (outs : List Out) (done : Step) →
    given state served ≡ given_of s → replies ≡ served.replies →
    sending connections outs ≡ sending_after (before.outs ++ between) (delivery_of core.setting core.connections replies) →
    done ≡ step outs (before.rows ++ served.rows) (before.stored ++ served.stored) →
    Shows (record core { connections = connections; services = state }) before done true (replies_sent core between s)
unfolding shape
sent_shows core before between s state served replies connections outs done e g f h =
    let replies_are : replies ≡ s.replies = g ∙ ap (λ (x : Given). x.served.replies) e in
    let d = delivery_of core.setting core.connections s.replies in
    let f' : sending connections outs ≡ sending_after (before.outs ++ between) d = f ∙ ap (λ (rs : List Reply). sending_after (before.outs ++ between) (delivery_of core.setting core.connections rs)) replies_are in
    ap (shape core connections state) h
    ∙ ap (λ (x : Sending). shape core x.connections state (step x.outs (before.rows ++ served.rows) (before.stored ++ served.stored))) f'
    ∙ ap (λ (x : Given). shape core d.connections x.state (step (before.outs ++ between ++ d.outs) (before.rows ++ x.served.rows) (before.stored ++ x.served.stored))) e
    ∙ ap (shape core d.connections s.state) (sym (after_answered before between s.occurrences d))
    ∙ ap (λ (b : Bool). let x : Doing = record (doing_after before (replies_sent core between s)) { spends = b } in x)
    (sym (answered_spends_none between s.occurrences d (sym (ap (λ (x : Given). x.spends) e))))

pub request_shows : (conn : ℕ) (core : Core) (frame : Frame) (before : Step) (after outs : List Out) (done : Step) (found : FrameOutcome) (request : Request) (connections connections' : Connections) (state : Services) (served : Served) (replies : List Reply) →
    taking connections after found ≡ taking_after before.outs (taking_of core.setting conn core.connections frame) → found ≡ outcome.Request request →
    given state served ≡ given_of (serving_of core.setting request core.services) → replies ≡ served.replies →
    sending connections' outs ≡ sending_after after (delivery_of core.setting connections replies) →
    done ≡ step outs (before.rows ++ served.rows) (before.stored ++ served.stored) →
    Shows (record core { connections = connections'; services = state }) before done true (handled conn core frame)
unfolding handled
request_shows conn core frame before after outs done found request connections connections' state served replies e r s g f h =
    let t = taking_of core.setting conn core.connections frame in
    let c : Connections → Core = λ cs. record core { connections = cs } in
    let after_is : after ≡ before.outs ++ t.outs = ap (λ (x : Taking). x.outs) e in
    let f' : sending connections' outs ≡ sending_after (before.outs ++ t.outs) (delivery_of core.setting connections replies) =
    f ∙ ap (λ (os : List Out). sending_after os (delivery_of core.setting connections replies)) after_is in
    sent_shows (c connections) before t.outs (serving_of core.setting request core.services) state served replies connections' outs done s g f' h
    ∙ ap (λ (a : FrameOutcome). doing_after before (asked_for conn (c connections) t.outs a)) (sym r ∙ ap (λ (x : Taking). x.asked) e)
    ∙ ap (λ (x : Taking). doing_after before (asked_for conn (c x.connections) t.outs t.asked)) e

-- ---- a piece

broken_ends : (conn : ℕ) (core : Core) (fault : FrameFault) → (broken conn core fault).goes_on ≡ false
unfolding broken
broken_ends conn core fault = refl

ends_by : (conn : ℕ) (core : Core) (effects : List Effect) (b : Bool) (fault : FrameFault) →
    (and_then (record { state = core; outs = effects; goes_on = b }) (λ s. broken conn s fault)).goes_on ≡ false
ends_by conn core effects true fault = broken_ends conn core fault
ends_by conn core effects false fault = refl

-- a connection that goes on keeps its framer
abbrev pub framers_kept : Bool → ℕ → Framing → FinMap nat_cmp Framing → FinMap nat_cmp Framing
framers_kept goes_on conn framing framers = if goes_on then insert framers conn framing else framers

-- a connection that goes on has bytes to hold
held_if : (conn limit : ℕ) (framers : FinMap nat_cmp Framing) (end : End) (d : Done Core Effect) (b : Bool) → b ≡ (and_then d (refused_if (broken conn) (fault_at end))).goes_on →
    with_held conn limit (cond b (held_at end) None) framers ≡ framers_kept b conn (record { limit = limit; held = held_at end }) framers
held_if conn limit framers (Rest bytes) d true e = refl
held_if conn limit framers (Broken fault) d true e = absurd (false≢true (sym (ends_by conn d.state d.outs d.goes_on fault) ∙ sym e))
held_if conn limit framers end d false e = refl

-- a framer that was changed in its place, and dropped there where the connection doesn't go on
pub kept_in_place : (b : Bool) (conn : ℕ) (framing : Framing) (framers lent left : FinMap nat_cmp Framing) → lent ≡ insert framers conn framing → left ≡ (if b then lent else remove lent conn)
    → framers_kept b conn framing (remove framers conn) ≡ left
kept_in_place true conn framing framers lent left back is = insert_removed framers conn framing ∙ sym back ∙ sym is
kept_in_place false conn framing framers lent left back is = sym (remove_given framers conn framing) ∙ ap (λ m. remove m conn) (sym back) ∙ sym is

pub piece_shows : (world : World) (conn : ℕ) (piece : List ℕ) (framing : Framing) (core : Core) (done : Step) (b : Bool) → get world.framers conn ≡ Some framing →
    (let framed = framed_of framing.limit framing.held piece in
    Shows core no_step done b (and_then (all_handled (handled conn) world.core framed.frames) (refused_if (broken conn) (fault_at framed.end))) →
    ((fed world conn piece).world ≡ record { framers = framers_kept b conn (record { limit = framing.limit; held = held_at framed.end }) (remove world.framers conn); core = core })
    × (shown (fed world conn piece).effects ≡ done) × (are_spent (fed world conn piece).effects ≡ false))
unfolding fed
piece_shows world conn piece framing core done b found e =
    let framed = framed_of framing.limit framing.held piece in
    let d = all_handled (handled conn) world.core framed.frames in
    let last = and_then d (refused_if (broken conn) (fault_at framed.end)) in
    let by_last : at_end (broken conn) framed.end d ≡ record { stream = record { state = last.state; held = cond last.goes_on (held_at framed.end) None }; outs = last.outs } =
    at_end_by_fault (handled conn) (broken conn) framed.end d in
    let at : FinMap nat_cmp Framing → Core → World = λ ls s. record { framers = ls; core = s } in
    let framers = remove world.framers conn in (
      ap (λ (f : Option Framing). (fed_to world conn piece f).world) found
          ∙ ap (λ (x : Stepped Core Effect). at (with_held conn framing.limit x.stream.held framers) x.stream.state) by_last
          ∙ ap (λ (x : Doing). at (with_held conn framing.limit (cond x.goes_on (held_at framed.end) None) framers) x.core) (sym e)
          ∙ ap (λ (ls : FinMap nat_cmp Framing). at ls core) (held_if conn framing.limit framers framed.end d b (ap (λ (x : Doing). x.goes_on) e)),
      ap (λ (f : Option Framing). shown (fed_to world conn piece f).effects) found
          ∙ ap (λ (x : Stepped Core Effect). shown x.outs) by_last
          ∙ ap (λ (x : Doing). x.step) (sym e),
      ap (λ (f : Option Framing). are_spent (fed_to world conn piece f).effects) found
          ∙ ap (λ (x : Stepped Core Effect). are_spent x.outs) by_last
          ∙ ap (λ (x : Doing). x.spends) (sym e),
    )

pub steps_to : (old new : World) (given : Step) (s : stepping.WorldStep) → s.world ≡ new → shown s.effects ≡ given → are_spent s.effects ≡ false →
    StepsTo (Ok given) (Some old) (Some new) (Ok s) × (are_spent s.effects ≡ false)
steps_to old new given s there shown_so unspent = (ap (λ (w : World). answers.step (Ok given) (Some w)) (sym there) ∙ ap (λ (g : Step). answers.step (Ok g) (Some s.world)) (sym shown_so), unspent)

-- a framer that took a piece in its place, and is dropped there where the connection doesn't go on
pub piece_in_place : (world : World) (conn : ℕ) (piece : List ℕ) (before after : Framing) (given : Fed) (core : Core) (begun done : Step) (b : Bool) (lent left : FinMap nat_cmp Framing) → get world.framers conn ≡ Some before →
    begun ≡ no_step → feeding given after ≡ feeding_of before piece → Shows core begun done b (and_then (all_handled (handled conn) world.core given.frames) (refused_if (broken conn) given.fault)) →
    lent ≡ insert world.framers conn after → left ≡ (if b then lent else remove lent conn) →
    StepsTo (Ok done) (Some world) (Some (record { framers = left; core = core })) (Ok (fed world conn piece)) × (are_spent (fed world conn piece).effects ≡ false)
piece_in_place world conn piece before after given core begun done b lent left there none fed_is shows back is =
    let said : Fed → Done Core Effect = λ f. and_then (all_handled (handled conn) world.core f.frames) (refused_if (broken conn) f.fault) in
    let from_nothing = subst (λ (s : Step). Shows core s done b (said given)) none shows in
    let shown_so = piece_shows world conn piece before core done b there
    (subst (λ (f : Fed). Shows core no_step done b (said f)) (ap (λ (x : Feeding). x.fed) fed_is) from_nothing) in
    let at : Framing → World = λ framing. record { framers = framers_kept b conn framing (remove world.framers conn); core = core } in
    steps_to world (record { framers = left; core = core }) done (fed world conn piece)
    (shown_so.0
    ∙ ap (λ (x : Feeding). at x.framing) (sym fed_is)
    ∙ ap (λ (ls : FinMap nat_cmp Framing). record { framers = ls; core = core }) (kept_in_place b conn after world.framers lent left back is))
    shown_so.1 shown_so.2

pub piece_spends : (world : World) (conn : ℕ) (piece : List ℕ) (framing : Framing) → get world.framers conn ≡ Some framing →
    (let framed = framed_of framing.limit framing.held piece in
    (fed world conn piece).effects ≡ (and_then (all_handled (handled conn) world.core framed.frames) (refused_if (broken conn) (fault_at framed.end))).outs)
unfolding fed
piece_spends world conn piece framing found =
    let framed = framed_of framing.limit framing.held piece in
    ap (λ (f : Option Framing). (fed_to world conn piece f).effects) found
    ∙ ap (λ (x : Stepped Core Effect). x.outs) (at_end_by_fault (handled conn) (broken conn) framed.end (all_handled (handled conn) world.core framed.frames))

-- where a piece can't be handled, the server halts
pub piece_halts : (world : World) (conn : ℕ) (piece : List ℕ) (before after : Framing) (given : Fed) (halt : Halt) (core : Core) (begun done : Step) (new : World) → get world.framers conn ≡ Some before →
    feeding given after ≡ feeding_of before piece → Handles (Err halt) core begun done (and_then (all_handled (handled conn) world.core given.frames) (refused_if (broken conn) given.fault)) →
    StepsTo (Err (fault_of halt)) (Some world) (left_by (Err (fault_of halt)) new) (Ok (fed world conn piece)) × ⊤
piece_halts world conn piece before after given Memory core begun done new there fed_is halts = (refl, tt)
piece_halts world conn piece before after given Exhausted core begun done new there fed_is halts = (
  (
    refl,
    ap are_spent (piece_spends world conn piece before there)
        ∙ ap (λ (x : Feeding). are_spent (and_then (all_handled (handled conn) world.core x.fed.frames) (refused_if (broken conn) x.fed.fault)).outs) (sym fed_is) ∙ halts,
  ),
  tt,
)
