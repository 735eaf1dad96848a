-- A piece cut in two does the same.
use Rattle.std.proofs.Common.{◌≡◌, ℕ, List, ◌++◌, Option, Some, None, refl, sym, ◌∙◌, ap, append-nil}
use Rattle.std.specs.Ordering.{nat_cmp}
use Rattle.std.specs.FinMap.{FinMap, get, insert, remove}
use Rattle.ua_transport.specs.Feeding.{Framing, framed_of}
use Rattle.ua_transport.specs.Pieces.{Stepped, all_handled, at_end, piece_on, piece_served, then_step}
use Rattle.ua_transport.specs.declared.frame.FrameFault.TheVariants.{Failed}
use Rattle.ua_transport.proofs.PiecesLemmas.{cut_held}
use Rattle.collections.proofs.NumberMaps.{get_inserted, get_removed, remove_inserted}
use Rattle.server_core.specs.Effects.{Effect}
use Rattle.server_core.specs.World.{World, Core}
use Rattle.server_core.specs.Handling.{handled, broken}
use Rattle.server_core.specs.Stepping.{world_step, with_held, placed, fed_to, fed, fed_twice}

-- what a piece does to one connection's framer and the rest
brought_on : ℕ → ℕ → Core → Option (List ℕ) → List ℕ → Stepped Core Effect
brought_on conn limit core held piece =
    at_end (broken conn) (framed_of limit held piece).end (all_handled (handled conn) core (framed_of limit held piece).frames)

brought_cut : (conn limit : ℕ) (core : Core) (held : Option (List ℕ)) (a b : List ℕ) → brought_on conn limit core held (a ++ b) ≡ then_step (brought_on conn limit core held a) (λ s. piece_served (handled conn) (broken conn) limit s b)
unfolding brought_on
brought_cut conn limit core (Some held) a b = cut_held (handled conn) (broken conn) limit core (Some held) a b
brought_cut conn limit core None a b =
    ap (λ (os : List Effect). record { stream = record { state = (broken conn core Failed).state; held = None }; outs = os }) (sym (append-nil (broken conn core Failed).outs))

-- the second piece, by what is held after the first
second : (world : World) (conn limit : ℕ) (core : Core) (held : Option (List ℕ)) (outs : List Effect) (b : List ℕ) →
    let between : World = record { framers = with_held conn limit held (remove world.framers conn); core = core } in
    placed world conn limit (then_step (record { stream = record { state = core; held = held }; outs = outs }) (λ s. piece_served (handled conn) (broken conn) limit s b))
    ≡ world_step (fed between conn b).world (outs ++ (fed between conn b).effects)
unfolding fed
second world conn limit core None outs b =
    let between : World = record { framers = remove world.framers conn; core = core } in
    sym (ap (λ (f : Option Framing). world_step (fed_to between conn b f).world (outs ++ (fed_to between conn b f).effects)) (get_removed world.framers conn))
second world conn limit core (Some held) outs b =
    let framing : Framing = record { limit = limit; held = Some held } in
    let between : World = record { framers = insert (remove world.framers conn) conn framing; core = core } in
    let step = piece_on (handled conn) (broken conn) limit core (Some held) b in
    ap (λ (m : FinMap nat_cmp Framing). world_step (record { framers = with_held conn limit step.stream.held m; core = step.stream.state }) (outs ++ step.outs)) (sym (remove_inserted world.framers conn framing))
    ∙ sym (ap (λ (f : Option Framing). world_step (fed_to between conn b f).world (outs ++ (fed_to between conn b f).effects)) (get_inserted (remove world.framers conn) conn framing))

cut_with : (world : World) (conn : ℕ) (a b : List ℕ) (found : Option Framing) → get world.framers conn ≡ found →
    fed_to world conn (a ++ b) found ≡ world_step (fed (fed_to world conn a found).world conn b).world ((fed_to world conn a found).effects ++ (fed (fed_to world conn a found).world conn b).effects)
unfolding brought_on fed
cut_with world conn a b None e =
    sym (ap (λ (f : Option Framing). world_step (fed_to world conn b f).world (fed_to world conn b f).effects) e)
cut_with world conn a b (Some framing) e =
    let first = brought_on conn framing.limit world.core framing.held a in
    ap (placed world conn framing.limit) (brought_cut conn framing.limit world.core framing.held a b)
    ∙ second world conn framing.limit first.stream.state first.stream.held first.outs b

-- a piece cut in two does the same, joined
pub fed-cut : (world : World) (conn : ℕ) (a b : List ℕ) → fed world conn (a ++ b) ≡ fed_twice world conn a b
unfolding fed
fed-cut world conn a b = cut_with world conn a b (get world.framers conn) refl
