use Rattle.std.proofs.Common.{◌≡◌, ◌∙◌, ap, sym, subst, true, Bool, ℕ, List, ◌∷◌, drop, ◌+◌, ◌<◌, length, get_or}
use Rattle.std.proofs.lemmas.List.{drop_more}
use Rattle.ua_transport.specs.Pieces.{Done, and_then, all_handled}
use Rattle.ua_transport.specs.declared.frame.Frame.{Frame}
use Rattle.server_core.specs.Effects.{Effect, are_spent}
use Rattle.server_core.specs.Handling.{handled, doing_after, Shows}
use Rattle.server_core.specs.World.{Core}
use Rattle.server_core.proofs.EffectLemmas.{shows_next, spent_next, spent_at_first, halts}
use Rattle.server_core.proofs.parts.Core.handle_all.Goals as goal

-- what is left is one frame, and then the rest
unrolled : (conn : ℕ) (core : Core) (frames : List Frame) (i : ℕ) (frame : Frame) → i < length frames → frame ≡ get_or frames i frame →
    and_then (handled conn core frame) (λ s. all_handled (handled conn) s (drop (i + 1) frames)) ≡ all_handled (handled conn) core (drop i frames)
unrolled conn core frames i frame h e =
    ap (λ (f : Frame). all_handled (handled conn) core (f ∷ drop (i + 1) frames)) e
    ∙ ap (all_handled (handled conn) core) (sym (drop_more frames i frame h))

pub returns-in-Err : goal.returns-in-Err
returns-in-Err c =
    let frames = c.args.frames.now in
    let i = c.loop-frame.frame-index in
    let more : Core → Done Core Effect = λ s. all_handled (handled c.args.conn) s (drop (i + 1) frames) in
    let one = handled c.args.conn c.loop-frame.self c.frame-item.result in
    halts c.in-Err.halt _ _ _ _ _ _ one _
    (λ e. c.loop-frame.invariant.spends
    (ap (λ (d : Done Core Effect). are_spent d.outs) (sym (unrolled c.args.conn c.loop-frame.self frames i c.frame-item.result c.loop-frame-test.true c.frame-item.is))
    ∙ spent_at_first more one e))
    c.in-Err.ensures

pub loop-frame-preserved : goal.loop-frame-preserved
loop-frame-preserved c =
    let frames = c.args.frames.now in
    let i = c.loop-frame.frame-index in
    let more : Core → Done Core Effect = λ s. all_handled (handled c.args.conn) s (drop (i + 1) frames) in
    let one = handled c.args.conn c.loop-frame.self c.frame-item.result in
    let new = c.handle.new.self in
    let before = c.loop-frame.step in
    let after = c.handle.new.step in
    let e : Shows new before after true one = subst (λ (b : Bool). Shows new before after b one) c.in-Ok-true.field-0-test c.in-Ok-true.ensures in
    let rest : and_then one more ≡ all_handled (handled c.args.conn) c.loop-frame.self (drop i frames) =
    unrolled c.args.conn c.loop-frame.self frames i c.frame-item.result c.loop-frame-test.true c.frame-item.is in
    record {
      shows = sym (shows_next more new before after one e) ∙ ap (λ (d : Done Core Effect). doing_after before d) rest ∙ c.loop-frame.invariant.shows;
      spends = λ s. c.loop-frame.invariant.spends (ap (λ (d : Done Core Effect). are_spent d.outs) (sym rest) ∙ spent_next more new before after one e s);
    }
