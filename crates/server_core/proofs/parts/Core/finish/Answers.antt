use Rattle.std.proofs.Common.{◌∙◌, ap, sym, subst, Bool, Option, List}
use Rattle.ua_transport.specs.declared.frame.Frame.{Frame}
use Rattle.ua_transport.specs.Pieces.{all_handled, refused_if}
use Rattle.ua_transport.specs.declared.frame.FrameFault.{FrameFault}
use Rattle.server_core.specs.Handling.{Shows, handled, broken, doing_after}
use Rattle.server_core.proofs.EffectLemmas.{shows_next}
use Rattle.server_core.proofs.parts.Core.finish.Goals as goal

pub returns : goal.returns
returns c =
    let conn = c.args.conn in
    let all = all_handled (handled conn) c.args.self.now c.args.fed.now.frames in
    let before = c.args.step.now in
    let mid = c.handle_all.new.self in
    let after = c.handle_all.new.step in
    let e : Shows mid before after _ all = subst (λ (b : Bool). Shows mid before after b all) c.if-not-branch.false
    (subst (λ (frames : List Frame). Shows mid before after c.in_ok-handle_all.field-0 (all_handled (handled conn) c.args.self.now frames)) c.as_slice.ensures c.in_ok-handle_all.ensures) in
    c.in_ok-break_off.ensures
    ∙ ap (λ (f : Option FrameFault). doing_after after (refused_if (broken conn) f mid)) (sym c.in-Some.is)
    ∙ sym (shows_next (refused_if (broken conn) c.args.fed.now.fault) mid before after all e)
