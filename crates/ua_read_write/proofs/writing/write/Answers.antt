use Rattle.std.proofs.Common.{inr, ap, sym, ◌∙◌, ◌++◌}
use Rattle.ua_views.specs.Views.{or_none}
use Rattle.ua_read_write.proofs.Prefixes.{on_any, wrote_some}
use Rattle.ua_read_write.proofs.writing.write.Goals as goal

pub returns-in_err-status-clause-err : goal.returns-in_err-status-clause-err
returns-in_err-status-clause-err c =
    on_any c.from_residual-in_err-status.result
    (wrote_some c.args.clock c.args.space.now.nodes c.write_one.new.space.nodes _ c.loop-value.yielded (or_none c.next.new.self) (or_none c.args.values) c.in-Some.value
    c.loop-value.invariant.written
    (ap (λ xs. c.loop-value.yielded ++ xs) (sym c.in-Some.ensures.steps) ∙ c.loop-value.invariant.left)
    c.in_err-status.ensures.err)

pub returns-in_err-push-clause-err : goal.returns-in_err-push-clause-err
returns-in_err-push-clause-err c =
    on_any c.from_residual-in_err-push.result
    (wrote_some c.args.clock c.args.space.now.nodes c.write_one.new.space.nodes _ c.loop-value.yielded (or_none c.next.new.self) (or_none c.args.values) c.in-Some.value
    c.loop-value.invariant.written
    (ap (λ xs. c.loop-value.yielded ++ xs) (sym c.in-Some.ensures.steps) ∙ c.loop-value.invariant.left)
    (inr c.in_ok-status.ensures.nodes))
