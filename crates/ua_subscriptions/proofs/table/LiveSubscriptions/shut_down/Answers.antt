use Rattle.std.proofs.Common.{◌≡◌, true, false, ap, ◌∙◌}
use Rattle.ua_types.specs.declared.status.TheConstants.Status as status
use Rattle.ua_subscriptions.specs.Ending.{all_left, shut_down}
use Rattle.ua_subscriptions.specs.Tables.{Stage, stage}
use Rattle.ua_subscriptions.proofs.Shutdowns.{nothing_left, none_waits}
use Rattle.ua_subscriptions.proofs.table.LiveSubscriptions.shut_down.Goals as goal

pub returns-clause-meets : goal.returns-clause-meets
unfolding shut_down
returns-clause-meets c = c.in_ok-leave_all.ensures.left c.close_all.new.items ∙ ap (all_left status.BAD_SHUTDOWN) c.in-Ok.ensures.met

pub returns-clause-empty : goal.returns-clause-empty
returns-clause-empty c = ap (λ (v : Stage). v.table) (returns-clause-meets c) ∙ nothing_left (stage c.args.round.now c.args.self.now c.args.items.now)

pub returns-in_err-leave_all-clause-none : goal.returns-in_err-leave_all-clause-none
returns-in_err-leave_all-clause-none c = λ none calm.
    let before = stage c.args.round.now c.args.self.now c.args.items.now in
    let after = stage c.close_all.new.round c.close_all.new.self c.close_all.new.items in
    let clash : false ≡ true = c.in_err-leave_all.ensures.none (none_waits before after c.in-Ok.ensures.met none calm) in
    absurd (cc)
