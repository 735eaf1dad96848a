use Rattle.std.proofs.Common.{suc, take, drop, subst}
use Rattle.ua_monitored_items.specs.ItemTables.{NumberedItems}
use Rattle.ua_monitored_items.specs.Items.{VisitedSome}
use Rattle.ua_monitored_items.specs.Sampling.{index_visits}
use Rattle.ua_monitored_items.proofs.Serving.{on_any, split_at}
use Rattle.ua_monitored_items.proofs.sampling.sample_all.Goals as goal

pub returns-in_err-show_node-clause-err : goal.returns-in_err-show_node-clause-err
returns-in_err-show_node-clause-err c =
    let xs = c.args.changed.now in
    let i = c.loop-change.change-index in
    let change = c.change-item.result in
    on_any c.from_residual.result (
      take i xs,
      change,
      drop (suc i) xs,
      split_at xs i change c.loop-change-test.true c.change-item.is,
      subst (λ (es : NumberedItems). VisitedSome es c.show_node.new.items (index_visits c.args.on_node.now change)) c.loop-change.invariant c.in_err-show_node.ensures.err,
    )
