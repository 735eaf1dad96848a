use Rattle.std.proofs.Common.{refl, arith, ◌≡◌}
use Rattle.std.specs.BTreeMap.{is_at}
use Rattle.std.specs.Ordering.{nat_cmp}
use Rattle.ua_monitored_items.proofs.Serving.{on_any}
use Rattle.ua_monitored_items.proofs.Tables.{put_on, put_and_taken}
use Rattle.ua_monitored_items.proofs.item_table.index_item.Goals as goal

pub returns-in_err-put_in-clause-err_subscriptions : goal.returns-in_err-put_in-clause-err_subscriptions
returns-in_err-put_in-clause-err_subscriptions c = on_any c.from_residual.result (λ q same. c.in_err-put_in.ensures.err q)

pub returns-in_err-put_in-clause-err_nodes : goal.returns-in_err-put_in-clause-err_nodes
returns-in_err-put_in-clause-err_nodes c = on_any c.from_residual.result (λ q same. refl)

pub returns-in-Ok-clause-nodes : goal.returns-in-Ok-clause-nodes
returns-in-Ok-clause-nodes c =
    let is_value : c.args.item.now.attribute_id ≡ 13 = omega (arith, c.if-item-ne-VALUE.false) in
    put_on c.args.item.now is_value c.args.on_node.now c.put_node.new.on_node c.args.number c.in-Ok.ensures.ok

pub returns-in-Err-clause-err_subscriptions : goal.returns-in-Err-clause-err_subscriptions
returns-in-Err-clause-err_subscriptions c =
    put_and_taken nat_cmp c.args.of_subscription.now c.put_in.new.index c.take_out.new.index (is_at (nat_cmp c.args.item.now.subscription)) c.args.number c.in_ok-put_in.ensures.ok c.take_out.ensures

pub returns-in-Err-clause-err_nodes : goal.returns-in-Err-clause-err_nodes
returns-in-Err-clause-err_nodes c = λ q same. c.in-Err.ensures.err q
