use Rattle.std.proofs.Common.{arith, ◌≡◌}
use Rattle.ua_monitored_items.proofs.Tables.{taken_on}
use Rattle.ua_monitored_items.proofs.item_table.unindex_item.Goals as goal

pub returns-then-item-eq-VALUE-clause-nodes : goal.returns-then-item-eq-VALUE-clause-nodes
returns-then-item-eq-VALUE-clause-nodes c =
    let is_value : c.args.item.now.attribute_id ≡ 13 = omega (arith, c.if-item-eq-VALUE.true) in
    taken_on c.args.item.now is_value c.args.on_node.now c.take_out-then-item-eq-VALUE.new.index c.args.number c.take_out-then-item-eq-VALUE.ensures
