use Rattle.ua_monitored_items.proofs.Tables.{table_after_sending}
use Rattle.ua_monitored_items.proofs.item_table.ItemTable.send.Goals as goal

pub invariant_of-self : goal.invariant_of-self
invariant_of-self c =
    let t = c.self.inside in
    table_after_sending t.made t.of_subscription t.on_node t.items c.self.invariant c.give.result c.give.new.self c.args.count c.in-Some.numbers.now.keys c.give.ensures.ok c.give.ensures.err
