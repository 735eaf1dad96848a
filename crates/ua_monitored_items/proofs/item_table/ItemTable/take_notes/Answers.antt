use Rattle.ua_monitored_items.proofs.Tables.{table_sent}
use Rattle.ua_monitored_items.proofs.item_table.ItemTable.take_notes.Goals as goal

pub invariant_of-self : goal.invariant_of-self
invariant_of-self c =
    let t = c.self.inside in
    table_sent t.made t.of_subscription t.on_node t.items c.self.invariant c.send_all.new.items c.args.count c.in-Some.numbers.now.keys c.send_all.ensures
