use Rattle.std.proofs.Common.{arith, length, ap, sym, ◌∙◌}
use Rattle.ua_monitored_items.specs.ItemTables.{numbers_of}
use Rattle.ua_monitored_items.specs.Items.{without_all}
use Rattle.ua_monitored_items.proofs.Ending.{one_less, others_left}
use Rattle.ua_monitored_items.proofs.item_table.ItemTable.remove_first.Goals as goal

pub returns-in-Some-clause-others : goal.returns-in-Some-clause-others
returns-in-Some-clause-others c =
    ap (λ t. without_all c.args.subscription t.items) c.remove.ensures
    ∙ others_left c.args.subscription c.in-Some.number c.args.self.now.items c.in-Some.ensures.own

pub returns-in-Some-clause-left : goal.returns-in-Some-clause-left
returns-in-Some-clause-left c =
    let less = one_less c.args.subscription c.in-Some.number c.args.self.now.items (sym c.in-Some.ensures.first) c.in-Some.ensures.own in
    ap (λ t. length (numbers_of c.args.subscription t.items)) c.remove.ensures ∙ omega (arith, less)
