use Rattle.std.proofs.Common.{arith, sym, ◌∙◌}
use Rattle.ua_monitored_items.specs.ItemTables.{numbers_of}
use Rattle.ua_monitored_items.proofs.Ending.{none_if_short, whole}
use Rattle.ua_monitored_items.proofs.Tables.{none_left}
use Rattle.ua_monitored_items.proofs.item_table.ItemTable.remove_all.Goals as goal

pub forget-requires : goal.forget-requires
forget-requires c = none_if_short _ (omega (arith, c.loop.invariant.left, c.loop-test.false, c.loop.auto.counter-end))

pub returns : goal.returns
returns c =
    let none = none_if_short (numbers_of c.args.subscription c.loop.self.items) (omega (arith, c.loop.invariant.left, c.loop-test.false, c.loop.auto.counter-end)) in
    c.forget.ensures ∙ whole c.loop.self c.args.self.now.made _ c.loop.invariant.made (sym (none_left c.args.subscription c.loop.self.items none) ∙ c.loop.invariant.others)
