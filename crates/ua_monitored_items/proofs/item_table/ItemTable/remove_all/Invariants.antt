use Rattle.std.proofs.Common.{◌≡◌, ◌+◌, length}
use Rattle.ua_monitored_items.specs.ItemTables.{numbers_of}
use Rattle.ua_monitored_items.specs.Items.{without_all}
use Rattle.ua_monitored_items.proofs.item_table.ItemTable.remove_all.Given as goal

-- so many of the subscription's items are gone, and no other
abbrev pub invariant-loop : goal.invariant-loop
invariant-loop l = record {
  made : l.self.made ≡ l.fn.self.made;
  others : without_all l.subscription l.self.items ≡ without_all l.subscription l.fn.self.items;
  left : length (numbers_of l.subscription l.self.items) + l.counter ≡ l.count;
}
