use Rattle.std.proofs.Common.{◌≡◌, ◌+◌}
use Rattle.ua_monitored_items.specs.Undoing.{undone}
use Rattle.ua_monitored_items.proofs.items.Items.take_back.Given as goal

-- so many numbers were taken back
abbrev pub invariant-loop : goal.invariant-loop
invariant-loop l = record {
  state : l.self ≡ undone l.counter l.fn.self;
  made : l.self.made + l.counter ≡ l.fn.self.made;
}
