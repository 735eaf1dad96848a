use Rattle.std.proofs.Common.{◌≡◌, take}
use Rattle.ua_subscriptions.specs.Tables.{stage, all_met}
use Rattle.ua_subscriptions.proofs.table.LiveSubscriptions.fire_all.Given as goal

-- those so far have met it
abbrev pub invariant-loop-number : goal.invariant-loop-number
invariant-loop-number l = stage l.round l.self l.items ≡ all_met l.call (stage l.fn.round l.fn.self l.fn.items) (take l.number-index l.numbers)
