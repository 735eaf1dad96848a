use Rattle.std.proofs.Common.{◌≡◌, ◌++◌}
use Rattle.ua_views.specs.Views.{or_none}
use Rattle.ua_subscriptions.specs.Named.{outcome, named_all}
use Rattle.ua_subscriptions.specs.Tables.{stage}
use Rattle.ua_subscriptions.proofs.table.LiveSubscriptions.fire_named.Given as goal

-- those so far have met it, and the rest is left
abbrev pub invariant-loop-number : goal.invariant-loop-number
invariant-loop-number l = record {
  met : outcome l.results (stage l.round l.self l.items) ≡ named_all l.session l.call (stage l.fn.round l.fn.self l.fn.items) l.yielded;
  left : l.yielded ++ or_none l.number-iterator ≡ or_none l.fn.numbers;
}
