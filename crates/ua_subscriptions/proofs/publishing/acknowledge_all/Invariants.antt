use Rattle.std.proofs.Common.{◌≡◌, ◌++◌, List}
use Rattle.ua_views.specs.Views.{or_none}
use Rattle.ua_subscriptions.specs.declared.due_list.Due.{Due}
use Rattle.ua_subscriptions.specs.DueLists.{AreListed}
use Rattle.ua_subscriptions.specs.Publishing.{acknowledged_all}
use Rattle.ua_subscriptions.proofs.publishing.acknowledge_all.Given as goal

-- those so far, and the rest is left; the timers are as they were
abbrev pub invariant-loop-acknowledgement : goal.invariant-loop-acknowledgement
invariant-loop-acknowledgement l = record {
  taken : record { results = l.results; subscriptions = l.subscriptions.entries } ≡ acknowledged_all l.session l.fn.subscriptions.entries l.yielded;
  listed : (dues : List Due) → AreListed l.fn.subscriptions.entries dues → AreListed l.subscriptions.entries dues;
  left : l.yielded ++ or_none l.acknowledgement-iterator ≡ or_none l.fn.acknowledgements;
}
