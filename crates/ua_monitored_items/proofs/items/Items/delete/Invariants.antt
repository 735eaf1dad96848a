use Rattle.std.proofs.Common.{◌≡◌, ◌≤◌, ◌+◌, ◌++◌, length}
use Rattle.std.specs.Vec.{vec_len, vec_capacity}
use Rattle.ua_views.specs.Views.{or_none}
use Rattle.ua_monitored_items.specs.Items.{delete_one, all_served}
use Rattle.ua_monitored_items.proofs.items.Items.delete.Given as goal

-- what was taken so far is served, and there is room for the results of the rest
abbrev pub invariant-loop-number : goal.invariant-loop-number
invariant-loop-number l = record {
  results : l.statuses.items ≡ (all_served (delete_one l.subscription) l.fn.self l.yielded).results;
  state : l.self ≡ (all_served (delete_one l.subscription) l.fn.self l.yielded).state;
  left : l.yielded ++ or_none l.number-iterator ≡ or_none l.fn.numbers;
  room : vec_len l.statuses + length (or_none l.number-iterator) ≤ vec_capacity l.statuses;
}
