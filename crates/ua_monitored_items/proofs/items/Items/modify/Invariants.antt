use Rattle.std.proofs.Common.{◌≡◌, ◌≤◌, ◌+◌, ◌++◌, length}
use Rattle.std.specs.Vec.{vec_len, vec_capacity}
use Rattle.ua_views.specs.Views.{or_none}
use Rattle.ua_monitored_items.specs.Items.{modify_one, all_served}
use Rattle.ua_monitored_items.proofs.items.Items.modify.Given as goal

-- what was taken so far is served, and there is room for the results of the rest
abbrev pub invariant-loop-request : goal.invariant-loop-request
invariant-loop-request l = record {
  results : l.results.items ≡ (all_served (modify_one l.subscription l.timestamps) l.fn.self l.yielded).results;
  state : l.self ≡ (all_served (modify_one l.subscription l.timestamps) l.fn.self l.yielded).state;
  left : l.yielded ++ or_none l.request-iterator ≡ or_none l.fn.requests;
  room : vec_len l.results + length (or_none l.request-iterator) ≤ vec_capacity l.results;
}
