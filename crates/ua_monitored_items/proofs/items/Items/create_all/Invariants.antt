use Rattle.std.proofs.Common.{◌≡◌, ◌≤◌, ◌+◌, ◌++◌, length}
use Rattle.std.specs.Vec.{vec_len, vec_capacity}
use Rattle.ua_views.specs.Views.{or_none}
use Rattle.ua_monitored_items.specs.Items.{create_one, all_served}
use Rattle.ua_monitored_items.specs.Undoing.{CanBeUndone}
use Rattle.ua_monitored_items.proofs.items.Items.create_all.Given as goal

-- what was taken so far is served and can be undone, and there is room for the results of the rest
abbrev pub invariant-loop-request : goal.invariant-loop-request
invariant-loop-request l = record {
  results : l.results.items ≡ (all_served (create_one l.sampled.space.now.nodes l.sampled.clock l.sampled.subscription l.timestamps) l.fn.self l.yielded).results;
  state : l.self ≡ (all_served (create_one l.sampled.space.now.nodes l.sampled.clock l.sampled.subscription l.timestamps) l.fn.self l.yielded).state;
  left : l.yielded ++ or_none l.request-iterator ≡ or_none l.fn.requests;
  back : CanBeUndone l.fn.self l.self;
  room : vec_len l.results + length (or_none l.request-iterator) ≤ vec_capacity l.results;
}
