use Rattle.std.proofs.Common.{◌≡◌, ◌≤◌, ◌+◌, ◌++◌, length, map}
use Rattle.std.specs.Vec.{vec_len, vec_capacity}
use Rattle.std.specs.Vec.Iter.{into_iter_items}
use Rattle.ua_views.specs.Views.{or_none}
use Rattle.ua_monitored_items.specs.Items.{mode_one, all_served}
use Rattle.ua_monitored_items.specs.Preparing.{AreReady}
use Rattle.ua_monitored_items.specs.declared.preparing.Prepared.{Prepared}
use Rattle.ua_monitored_items.proofs.items.Items.mode_all.Given as goal

-- what was taken so far is served, and the rest is ready and has room for its results
abbrev pub invariant-loop-prepared : goal.invariant-loop-prepared
invariant-loop-prepared l = record {
  results : l.results.items ≡ (all_served (mode_one l.sampled.space.now.nodes l.sampled.clock l.sampled.subscription l.mode) l.fn.self (map (λ (e : Prepared). e.number) l.yielded)).results;
  state : l.self ≡ (all_served (mode_one l.sampled.space.now.nodes l.sampled.clock l.sampled.subscription l.mode) l.fn.self (map (λ (e : Prepared). e.number) l.yielded)).state;
  left : map (λ (e : Prepared). e.number) (l.yielded ++ into_iter_items l.prepared-iterator) ≡ or_none l.fn.numbers;
  ready : AreReady l.sampled.space.now.nodes l.sampled.clock l.sampled.subscription l.mode l.self (into_iter_items l.prepared-iterator);
  room : vec_len l.results + length (into_iter_items l.prepared-iterator) ≤ vec_capacity l.results;
}
