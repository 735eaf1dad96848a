use Rattle.std.proofs.Common.{◌≡◌, ◌++◌, map}
use Rattle.ua_views.specs.Views.{or_none}
use Rattle.ua_monitored_items.specs.Preparing.{AreReady}
use Rattle.ua_monitored_items.specs.Releases.{with_releases, modes_release}
use Rattle.ua_monitored_items.specs.declared.preparing.Prepared.{Prepared}
use Rattle.ua_monitored_items.proofs.items.Items.prepare_all.Given as goal

-- the entries so far are prepared, and the rest is left
abbrev pub invariant-loop-number : goal.invariant-loop-number
invariant-loop-number l = record {
  numbers : map (λ (e : Prepared). e.number) l.entries.items ≡ l.yielded;
  releases : l.releases ≡ with_releases l.fn.releases (modes_release l.self l.sampled.subscription l.mode l.yielded);
  ready : AreReady l.sampled.space.now.nodes l.sampled.clock l.sampled.subscription l.mode l.self l.entries.items;
  left : l.yielded ++ or_none l.number-iterator ≡ or_none l.fn.numbers;
}
