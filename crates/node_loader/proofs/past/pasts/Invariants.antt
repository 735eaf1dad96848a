use Rattle.std.proofs.Common.{◌≡◌, ◌≤◌, drop}
use Rattle.toml.specs.View.{items_view}
use Rattle.node_loader.specs.Lists.{after}
use Rattle.node_loader.specs.Past.{pasts_of}
use Rattle.node_loader.proofs.past.pasts.Given as goal

-- the values so far, and what the others say
abbrev pub invariant-loop-value : goal.invariant-loop-value
invariant-loop-value l = record {
  values : after l.all.items (pasts_of l.setting l.form l.last (items_view (drop l.value-index l.values))) ≡ pasts_of l.setting l.form 0 (items_view l.values);
  last : l.last ≤ 9223372036854775807;
}
