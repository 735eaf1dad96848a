use Rattle.std.proofs.Common.{◌≡◌, ◌++◌, []}
use Rattle.std.specs.Prelude.{fold}
use Rattle.ua_views.specs.Views.{or_none}
use Rattle.ua_monitored_items.specs.Links.{unlinked}
use Rattle.ua_monitored_items.proofs.links.unlink_all.Given as goal

-- so many links are taken away, and the rest is left
abbrev pub invariant-loop-number : goal.invariant-loop-number
invariant-loop-number l = record {
  statuses : l.statuses.items ≡ (fold unlinked (record { statuses = []; numbers = l.fn.links }) l.yielded).statuses;
  links : l.links ≡ (fold unlinked (record { statuses = []; numbers = l.fn.links }) l.yielded).numbers;
  left : l.yielded ++ or_none l.number-iterator ≡ or_none l.fn.remove;
}
