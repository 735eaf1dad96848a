use Rattle.std.proofs.Common.{◌≡◌, ◌++◌, List}
use Rattle.ua_monitored_items.specs.Releases.{all_released}
use Rattle.ua_monitored_items.specs.declared.releases.Release.{Release}
use Rattle.ua_monitored_items.proofs.sampling.release_all.Given as goal

-- the first ones are released, and the rest is left
abbrev pub invariant-loop-release : goal.invariant-loop-release
invariant-loop-release l =
    (goal.iterator-loop-release).can_next l.release-iterator × (goal.iterator-loop-release).is_finite l.release-iterator
    × (front : List Release) × (front ++ l.release-iterator ≡ l.releases)
    × (l.items ≡ all_released l.fn.items front)
