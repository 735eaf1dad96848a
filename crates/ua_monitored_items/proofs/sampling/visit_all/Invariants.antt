use Rattle.std.proofs.Common.{◌≡◌, ◌++◌, List, [], ℕ}
use Rattle.ua_monitored_items.specs.Items.{sampled_items}
use Rattle.ua_monitored_items.specs.Releases.{with_releases, sample_releases}
use Rattle.ua_monitored_items.specs.Sampling.{visits_by}
use Rattle.ua_monitored_items.proofs.sampling.visit_all.Given as goal

-- the first items have seen the value, what that releases is there, and the rest is left
abbrev pub invariant-loop-number : goal.invariant-loop-number
invariant-loop-number l =
    (goal.iterator-loop-number).can_next l.number-iterator × (goal.iterator-loop-number).is_finite l.number-iterator
    × (front : List ℕ) × (front ++ l.number-iterator ≡ l.numbers.keys)
    × (l.items ≡ sampled_items l.fn.items (visits_by l.value front))
    × (l.releases ≡ with_releases [] (sample_releases l.fn.items (visits_by l.value front)))
