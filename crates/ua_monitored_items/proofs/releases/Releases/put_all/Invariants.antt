use Rattle.std.proofs.Common.{◌≡◌, ◌++◌, List, ℕ, map}
use Rattle.ua_monitored_items.specs.Releases.{with_releases}
use Rattle.ua_monitored_items.proofs.releases.Releases.put_all.Given as goal

-- the first numbers are there
abbrev pub invariant-loop-number : goal.invariant-loop-number
invariant-loop-number l =
    (goal.iterator-loop-number).can_next l.number-iterator × (goal.iterator-loop-number).is_finite l.number-iterator
    × (front : List ℕ) × (front ++ l.number-iterator ≡ l.numbers.keys) × (l.self ≡ with_releases l.fn.self (map (λ (n : ℕ). record { subscription = l.fn.subscription; number = n }) front))
