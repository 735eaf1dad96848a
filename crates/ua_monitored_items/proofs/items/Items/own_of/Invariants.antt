use Rattle.std.proofs.Common.{◌≡◌, ◌++◌, List, ℕ}
use Rattle.std.specs.Prelude.{filter}
use Rattle.ua_monitored_items.specs.Links.{is_own, in_order}
use Rattle.ua_monitored_items.proofs.items.Items.own_of.Given as goal

-- of the first numbers those of its items
abbrev pub invariant-loop-number : goal.invariant-loop-number
invariant-loop-number l =
    (goal.iterator-loop-number).can_next l.number-iterator × (goal.iterator-loop-number).is_finite l.number-iterator
    × (front : List ℕ) × (front ++ l.number-iterator ≡ l.numbers.keys) × (l.own ≡ in_order (filter (is_own l.self l.subscription) front))
