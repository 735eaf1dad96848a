use Rattle.std.proofs.Common.{◌≡◌, ℕ}
use Rattle.std.specs.Prelude.{map}
use Rattle.std.specs.BTreeSet.{contains}
use Rattle.std.specs.Map.Iter.{deref}
use Rattle.std.specs.Ordering.{nat_cmp}
use Rattle.ua_subscriptions.specs.DueLists.{past_at}
use Rattle.ua_subscriptions.proofs.due_list.DueList.due.Given as goal

-- the numbers of those that were passed
abbrev pub invariant-loop-due : goal.invariant-loop-due
invariant-loop-due l = (n : ℕ) → contains nat_cmp l.numbers n ≡ past_at l.clock (map deref l.yielded) n
