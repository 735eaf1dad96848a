use Rattle.std.proofs.Common.{◌≡◌, ◌≤◌, ◌++◌, true, length}
use Rattle.std.specs.Prelude.{reverse}
use Rattle.std.specs.Ordering.{int_cmp}
use Rattle.std.specs.BTreeMap.Range.{entries_between}
use Rattle.ua_history.proofs.pages.falling_page.Given as goal

-- fewer are left each time
abbrev pub decreases-loop-run : goal.decreases-loop-run
decreases-loop-run l = length l.left

-- the values so far and those that are left, from the last on, are all
abbrev pub invariant-loop-run : goal.invariant-loop-run
invariant-loop-run l =
    (l.page.is_falling ≡ true) × (l.page.size ≡ l.count)
    × (l.page.values ++ reverse l.left ≡ reverse (entries_between int_cmp l.fn.low l.fn.high l.values))
    × (length l.page.values ≤ l.count)
