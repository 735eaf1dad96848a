use Rattle.std.proofs.Common.{◌≡◌, ◌≤◌, ◌++◌, false, length}
use Rattle.std.specs.Ordering.{int_cmp}
use Rattle.std.specs.BTreeMap.Range.{entries_between}
use Rattle.ua_history.proofs.pages.rising_page.Given as goal

-- the values so far and those that are left are all
abbrev pub invariant-loop-run : goal.invariant-loop-run
invariant-loop-run l =
    (goal.iterator-loop-run).can_next l.run-iterator × (goal.iterator-loop-run).is_finite l.run-iterator
    × (l.page.is_falling ≡ false) × (l.page.size ≡ l.count)
    × (l.page.values ++ l.run-iterator ≡ entries_between int_cmp l.fn.low l.fn.high l.values)
    × (length l.page.values ≤ l.count)
