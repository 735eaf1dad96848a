use Rattle.std.proofs.Common.{◌≡◌, [], ◌++◌, length}
use Rattle.std.specs.BTreeMap.Range.{entries_between}
use Rattle.std.specs.List.Sorted.{IsStrictlySortedBy}
use Rattle.std.specs.Map.{keys_of}
use Rattle.std.specs.Ordering.{int_cmp}
use Rattle.collections.specs.Laid.{joined}
use Rattle.collections.proofs.runs.RunsDoubleEndedIterator.next_back.Given as goal

-- nothing is left of the last segment, and the first one and the others have what is left
abbrev pub invariant-loop-segment : goal.invariant-loop-segment
invariant-loop-segment g l = record {
  left : l.self-inside.front ++ entries_between int_cmp l.self-inside.low l.self-inside.high (joined l.self-inside.segments) ≡ l.fn.self;
  back : l.self-inside.back ≡ [];
  sorted : IsStrictlySortedBy int_cmp (keys_of (joined l.self-inside.segments));
}

-- a segment fewer each time
abbrev pub decreases-loop-segment : goal.decreases-loop-segment
decreases-loop-segment g l = length l.self-inside.segments
