-- Entries in segments: a list of segments, each under a time, seen as one list of entries.
use Rattle.std.specs.Prelude.{◌<◌, ◌≤◌, ℤ, List, [], ◌∷◌, ◌++◌, length}
use Rattle.std.specs.BTreeMap.Range.{IsLeBy, IsLtBy}
use Rattle.std.specs.List.{AllByRecursion}
use Rattle.std.specs.Ordering.{int_cmp}
use Rattle.std.specs.declared.collections.VecDeque.{VecDeque}

-- each time is this one or later, or lies before it
abbrev pub AllFrom : {V : Type 0} → ℤ → List (ℤ × V) → Type 0
AllFrom time es = AllByRecursion (λ e. IsLeBy int_cmp time e.0) es

abbrev pub AllBefore : {V : Type 0} → ℤ → List (ℤ × V) → Type 0
AllBefore time es = AllByRecursion (λ e. IsLtBy int_cmp e.0 time) es

module _ {V Z : Type 0} where
  -- the entries of all segments
  abbrev pub joined : List (ℤ × VecDeque (ℤ × V) Z) → List (ℤ × V)
  joined [] = []
  joined (s ∷ ss) = s.1.items ++ joined ss

  -- a segment has some entries, at most 64, and none before the time under which it stands
  abbrev pub IsSegment : ℤ × VecDeque (ℤ × V) Z → Type 0
  IsSegment s = (0 < length s.1.items) × (length s.1.items ≤ 64) × AllFrom s.0 s.1.items

  -- each is a segment, and its entries lie before the times of those after it
  abbrev pub IsLaid : List (ℤ × VecDeque (ℤ × V) Z) → Type 0
  IsLaid [] = Unit {0}
  IsLaid (s ∷ ss) = IsSegment s × AllByRecursion (λ later. AllBefore later.0 s.1.items) ss × IsLaid ss
