-- Where a time stands: in a segment, and among segments.
use Rattle.std.specs.Prelude.{◌≡◌, ◌-◌, slice_get, ◌<◌, ◌≤◌, ℕ, ℤ, List, ◌∷◌, ◌++◌, length, slice_index_or, IfSome, IsSome, IsSomeAnd, ◌⊎◌}
use Rattle.std.specs.BTreeMap.{is_at}
use Rattle.std.specs.BTreeMap.Range.{IsLeBy, IsLtBy}
use Rattle.std.specs.List.{AllByRecursion, AllWithin}
use Rattle.std.specs.Map.{lookup}
use Rattle.std.specs.Ordering.{int_cmp}
use Rattle.std.specs.declared.collections.VecDeque.{VecDeque}

-- the entry at this place has this time
pub record IsAt {V : Type 0} (time : ℤ) (es : List (ℤ × V)) (i : ℕ) : Type 0 where
  pub in_range : i < length es
  pub has_time : (d : ℤ × V) → (slice_index_or es i d).0 ≡ time

-- no entry has this time, and one that has it would stand at this place
pub record IsGapFor {V : Type 0} (time : ℤ) (es : List (ℤ × V)) (i : ℕ) : Type 0 where
  pub in_range : i ≤ length es
  pub before : AllWithin (λ e. IsLtBy int_cmp e.0 time) es 0 i
  pub after : AllWithin (λ e. IsLtBy int_cmp time e.0) es i (length es)

module _ {V Z : Type 0} where
  -- a time belongs to the last of the segments that stand under this time or an earlier one
  pub record BelongsTo (time : ℤ) (ss : List (ℤ × VecDeque (ℤ × V) Z)) (start : ℤ) : Type 0 where
    pub before : List (ℤ × VecDeque (ℤ × V) Z)
    pub segment : VecDeque (ℤ × V) Z
    pub after : List (ℤ × VecDeque (ℤ × V) Z)
    pub is : ss ≡ before ++ (start, segment) ∷ after
    pub from : IsLeBy int_cmp start time
    pub past : AllByRecursion (λ s. IsLtBy int_cmp time s.0) after

  -- the segment that stands under this start has an entry of this time, or room for one
  abbrev pub HasRoom : ℤ → ℤ → List (ℤ × VecDeque (ℤ × V) Z) → Type 0
  HasRoom time start ss = IfSome (lookup (is_at (int_cmp start)) ss) (λ q. (length q.items < 64) ⊎ IsSome (lookup (is_at (int_cmp time)) q.items))

  -- there is a last segment, and it has room
  abbrev pub HasRoomAtEnd : List (ℤ × VecDeque (ℤ × V) Z) → Type 0
  HasRoomAtEnd ss = IsSomeAnd (slice_get ss (length ss - 1)) (λ s. length s.1.items < 64)

  -- under this start stands a segment that has no room
  abbrev pub IsFull : ℤ → List (ℤ × VecDeque (ℤ × V) Z) → Type 0
  IsFull start ss = IsSomeAnd (lookup (is_at (int_cmp start)) ss) (λ q. 64 ≤ length q.items)

  -- each stands under a later time
  abbrev pub BelongsToNone : ℤ → List (ℤ × VecDeque (ℤ × V) Z) → Type 0
  BelongsToNone time ss = AllByRecursion (λ s. IsLtBy int_cmp time s.0) ss
