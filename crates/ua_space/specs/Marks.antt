-- Marking the supertypes of a type by their numbers.
use Rattle.std.specs.Prelude.{ℕ, zero, suc, ◌+◌, ◌/◌, ◌%◌, ◌==◌, max, Bool, true, false, List, [], ◌∷◌, Option, Some, None, slice_index_or, slice_set, if◌then◌else◌}
use Rattle.std.specs.Int.{bit_at}
use Rattle.ua_types.specs.declared.node_id.NodeId.{NodeId}
use Rattle.ua_space.specs.declared.triple.Triple.{Triple}

-- the bit of a number: bit n % 64 of word n / 64
abbrev pub bit_of : List ℕ → ℕ → Bool
bit_of words n = bit_at (slice_index_or words (n / 64) 0) (n % 64) == 1

-- the bits of so many numbers, from the first on
unfoldable pub bits_of : List ℕ → ℕ → ℕ → List Bool
bits_of words first zero = []
bits_of words first (suc count) = bit_of words first ∷ bits_of words (suc first) count

abbrev pub is_marked : List Bool → ℕ → Bool
is_marked marks n = slice_index_or marks n false

-- a type is marked; the number that all new marks are below
abbrev pub mark : List Bool × ℕ → Option ℕ → List Bool × ℕ
mark s None = s
mark s (Some n) = if is_marked s.0 n then s else (slice_set s.0 n true, max s.1 (n + 1))

-- the sources of these references are marked, one after the other
unfoldable pub marked : (NodeId → Option ℕ) → List Bool × ℕ → List Triple → List Bool × ℕ
marked number s [] = s
marked number s (t ∷ ts) = marked number (mark s (number t.source)) ts
