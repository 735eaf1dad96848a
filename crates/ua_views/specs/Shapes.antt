-- The size of dimensions, one after another, and how many they are.
use Rattle.std.specs.Prelude.{ℕ, ◌*◌, ◌^◌, ◌-◌, min, List, length, Option, Some, None, nat_lt, if◌then◌else◌}
use Rattle.ua_types.specs.Matrices.{is_shape}

-- the product with one dimension more, up to the greatest number; none where a dimension is negative, which as an
-- unsigned number is 2 ^ 31 or more
abbrev pub with_dimension : Option ℕ → ℕ → Option ℕ
with_dimension None d = None
with_dimension (Some size) d = if nat_lt d (2 ^ 31) then Some (min (size * d) (2 ^ 64 - 1)) else None

-- how many dimensions there are, where so many elements lie in them
abbrev pub rank_where_shaped : List ℕ → ℕ → Option ℕ
rank_where_shaped dimensions count = if is_shape dimensions count then Some (length dimensions) else None
