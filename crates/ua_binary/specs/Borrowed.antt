-- Values that are written where they stand.
use Rattle.std.specs.Prelude.{ℕ, Option, Some, None}
use Rattle.ua_types.specs.declared.variant.Variant.{Variant}
use Rattle.ua_types.specs.Parts.{part_of}

-- a value, or the list of so many of its elements from one on
abbrev pub lent : Option (ℕ × ℕ) → Variant → Variant
lent None value = value
lent (Some part) value = part_of part.0 part.1 value
