-- How many there are of each.
use Rattle.std.specs.Prelude.{ℕ, ◌+◌, ◌-◌, nat_le, List, Option, Some, None, if◌then◌else◌}
use Rattle.std.specs.BTreeMap.{is_at, insert_entry}
use Rattle.std.specs.Map.{lookup, set_value, remove_entry}
use Rattle.std.specs.Ordering.{nat_cmp}

-- numbers, and how many there are of each, by rising number
abbrev pub Counts : Type 0
Counts = List (ℕ × ℕ)

abbrev pub count_or_none : Option ℕ → ℕ
count_or_none None = 0
count_or_none (Some count) = count

abbrev pub count_of : Counts → ℕ → ℕ
count_of counts key = count_or_none (lookup (is_at (nat_cmp key)) counts)

abbrev pub one_more : Counts → ℕ → Counts
one_more counts key = insert_entry nat_cmp counts key (count_of counts key + 1)

-- the last one takes its number with it
abbrev pub one_less : Counts → ℕ → Counts
one_less counts key =
    if nat_le (count_of counts key) 1 then remove_entry (is_at (nat_cmp key)) counts
    else set_value (is_at (nat_cmp key)) counts (count_of counts key - 1)
