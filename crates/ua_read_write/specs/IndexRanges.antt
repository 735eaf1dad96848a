-- Index ranges (NumericRange, IEC 62541-4, 7.22): the number of one element of a list, or of a first and of a later last one,
-- with a colon between.
use Rattle.std.specs.Prelude.{ℕ, ◌+◌, ◌-◌, ◌^◌, ◌==◌, Bool, List, [], ◌∷◌, length, nat_lt, Option, Some, None, option_map, Result, Ok, Err, if◌then◌else◌}
use Rattle.std.specs.List.{position_or_len, before_first, after_first}
use Rattle.ua_types.specs.IdTexts.{number_of}
use Rattle.ua_types.specs.declared.status.Status.{Status}
use Rattle.ua_types.specs.declared.status.TheConstants.Status as status
use Rattle.ua_read_write.specs.declared.index_range.IndexRange.{IndexRange}

-- ---- what a text says

abbrev pub is_colon : ℕ → Bool
is_colon byte = byte == 58

-- one to ten decimal digits of a number below 2^31
abbrev pub element_number : List ℕ → Option ℕ
element_number digits = if nat_lt (length digits) 11 then number_of (2 ^ 31) digits else None

abbrev pub one_element : ℕ → IndexRange
one_element number = record { first = number; count = 1 }

-- from a first element to a later last one
abbrev pub from_to : Option ℕ → Option ℕ → Option IndexRange
from_to None last = None
from_to (Some first) None = None
from_to (Some first) (Some last) = if nat_lt first last then Some (record { first = first; count = last - first + 1 }) else None

unfoldable pub index_range_of : List ℕ → Option IndexRange
index_range_of text =
    if nat_lt (position_or_len is_colon text) (length text)
    then from_to (element_number (before_first is_colon text)) (element_number (after_first is_colon text))
    else option_map one_element (element_number text)

-- ---- what a request asks for

abbrev pub if_said : Option IndexRange → Result (Option IndexRange) Status
if_said None = Err status.BAD_INDEX_RANGE_INVALID
if_said (Some range) = Ok (Some range)

-- the whole value where no range is given, and else one that can be read
abbrev pub asked_range : Option (List ℕ) → Result (Option IndexRange) Status
asked_range None = Ok None
asked_range (Some []) = Ok None
asked_range (Some (b ∷ bs)) = if_said (index_range_of (b ∷ bs))
