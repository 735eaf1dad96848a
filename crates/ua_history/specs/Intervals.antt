-- Intervals of times, and the values in them (reading of raw values, IEC 62541-11).
use Rattle.std.specs.Prelude.{ℤ, pos, int_lt, Bool, true, false, not, reverse, if◌then◌else◌}
use Rattle.std.specs.Ordering.{int_cmp, int_eq, is_gt, is_lt}
use Rattle.std.specs.BTreeMap.Range.{entries_between}
use Rattle.std.specs.declared.ops.Bound.{Bound}
use Rattle.std.specs.declared.ops.Bound.TheVariants.{Included, Excluded, Unbounded}
use Rattle.ua_types.specs.declared.moment.Moment.{Moment}
use Rattle.ua_history.specs.Histories.{Values}
use Rattle.ua_history.specs.declared.intervals.Interval.{Interval}

abbrev pub rising : Bound ℤ → Bound ℤ → Interval
rising low high = record { low = low; high = high; is_falling = false }

abbrev pub falling : Bound ℤ → Bound ℤ → Interval
falling low high = record { low = low; high = high; is_falling = true }

-- with both ends: from the start on, without the end, rising or falling as the end lies behind or before; or that one time
abbrev pub with_both : ℤ → ℤ → Interval
with_both start end =
    if int_lt start end then rising (Included start) (Excluded end)
    else if int_lt end start then falling (Excluded end) (Included start)
    else rising (Included start) (Included start)

-- an end that is 0 isn't given: without an end from the start on, rising; without a start from the end back, falling; without
-- both all times, rising
abbrev pub interval_of : Moment → Moment → Interval
interval_of start end =
    if int_eq start.0 (pos 0) then (if int_eq end.0 (pos 0) then rising Unbounded Unbounded else falling Unbounded (Included end.0))
    else if int_eq end.0 (pos 0) then rising (Included start.0) Unbounded
    else with_both start.0 end.0

-- the times past one that was given
abbrev pub past : Interval → Moment → Interval
past i last = if i.is_falling then record i { high = Excluded last.0 } else record i { low = Excluded last.0 }

abbrev pub in_order : Bool → Values → Values
in_order is_falling values = if is_falling then reverse values else values

-- the values of a history whose times lie in an interval, in its order
abbrev pub raw : Values → Interval → Values
raw values i = in_order i.is_falling (entries_between int_cmp i.low i.high values)

-- ---- words of the contracts

-- whether times may lie between these
abbrev pub is_forward : Bound ℤ → Bound ℤ → Bool
is_forward Unbounded high = true
is_forward (Included a) Unbounded = true
is_forward (Included a) (Included b) = not (is_gt (int_cmp a b))
is_forward (Included a) (Excluded b) = not (is_gt (int_cmp a b))
is_forward (Excluded a) Unbounded = true
is_forward (Excluded a) (Included b) = not (is_gt (int_cmp a b))
is_forward (Excluded a) (Excluded b) = is_lt (int_cmp a b)
