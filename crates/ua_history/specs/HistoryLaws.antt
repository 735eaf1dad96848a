-- What follows from the definitions of keeping and of reading.
use Rattle.std.specs.Prelude.{◌≡◌, ◌<◌, ◌≤◌, ◌-◌, ℕ, zero, suc, ℤ, pos, int_lt, Bool, true, false, List, [], ◌++◌, length, map, drop, Option, Some, None, unwrap_or, if◌then◌else◌}
use Rattle.std.specs.BTreeMap.{is_at}
use Rattle.std.specs.List.{AllByRecursion}
use Rattle.std.specs.List.Sorted.{IsStrictlySortedBy}
use Rattle.std.specs.Map.{keys_of}
use Rattle.std.specs.Ordering.{int_cmp, is_eq}
use Rattle.ua_types.specs.NodeIdOrder.{id_cmp}
use Rattle.ua_types.specs.declared.moment.Moment.{Moment}
use Rattle.ua_types.specs.declared.node_id.NodeId.{NodeId}
use Rattle.ua_types.specs.declared.data_value.DataValue.{DataValue}
use Rattle.ua_space.specs.Histories.{rises}
use Rattle.ua_history.specs.Histories.{Values, HistoryState, history_of, value_at, kept_in, kept, dropped, with_all}
use Rattle.ua_history.specs.Intervals.{past, raw}
use Rattle.ua_history.specs.Pages.{shown_of, last_given}
use Rattle.ua_history.specs.declared.intervals.Interval.{Interval}

-- No more values are kept than may be
abbrev pub KeepsWithinBounds : Type 0
KeepsWithinBounds = (most : ℕ) (time : ℤ) (value : DataValue) (values : Values) → length values ≤ most → length (kept_in most time value values) ≤ most

-- The times of a history rise, so none is there twice
abbrev pub IsByTime : Values → Type 0
IsByTime values = IsStrictlySortedBy int_cmp (keys_of values)

-- the value at a time, of one that is put there and what was there before
abbrev pub or_before : Bool → DataValue → Option DataValue → Option DataValue
or_before here value before = if here then Some value else before

-- the value at a time, unless it fell out
abbrev pub unless_dropped : Option Moment → ℤ → Option DataValue → Option DataValue
unless_dropped None t value = value
unless_dropped (Some moment) t value = if is_eq (int_cmp t moment.0) then None else value

-- Beside one more value and the one that falls out for it nothing of a history changes
abbrev pub KeepsOneMore : Type 0
KeepsOneMore = (h : HistoryState) (id : NodeId) (value : DataValue) (time : Moment) (t : ℤ) → IsByTime (history_of id h) → value.source_time ≡ Some time
    → value_at t (history_of id (kept h id value)) ≡ unless_dropped (dropped h id value) t (or_before (is_eq (int_cmp t time.0)) value (value_at t (history_of id h)))

-- one time lies past another, as an interval is read
abbrev pub is_past : Bool → ℤ → ℤ → Bool
is_past is_falling last time = if is_falling then int_lt time last else int_lt last time

-- The times of a page that goes on lie past the last one that was given
abbrev pub GoesPastTheLast : Type 0
GoesPastTheLast = (values : Values) (i : Interval) (last : Moment) → AllByRecursion (λ e. is_past i.is_falling last.0 e.0 ≡ true) (raw values (past i last))

-- what is left of an interval, past a time that was given last, if one was
abbrev pub left_past : Values → Interval → Option Moment → Values
left_past values i None = raw values i
left_past values i (Some last) = raw values (past i last)

-- In an unchanged history the next page begins with what follows this one
abbrev pub NextIsWhatFollows : Type 0
NextIsWhatFollows = (values : Values) (i : Interval) (size : ℕ) (given : Option Moment) (last : Moment) → IsByTime values →
    last_given size (left_past values i given) ≡ Some last → raw values (past i last) ≡ drop size (left_past values i given)

abbrev pub joined_past : (Option Moment → Values) → Option Moment → Values
joined_past further None = []
joined_past further (Some last) = further (Some last)

-- at most so many pages of an unchanged history, each past the last time of the one before it
abbrev pub joined : Values → Interval → ℕ → ℕ → Option Moment → Values
joined values i size zero given = []
joined values i size (suc pages) given =
    let left = left_past values i given in
    shown_of size left ++ joined_past (joined values i size pages) (last_given size left)

-- All pages of an unchanged history joined are its values in the interval, none of them repeated and none skipped, whatever their size
abbrev pub PagesJoinToAll : Type 0
PagesJoinToAll = (values : Values) (i : Interval) (size pages : ℕ) (given : Option Moment) → IsByTime values →
    0 < size → length (left_past values i given) < pages → joined values i size pages given ≡ left_past values i given

-- a value's time, where it has one
abbrev pub time_of : DataValue → ℤ
time_of value = (unwrap_or value.source_time (record { 0 = pos 0 })).0

-- values under their times
abbrev pub timed : List DataValue → Values
timed values = map (λ value. (time_of value, value)) values

-- The history of a node that begins with values by rising time has the last of them, as many as may be kept
abbrev pub BeginsWithTheLast : Type 0
BeginsWithTheLast = (h : HistoryState) (id : NodeId) (values : List DataValue) → history_of id h ≡ [] → rises values ≡ true
    → history_of id (with_all h id values) ≡ drop (length values - h.most) (timed values)

-- What one node begins with is kept of no other
abbrev pub BeginsApart : Type 0
BeginsApart = (h : HistoryState) (id other : NodeId) (values : List DataValue) → is_at (id_cmp other) id ≡ false → is_at (id_cmp id) other ≡ false
    → history_of other (with_all h id values) ≡ history_of other h
