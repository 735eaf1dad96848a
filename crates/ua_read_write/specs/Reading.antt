-- Reading (IEC 62541-4, section 5, Read): what is answered, and the refusals in their order.
use Rattle.std.specs.Prelude.{ℕ, ◌%◌, ◌==◌, Bool, true, not, List, map, Option, Some, None, Result, Ok, Err, nat_lt, if◌then◌else◌}
use Rattle.ua_types.specs.declared.moment.Moment.{Moment}
use Rattle.ua_types.specs.declared.node_id.NodeId.{NodeId}
use Rattle.ua_types.specs.declared.status.Status.{Status}
use Rattle.ua_types.specs.declared.status.TheConstants.Status as status
use Rattle.ua_types.specs.Parts.{list_len}
use Rattle.ua_types.specs.declared.data_value.DataValue.{DataValue}
use Rattle.ua_types.specs.declared.variant.Variant.{Variant}
use Rattle.ua_messages.specs.declared.read_value_ids.ReadValueId.{ReadValueId}
use Rattle.ua_space.specs.Nodes.{Nodes, node_at}
use Rattle.ua_space.specs.Variables.{VariableAttributes}
use Rattle.ua_space.specs.declared.node.Node.{Node}
use Rattle.ua_types.specs.Given.{is_given}
use Rattle.ua_read_write.specs.Attributes.{Attributed, ValueOf, Plain, attribute_at, with_part_alone}
use Rattle.ua_read_write.specs.IndexRanges.{asked_range}
use Rattle.ua_read_write.specs.Timestamps.{has_source, has_server}
use Rattle.ua_read_write.specs.declared.index_range.IndexRange.{IndexRange}
use Rattle.ua_read_write.specs.declared.timestamps.Timestamps.{Timestamps}

-- ---- what is answered

-- a refusal is a status and nothing else
abbrev pub refused : Status → DataValue
refused code = record { value = None; status = code; source_time = None; server_time = None }

abbrev pub source_time_of : Timestamps → DataValue → Option Moment
source_time_of timestamps v = if has_source timestamps then v.source_time else None

abbrev pub server_time_of : Moment → Timestamps → Option Moment
server_time_of clock timestamps = if has_server timestamps then Some clock else None

-- An attribute with the times that are wanted: as the server's the clock, and as the source's, which the value alone has,
-- the one that stands. All other attributes are good.
abbrev pub dated : Moment → Timestamps → Attributed → DataValue
dated clock timestamps (ValueOf v) = record {
  value = v.value.value;
  status = v.value.status;
  source_time = source_time_of timestamps v.value;
  server_time = server_time_of clock timestamps;
}
dated clock timestamps (Plain value) = record {
  value = Some value;
  status = status.GOOD;
  source_time = None;
  server_time = server_time_of clock timestamps;
}

abbrev pub answered : Moment → Timestamps → Result Attributed Status → DataValue
answered clock timestamps (Err code) = refused code
answered clock timestamps (Ok attribute) = dated clock timestamps attribute

-- ---- what may be read

-- the lowest bit of AccessLevel says whether the value may be read; it speaks of no other attribute
abbrev pub is_readable : Attributed → Bool
is_readable (ValueOf v) = v.access % 2 == 1
is_readable (Plain value) = true

abbrev pub readable_in : Option (List ℕ) → Option Attributed → Result Attributed Status
readable_in index_range None = Err status.BAD_ATTRIBUTE_ID_INVALID
readable_in index_range (Some attribute) =
    if is_given index_range then Err status.BAD_INDEX_RANGE_INVALID
    else if not (is_readable attribute) then Err status.BAD_NOT_READABLE
    else Ok attribute

abbrev pub readable_of : ℕ → Option (List ℕ) → Option Node → Result Attributed Status
readable_of number index_range None = Err status.BAD_NODE_ID_UNKNOWN
readable_of number index_range (Some node) = readable_in index_range (attribute_at node number)

-- a whole attribute of a node, or why it can't be read, where no range is served
unfoldable pub readable : Nodes → NodeId → ℕ → Option (List ℕ) → Result Attributed Status
readable nodes id number index_range = readable_of number index_range (node_at id nodes)

-- why an attribute can't be read, if it can't
abbrev pub refusal_in : Result Attributed Status → Option Status
refusal_in (Ok attribute) = None
refusal_in (Err code) = Some code

-- what is answered where a whole attribute is asked for, and no range is served
abbrev pub attribute_read : Nodes → Moment → Timestamps → NodeId → ℕ → Option (List ℕ) → DataValue
attribute_read nodes clock timestamps id number index_range = answered clock timestamps (readable nodes id number index_range)

-- ---- parts of lists

abbrev pub len_of : Option Variant → Option ℕ
len_of None = None
len_of (Some value) = list_len value

-- the part, where the list goes on at its first element; what isn't a list has none
abbrev pub part_within : IndexRange → VariableAttributes → Option ℕ → Result Attributed Status
part_within range v None = Err status.BAD_INDEX_RANGE_NO_DATA
part_within range v (Some len) = if nat_lt range.first len then Ok (ValueOf (with_part_alone range v)) else Err status.BAD_INDEX_RANGE_NO_DATA

-- no other attribute is a list
abbrev pub ranged : Option IndexRange → Attributed → Result Attributed Status
ranged None attribute = Ok attribute
ranged (Some range) (Plain value) = Err status.BAD_INDEX_RANGE_NO_DATA
ranged (Some range) (ValueOf v) = part_within range v (len_of v.value.value)

abbrev pub told_in : Result (Option IndexRange) Status → Option Attributed → Result Attributed Status
told_in range None = Err status.BAD_ATTRIBUTE_ID_INVALID
told_in (Err code) (Some attribute) = Err code
told_in (Ok range) (Some attribute) = if not (is_readable attribute) then Err status.BAD_NOT_READABLE else ranged range attribute

abbrev pub told_of : ℕ → Option (List ℕ) → Option Node → Result Attributed Status
told_of number index_range None = Err status.BAD_NODE_ID_UNKNOWN
told_of number index_range (Some node) = told_in (asked_range index_range) (attribute_at node number)

-- an attribute of a node, or the part of it that a range asks for, or why it isn't told
unfoldable pub told : Nodes → NodeId → ℕ → Option (List ℕ) → Result Attributed Status
told nodes id number index_range = told_of number index_range (node_at id nodes)

-- ---- the service

-- what is answered where an attribute, or a part of it, is asked for
abbrev pub range_read : Nodes → Moment → Timestamps → NodeId → ℕ → Option (List ℕ) → DataValue
range_read nodes clock timestamps id number index_range = answered clock timestamps (told nodes id number index_range)

-- the answer to one read
abbrev pub read_of : Nodes → Moment → Timestamps → ReadValueId → DataValue
read_of nodes clock timestamps request = range_read nodes clock timestamps request.node_id request.attribute_id request.index_range

-- the answers to all, in their order
abbrev pub all_read : Nodes → Moment → Timestamps → List ReadValueId → List DataValue
all_read nodes clock timestamps requests = map (read_of nodes clock timestamps) requests
