-- Writing (IEC 62541-4, section 5, Write): what is stored, and the refusals in their order.
use Rattle.std.specs.Prelude.{◌≡◌, ℕ, ◌+◌, ◌/◌, ◌%◌, ◌==◌, Bool, false, not, nat_le, List, [], ◌∷◌, ◌++◌, Option, Some, None, unwrap_or, Result, Ok, Err, if◌then◌else◌}
use Rattle.std.specs.List.{fold}
use Rattle.ua_types.specs.declared.moment.Moment.{Moment}
use Rattle.ua_types.specs.declared.status.Status.{Status}
use Rattle.ua_types.specs.declared.status.TheConstants.Status as status
use Rattle.ua_types.specs.Parts.{list_len, flat_len, flattened, with_part}
use Rattle.ua_types.specs.Variants.{type_number}
use Rattle.ua_types.specs.declared.data_value.DataValue.{DataValue}
use Rattle.ua_types.specs.declared.variant.Variant.{Variant}
use Rattle.ua_service_messages.specs.declared.writing.WriteValue.{WriteValue}
use Rattle.ua_space.specs.Nodes.{Nodes, node_at}
use Rattle.ua_space.specs.Values.{with_value}
use Rattle.ua_space.specs.Variables.{VariableAttributes, takes}
use Rattle.ua_space.specs.declared.node.Node.{Node}
use Rattle.ua_space.specs.declared.node.ValueRank.{ValueRank}
use Rattle.ua_space.specs.declared.node.ValueRank.TheVariants as ranks
use Rattle.ua_read_write.specs.Attributes.{Attributed, ValueOf, Plain, attribute_at}
use Rattle.ua_read_write.specs.IndexRanges.{asked_range}
use Rattle.ua_read_write.specs.declared.index_range.IndexRange.{IndexRange}
use Rattle.ua_read_write.specs.declared.writing.AcceptedValue.{AcceptedValue}
use Rattle.ua_read_write.specs.declared.writing.Change.{Change}

-- ---- what a variable is to hold

-- the second bit of AccessLevel says whether the value may be written
abbrev pub is_writable : VariableAttributes → Bool
is_writable v = v.access / 2 % 2 == 1

abbrev pub is_of_type : VariableAttributes → Variant → Bool
is_of_type v value = type_number value == v.data_type

-- a list is stored without dimensions
abbrev pub flat : Variant → Option ℕ → Result Variant Status
flat value None = Err status.BAD_TYPE_MISMATCH
flat value (Some len) = Ok (flattened value)

-- Without a range: one value of the variable's type, or a flat list, as the rank says.
abbrev pub whole_judged : ValueRank → VariableAttributes → Variant → Result Variant Status
whole_judged ranks.Scalar v value = if takes v value then Ok value else Err status.BAD_TYPE_MISMATCH
whole_judged ranks.List v value = if is_of_type v value then flat value (flat_len value) else Err status.BAD_TYPE_MISMATCH

abbrev pub has_elements : IndexRange → Option ℕ → Bool
has_elements range None = false
has_elements range (Some len) = nat_le (range.first + range.count) len

abbrev pub replaced : IndexRange → Variant → Variant → Option ℕ → Result Variant Status
replaced range whole value None = Err status.BAD_TYPE_MISMATCH
replaced range whole value (Some len) = if len == range.count then Ok (with_part range.first (flattened value) whole) else Err status.BAD_INDEX_RANGE_INVALID

-- With a range: a flat list of the variable's type, with as many elements as the range has, all of which stand in the variable.
-- What isn't a list has none.
abbrev pub part_judged : IndexRange → VariableAttributes → Variant → Option Variant → Result Variant Status
part_judged range v value None = Err status.BAD_INDEX_RANGE_NO_DATA
part_judged range v value (Some whole) =
    if not (has_elements range (list_len whole)) then Err status.BAD_INDEX_RANGE_NO_DATA
    else if not (is_of_type v value) then Err status.BAD_TYPE_MISMATCH
    else replaced range whole value (flat_len value)

abbrev pub content_judged : Option IndexRange → VariableAttributes → Variant → Result Variant Status
content_judged None v value = whole_judged v.value_rank v value
content_judged (Some range) v value = part_judged range v value v.value.value

abbrev pub value_judged : Option IndexRange → VariableAttributes → Option Variant → Result Variant Status
value_judged range v None = Err status.BAD_WRITE_NOT_SUPPORTED
value_judged range v (Some value) = if not (is_writable v) then Err status.BAD_NOT_WRITABLE else content_judged range v value

abbrev pub range_judged : VariableAttributes → Option Variant → Result (Option IndexRange) Status → Result Variant Status
range_judged v value (Err code) = Err code
range_judged v value (Ok range) = value_judged range v value

abbrev pub attribute_judged : WriteValue → Option Attributed → Result Variant Status
attribute_judged w None = Err status.BAD_ATTRIBUTE_ID_INVALID
attribute_judged w (Some (Plain value)) = Err status.BAD_NOT_WRITABLE
attribute_judged w (Some (ValueOf v)) = range_judged v w.value.value (asked_range w.index_range)

abbrev pub node_judged : WriteValue → Option Node → Result Variant Status
node_judged w None = Err status.BAD_NODE_ID_UNKNOWN
node_judged w (Some node) = attribute_judged w (attribute_at node w.attribute_id)

-- what the variable is to hold where a value is accepted, or why it isn't
unfoldable pub judged : Nodes → WriteValue → Result Variant Status
judged nodes w = node_judged w (node_at w.node_id nodes)

-- ---- one value

-- a value as it is stored: its source's time is the clock where none was written, and its server's time always is
abbrev pub stored_of : Moment → DataValue → DataValue
stored_of clock v = record { value = v.value; status = v.status; source_time = Some (unwrap_or v.source_time clock); server_time = Some clock }

-- what is stored where this is what the variable is to hold
abbrev pub holding_of : Moment → WriteValue → Variant → DataValue
holding_of clock w value = stored_of clock (record w.value { value = Some value })

-- the value as it is stored, with its variable, where it is accepted
abbrev pub accepted_of : Moment → WriteValue → Result Variant Status → Result Change Status
accepted_of clock w (Ok value) = Ok (record { node_id = w.node_id; value = holding_of clock w value })
accepted_of clock w (Err code) = Err code

-- what was accepted, with the variable that was named
abbrev pub change_of : WriteValue → AcceptedValue → Change
change_of w a = record { node_id = w.node_id; value = a.value }

abbrev pub status_of : Result Variant Status → Status
status_of (Ok value) = status.GOOD
status_of (Err code) = code

abbrev pub nodes_after : Moment → WriteValue → Result Variant Status → Nodes → Nodes
nodes_after clock w (Ok value) nodes = with_value w.node_id (holding_of clock w value) nodes
nodes_after clock w (Err code) nodes = nodes

abbrev pub changes_of : Moment → WriteValue → Result Variant Status → List Change
changes_of clock w (Ok value) = record { node_id = w.node_id; value = holding_of clock w value } ∷ []
changes_of clock w (Err code) = []

-- ---- all values

-- what values come to: the nodes after them, the outcome of each, and those that were stored, as they were
pub record Writing : Type 0 where
  pub nodes : Nodes
  pub statuses : List Status
  pub changed : List Change

-- one more value, judged and stored after those before it
abbrev pub with_one : Moment → Writing → WriteValue → Writing
with_one clock before w =
    let verdict = judged before.nodes w in
    record {
      nodes = nodes_after clock w verdict before.nodes;
      statuses = before.statuses ++ status_of verdict ∷ [];
      changed = before.changed ++ changes_of clock w verdict;
    }

abbrev pub nothing_written : Nodes → Writing
nothing_written nodes = record { nodes = nodes; statuses = []; changed = [] }

-- what the service does: one value after the other
abbrev pub write_of : Moment → Nodes → List WriteValue → Writing
write_of clock nodes values = fold (with_one clock) (nothing_written nodes) values

-- ---- words of the contracts

-- some of the values were written, from the first on, and nothing else was done
abbrev pub WroteSome : Moment → Nodes → Nodes → List WriteValue → Type 0
WroteSome clock old new values =
    (written : List WriteValue) × (rest : List WriteValue) × (written ++ rest ≡ values) × (new ≡ (write_of clock old written).nodes)
