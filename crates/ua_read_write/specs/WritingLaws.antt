-- What a Write does to nodes, told from its outcome; what becomes of each value, told by itself; and what is read then.
use Rattle.std.specs.Prelude.{◌≡◌, Bool, true, not, List, [], ◌∷◌, map, Option, Some, None, Ok, option_map, if◌then◌else◌}
use Rattle.std.specs.List.{fold, flat_map, list_all}
use Rattle.ua_types.specs.Given.{is_given}
use Rattle.ua_types.specs.NodeIdOrder.{same_id}
use Rattle.ua_types.specs.declared.moment.Moment.{Moment}
use Rattle.ua_types.specs.declared.node_id.NodeId.{NodeId}
use Rattle.ua_types.specs.Parts.{flattened}
use Rattle.ua_types.specs.declared.variant.Variant.{Variant}
use Rattle.ua_types.specs.declared.data_value.DataValue.{DataValue}
use Rattle.ua_service_messages.specs.declared.writing.WriteValue.{WriteValue}
use Rattle.ua_space.specs.Nodes.{Nodes, node_at}
use Rattle.ua_space.specs.Values.{variable_at, holding}
use Rattle.ua_space.specs.Variables.{VariableAttributes, IsTyped}
use Rattle.ua_space.specs.declared.node.Node.{Node}
use Rattle.ua_read_write.specs.Attributes.{ValueOf}
use Rattle.ua_read_write.specs.Reading.{is_readable, dated, range_read}
use Rattle.ua_read_write.specs.Writing.{holding_of, judged, status_of, changes_of, write_of}
use Rattle.ua_read_write.specs.IndexRanges.{asked_range}
use Rattle.ua_read_write.specs.declared.index_range.IndexRange.{IndexRange}
use Rattle.ua_read_write.specs.declared.timestamps.Timestamps.{Timestamps}
use Rattle.ua_read_write.specs.declared.writing.Change.{Change}

abbrev pub later : NodeId → Option DataValue → Change → Option DataValue
later id found change = if same_id change.node_id id then Some change.value else found

-- the last of the values that a variable was given
abbrev pub latest : NodeId → List Change → Option DataValue
latest id changes = fold (later id) None changes

-- a node with another value, if it was given one
abbrev pub revalued : Option DataValue → Node → Node
revalued None node = node
revalued (Some value) node = record node { details = holding value node.details }

-- each node is afterwards what it was, but that a variable has the last of the values that it was given
abbrev pub ChangesValuesAlone : Type 0
ChangesValuesAlone = (clock : Moment) (nodes : Nodes) (values : List WriteValue) (id : NodeId) →
    node_at id (write_of clock nodes values).nodes ≡ option_map (revalued (latest id (write_of clock nodes values).changed)) (node_at id nodes)

-- no index range is given
abbrev pub is_whole : WriteValue → Bool
is_whole w = not (is_given w.index_range)

-- a value without an index range is judged as if it were alone, whatever was written before it; one with a range is judged by
-- the list that those before it left
abbrev pub JudgesWholeValuesAlone : Type 0
JudgesWholeValuesAlone = (clock : Moment) (nodes : Nodes) (before : List WriteValue) (w : WriteValue) → is_whole w ≡ true →
    judged (write_of clock nodes before).nodes w ≡ judged nodes w

-- where no value has an index range, each is judged as if it were alone, and those that are accepted are stored, in their order
abbrev pub JudgesEachAlone : Type 0
JudgesEachAlone = (clock : Moment) (nodes : Nodes) (values : List WriteValue) → list_all is_whole values ≡ true →
    ((write_of clock nodes values).statuses ≡ map (λ w. status_of (judged nodes w)) values)
    × ((write_of clock nodes values).changed ≡ flat_map (λ w. changes_of clock w (judged nodes w)) values)

-- the value that a variable was given last is the one that is read of it then, where it may be read
abbrev pub ReadsWhatWasWritten : Type 0
ReadsWhatWasWritten = (clock now : Moment) (timestamps : Timestamps) (nodes : Nodes) (values : List WriteValue) (id : NodeId) (v : VariableAttributes) (value : DataValue) →
    variable_at id nodes ≡ Some v → is_readable (ValueOf v) ≡ true → latest id (write_of clock nodes values).changed ≡ Some value →
    range_read (write_of clock nodes values).nodes now timestamps id 13 None ≡ dated now timestamps (ValueOf (record v { value = value }))

-- where elements of a variable's list were written, what is read of their range then is what was written, without its dimension
abbrev pub ReadsThePartThatWasWritten : Type 0
ReadsThePartThatWasWritten = (clock now : Moment) (timestamps : Timestamps) (nodes : Nodes) (w : WriteValue) (v : VariableAttributes) (range : IndexRange) (part new : Variant) →
    variable_at w.node_id nodes ≡ Some v → IsTyped v → is_readable (ValueOf v) ≡ true →
    w.attribute_id ≡ 13 → asked_range w.index_range ≡ Ok (Some range) → w.value.value ≡ Some part → judged nodes w ≡ Ok new →
    range_read (write_of clock nodes (w ∷ [])).nodes now timestamps w.node_id 13 w.index_range ≡ dated now timestamps (ValueOf (record v { value = holding_of clock w (flattened part) }))
