-- Reading raw values of a node (HistoryRead, IEC 62541-4; reading of raw values, IEC 62541-11): the refusals in their order, pages,
-- and the points by which they go on.
use Rattle.std.specs.Prelude.{ℕ, ◌/◌, ◌%◌, ◌==◌, Bool, not, List, [], ◌∷◌, Option, Some, None, Result, Ok, Err, if◌then◌else◌}
use Rattle.std.specs.FinMap.{get}
use Rattle.std.specs.Result.{result_map_both}
use Rattle.ua_types.specs.Answers.{◌>>=◌, Step, step}
use Rattle.ua_types.specs.NodeIdOrder.{same_id}
use Rattle.ua_types.specs.declared.moment.Moment.{Moment}
use Rattle.ua_types.specs.declared.node_id.NodeId.{NodeId}
use Rattle.ua_types.specs.declared.status.Status.{Status}
use Rattle.ua_types.specs.declared.status.TheConstants.Status as status
use Rattle.ua_service_messages.specs.declared.history.HistoryReadValueId.{HistoryReadValueId}
use Rattle.ua_session.specs.Points.{PointsState, hold_of, replace_of, without_point, serial_of}
use Rattle.ua_session.specs.declared.points.HistoryPoint.{HistoryPoint}
use Rattle.ua_session.specs.declared.points.Point.{Point}
use Rattle.ua_session.specs.declared.points.Point.TheVariants as points
use Rattle.ua_space.specs.Nodes.{Nodes, node_at}
use Rattle.ua_space.specs.Values.{variable_in}
use Rattle.ua_space.specs.Variables.{VariableAttributes}
use Rattle.ua_space.specs.declared.node.Node.{Node}
use Rattle.ua_types.specs.Given.{is_given}
use Rattle.ua_history.specs.Histories.{Values, HistoryState, history_of}
use Rattle.ua_history.specs.Intervals.{interval_of, past, raw}
use Rattle.ua_history.specs.Pages.{shown_of, last_given}
use Rattle.ua_history.specs.declared.reading.Page.{Page}
use Rattle.ua_history.specs.declared.reading.RawRange.{RawRange}

-- ---- what may be read

-- the third bit of AccessLevel says whether the history may be read
abbrev pub is_history_readable : VariableAttributes → Bool
is_history_readable v = v.access / 4 % 2 == 1

abbrev pub variable_judged : Option (List ℕ) → Option VariableAttributes → Result (Unit {0}) Status
variable_judged index_range None = Err status.BAD_HISTORY_OPERATION_UNSUPPORTED
variable_judged index_range (Some v) =
    if not (is_history_readable v) then Err status.BAD_HISTORY_OPERATION_UNSUPPORTED
    else if is_given index_range then Err status.BAD_INDEX_RANGE_INVALID
    else Ok tt

abbrev pub node_judged : Option (List ℕ) → Option Node → Result (Unit {0}) Status
node_judged index_range None = Err status.BAD_NODE_ID_UNKNOWN
node_judged index_range (Some node) = variable_judged index_range (variable_in node.details)

-- whether the history of a node may be read, or why not
unfoldable pub judged : Nodes → HistoryReadValueId → Result (Unit {0}) Status
judged nodes asked = node_judged asked.index_range (node_at asked.node_id nodes)

-- ---- one page

-- what is told of a page: its values with their times, and the serial of the point for the next one
pub record RawPage : Type 0 where
  pub status : Status
  pub point : Option ℕ
  pub values : Values

-- a page without a value is good too, and says so
abbrev pub page_status : Values → Status
page_status [] = status.GOOD_NO_DATA
page_status (v ∷ vs) = status.GOOD

abbrev pub page_of : Values → Option ℕ → RawPage
page_of shown point = record { status = page_status shown; point = point; values = shown }

-- a page with the point for the next one, or the refusal of that point in its place
abbrev pub with_point : Values → Step ℕ Status PointsState → Step RawPage Status PointsState
with_point shown held = step (result_map_both (λ serial. page_of shown (Some serial)) (λ code. code) held.answer) held.state

-- ---- the first page

abbrev pub point_after : NodeId → RawRange → Moment → Point
point_after id range last = points.History (record { node_id = id; start = range.start; end = range.end; count = range.size; last = last })

abbrev pub first_page : PointsState → NodeId → RawRange → Values → Option Moment → Step RawPage Status PointsState
first_page s id range shown None = step (Ok (page_of shown None)) s
first_page s id range shown (Some last) = with_point shown (hold_of s (point_after id range last))

-- the first values in the interval, and a point where more are left
abbrev pub begun : HistoryState → PointsState → RawRange → NodeId → Step RawPage Status PointsState
begun h s range id =
    let all = raw (history_of id h) (interval_of range.start range.end) in
    first_page s id range (shown_of range.size all) (last_given range.size all)

-- ---- the next page

-- the point for the page after one that ended at this time
abbrev pub point_past : HistoryPoint → Moment → Point
point_past p last = points.History (record p { last = last })

abbrev pub later_page : PointsState → ℕ → HistoryPoint → Values → Option Moment → Step RawPage Status PointsState
later_page s serial p shown None = step (Ok (page_of shown None)) (without_point s serial)
later_page s serial p shown (Some last) = with_point shown (replace_of s serial (point_past p last))

-- the values past the last one given, in the history as it is now
abbrev pub left_at : HistoryState → HistoryPoint → Values
left_at h p = raw (history_of p.node_id h) (past (interval_of p.start p.end) p.last)

-- the point is used up, and another one stands where more are left
abbrev pub gone_on : HistoryState → PointsState → ℕ → Option HistoryPoint → Step RawPage Status PointsState
gone_on h s serial None = step (Err status.BAD_CONTINUATION_POINT_INVALID) s
gone_on h s serial (Some p) = later_page s serial p (shown_of p.count (left_at h p)) (last_given p.count (left_at h p))

-- a point of HistoryRead, for this node
abbrev pub history_point : NodeId → Option Point → Option HistoryPoint
history_point id (Some (points.History p)) = if same_id p.node_id id then Some p else None
history_point id other = None

abbrev pub at_point : HistoryState → PointsState → NodeId → Option ℕ → Step RawPage Status PointsState
at_point h s id None = step (Err status.BAD_CONTINUATION_POINT_INVALID) s
at_point h s id (Some serial) = gone_on h s serial (history_point id (get s.held serial))

-- the point that these bytes name, for this node
abbrev pub named_at : PointsState → NodeId → Option ℕ → Option HistoryPoint
named_at s id None = None
named_at s id (Some serial) = history_point id (get s.held serial)

abbrev pub point_named : PointsState → NodeId → Option (List ℕ) → Option HistoryPoint
point_named s id bytes = named_at s id (serial_of bytes)

-- ---- reading

abbrev pub point_judged : HistoryReadValueId → Option HistoryPoint → Result (Unit {0}) Status
point_judged asked None = if is_given asked.continuation_point then Err status.BAD_CONTINUATION_POINT_INVALID else Ok tt
point_judged asked (Some p) = Ok tt

-- what is judged before a value is looked at: the node, and the point where one is given
abbrev pub judged_at : PointsState → Nodes → HistoryReadValueId → Result (Unit {0}) Status
judged_at s nodes asked = do
  node ← judged nodes asked
  point_judged asked (point_named s asked.node_id asked.continuation_point)

abbrev pub read_judged : HistoryState → PointsState → RawRange → HistoryReadValueId → Result (Unit {0}) Status → Step RawPage Status PointsState
read_judged h s range asked (Err code) = step (Err code) s
read_judged h s range asked (Ok done) =
    if is_given asked.continuation_point then at_point h s asked.node_id (serial_of asked.continuation_point) else begun h s range asked.node_id

-- the next page of the point that is named, or the first page where none is
unfoldable pub read_raw_of : HistoryState → Nodes → RawRange → PointsState → HistoryReadValueId → Step RawPage Status PointsState
read_raw_of h nodes range s asked = read_judged h s range asked (judged nodes asked)

-- ---- release

abbrev pub released_by : PointsState → ℕ → Option Point → Step (Unit {0}) Status PointsState
released_by s serial (Some (points.History p)) = step (Ok tt) (without_point s serial)
released_by s serial other = step (Err status.BAD_CONTINUATION_POINT_INVALID) s

abbrev pub released : PointsState → Option ℕ → Step (Unit {0}) Status PointsState
released s None = step (Err status.BAD_CONTINUATION_POINT_INVALID) s
released s (Some serial) = released_by s serial (get s.held serial)

-- the point is given up, and nothing else
abbrev pub release_of : PointsState → Option (List ℕ) → Step (Unit {0}) Status PointsState
release_of s bytes = released s (serial_of bytes)

-- ---- words of the contracts

-- a page of the code
abbrev pub page_seen : Page → RawPage
page_seen page = record { status = page.status; point = page.point; values = page.values }
