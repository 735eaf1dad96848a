-- Why no serial of a continuation point is given twice: whatever is asked for, their number never falls.
use Rattle.std.proofs.Common.{ℕ, ◌≤◌, Bool, true, false, cond, List, Option, Some, None, Result, Ok, Err, arith}
use Rattle.std.specs.FinMap.{get}
use Rattle.ua_types.specs.Given.{is_given}
use Rattle.ua_types.specs.Answers.{Step}
use Rattle.ua_types.specs.declared.status.Status.{Status}
use Rattle.ua_service_messages.specs.declared.browsing.BrowseDescription.{BrowseDescription}
use Rattle.ua_service_messages.specs.declared.browsing.ReferenceDescription.{ReferenceDescription}
use Rattle.ua_browse.specs.Browsing.{first_page, browse_judged, browse_of, later_page, gone_on, browse_next_of, released, part, point_at}
use Rattle.ua_browse.specs.Wanted.{judged}
use Rattle.ua_session.specs.Points.{PointsState, hold_of, replace_of, put_of, is_full, serial_of}
use Rattle.ua_session.specs.declared.points.BrowsePoint.{BrowsePoint}
use Rattle.ua_session.specs.declared.points.Point.{Point}
use Rattle.ua_session.specs.declared.points.Point.TheVariants as points
use Rattle.ua_space.specs.Nodes.{SpaceState}
use Rattle.ua_service_messages.specs.declared.history.HistoryReadValueId.{HistoryReadValueId}
use Rattle.ua_history.specs.Histories.{HistoryState, Values, history_of}
use Rattle.ua_history.specs.Intervals.{interval_of, raw as raw_values}
use Rattle.ua_history.specs.Pages.{shown_of, last_given}
use Rattle.ua_history.specs.Reading as raw
use Rattle.ua_history.specs.declared.reading.RawRange.{RawRange}
use Rattle.ua_session.specs.declared.points.HistoryPoint.{HistoryPoint}
use Rattle.ua_space.specs.Nodes.{Nodes}
use Rattle.ua_types.specs.declared.moment.Moment.{Moment}
use Rattle.ua_types.specs.declared.node_id.NodeId.{NodeId}
use Rattle.ua_services.specs.HistoryRead.{node_read}
use Rattle.ua_services.specs.HistoryResults.{history_result_of, release_result_of}
use Rattle.ua_services.specs.declared.history_read.Wanted.{Wanted}
use Rattle.ua_services.specs.BrowseResults.{browse_told}
use Rattle.ua_services.specs.BrowseNext.{gone_on_by, go_on_of}
use Rattle.ua_services.specs.Paging.{told_as, Rises}

holds_risen : (b : Bool) (s : PointsState) (point : Point) (refused : Step ℕ Status PointsState) → s.made ≤ refused.state.made → s.made ≤ (cond b refused (put_of s point)).state.made
holds_risen true s point refused h = h
holds_risen false s point refused h = omega arith

first_risen : (s : PointsState) (d : BrowseDescription) (size : ℕ) (references : List ReferenceDescription) (next : Option ℕ) → s.made ≤ (first_page s d size references next).state.made
unfolding hold_of
first_risen s d size references None = omega arith
first_risen s d size references (Some place) = holds_risen (is_full s) s (point_at d size place) _ (omega arith)

judged_risen : (space : SpaceState) (s : PointsState) (size : ℕ) (d : BrowseDescription) (verdict : Result (Unit {0}) Status) → s.made ≤ (browse_judged space s size d verdict).state.made
judged_risen space s size d (Err code) = omega arith
judged_risen space s size d (Ok done) = first_risen s d size (part space d size 0).references (part space d size 0).next

pub browse_rises : (space : SpaceState) (size : ℕ) → Rises (λ s d. browse_told (browse_of space s size d))
unfolding browse_of
browse_rises space size s d = judged_risen space s size d (judged space.nodes d)

later_risen : (s : PointsState) (serial : ℕ) (p : BrowsePoint) (references : List ReferenceDescription) (next : Option ℕ) → s.made ≤ (later_page s serial p references next).state.made
unfolding replace_of
later_risen s serial p references None = omega arith
later_risen s serial p references (Some place) = omega arith

gone_risen : (space : SpaceState) (s : PointsState) (serial : ℕ) (point : Option Point) → s.made ≤ (gone_on space s serial point).state.made
gone_risen space s serial None = omega arith
gone_risen space s serial (Some (points.History p)) = omega arith
gone_risen space s serial (Some (points.Browse p)) = later_risen s serial p (part space p.description p.size p.next).references (part space p.description p.size p.next).next

next_risen : (space : SpaceState) (s : PointsState) (serial : ℕ) → s.made ≤ (browse_next_of space s serial).state.made
unfolding browse_next_of
next_risen space s serial = gone_risen space s serial (get s.held serial)

released_risen : (s : PointsState) (serial : ℕ) (point : Option Point) → s.made ≤ (released s serial point).state.made
released_risen s serial None = omega arith
released_risen s serial (Some (points.History p)) = omega arith
released_risen s serial (Some (points.Browse p)) = omega arith

gone_by_risen : (space : SpaceState) (is_release : Bool) (s : PointsState) (serial : Option ℕ) → s.made ≤ (gone_on_by space is_release s serial).state.made
gone_by_risen space is_release s None = omega arith
gone_by_risen space true s (Some serial) = released_risen s serial (get s.held serial)
gone_by_risen space false s (Some serial) = next_risen space s serial

pub go_on_rises : (space : SpaceState) (is_release : Bool) → Rises (λ s p. browse_told (go_on_of space is_release s p))
go_on_rises space is_release s bytes = gone_by_risen space is_release s (serial_of bytes)

raw_first_risen : (s : PointsState) (id : NodeId) (range : RawRange) (shown : Values) (next : Option Moment) → s.made ≤ (raw.first_page s id range shown next).state.made
unfolding hold_of
raw_first_risen s id range shown None = omega arith
raw_first_risen s id range shown (Some last) = holds_risen (is_full s) s (raw.point_after id range last) _ (omega arith)

raw_later_risen : (s : PointsState) (serial : ℕ) (p : HistoryPoint) (shown : Values) (next : Option Moment) → s.made ≤ (raw.later_page s serial p shown next).state.made
unfolding replace_of
raw_later_risen s serial p shown None = omega arith
raw_later_risen s serial p shown (Some last) = omega arith

raw_gone_risen : (h : HistoryState) (s : PointsState) (serial : ℕ) (point : Option HistoryPoint) → s.made ≤ (raw.gone_on h s serial point).state.made
raw_gone_risen h s serial None = omega arith
raw_gone_risen h s serial (Some p) = raw_later_risen s serial p (shown_of p.count (raw.left_at h p)) (last_given p.count (raw.left_at h p))

at_point_risen : (h : HistoryState) (s : PointsState) (id : NodeId) (serial : Option ℕ) → s.made ≤ (raw.at_point h s id serial).state.made
at_point_risen h s id None = omega arith
at_point_risen h s id (Some serial) = raw_gone_risen h s serial (raw.history_point id (get s.held serial))

begun_risen : (h : HistoryState) (s : PointsState) (range : RawRange) (id : NodeId) → s.made ≤ (raw.begun h s range id).state.made
begun_risen h s range id = let all = raw_values (history_of id h) (interval_of range.start range.end) in raw_first_risen s id range (shown_of range.size all) (last_given range.size all)

either_risen : (b : Bool) (s : PointsState) (x y : Step raw.RawPage Status PointsState) → s.made ≤ x.state.made → s.made ≤ y.state.made → s.made ≤ (cond b x y).state.made
either_risen true s x y p q = p
either_risen false s x y p q = q

raw_judged_risen : (h : HistoryState) (s : PointsState) (range : RawRange) (asked : HistoryReadValueId) (verdict : Result (Unit {0}) Status) → s.made ≤ (raw.read_judged h s range asked verdict).state.made
raw_judged_risen h s range asked (Err code) = omega arith
raw_judged_risen h s range asked (Ok done) =
    either_risen (is_given asked.continuation_point) s (raw.at_point h s asked.node_id (serial_of asked.continuation_point)) (raw.begun h s range asked.node_id)
    (at_point_risen h s asked.node_id (serial_of asked.continuation_point)) (begun_risen h s range asked.node_id)

read_raw_risen : (h : HistoryState) (nodes : Nodes) (range : RawRange) (s : PointsState) (asked : HistoryReadValueId) → s.made ≤ (raw.read_raw_of h nodes range s asked).state.made
unfolding raw.read_raw_of
read_raw_risen h nodes range s asked = raw_judged_risen h s range asked (raw.judged nodes asked)

raw_released_by_risen : (s : PointsState) (serial : ℕ) (point : Option Point) → s.made ≤ (raw.released_by s serial point).state.made
raw_released_by_risen s serial None = omega arith
raw_released_by_risen s serial (Some (points.History p)) = omega arith
raw_released_by_risen s serial (Some (points.Browse p)) = omega arith

raw_released_risen : (s : PointsState) (serial : Option ℕ) → s.made ≤ (raw.released s serial).state.made
raw_released_risen s None = omega arith
raw_released_risen s (Some serial) = raw_released_by_risen s serial (get s.held serial)

pub node_read_rises : (h : HistoryState) (nodes : Nodes) (wanted : Wanted) → Rises (λ s asked. node_read h nodes wanted s asked)
node_read_rises h nodes wanted s asked = by wanted.is_release
  where
    by : (b : Bool) → s.made ≤ (cond b (told_as release_result_of (raw.release_of s asked.continuation_point)) (told_as (history_result_of wanted.timestamps) (raw.read_raw_of h nodes wanted.range s asked))).points.made
    by true = raw_released_risen s (serial_of asked.continuation_point)
    by false = read_raw_risen h nodes wanted.range s asked
