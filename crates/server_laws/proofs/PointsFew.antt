-- No more continuation points are held than may be, whatever is asked for.
use Rattle.std.proofs.Common.{◌≡◌, ℕ, Bool, true, false, cond, List, [], ◌∷◌, Option, Some, None, is_some, Result, Ok, Err, fold, refl, ap, ◌∙◌}
use Rattle.std.specs.FinMap.{get}
use Rattle.ua_types.specs.Given.{is_given}
use Rattle.ua_types.specs.Answers.{step}
use Rattle.ua_types.specs.declared.moment.Moment.{Moment}
use Rattle.ua_types.specs.declared.node_id.NodeId.{NodeId}
use Rattle.ua_types.specs.declared.status.Status.{Status}
use Rattle.ua_types.specs.declared.status.TheConstants.Status as status
use Rattle.ua_types.specs.NodeIdOrder.{same_id}
use Rattle.ua_service_messages.specs.declared.browsing.BrowseDescription.{BrowseDescription}
use Rattle.ua_service_messages.specs.declared.browsing.ReferenceDescription.{ReferenceDescription}
use Rattle.ua_service_messages.specs.declared.history.HistoryReadValueId.{HistoryReadValueId}
use Rattle.ua_browse.specs.Browsing.{first_page, browse_judged, browse_of, later_page, gone_on, browse_next_of, released, part, point_at}
use Rattle.ua_browse.specs.Wanted.{judged}
use Rattle.ua_history.specs.Histories.{HistoryState, Values, history_of}
use Rattle.ua_history.specs.Intervals.{interval_of, raw as raw_values}
use Rattle.ua_history.specs.Pages.{shown_of, last_given}
use Rattle.ua_history.specs.Reading as raw
use Rattle.ua_history.specs.declared.reading.RawRange.{RawRange}
use Rattle.ua_session.specs.PointLaws.{IsSound}
use Rattle.ua_session.specs.Points.{PointsState, hold_of, replace_of, put_of, without_point, is_full, serial_of}
use Rattle.ua_session.specs.declared.points.BrowsePoint.{BrowsePoint}
use Rattle.ua_session.specs.declared.points.HistoryPoint.{HistoryPoint}
use Rattle.ua_session.specs.declared.points.Point.{Point}
use Rattle.ua_session.specs.declared.points.Point.TheVariants as points
use Rattle.ua_session.proofs.PointLemmas.{stay_sound}
use Rattle.ua_space.specs.Nodes.{Nodes, SpaceState}
use Rattle.ua_services.specs.BrowseNext.{gone_on_by, go_on_of}
use Rattle.ua_services.specs.BrowseResults.{browse_told}
use Rattle.ua_services.specs.HistoryRead.{node_read}
use Rattle.ua_services.specs.HistoryResults.{history_result_of, release_result_of}
use Rattle.ua_services.specs.Paging.{Done, AllDone, told_as, with_one}
use Rattle.ua_services.specs.declared.history_read.Wanted.{Wanted}

-- points that are as many as may be, or fewer
pub record PointsFew (most : ℕ) (s : PointsState) : Type 0 where
  pub most_is : s.most ≡ most
  pub sound : IsSound s

module _ (most : ℕ) where
  abbrev Few : PointsState → Type 0
  Few s = PointsFew most s

  same_most : (b : Bool) (s : PointsState) (point : Point) → (cond b (step {A = ℕ} (Err status.BAD_NO_CONTINUATION_POINTS) s) (put_of s point)).state.most ≡ s.most
  same_most true s point = refl
  same_most false s point = refl

  hold_most : (s : PointsState) (point : Point) → (hold_of s point).state.most ≡ s.most
  unfolding hold_of
  hold_most s point = same_most (is_full s) s point

  hold_few : (s : PointsState) (point : Point) → Few s → Few (hold_of s point).state
  hold_few s point h = record { most_is = hold_most s point ∙ h.most_is; sound = stay_sound.held s point h.sound }

  replace_most : (s : PointsState) (serial : ℕ) (point : Point) → (replace_of s serial point).state.most ≡ s.most
  unfolding replace_of
  replace_most s serial point = refl

  replace_few : (s : PointsState) (serial : ℕ) (point : Point) → is_some (get s.held serial) ≡ true → Few s → Few (replace_of s serial point).state
  replace_few s serial point there h = record { most_is = replace_most s serial point ∙ h.most_is; sound = stay_sound.replaced s serial point there h.sound }

  without_few : (s : PointsState) (serial : ℕ) → Few s → Few (without_point s serial)
  without_few s serial h = record { most_is = h.most_is; sound = stay_sound.given_up s serial h.sound }

  -- ---- Browse and BrowseNext

  first_few : (s : PointsState) (d : BrowseDescription) (size : ℕ) (references : List ReferenceDescription) (next : Option ℕ) → Few s → Few (first_page s d size references next).state
  first_few s d size references None h = h
  first_few s d size references (Some place) h = hold_few s (point_at d size place) h

  judged_few : (space : SpaceState) (s : PointsState) (size : ℕ) (d : BrowseDescription) (verdict : Result (Unit {0}) Status) → Few s → Few (browse_judged space s size d verdict).state
  judged_few space s size d (Err code) h = h
  judged_few space s size d (Ok done) h = first_few s d size (part space d size 0).references (part space d size 0).next h

  pub browse_few : (space : SpaceState) (size : ℕ) (s : PointsState) (d : BrowseDescription) → Few s → Few (browse_told (browse_of space s size d)).points
  unfolding browse_of
  browse_few space size s d h = judged_few space s size d (judged space.nodes d) h

  later_few : (s : PointsState) (serial : ℕ) (p : BrowsePoint) (references : List ReferenceDescription) (next : Option ℕ) → is_some (get s.held serial) ≡ true → Few s → Few (later_page s serial p references next).state
  later_few s serial p references None there h = without_few s serial h
  later_few s serial p references (Some place) there h = replace_few s serial (point_at p.description p.size place) there h

  gone_few : (space : SpaceState) (s : PointsState) (serial : ℕ) (point : Option Point) → get s.held serial ≡ point → Few s → Few (gone_on space s serial point).state
  gone_few space s serial None is h = h
  gone_few space s serial (Some (points.History p)) is h = h
  gone_few space s serial (Some (points.Browse p)) is h = later_few s serial p (part space p.description p.size p.next).references (part space p.description p.size p.next).next (ap is_some is) h

  next_few : (space : SpaceState) (s : PointsState) (serial : ℕ) → Few s → Few (browse_next_of space s serial).state
  unfolding browse_next_of
  next_few space s serial h = gone_few space s serial (get s.held serial) refl h

  released_few : (s : PointsState) (serial : ℕ) (point : Option Point) → Few s → Few (released s serial point).state
  released_few s serial None h = h
  released_few s serial (Some (points.History p)) h = h
  released_few s serial (Some (points.Browse p)) h = without_few s serial h

  gone_by_few : (space : SpaceState) (is_release : Bool) (s : PointsState) (serial : Option ℕ) → Few s → Few (gone_on_by space is_release s serial).state
  gone_by_few space is_release s None h = h
  gone_by_few space true s (Some serial) h = released_few s serial (get s.held serial) h
  gone_by_few space false s (Some serial) h = next_few space s serial h

  pub go_on_few : (space : SpaceState) (is_release : Bool) (s : PointsState) (bytes : Option (List ℕ)) → Few s → Few (browse_told (go_on_of space is_release s bytes)).points
  go_on_few space is_release s bytes h = gone_by_few space is_release s (serial_of bytes) h

  -- ---- HistoryRead

  raw_first_few : (s : PointsState) (id : NodeId) (range : RawRange) (shown : Values) (next : Option Moment) → Few s → Few (raw.first_page s id range shown next).state
  raw_first_few s id range shown None h = h
  raw_first_few s id range shown (Some last) h = hold_few s (raw.point_after id range last) h

  raw_later_few : (s : PointsState) (serial : ℕ) (p : HistoryPoint) (shown : Values) (next : Option Moment) → is_some (get s.held serial) ≡ true → Few s → Few (raw.later_page s serial p shown next).state
  raw_later_few s serial p shown None there h = without_few s serial h
  raw_later_few s serial p shown (Some last) there h = replace_few s serial (raw.point_past p last) there h

  raw_gone_few : (history : HistoryState) (s : PointsState) (serial : ℕ) (id : NodeId) (point : Option Point) → get s.held serial ≡ point → Few s → Few (raw.gone_on history s serial (raw.history_point id point)).state
  raw_gone_few history s serial id None is h = h
  raw_gone_few history s serial id (Some (points.Browse p)) is h = h
  raw_gone_few history s serial id (Some (points.History p)) is h = by (same_id p.node_id id)
    where
      by : (b : Bool) → Few (raw.gone_on history s serial (cond b (Some p) None)).state
      by true = raw_later_few s serial p (shown_of p.count (raw.left_at history p)) (last_given p.count (raw.left_at history p)) (ap is_some is) h
      by false = h

  at_point_few : (history : HistoryState) (s : PointsState) (id : NodeId) (serial : Option ℕ) → Few s → Few (raw.at_point history s id serial).state
  at_point_few history s id None h = h
  at_point_few history s id (Some serial) h = raw_gone_few history s serial id (get s.held serial) refl h

  raw_judged_few : (history : HistoryState) (s : PointsState) (range : RawRange) (asked : HistoryReadValueId) (verdict : Result (Unit {0}) Status) → Few s → Few (raw.read_judged history s range asked verdict).state
  raw_judged_few history s range asked (Err code) h = h
  raw_judged_few history s range asked (Ok done) h = by (is_given asked.continuation_point)
    where
      by : (b : Bool) → Few (cond b (raw.at_point history s asked.node_id (serial_of asked.continuation_point)) (raw.begun history s range asked.node_id)).state
      by true = at_point_few history s asked.node_id (serial_of asked.continuation_point) h
      by false =
          let all = raw_values (history_of asked.node_id history) (interval_of range.start range.end) in
          raw_first_few s asked.node_id range (shown_of range.size all) (last_given range.size all) h

  read_raw_few : (history : HistoryState) (nodes : Nodes) (range : RawRange) (s : PointsState) (asked : HistoryReadValueId) → Few s → Few (raw.read_raw_of history nodes range s asked).state
  unfolding raw.read_raw_of
  read_raw_few history nodes range s asked h = raw_judged_few history s range asked (raw.judged nodes asked) h

  raw_released_by_few : (s : PointsState) (serial : ℕ) (point : Option Point) → Few s → Few (raw.released_by s serial point).state
  raw_released_by_few s serial None h = h
  raw_released_by_few s serial (Some (points.History p)) h = without_few s serial h
  raw_released_by_few s serial (Some (points.Browse p)) h = h

  raw_released_few : (s : PointsState) (serial : Option ℕ) → Few s → Few (raw.released s serial).state
  raw_released_few s None h = h
  raw_released_few s (Some serial) h = raw_released_by_few s serial (get s.held serial) h

  pub node_read_few : (history : HistoryState) (nodes : Nodes) (wanted : Wanted) (s : PointsState) (asked : HistoryReadValueId) → Few s → Few (node_read history nodes wanted s asked).points
  node_read_few history nodes wanted s asked h = by wanted.is_release
    where
      by : (b : Bool) → Few (cond b (told_as release_result_of (raw.release_of s asked.continuation_point)) (told_as (history_result_of wanted.timestamps) (raw.read_raw_of history nodes wanted.range s asked))).points
      by true = raw_released_few s (serial_of asked.continuation_point) h
      by false = read_raw_few history nodes wanted.range s asked h

  -- ---- things one after the other

  pub all_few : {A R : Type 0} → (f : PointsState → A → Done R) → ((s : PointsState) (x : A) → Few s → Few (f s x).points) → (xs : List A) (before : AllDone R) → Few before.points → Few (fold (with_one f) before xs).points
  all_few f one [] before h = h
  all_few f one (x ∷ xs) before h = all_few f one xs (with_one f before x) (one before.points x h)
