-- The services Browse and BrowseNext (IEC 62541-4): pages of references, and the points by which they go on.
use Rattle.std.specs.Prelude.{ℕ, ◌==◌, nat_lt, ◌||◌, List, [], ◌∷◌, take, drop, map, Option, Some, None, Result, Ok, Err, if◌then◌else◌}
use Rattle.std.specs.FinMap.{get}
use Rattle.std.specs.Result.{result_map_both}
use Rattle.ua_types.specs.Answers.{Step, step}
use Rattle.ua_types.specs.declared.status.Status.{Status}
use Rattle.ua_types.specs.declared.status.TheConstants.Status as status
use Rattle.ua_service_messages.specs.declared.browsing.BrowseDescription.{BrowseDescription}
use Rattle.ua_service_messages.specs.declared.browsing.ReferenceDescription.{ReferenceDescription}
use Rattle.ua_session.specs.Points.{PointsState, hold_of, replace_of, without_point}
use Rattle.ua_session.specs.declared.points.BrowsePoint.{BrowsePoint}
use Rattle.ua_session.specs.declared.points.Point.{Point}
use Rattle.ua_session.specs.declared.points.Point.TheVariants as points
use Rattle.ua_space.specs.Nodes.{SpaceState}
use Rattle.ua_browse.specs.Describing.{described}
use Rattle.ua_browse.specs.Wanted.{Placed, wanted_from, judged}
use Rattle.ua_browse.specs.declared.browsing.Page.{Page}

-- as many as are asked for, where 0 asks for all, and never more than the most
abbrev pub page_size : ℕ → ℕ → ℕ
page_size most requested = if requested == 0 || nat_lt most requested then most else requested

-- ---- one page of a list

abbrev pub place_of_first : List Placed → Option ℕ
place_of_first [] = None
place_of_first (p ∷ ps) = Some p.place

-- the first of those that are left
abbrev pub shown_of : ℕ → List Placed → List Placed
shown_of size left = take size left

-- the place at which the next page begins, if any are left
abbrev pub next_of : ℕ → List Placed → Option ℕ
next_of size left = place_of_first (drop size left)

abbrev pub descriptions_of : SpaceState → BrowseDescription → List Placed → List ReferenceDescription
descriptions_of space d shown = map (λ p. described space d.result_mask p.reference) shown

-- the references of a page, and where the next one begins
pub record Part : Type 0 where
  pub references : List ReferenceDescription
  pub next : Option ℕ

-- the page that begins at a place
abbrev pub part : SpaceState → BrowseDescription → ℕ → ℕ → Part
part space d size place =
    let left = wanted_from space d place in
    record { references = descriptions_of space d (shown_of size left); next = next_of size left }

abbrev pub page_of : List ReferenceDescription → Option ℕ → Page
page_of references point = record { references = Some references; point = point }

-- a page with the point for the next one, or the refusal of that point in its place
abbrev pub with_point : List ReferenceDescription → Step ℕ Status PointsState → Step Page Status PointsState
with_point references held = step (result_map_both (λ serial. page_of references (Some serial)) (λ code. code) held.answer) held.state

abbrev pub point_at : BrowseDescription → ℕ → ℕ → Point
point_at d size place = points.Browse (record { description = d; size = size; next = place })

-- ---- Browse

abbrev pub first_page : PointsState → BrowseDescription → ℕ → List ReferenceDescription → Option ℕ → Step Page Status PointsState
first_page s d size references None = step (Ok (page_of references None)) s
first_page s d size references (Some place) = with_point references (hold_of s (point_at d size place))

abbrev pub browse_judged : SpaceState → PointsState → ℕ → BrowseDescription → Result (Unit {0}) Status → Step Page Status PointsState
browse_judged space s size d (Err code) = step (Err code) s
browse_judged space s size d (Ok done) = first_page s d size (part space d size 0).references (part space d size 0).next

-- the first page, and a point where more are left
unfoldable pub browse_of : SpaceState → PointsState → ℕ → BrowseDescription → Step Page Status PointsState
browse_of space s size d = browse_judged space s size d (judged space.nodes d)

-- ---- BrowseNext

abbrev pub later_page : PointsState → ℕ → BrowsePoint → List ReferenceDescription → Option ℕ → Step Page Status PointsState
later_page s serial p references None = step (Ok (page_of references None)) (without_point s serial)
later_page s serial p references (Some place) = with_point references (replace_of s serial (point_at p.description p.size place))

abbrev pub gone_on : SpaceState → PointsState → ℕ → Option Point → Step Page Status PointsState
gone_on space s serial (Some (points.Browse p)) = later_page s serial p (part space p.description p.size p.next).references (part space p.description p.size p.next).next
gone_on space s serial other = step (Err status.BAD_CONTINUATION_POINT_INVALID) s

-- the page at the point, which is used up, and another point where more are left
unfoldable pub browse_next_of : SpaceState → PointsState → ℕ → Step Page Status PointsState
browse_next_of space s serial = gone_on space s serial (get s.held serial)

abbrev pub released : PointsState → ℕ → Option Point → Step (Unit {0}) Status PointsState
released s serial (Some (points.Browse p)) = step (Ok tt) (without_point s serial)
released s serial other = step (Err status.BAD_CONTINUATION_POINT_INVALID) s

-- the point is given up, and nothing else
abbrev pub release_of : PointsState → ℕ → Step (Unit {0}) Status PointsState
release_of s serial = released s serial (get s.held serial)
