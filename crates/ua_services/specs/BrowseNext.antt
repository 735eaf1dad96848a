-- The service BrowseNext.
use Rattle.std.specs.Prelude.{ℕ, Bool, List, [], Option, Some, None, Result, Ok, Err, if◌then◌else◌}
use Rattle.std.specs.Result.{result_map_both}
use Rattle.ua_types.specs.Answers.{Step, step}
use Rattle.ua_types.specs.declared.status.Status.{Status}
use Rattle.ua_types.specs.declared.status.TheConstants.Status as status
use Rattle.ua_messages.specs.declared.type_ids.TheConstants.{BROWSE_NEXT_RESPONSE}
use Rattle.ua_service_messages.specs.declared.browsing.BrowseNextRequest.{BrowseNextRequest}
use Rattle.ua_browse.specs.Browsing.{page_of, browse_next_of, release_of}
use Rattle.ua_browse.specs.declared.browsing.Page.{Page}
use Rattle.ua_session.specs.Points.{PointsState, serial_of}
use Rattle.ua_session.specs.Sessions.{points_of}
use Rattle.ua_space.specs.Nodes.{SpaceState}
use Rattle.server_messages.specs.declared.setting.Setting.{Setting}
use Rattle.ua_services.specs.BrowseResults.{browse_told, browsed}
use Rattle.ua_services.specs.Operations.{operations_of}
use Rattle.ua_services.specs.Paging.{all_done}
use Rattle.ua_services.specs.ServicesState.{Services}
use Rattle.ua_services.specs.Serving.{Serving, faulted}
use Rattle.ua_services.specs.declared.caller.Caller.{Caller}

-- a point that is given up shows no references
abbrev pub emptied : Step (Unit {0}) Status PointsState → Step Page Status PointsState
emptied released = step (result_map_both (λ done. page_of [] None) (λ code. code) released.answer) released.state

abbrev pub gone_on_by : SpaceState → Bool → PointsState → Option ℕ → Step Page Status PointsState
gone_on_by space is_release points None = step (Err status.BAD_CONTINUATION_POINT_INVALID) points
gone_on_by space is_release points (Some serial) = if is_release then emptied (release_of points serial) else browse_next_of space points serial

-- one point: its next page, or nothing but that it is given up
abbrev pub go_on_of : SpaceState → Bool → PointsState → Option (List ℕ) → Step Page Status PointsState
go_on_of space is_release points bytes = gone_on_by space is_release points (serial_of bytes)

abbrev pub browse_next_listed : Setting → Caller → ℕ → Bool → Services → Result (List (Option (List ℕ))) Status → Serving
browse_next_listed setting caller session is_release state (Ok named) =
    browsed setting caller session BROWSE_NEXT_RESPONSE state
    (all_done (λ points bytes. browse_told (go_on_of state.space is_release points bytes)) (points_of state.sessions session) named)
browse_next_listed setting caller session is_release state (Err code) = faulted state caller code setting.clock

-- the list is judged first, then each point
abbrev pub browse_next_meaning : Setting → Caller → ℕ → BrowseNextRequest → Services → Serving
browse_next_meaning setting caller session request state =
    browse_next_listed setting caller session request.release_continuation_points state (operations_of setting.config request.continuation_points)
