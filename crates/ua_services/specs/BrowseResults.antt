-- What Browse and BrowseNext answer of each thing.
use Rattle.std.specs.Prelude.{ℕ, [], None, Some, option_map, Result, Ok, Err}
use Rattle.std.specs.Int.{w64, to_le_bytes}
use Rattle.ua_types.specs.Answers.{Step}
use Rattle.ua_types.specs.declared.status.Status.{Status}
use Rattle.ua_types.specs.declared.status.TheConstants.Status as status
use Rattle.ua_service_messages.specs.Browsing.{browse_result_encoding}
use Rattle.ua_service_messages.specs.declared.browsing.BrowseResult.{BrowseResult}
use Rattle.ua_browse.specs.declared.browsing.Page.{Page}
use Rattle.ua_session.specs.Points.{PointsState}
use Rattle.server_messages.specs.declared.setting.Setting.{Setting}
use Rattle.ua_services.specs.Paging.{Done, AllDone, told_as, paged}
use Rattle.ua_services.specs.ServicesState.{Services}
use Rattle.ua_services.specs.Serving.{Serving}
use Rattle.ua_services.specs.declared.caller.Caller.{Caller}

-- a page with the point for the next one; what is refused has its status and nothing else
abbrev pub result_of : Result Page Status → BrowseResult
result_of (Ok page) = record { status_code = status.GOOD; continuation_point = option_map (to_le_bytes w64) page.point; references = page.references }
result_of (Err code) = record { status_code = code; continuation_point = None; references = Some [] }

abbrev pub browse_told : Step Page Status PointsState → Done BrowseResult
browse_told said = told_as result_of said

-- the answer of all results
abbrev pub browsed : Setting → Caller → ℕ → ℕ → Services → AllDone BrowseResult → Serving
browsed setting caller session type_id state done = paged browse_result_encoding setting caller session type_id state done
