-- The service Browse.
use Rattle.std.specs.Prelude.{ℕ, not, List, Result, Ok, Err, if◌then◌else◌}
use Rattle.ua_types.specs.NodeIds.{is_null_id}
use Rattle.ua_types.specs.declared.status.Status.{Status}
use Rattle.ua_types.specs.declared.status.TheConstants.Status as status
use Rattle.ua_messages.specs.declared.type_ids.TheConstants.{BROWSE_RESPONSE}
use Rattle.ua_service_messages.specs.declared.browsing.BrowseDescription.{BrowseDescription}
use Rattle.ua_service_messages.specs.declared.browsing.BrowseRequest.{BrowseRequest}
use Rattle.ua_browse.specs.Browsing.{page_size, browse_of}
use Rattle.ua_session.specs.Sessions.{points_of}
use Rattle.server_messages.specs.declared.setting.Setting.{Setting}
use Rattle.ua_services.specs.BrowseResults.{browse_told, browsed}
use Rattle.ua_services.specs.Operations.{operations_of}
use Rattle.ua_services.specs.Paging.{all_done}
use Rattle.ua_services.specs.ServicesState.{Services}
use Rattle.ua_services.specs.Serving.{Serving, faulted}
use Rattle.ua_services.specs.declared.caller.Caller.{Caller}

abbrev pub browse_listed : Setting → Caller → ℕ → ℕ → Services → Result (List BrowseDescription) Status → Serving
browse_listed setting caller session requested state (Ok descriptions) =
    browsed setting caller session BROWSE_RESPONSE state
    (all_done (λ points d. browse_told (browse_of state.space points (page_size setting.config.references requested) d)) (points_of state.sessions session) descriptions)
browse_listed setting caller session requested state (Err code) = faulted state caller code setting.clock

-- there are no views, which is judged first of all; then the list, then each node
abbrev pub browse_meaning : Setting → Caller → ℕ → BrowseRequest → Services → Serving
browse_meaning setting caller session request state =
    if not (is_null_id request.view_id) then faulted state caller status.BAD_VIEW_ID_UNKNOWN setting.clock
    else browse_listed setting caller session request.requested_max_references_per_node state (operations_of setting.config request.nodes_to_browse)
