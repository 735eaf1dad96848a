use Rattle.std.proofs.Common.{◌∙◌, ◌≡◌, Ok, true, not, cond, Bool, ap, sym, subst}
use Rattle.ua_types.specs.NodeIds.{is_null_id}
use Rattle.ua_types.specs.declared.status.TheConstants.Status as status
use Rattle.ua_messages.specs.declared.type_ids.TheConstants.{BROWSE_RESPONSE}
use Rattle.ua_service_messages.specs.declared.browsing.BrowseRequest.{BrowseRequest}
use Rattle.ua_browse.specs.Browsing.{browse_of}
use Rattle.ua_session.specs.Sessions.{points_of}
use Rattle.ua_services.specs.Browse.{browse_meaning, browse_listed}
use Rattle.ua_services.specs.Operations.{operations_of}
use Rattle.ua_services.specs.BrowseResults.{browse_told, browsed}
use Rattle.ua_services.specs.Paging.{all_done}
use Rattle.ua_services.specs.Serving.{Serving, Judges, faulted}
use Rattle.ua_views.specs.Views.{or_none}
use Rattle.ua_services.proofs.browse.BrowseSessionService.serve.Goals as goal

pub returns : goal.returns
returns c =
    let setting = c.args.setting.now in
    let caller = c.args.caller.now in
    let session = c.args.session in
    let inside = c.request.inside in
    let request : BrowseRequest = record {
      view_id = inside.view_id;
      view_timestamp = inside.view_timestamp;
      view_version = inside.view_version;
      requested_max_references_per_node = inside.requested_max_references_per_node;
      nodes_to_browse = inside.nodes_to_browse;
    } in
    let state = c.args.services.now in
    let listed = browse_listed setting caller session request.requested_max_references_per_node state in
    let no_view : is_null_id request.view_id ≡ true = sym c.is_null.ensures ∙ c.if-not-is_null.false in
    let is : browse_meaning setting caller session request state ≡ browse_listed setting caller session request.requested_max_references_per_node state (Ok (or_none c.in_ok-descriptions.descriptions)) =
    ap (λ (b : Bool). cond (not b) (faulted state caller status.BAD_VIEW_ID_UNKNOWN setting.clock) (listed (operations_of setting.config request.nodes_to_browse))) no_view
    ∙ ap listed (sym c.in_ok-descriptions.ensures.entries)
    in
    subst (λ (r : BrowseRequest). Judges setting caller c.serve_pages.result c.serve_pages.new.services (browse_meaning setting caller session r state)) c.request.view_is
    (subst (λ (s : Serving). Judges setting caller c.serve_pages.result c.serve_pages.new.services s) (sym is)
    (subst (λ size. Judges setting caller c.serve_pages.result c.serve_pages.new.services
    (browsed setting caller session BROWSE_RESPONSE state (all_done (λ points d. browse_told (browse_of state.space points size d)) (points_of state.sessions session) (or_none c.in_ok-descriptions.descriptions)))) c.size_in.ensures c.serve_pages.ensures))
