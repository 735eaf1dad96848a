use Rattle.std.proofs.Common.{rules, subst}
use Rattle.ua_service_messages.specs.declared.browsing.BrowseNextRequest.{BrowseNextRequest}
use Rattle.ua_services.specs.BrowseNext.{browse_next_meaning}
use Rattle.ua_services.specs.Serving.{Judges}
use Rattle.ua_services.proofs.browse_next.BrowseNextSessionService.serve.Goals as goal

pub returns : goal.returns
returns c =
    let setting = c.args.setting.now in
    let caller = c.args.caller.now in
    subst (λ (request : BrowseNextRequest). Judges setting caller c.serve_pages.result c.serve_pages.new.services (browse_next_meaning setting caller c.args.session request c.args.services.now)) c.request.view_is
    (search rules)
