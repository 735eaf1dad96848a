use Rattle.std.proofs.Common.{rules, subst}
use Rattle.ua_service_messages.specs.declared.history.HistoryReadRequest.{HistoryReadRequest}
use Rattle.ua_services.specs.HistoryRead.{history_read_meaning}
use Rattle.ua_services.specs.Serving.{Judges}
use Rattle.ua_services.proofs.history_read.HistoryReadSessionService.serve.Goals as goal

pub returns : goal.returns
returns c =
    let setting = c.args.setting.now in
    let caller = c.args.caller.now in
    subst (λ (request : HistoryReadRequest). Judges setting caller c.serve_pages.result c.serve_pages.new.services (history_read_meaning setting caller c.args.session request c.args.services.now)) c.request.view_is
    (search rules)
