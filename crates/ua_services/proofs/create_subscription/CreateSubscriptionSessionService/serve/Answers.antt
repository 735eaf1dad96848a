use Rattle.std.proofs.Common.{◌∙◌, ap}
use Rattle.ua_subscriptions.specs.SubscriptionCalls.{created}
use Rattle.ua_services.specs.CreateSubscription.{settings_asked, create_subscription_body}
use Rattle.ua_services.proofs.SubLemmas.{called_first}
use Rattle.ua_services.proofs.create_subscription.CreateSubscriptionSessionService.serve.Goals as goal

pub returns : goal.returns
returns c =
    let state = c.args.services.now in
    let setting = c.args.setting.now in
    let caller = c.args.caller.now in
    let request = c.args.request in
    called_first state caller (create_subscription_body setting caller) (created c.args.session (settings_asked request) request.publishing_enabled state.subscriptions state.items setting.clock)
    c.in_ok-answered.answered c.create.new.self c.create.new.items c.apart-answer.result.1 c.in_ok-body.body c.in_ok-reply_first.field-0
    c.in_ok-answered.ensures c.apart-answer.ensures.others (c.in_ok-body.ensures ∙ ap (create_subscription_body setting caller) c.apart-answer.ensures.answer) c.in_ok-reply_first.ensures
