use Rattle.std.proofs.Common.{◌∙◌, ap}
use Rattle.ua_subscriptions.specs.Making.{modified}
use Rattle.ua_subscriptions.specs.SubscriptionCalls.{said}
use Rattle.ua_services.specs.ModifySubscription.{settings_wanted, modify_subscription_body}
use Rattle.ua_services.specs.SubServing.{stage_at}
use Rattle.ua_services.proofs.SubLemmas.{called_first}
use Rattle.ua_services.proofs.modify_subscription.ModifySubscriptionSessionService.serve.Goals as goal

pub returns : goal.returns
returns c =
    let state = c.args.services.now in
    let setting = c.args.setting.now in
    let caller = c.args.caller.now in
    let request = c.args.request in
    called_first state caller (modify_subscription_body setting caller) (said state.subscriptions (modified c.args.session request.subscription_id (settings_wanted request) (stage_at setting state)))
    c.in_ok-answered.answered c.modify.new.self c.modify.new.items c.apart-answer.result.1 c.in_ok-body.body c.in_ok-reply_first.field-0
    c.in_ok-answered.ensures.serves c.apart-answer.ensures.others (c.in_ok-body.ensures ∙ ap (modify_subscription_body setting caller) c.apart-answer.ensures.answer) c.in_ok-reply_first.ensures
