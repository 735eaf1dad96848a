use Rattle.std.proofs.Common.{◌∙◌, ap}
use Rattle.ua_subscriptions.specs.Making.{republished}
use Rattle.ua_subscriptions.specs.SubscriptionCalls.{said}
use Rattle.ua_services.specs.Republish.{republish_answer}
use Rattle.ua_services.specs.SubServing.{stage_at}
use Rattle.ua_services.proofs.SubLemmas.{called_first}
use Rattle.ua_services.proofs.republish.RepublishSessionService.serve.Goals as goal

pub returns : goal.returns
returns c =
    let state = c.args.services.now in
    let setting = c.args.setting.now in
    let caller = c.args.caller.now in
    let request = c.args.request in
    called_first state caller (republish_answer setting caller) (said state.subscriptions (republished c.args.session request.subscription_id request.retransmit_sequence_number (stage_at setting state)))
    c.in_ok-answered.answered c.republish.new.self c.republish.new.items c.apart-answer.result.1 c.in_ok-body.body c.in_ok-reply_first.field-0
    c.in_ok-answered.ensures.serves c.apart-answer.ensures.others (c.in_ok-body.ensures ∙ ap (republish_answer setting caller) c.apart-answer.ensures.answer) c.in_ok-reply_first.ensures
