use Rattle.std.proofs.Common.{refl}
use Rattle.ua_subscriptions.specs.SubscriptionCalls.{without_answer}
use Rattle.ua_subscriptions.specs.Tables.{met}
use Rattle.ua_subscriptions.specs.declared.call.Call.TheVariants.{Items}
use Rattle.ua_services.specs.SubServing.{stage_at}
use Rattle.ua_services.proofs.SubLemmas.{called_first}
use Rattle.ua_services.proofs.item_serving.answer_items.Goals as goal

pub returns : goal.returns
returns c =
    let state = c.args.services.now in
    called_first state c.args.caller.now (λ (done : Unit {0}). c.args.body) (without_answer state.subscriptions (met (stage_at c.args.setting.now state) c.args.number (Items c.args.before)))
    c.in_ok-answered.answered c.items.new.self c.items.new.items c.served_alone.result c.args.body c.in_ok-reply_first.field-0
    c.in_ok-answered.ensures.serves c.served_alone.ensures refl c.in_ok-reply_first.ensures
