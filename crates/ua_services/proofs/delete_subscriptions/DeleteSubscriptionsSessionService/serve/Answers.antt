use Rattle.std.proofs.Common.{◌≡◌, ◌∙◌, ap, arith, length, subst}
use Rattle.ua_subscriptions.specs.SubscriptionCalls.{said}
use Rattle.ua_views.specs.Views.{or_none}
use Rattle.ua_services.specs.Serving.{given, given_of}
use Rattle.ua_services.specs.StatusResults.{statuses_body}
use Rattle.ua_services.specs.SubServing.{with_subscriptions, stage_at}
use Rattle.ua_services.proofs.SubLemmas.{deleted_length}
use Rattle.ua_subscriptions.specs.Named.{deleted}
use Rattle.ua_services.specs.DeleteSubscriptions.{delete_subscriptions_listed, delete_subscriptions_meaning}
use Rattle.ua_messages.specs.declared.type_ids.TheConstants.{DELETE_SUBSCRIPTIONS_RESPONSE}
use Rattle.ua_services.proofs.SubLemmas.{called_first}
use Rattle.ua_services.proofs.delete_subscriptions.DeleteSubscriptionsSessionService.serve.Goals as goal

pub statuses_body-requires : goal.statuses_body-requires
statuses_body-requires c =
    let same = ap length (c.as_slice.ensures ∙ c.apart-statuses.ensures.answer ∙ ap (λ x. x.answer) c.in_ok-answered.ensures.1) in
    let count = deleted_length c.args.session (stage_at c.args.setting.now c.args.services.now) (or_none c.in_ok-numbers.numbers) in
    let few = c.in_ok-numbers.ensures.short in
    omega (arith, same, count, few)

pub returns : goal.returns
returns c =
    let state = c.args.services.now in
    let setting = c.args.setting.now in
    let caller = c.args.caller.now in
    let inside = c.request.inside in
    subst (λ q. given (with_subscriptions state c.delete.new.self c.delete.new.items) c.in_ok-reply_first.field-0 ≡ given_of (delete_subscriptions_meaning setting caller c.args.session q state)) c.request.view_is
    (subst (λ r. given (with_subscriptions state c.delete.new.self c.delete.new.items) c.in_ok-reply_first.field-0 ≡ given_of (delete_subscriptions_listed setting caller c.args.session state r)) c.in_ok-numbers.ensures.entries
    (called_first state caller (statuses_body DELETE_SUBSCRIPTIONS_RESPONSE setting caller) (said state.subscriptions (deleted c.args.session (stage_at setting state) (or_none c.in_ok-numbers.numbers)))
    c.in_ok-answered.answered c.delete.new.self c.delete.new.items c.apart-statuses.result.1 c.in_ok-body.body c.in_ok-reply_first.field-0
    c.in_ok-answered.ensures c.apart-statuses.ensures.others (c.in_ok-body.ensures ∙ ap (statuses_body DELETE_SUBSCRIPTIONS_RESPONSE setting caller) (c.as_slice.ensures ∙ c.apart-statuses.ensures.answer)) c.in_ok-reply_first.ensures))
