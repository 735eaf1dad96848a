use Rattle.std.proofs.lemmas.Result.{err_from_is_err_and}
use Rattle.ua_subscriptions.specs.Publishing.{published}
use Rattle.ua_views.specs.Views.{or_none}
use Rattle.ua_services.specs.Publish.{publish_call}
use Rattle.ua_services.specs.SubServing.{stage_at}
use Rattle.ua_services.proofs.SubLemmas.{told_gives, told_judged}
use Rattle.ua_services.proofs.publish.taken.Goals as goal

pub returns : goal.returns
unfolding published
returns c =
    let state = c.args.services.now in
    told_gives state (published c.args.session (publish_call c.args.caller.now) (or_none c.args.acknowledgements) (stage_at c.args.setting.now state)) c.in_ok-answered.answered c.publish.new.self c.publish.new.items c.served_alone.result c.in_ok-answered.ensures c.served_alone.ensures

pub returns-in_err-answered : goal.returns-in_err-answered
unfolding published
returns-in_err-answered c =
    let state = c.args.services.now in
    let p = err_from_is_err_and c.from_residual.result c.from_residual.ensures.1 in
    rw (p.1, p.2) (told_judged state (published c.args.session (publish_call c.args.caller.now) (or_none c.args.acknowledgements) (stage_at c.args.setting.now state)) c.args.setting.now c.args.caller.now c.in_err-answered.field-0.0 c.publish.new.self c.publish.new.items c.in_err-answered.ensures)
