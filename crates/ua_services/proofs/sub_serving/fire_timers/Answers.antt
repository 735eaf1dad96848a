use Rattle.std.proofs.lemmas.Result.{err_from_is_err_and}
use Rattle.ua_subscriptions.specs.Making.{timed}
use Rattle.ua_services.specs.SubServing.{stage_at}
use Rattle.ua_services.proofs.SubLemmas.{told_gives, told_halts}
use Rattle.ua_services.proofs.sub_serving.fire_timers.Goals as goal

pub returns-clause-serves : goal.returns-clause-serves
returns-clause-serves c =
    let state = c.args.services.now in
    told_gives state (timed (stage_at c.args.setting.now state)) c.in_ok-answered.answered c.timers.new.self c.timers.new.items c.served_alone.result c.in_ok-answered.ensures.serves c.served_alone.ensures

pub returns-in_err-answered-clause-serves : goal.returns-in_err-answered-clause-serves
returns-in_err-answered-clause-serves c =
    let state = c.args.services.now in
    let p = err_from_is_err_and c.from_residual.result c.from_residual.ensures.1 in
    rw (p.1, p.2) (told_halts state (timed (stage_at c.args.setting.now state)) c.in_err-answered.field-0.0 c.timers.new.self c.timers.new.items c.in_err-answered.ensures.serves)
