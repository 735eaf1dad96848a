use Rattle.std.proofs.lemmas.Result.{err_from_is_err_and}
use Rattle.ua_subscriptions.specs.Ending.{session_ended}
use Rattle.ua_services.specs.SubServing.{stage_at}
use Rattle.ua_services.proofs.SubLemmas.{told_gives, told_halts}
use Rattle.ua_services.proofs.sub_serving.end_session.Goals as goal

pub returns : goal.returns
returns c =
    let state = c.args.services.now in
    told_gives state (session_ended c.args.number c.args.deleting (stage_at c.args.setting.now state)) c.in_ok-answered.answered c.session_end.new.self c.session_end.new.items c.served_alone.result c.in_ok-answered.ensures c.served_alone.ensures

pub returns-in_err-answered : goal.returns-in_err-answered
returns-in_err-answered c =
    let state = c.args.services.now in
    let p = err_from_is_err_and c.from_residual.result c.from_residual.ensures.1 in
    rw (p.1, p.2) (told_halts state (session_ended c.args.number c.args.deleting (stage_at c.args.setting.now state)) c.in_err-answered.field-0.0 c.session_end.new.self c.session_end.new.items c.in_err-answered.ensures)
