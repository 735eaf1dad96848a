use Rattle.std.proofs.lemmas.Result.{err_from_is_err_and}
use Rattle.ua_services.proofs.SubLemmas.{goes_on, halts_among}
use Rattle.ua_services.proofs.sub_serving.end_sessions.Goals as goal

pub returns-in_err-more : goal.returns-in_err-more
returns-in_err-more c =
    let p = err_from_is_err_and c.from_residual.result c.from_residual.ensures.1 in
    rw (p.1, p.2) (halts_among c.args.setting.now c.in_err-more.field-0.0 c.args.numbers.now c.loop-number.number-index 0 c.args.services.now c.loop-number.services c.end_session.new.services c.loop-number.served
    c.loop-number-test.true c.loop-number.invariant c.in_err-more.ensures)

pub loop-number-preserved : goal.loop-number-preserved
loop-number-preserved c =
    goes_on c.args.setting.now c.args.numbers.now c.loop-number.number-index 0 c.args.services.now c.loop-number.services c.end_session.new.services c.loop-number.served c.in_ok-more.more c.in_ok-served.served
    c.loop-number-test.true c.loop-number.invariant c.in_ok-more.ensures c.in_ok-served.ensures
