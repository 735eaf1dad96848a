use Rattle.std.proofs.Common.{ap, ◌∙◌}
use Rattle.std.proofs.lemmas.Result.{err_from_is_err_and}
use Rattle.ua_session.specs.Sessions.{all_ended}
use Rattle.ua_subscriptions.specs.Ending.{shut_down}
use Rattle.ua_services.specs.Services.{shutting_of}
use Rattle.ua_services.specs.Serving.{Given, given}
use Rattle.ua_services.specs.SessionServing.{with_sessions}
use Rattle.ua_services.specs.SubServing.{called_alone, with_subscriptions, stage_at}
use Rattle.ua_services.proofs.SubLemmas.{told_gives, shutting_halts}
use Rattle.ua_services.proofs.services.Services.shut_down.Goals as goal

pub returns : goal.returns
unfolding shutting_of called_alone
returns c =
    let state = c.args.self.now in
    let subs = c.shut_down.new.self in
    let items = c.shut_down.new.items in
    let stage = shut_down (stage_at c.args.setting.now state) in
    ap (λ sessions. given (with_sessions (with_subscriptions state subs items) sessions) c.served_alone.result) c.end_all.ensures
    ∙ ap (λ (g : Given). let ended : Given = record g { state = with_sessions g.state (all_ended state.sessions) } in ended)
    (told_gives state stage c.in_ok-answered.answered subs items c.served_alone.result c.in_ok-answered.ensures.serves c.served_alone.ensures)

pub returns-in_err-answered : goal.returns-in_err-answered
returns-in_err-answered c =
    let p = err_from_is_err_and c.from_residual.result c.from_residual.ensures.1 in
    rw (p.1, p.2) (shutting_halts c.args.setting.now c.args.self.now c.in_err-answered.field-0.0 c.shut_down.new.self c.shut_down.new.items c.in_err-answered.ensures.serves)
