use Rattle.std.proofs.lemmas.Result.{err_from_is_err_and}
use Rattle.ua_session.specs.Sessions.{create_of}
use Rattle.ua_services.specs.CreateSession.{create_session_body}
use Rattle.ua_services.proofs.SessionLemmas.{refused_as}
use Rattle.ua_services.proofs.create_session.CreateSessionService.serve.Goals as goal

pub returns-in_err-session : goal.returns-in_err-session
returns-in_err-session c =
    let state = c.args.services.now in
    let setting = c.args.setting.now in
    let caller = c.args.caller.now in
    let p = err_from_is_err_and c.from_residual.result c.from_residual.ensures.1 in
    rw (p.1, p.2) (refused_as state caller setting (create_session_body setting caller) (create_of state.sessions caller.origin.conn caller.key) c.create.new.self c.in_err-session.field-0.0 c.in_err-session.ensures)
